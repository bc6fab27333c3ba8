-- Calls on the machine of a configuration keep the promise.
use Rattle.std.proofs.Common.{◌≡◌, ◌∙◌, ℕ, Bool, List, [], ◌∷◌, ◌++◌, length, refl, sym, ap, subst, arith}
use Rattle.std.proofs.lemmas.List.{append-nil, length-append}
use Rattle.mh_model.specs.{declared.command.Event.Event, declared.config.Config.Config, declared.reply.Reply.Reply}
use Rattle.mh_model.specs.{Bytes.Text, Script.Line}
use Rattle.mh_promise.specs.Replays.{EventsKeepTheReplay}
use Rattle.mh_run_laws.specs.ForgettingLaws.{EventsKeepWhatIsRecalled, ForgottenTracesKeepTheirPromise}
use Rattle.mh_embed.specs.{declared.numbers.EventNumbers.EventNumbers, declared.numbers.ReplyNumbers.ReplyNumbers}
use Rattle.mh_embed.specs.{declared.driver.Driver.TheVariants.Collects, declared.status.Status.Status}
use Rattle.mh_embed.specs.{Drivers.{Collected, first_collected}, Driving.{Driven, Takes, first_driven}}
use Rattle.mh_embed.specs.Endings.{AnswerEnds, EventEnds, ForgetEnds, JudgeEnds, LineEnds, ReserveEnds, StepEnds, TellEnds}
use Rattle.mh_embed.specs.Laws.{CallsKeepThePromise, EndsAreCalls}
use Rattle.mh_embed.specs.Promised.{AreCalls, Called, Does, Forgets, IsCall, IsOneCall, Leaves, Opened, Reserves, Tells}
use Rattle.mh_embed.proofs.RecalledLemmas.{IsRecalled, first_recalled, forgotten_recalled, recalled_promised, step_recalled}
use Rattle.mh_embed.proofs.ReservedLemmas.{DoneOn, done_on, same_machine}
use Rattle.mh_embed.specs.Endings as ends

-- Calls ------------------------------------------------------------------------------------------

left : {old new : Driven} → new ≡ old → IsOneCall old new
left same = ([], [], Leaves same)

event_call : {old new : Driven} {event : Event} {seen : List Text} {ended : Status} → EventEnds old event seen new ended → IsOneCall old new
event_call (ends.Done given takes reply names) = (_, _, Does _ given takes reply)
event_call (ends.Undone ended undone same) = left same

line_call : {old new : Driven} {line : Line} {ended : Status} → LineEnds old line new ended → IsOneCall old new
line_call (ends.Blank is same) = left same
line_call (ends.Wrong is same) = left same
line_call (ends.Has event ended of_line is) = event_call is

pub are_calls : EndsAreCalls
are_calls = record {
  answer = answer_call;
  step = step_call;
  judge = judge_call;
  tell = λ old new tells ended is. ([], [], Tells tells ended is);
  reserve = λ old new events ended is. ([], [], Reserves events ended is);
  forget = λ old new ended is. ([], [], Forgets ended is);
} where
  answer_call : (old new : Driven) (line : Line) (out out' : Text) (written : ℕ) (ended : Status) → AnswerEnds old line new out out' written ended → IsOneCall old new
  answer_call old new line out out' written _ (ends.Answered ended is text) = line_call is
  answer_call old new line out out' written _ (ends.Undone ended other is kept none) = line_call is

  step_call : (old new : Driven) (asked : EventNumbers) (shown shown' : ReplyNumbers) (ended : Status) → StepEnds old asked new shown shown' ended → IsOneCall old new
  step_call old new asked shown shown' _ (ends.NoEvent none same kept) = left same
  step_call old new asked shown shown' _ (ends.Stepped event ended says is shows) = event_call is
  step_call old new asked shown shown' _ (ends.NotStepped event ended says other is kept) = event_call is

  judge_call : (old new : Driven) (asked : EventNumbers) (given right right' : ReplyNumbers) (ended : Status) → JudgeEnds old asked given new right right' ended → IsOneCall old new
  judge_call old new asked given right right' _ (ends.NoEvent none same kept) = left same
  judge_call old new asked given right right' _ (ends.Passed event says passes same shown) = left same
  judge_call old new asked given right right' _ (ends.Right event answer says judged is reply shown same) = event_call is
  judge_call old new asked given right right' _ (ends.Differs event answer says judged is reply differs shown) = event_call is
  judge_call old new asked given right right' _ (ends.NotJudged event ended says other is kept) = event_call is

-- The promise ------------------------------------------------------------------------------------

-- what is driven is a machine that has done these events, and given these replies
record IsSoFar (config : Config) (events : List Event) (replies : List Reply) (driven : Driven) : Type 0 where
  collected : Collected
  drives : driven.driver ≡ Collects collected
  done : collected.machine.done ≡ length events
  recalled : IsRecalled config events replies collected.machine.machine

module _ (replays : EventsKeepTheReplay) (keep : EventsKeepWhatIsRecalled) (reports : ForgottenTracesKeepTheirPromise) (config : Config) where
  module _ (events : List Event) (replies : List Reply) (old new : Driven) (so_far : IsSoFar config events replies old) where
    taken : (event : Event) (given : Reply) → Takes old.driver event given new.driver → IsSoFar config (events ++ event ∷ []) (replies ++ given ∷ []) new
    taken event given takes =
        let done : DoneOn so_far.collected event given new.driver = done_on so_far.collected old.driver new.driver event given so_far.drives takes in
        record {
          collected = done.now;
          drives = done.is;
          done = omega (arith, (done.does).done, so_far.done, length-append events (event ∷ []));
          recalled = step_recalled replays keep reports config events replies so_far.collected.machine.machine so_far.recalled done.now.machine.machine event given (done.does).step;
        }

    -- calls that do no event
    kept : new ≡ old → IsSoFar config events replies new
    kept same = subst (IsSoFar config events replies) (sym same) so_far

    moved : (was now : Collected) → old.driver ≡ Collects was → new ≡ record old { driver = Collects now } → now.machine.done ≡ was.machine.done → (IsRecalled config events replies was.machine.machine → IsRecalled config events replies now.machine.machine) → IsSoFar config events replies new
    moved was now is same done recalls =
        let from : so_far.collected ≡ was = same_machine so_far.collected was (sym so_far.drives ∙ is) in
        record {
          collected = now;
          drives = ap (λ (d : Driven). d.driver) same;
          done = done ∙ ap (λ (c : Collected). c.machine.done) (sym from) ∙ so_far.done;
          recalled = recalls (subst (λ (c : Collected). IsRecalled config events replies c.machine.machine) from so_far.recalled);
        }

    told : (tells : Bool) (ended : Status) → TellEnds old tells new ended → IsSoFar config events replies new
    told tells _ (ends.Told was is same) = moved was (record was { tells = tells }) is same refl (λ before. before)
    told tells _ (ends.NotTold world same) = kept same

    reserved : (room : ℕ) (ended : Status) → ReserveEnds old room new ended → IsSoFar config events replies new
    reserved room _ (ends.Reserved was now is same reserving) = moved was now is same (reserving.reserves).done (λ before. subst (IsRecalled config events replies) (sym (reserving.reserves).machine) before)
    reserved room _ (ends.NoRoom was is same) = kept same
    reserved room _ (ends.NotReserved world same) = kept same

    forgot : (ended : Status) → ForgetEnds old new ended → IsSoFar config events replies new
    forgot _ (ends.Forgotten was now is same forgetting) =
        moved was now is same (forgetting.forgets).done (λ before. subst (IsRecalled config events replies) (sym (forgetting.forgets).machine) (forgotten_recalled replays keep reports config events replies was.machine.machine before))
    forgot _ (ends.NotForgotten world same) = kept same

    no_more : IsSoFar config events replies new → IsSoFar config (events ++ []) (replies ++ []) new
    no_more is = rw (append-nil events, append-nil replies) is

    called : (more : List Event) (given : List Reply) → IsCall old new more given → IsSoFar config (events ++ more) (replies ++ given) new
    called _ _ (Does event given takes last) = taken event given takes
    called _ _ (Tells tells ended is) = no_more (told tells ended is)
    called _ _ (Reserves room ended is) = no_more (reserved room ended is)
    called _ _ (Forgets ended is) = no_more (forgot ended is)
    called _ _ (Leaves same) = no_more (kept same)

  so_far : (events : List Event) (replies : List Reply) (driven : Driven) → AreCalls (first_driven config) events replies driven → IsSoFar config events replies driven
  so_far _ _ _ Opened = record { collected = first_collected config; drives = refl; done = refl; recalled = first_recalled replays keep reports config }
  so_far _ _ _ (Called events replies more given old new calls is) = called events replies old new (so_far events replies old calls) more given is

pub keep_the_promise : EventsKeepTheReplay → EventsKeepWhatIsRecalled → ForgottenTracesKeepTheirPromise → CallsKeepThePromise
keep_the_promise replays keep reports config events replies driven calls =
    let is : IsSoFar config events replies driven = so_far replays keep reports config events replies driven calls in
    record {
      collected = is.collected;
      drives = is.drives;
      done = is.done;
      recalls = (is.recalled).recalls;
      heap = ap (λ m. m.heap) ((is.recalled).recalls).same;
      recalled = (is.recalled).replies_are;
      promise = recalled_promised replays config events replies (is.recalled).replies_are;
    }
