-- Replies that are a machine's, but for reports of an end of its trace, keep the promise.
use Rattle.std.proofs.Common.{◌≡◌, ◌∙◌, ℕ, suc, false, Some, List, [], ◌∷◌, ◌++◌, length, slice_get, refl, sym, ap, subst}
use Rattle.std.proofs.lemmas.Option.{same_Some}
use Rattle.mh_model.specs.{declared.command.Event.Event, declared.config.Config.Config, declared.reply.Reply.Reply}
use Rattle.mh_model.specs.declared.report.Report.{Report}
use Rattle.mh_model.specs.Machine.{Machine, control_step, event_step, first_machine, machine_after, machine_replies, report_on}
use Rattle.mh_model.specs.Snapshot.{world_beside, world_beside_event}
use Rattle.mh_model.specs.{World.{Answer, World, first_world, says, world_step}, declared.command.Command.Command}
use Rattle.mh_model.specs.declared.command.Control.{Control}
use Rattle.mh_promise.specs.{Promise.{ArePromised, IsPromised}, Replays.EventsKeepTheReplay}
use Rattle.mh_promise.specs.Runs.{IsAnswered, Outcome, outcome_of}
use Rattle.mh_laws.proofs.bounds.CyclesInTime.{run-stays}
use Rattle.mh_run_laws.specs.Forgetting.{Recalls, forgotten, is_report}
use Rattle.mh_run_laws.specs.ForgettingLaws.{EventsKeepWhatIsRecalled, ForgottenTracesKeepTheirPromise}
use Rattle.mh_embed.specs.Promised.{AreRecalled, NoneYet, Reported, Same}

-- an event is answered by a report of some window
abbrev IsReported : Event → Reply → Type 0
IsReported asked given = (window : ℕ) × (report : Report) × (asked ≡ Event.Control (Control.Report window)) × (given ≡ Reply.Report report)

module _ {config : Config} where
  -- each event has one reply
  answered : (machine : Machine) (events : List Event) (replies : List Reply) → AreRecalled config machine events replies → length replies ≡ length events
  answered machine _ _ (NoneYet _) = refl
  answered machine _ _ (Same _ asked events replies are) = ap suc (answered (event_step machine asked).state events replies are)
  answered machine _ _ (Reported _ window end events replies is keeps are) = ap suc (answered (event_step machine (Event.Control (Control.Report window))).state events replies are)

  -- what is answered by no report, the machine answers so
  machines : (machine : Machine) (events : List Event) (replies : List Reply) → AreRecalled config machine events replies → (before : List Event) (asked : Event) (later : List Event) (given : Reply) → events ≡ before ++ asked ∷ later
      → slice_get replies (length before) ≡ Some given → (IsReported asked given → ⊥) → slice_get (machine_replies machine events) (length before) ≡ Some given
  unfolding machine_replies
  machines machine _ _ (NoneYet _) before asked later given split is none = cc
  machines machine _ _ (Same _ first events replies are) [] asked later given split is none = is
  machines machine _ _ (Same _ first events replies are) (one ∷ before) asked later given split is none = machines (event_step machine first).state events replies are before asked later given (cc) is none
  machines machine _ _ (Reported _ window end events replies ends keeps are) [] asked later given split is none = absurd (none (window, _, cc, sym (same_Some _ _ is)))
  machines machine _ _ (Reported _ window end events replies ends keeps are) (one ∷ before) asked later given split is none = machines (event_step machine (Event.Control (Control.Report window))).state events replies are before asked later given (cc) is none

  -- the world beside them is that beside the machine
  beside : (machine : Machine) (events : List Event) (replies : List Reply) → AreRecalled config machine events replies → (world : World) (before later : List Event) → events ≡ before ++ later → world_beside world before replies ≡ world_beside world before (machine_replies machine events)
  unfolding machine_replies
  beside machine _ _ _ world [] later split = refl
  beside machine _ _ (NoneYet _) world (one ∷ before) later split = cc
  beside machine _ _ (Same _ first events replies are) world (one ∷ before) later split = beside (event_step machine first).state events replies are (world_beside_event world one (event_step machine first).reply) before later cc
  beside machine _ _ (Reported _ window end events replies ends keeps are) world (one ∷ before) later split =
      let is_asked : one ≡ Event.Control (Control.Report window) = cc in
      rw is_asked (beside (event_step machine (Event.Control (Control.Report window))).state events replies are world before later cc)

  -- replies to more events
  recalled_more : (machine : Machine) (events : List Event) (replies : List Reply) (more : List Event) (given : List Reply) → AreRecalled config machine events replies → AreRecalled config (machine_after machine events) more given
      → AreRecalled config machine (events ++ more) (replies ++ given)
  unfolding machine_after
  recalled_more machine _ _ more given (NoneYet _) later = later
  recalled_more machine _ _ more given (Same _ asked events replies are) later = Same machine asked (events ++ more) (replies ++ given) (recalled_more (event_step machine asked).state events replies more given are later)
  recalled_more machine _ _ more given (Reported _ window end events replies ends keeps are) later =
      Reported machine window end (events ++ more) (replies ++ given) ends keeps (recalled_more (event_step machine (Event.Control (Control.Report window))).state events replies more given are later)

-- so they keep the promise, as the machine's do
pub recalled_promised : EventsKeepTheReplay → (config : Config) (events : List Event) (replies : List Reply) → AreRecalled config (first_machine config) events replies → ArePromised config events replies
recalled_promised law config events replies are = record { outcome = record whole { replies = replies }; promise = promise; replies_are = refl } where
  whole : Outcome
  whole = outcome_of (machine_after (first_machine config) events) (machine_replies (first_machine config) events)

  keeps : IsPromised config events whole
  keeps = law.promise config events whole.replies (machine_after (first_machine config) events) (record { machine_is = refl; replies_are = refl })

  as_the_machines : (before : List Event) (asked : Event) (given : Reply) → (IsReported asked given → ⊥) → IsAnswered events replies before asked given → IsAnswered events whole.replies before asked given
  as_the_machines before asked given none is = record { later = is.later; split = is.split; given = machines (first_machine config) events replies are before asked is.later given is.split is.given none }

  world_is : (before : List Event) (asked : Event) (given : Reply) → IsAnswered events replies before asked given → world_beside (first_world config) before whole.replies ≡ world_beside (first_world config) before replies
  world_is before asked given is = sym (beside (first_machine config) events replies are (first_world config) before (asked ∷ is.later) is.split)

  promise : IsPromised config events (record whole { replies = replies })
  promise = record {
    answered = answered (first_machine config) events replies are;
    replies = λ before who said given is plain.
        keeps.replies before who said given (as_the_machines before (Event.Session who said) given (λ reported. cc) is) plain
        ∙ ap (λ (world : World). (world_step world who said).reply) (world_is before (Event.Session who said) given is);
    full = record {
      new = λ before who said is. (keeps.full).new before who said (as_the_machines before _ _ (λ reported. cc) is);
      only = λ before who slot references numbers is. (keeps.full).only before who slot references numbers (as_the_machines before _ _ (λ reported. cc) is);
      alone = λ before who slot references numbers is. (keeps.full).alone before who slot references numbers (as_the_machines before _ _ (λ reported. cc) is);
      each = λ before who slot references numbers given is. (keeps.full).each before who slot references numbers given (as_the_machines before _ given (λ reported. cc) is);
      made = λ before who slot references numbers is.
          ap (λ (world : World). (world_step world who (Command.New slot references numbers)).reply) (sym (world_is before _ _ is)) ∙ (keeps.full).made before who slot references numbers (as_the_machines before _ _ (λ reported. cc) is);
    };
    refused = λ before who said why is. keeps.refused before who said why (as_the_machines before _ _ (λ reported. cc) is);
    limit = record {
      greatest = (keeps.limit).greatest;
      spent = λ before asked units phase is. (keeps.limit).spent before asked units phase (as_the_machines before asked (Reply.Spent units phase) (λ reported. cc) is);
    };
    cycles = keeps.cycles;
    forwarders = keeps.forwarders;
    moments = keeps.moments;
    ends = keeps.ends;
    left = record {
      running = λ before given is. (keeps.left).running before given (as_the_machines before (Event.Control Control.Left) given (λ reported. cc) is);
      idle = λ before given is. (keeps.left).idle before given (as_the_machines before (Event.Control Control.Left) given (λ reported. cc) is);
    };
    share = keeps.share;
  }

-- Machines that have forgotten how their trace begins --------------------------------------------

-- a machine is as that after these events, and these are the replies to them
pub record IsRecalled (config : Config) (events : List Event) (replies : List Reply) (machine : Machine) : Type 0 where
  pub recalls : Recalls (machine_after (first_machine config) events) machine
  pub replies_are : AreRecalled config (first_machine config) events replies

module _ (replays : EventsKeepTheReplay) (keep : EventsKeepWhatIsRecalled) (reports : ForgottenTracesKeepTheirPromise) (config : Config) where
  pub first_recalled : IsRecalled config [] [] (first_machine config)
  unfolding machine_after
  first_recalled = record { recalls = keep.itself (first_machine config); replies_are = NoneYet (first_machine config) }

  module _ (events : List Event) (replies : List Reply) (machine : Machine) (is : IsRecalled config events replies machine) where
    abbrev whole : Machine
    whole = machine_after (first_machine config) events

    pub forgotten_recalled : IsRecalled config events replies (forgotten machine)
    forgotten_recalled = record { recalls = keep.forgetting whole machine is.recalls; replies_are = is.replies_are }

    config_is : machine.heap.config ≡ config
    config_is = ap (λ (m : Machine). m.heap.config) (is.recalls).same ∙ (run-stays config events).config_is

    told : (window : ℕ) → (event_step machine (Event.Control (Control.Report window))).reply ≡ Reply.Report (report_on config machine.trace window)
    unfolding event_step control_step
    told window = ap (λ (c : Config). Reply.Report (report_on c machine.trace window)) config_is

    -- one event is answered so
    same : (asked : Event) → is_report asked ≡ false → AreRecalled config whole (asked ∷ []) ((event_step machine asked).reply ∷ [])
    same asked none = rw (keep.replies whole machine asked is.recalls none) (Same whole asked [] [] (NoneYet _))

    answers : (asked : Event) → AreRecalled config whole (asked ∷ []) ((event_step machine asked).reply ∷ [])
    answers (Event.Session who said) = same (Event.Session who said) refl
    answers (Event.Control (Control.Report window)) = rw (told window) (Reported whole window machine.trace [] [] (is.recalls).trace (reports config events machine window is.recalls) (NoneYet _))
    answers (Event.Control other) = same (Event.Control other) refl

    pub step_recalled : (next : Machine) (asked : Event) (given : Reply) → event_step machine asked ≡ says given next → IsRecalled config (events ++ asked ∷ []) (replies ++ given ∷ []) next
    step_recalled next asked given step =
        let after = event_step whole asked in
        let replay = replays.step config events (machine_replies (first_machine config) events) whole after.state asked after.reply (record { machine_is = refl; replies_are = refl }) refl in
        let recalls : Recalls after.state next = subst (λ (a : Answer Machine). Recalls after.state a.state) step (keep.states whole machine asked is.recalls) in
        let answered : AreRecalled config whole (asked ∷ []) (given ∷ []) = subst (λ (a : Answer Machine). AreRecalled config whole (asked ∷ []) (a.reply ∷ [])) step (answers asked) in
        record {
          recalls = subst (λ m. Recalls m next) replay.machine_is recalls;
          replies_are = recalled_more (first_machine config) events replies (asked ∷ []) (given ∷ []) is.replies_are answered;
        }
