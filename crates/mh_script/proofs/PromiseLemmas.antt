-- What a run of a script writes shows the replies of an outcome that keeps the promise.
use Rattle.std.proofs.Common.{◌≡◌, ◌∙◌, ℕ, ◌<◌, ◌≤◌, Bool, true, false, if◌then◌else◌, nat_lt, List, length, take, refl, sym, ap, subst, arith}
use Rattle.std.proofs.{lemmas.Bool.Decides.nat_tests, lemmas.List.take_all}
use Rattle.std.specs.Prelude.{Result, Ok, Err}
use Rattle.mh_model.specs.{declared.command.Event.Event, declared.config.Config.Config, declared.config.Rules.Rules}
use Rattle.mh_model.specs.{declared.reply.Reply.Reply, Bytes.Text, Configs.with_rules, Limits.most_entries}
use Rattle.mh_model.specs.{Machine.{first_machine, machine_replies}, Output.{Ending, ending, ending_of}}
use Rattle.mh_model.specs.{RunHistories.under_rules, Script.{BadLine, Meaning, Means, Reading, reading, reading_map}}
use Rattle.mh_promise.specs.Promise.{RepliesArePromised}
use Rattle.mh_script.specs.{declared.end.End.End, declared.end.End.TheVariants.{Done, Refused}}
use Rattle.mh_script.specs.{declared.fault.ScriptFault.ScriptFault, declared.fault.ScriptFault.TheVariants.HistoryFull}
use Rattle.mh_script.specs.Promised.{IsPromisedOutput, IsPromisedText, KeepsPromise}
use Rattle.mh_script.specs.Run.{IsTranscript, MayEndSo, transcript, transcript_of}
use Rattle.mh_model.specs.Output as model

-- a text of which a run ends otherwise than refused is a script
pub means_some : (text : Text) (ended : Ending) → ((line : ℕ) → ended ≡ model.Refused line → ⊥) → ending text ≡ ended → (script : Meaning) × (reading text ≡ Means script) × (ending_of (Means script) ≡ ended)
unfolding ending
means_some text ended other is = go (reading text) refl is
  where
    go : (r : Reading Meaning) → reading text ≡ r → ending_of r ≡ ended → (script : Meaning) × (reading text ≡ Means script) × (ending_of (Means script) ≡ ended)
    go (BadLine line) reads ends = absurd (other line (sym ends))
    go (Means script) reads ends = (script, reads, ends)

-- it has no more events than a history, or more
few : (script : Meaning) → ending_of (Means script) ≡ model.Done → length script.events ≤ most_entries
few script = go (nat_lt most_entries (length script.events)) refl where
  go : (b : Bool) → nat_lt most_entries (length script.events) ≡ b → (if b then model.HistoryFull else model.Done) ≡ model.Done → length script.events ≤ most_entries
  go true test ends = absurd cc
  go false test ends = grind (arith, nat_tests)

many : (script : Meaning) → ending_of (Means script) ≡ model.HistoryFull → most_entries < length script.events
many script = go (nat_lt most_entries (length script.events)) refl where
  go : (b : Bool) → nat_lt most_entries (length script.events) ≡ b → (if b then model.HistoryFull else model.Done) ≡ model.HistoryFull → most_entries < length script.events
  go true test ends = grind (arith, nat_tests)
  go false test ends = absurd cc

-- what is written of a script's text and its events, which shows their replies
module _ (law : RepliesArePromised) (text_of : Text → Config → List Event → Text) (Shows : Config → List Event → List Reply → Text → Type 0)
    (shown : (script : Text) (config : Config) (events : List Event) → Shows config events (machine_replies (first_machine config) events) (text_of script config events)) (rules : Rules) where
  -- the text of a script under these rules
  text_is : (text : Text) (r : Reading Meaning) (script : Meaning) → reading_map (under_rules rules) r ≡ Means script → transcript_of (text_of text) rules r ≡ text_of text script.config (take most_entries script.events)
  text_is text (BadLine line) script is = absurd cc
  text_is text (Means own) script is = let same : under_rules rules own ≡ script = cc in ap (λ (m : Meaning). text_of text m.config (take most_entries m.events)) same

  promised : (text : Text) (config : Config) (events : List Event) (out : Text) → out ≡ text_of text config events → IsPromisedText Shows config events out
  promised text config events out is =
      let replies = machine_replies (first_machine config) events in
      record { replies = replies; promised = law config events replies refl; shows = subst (Shows config events replies) (sym is) (shown text config events) }

  keeps_promise : (text : Text) (ended : Result End ScriptFault) (out : Text) → out ≡ transcript text_of rules text → MayEndSo text ended → KeepsPromise Shows rules text ended out
  keeps_promise text (Ok Done) out is ends =
      let (script, reads, done) = means_some text model.Done (λ line other. cc) ends in
      let means = ap (reading_map (under_rules rules)) reads in
      let config = with_rules rules script.config in
      (under_rules rules script, means, promised text config script.events out (is ∙ (text_is text (reading text) (under_rules rules script) means ∙ ap (text_of text config) (take_all most_entries script.events (few script done)))))
  keeps_promise text (Ok (Refused refusal)) out is ends = tt
  keeps_promise text (Err HistoryFull) out is ends =
      let (script, reads, full) = means_some text model.HistoryFull (λ line other. cc) ends in
      let means = ap (reading_map (under_rules rules)) reads in
      (under_rules rules script, means, (many script full, promised text (with_rules rules script.config) (take most_entries script.events) out (is ∙ text_is text (reading text) (under_rules rules script) means)))
  keeps_promise text (Err fault) out is ends = λ script means. promised text script.config (take most_entries script.events) out (is ∙ text_is text (reading text) script means)

  -- so what is written keeps the promise, by this or another function that writes the same
  pub promised-output : (Leaves : Config → List Event → Type 0) (written : Text → Text) → ((text : Text) → transcript text_of rules text ≡ written text) → (text : Text) (ended : Result End ScriptFault) (out : Text)
      → IsTranscript text_of rules Leaves text ended out → IsPromisedOutput Shows rules written text ended out
  promised-output Leaves written same text ended out is =
      let (out_is, ends) = is.output in
      record { output = (out_is ∙ same text, ends); promise = keeps_promise text ended out out_is ends }
