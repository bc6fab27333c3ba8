-- Runs that are written as histories, line by line, and that these are legal.
use Rattle.std.proofs.Common.{◌≡◌, ◌∙◌, ℕ, List, [], ◌∷◌, ◌++◌, map, flat_map, refl, ap, append-nil}
use Rattle.std.proofs.lemmas.List.{map-id}
use Rattle.std.specs.Prelude.{Result, Ok, Err}
use Rattle.mh_model.specs.{declared.command.Event.Event, declared.config.Config.Config, declared.config.Rules.Rules}
use Rattle.mh_model.specs.{Bytes.{Text, line_text}, HistoryTexts.{machine_record, measured_line}}
use Rattle.mh_model.specs.{Machine.{Machine, event_step, first_machine, machine_replies}, Output.{Ending, ending}}
use Rattle.mh_model.specs.RunHistories.{history_output, history_output_of, under_rules}
use Rattle.mh_model.specs.Script.{BadLine, Meaning, Means, Reading, reading, reading_map}
use Rattle.mh_text_laws.specs.RunHistories.{RunHistoriesAreLegal}
use Rattle.mh_text_laws.proofs.{migration.MigratedRecords.record_events, run_histories.Records.record_replies}
use Rattle.mh_script.specs.{declared.end.End.End, declared.end.End.TheVariants.{Done, Refused}}
use Rattle.mh_script.specs.{declared.fault.ScriptFault.ScriptFault, declared.fault.ScriptFault.TheVariants.HistoryFull}
use Rattle.mh_script.specs.Histories.{AreRecorded, IsLegalEnd, IsLegalHistory, header, history_run, record_line, record_told}
use Rattle.mh_script.specs.{Lines.{lines_from, text_by_lines}, Run.{IsOutput, transcript, transcript_of}}
use Rattle.mh_script.proofs.PromiseLemmas.{means_some}
use Rattle.mh_model.specs.Output as model

-- Lines ------------------------------------------------------------------------------------------

module _ {X : Type 0} (event_of : X → Event) where
  record_lines : (machine : Machine) (xs : List X) → lines_from (record_told event_of) machine xs ≡ flat_map line_text (map measured_line (machine_record machine (map event_of xs)))
  unfolding machine_record
  record_lines machine [] = refl
  record_lines machine (x ∷ xs) = ap (λ (text : Text). record_line machine (event_of x) ++ text) (record_lines (event_step machine (event_of x)).state xs)

  -- the lines of elements under the first one are the record of their events
  pub record_by_lines : (config : Config) (xs : List X) → text_by_lines (record_told event_of) (header config) (first_machine config) xs ≡ history_run config (map event_of xs)
  record_by_lines config xs = append-nil _ ∙ ap (λ (text : Text). header config ++ text) (record_lines (first_machine config) xs)

pub history_by_lines : (config : Config) (events : List Event) → text_by_lines (record_told (λ event. event)) (header config) (first_machine config) events ≡ history_run config events
history_by_lines config events = record_by_lines (λ event. event) config events ∙ ap (history_run config) (map-id events)

-- Texts ------------------------------------------------------------------------------------------

histories_reading : (rules : Rules) (r : Reading Meaning) → transcript_of history_run rules r ≡ history_output_of (reading_map (under_rules rules) r)
histories_reading rules (BadLine line) = refl
histories_reading rules (Means script) = refl

-- the transcript that is a history is the history of the run
pub histories_are : (rules : Rules) (text : Text) → transcript (λ _. history_run) rules text ≡ history_output rules text
unfolding history_output
histories_are rules text = histories_reading rules (reading text)

-- it shows its replies
pub recorded_shown : (config : Config) (events : List Event) → AreRecorded config events (machine_replies (first_machine config) events) (history_run config events)
recorded_shown config events = (machine_record (first_machine config) events, record_events (first_machine config) events, record_replies (first_machine config) events, refl)

-- and it is legal
module _ (law : RunHistoriesAreLegal) (rules : Rules) (text out : Text) (is : out ≡ history_output rules text) where
  legal : (ended : Ending) → ((line : ℕ) → ended ≡ model.Refused line → ⊥) → ending text ≡ ended → IsLegalHistory rules text out
  legal ended other ends =
      let (script, reads, _) = means_some text ended other ends in
      let means = ap (reading_map (under_rules rules)) reads in
      (under_rules rules script, means, rw is (law rules text (under_rules rules script) means))

pub legal_end : RunHistoriesAreLegal → (rules : Rules) (text : Text) (ended : Result End ScriptFault) (out : Text) → IsOutput (history_output rules) text ended out → IsLegalEnd rules text ended out
legal_end law rules text (Ok Done) out (is, ends) = legal law rules text out is model.Done (λ line other. cc) ends
legal_end law rules text (Ok (Refused refusal)) out h = tt
legal_end law rules text (Err HistoryFull) out (is, ends) = legal law rules text out is model.HistoryFull (λ line other. cc) ends
legal_end law rules text (Err fault) out h = tt
