-- The history that a run writes is read back, and is legal.
use Rattle.std.proofs.Common.{◌≡◌, ◌∙◌, ◌+◌, ◌≤◌, true, List, [], ◌∷◌, ◌++◌, length, length-append, map, take, ap, refl, sym, arith}
use Rattle.std.proofs.{lemmas.Bool.{and_from, and_parts}, lemmas.List.length-take}
use Rattle.std.specs.List.{list_all}
use Rattle.mh_model.specs.{declared.command.Event.Event, declared.config.Config.Config}
use Rattle.mh_model.specs.{declared.history.Version.TheVariants.Two, declared.reply.Reply.Reply}
use Rattle.mh_model.specs.HistoryTexts.{IsLegalRecord, is_event, is_measured, machine_record, recorded_text}
use Rattle.mh_model.specs.Limits.{most_entries}
use Rattle.mh_model.specs.Machine.{Machine, event_step, first_machine, machine_after, machine_replies}
use Rattle.mh_model.specs.RunHistories.{history_output, history_output_of, recorded_run, under_rules}
use Rattle.mh_model.specs.Script.{Meaning, reading}
use Rattle.mh_text_laws.specs.RunHistories.{IsRunHistory, RunHistoriesAreLegal}
use Rattle.mh_text_laws.proofs.ListLemmas.{all-append, all-take}
use Rattle.mh_text_laws.proofs.migration.MigratedRecords.{record_events, record_length}
use Rattle.mh_text_laws.proofs.round_trips.HistoryRoundTrips.{recorded_reading-text}
use Rattle.mh_text_laws.proofs.run_histories.Replies.{measured-in_range, step-after}
use Rattle.mh_text_laws.proofs.run_histories.Scripts.{map_means, script_known}

module _ (config : Config) where
  -- the record of a run that goes on after some events
  record_from : (more before : List Event) → list_all (is_event Two) before ≡ true → list_all (is_event Two) more ≡ true → length before + length more ≤ 1000000
      → list_all is_measured (machine_record (machine_after (first_machine config) before) more) ≡ true
  unfolding machine_record
  record_from [] before known more few = refl
  record_from (e ∷ events) before known more few =
      let here = (and_parts _ _ more).0 in
      let longer : list_all (is_event Two) (before ++ e ∷ []) ≡ true = all-append (is_event Two) before (e ∷ []) known (and_from _ _ here refl) in
      let later = record_from events (before ++ e ∷ []) longer (and_parts _ _ more).1 (omega (arith, few, length-append before (e ∷ []))) in
      grind (arith, and_from, measured-in_range, step-after)

  record_in_range : (events : List Event) → list_all (is_event Two) events ≡ true → length events ≤ 1000000 → list_all is_measured (machine_record (first_machine config) events) ≡ true
  unfolding machine_after
  record_in_range events known few = record_from events [] refl known (omega (arith, few))

pub record_replies : (machine : Machine) (events : List Event) → map (λ measured. measured.entry.reply) (machine_record machine events) ≡ machine_replies machine events
unfolding machine_record machine_replies
record_replies machine [] = refl
record_replies machine (e ∷ events) = ap (λ (replies : List Reply). (event_step machine e).reply ∷ replies) (record_replies (event_step machine e).state events)

record_legal : (config : Config) (events : List Event) → length events ≤ 1000000 → IsLegalRecord config (machine_record (first_machine config) events)
unfolding most_entries
record_legal config events few = grind (arith, record_length, record_events)

run_history_is : (config : Config) (events : List Event) → list_all (is_event Two) events ≡ true → length events ≤ 1000000 → length (recorded_text (recorded_run config events)) ≤ 2147483648
    → IsRunHistory config events (recorded_text (recorded_run config events))
run_history_is config events known few short = search (arith, recorded_reading-text, record_in_range, record_legal, record_length, record_replies)

taken-few : (events : List Event) → length (take most_entries events) ≤ 1000000
unfolding most_entries
taken-few events = omega (arith, length-take 1000000 events)

-- So it is of each script
pub histories_legal : RunHistoriesAreLegal
unfolding history_output
histories_legal rules text script means short =
    let (raw, is, under) = map_means (under_rules rules) (reading text) script means in
    let known = all-take (is_event Two) most_entries script.events (ap (λ (s : Meaning). list_all (is_event Two) s.events) (sym under) ∙ (script_known text raw is).events) in
    let events : List Event = take most_entries script.events in
    let same : history_output rules text ≡ recorded_text (recorded_run script.config events) = ap history_output_of means in
    search (arith, run_history_is, taken-few)
