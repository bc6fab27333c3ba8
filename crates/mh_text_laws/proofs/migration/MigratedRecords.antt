-- The record of a legal history of version 1 is a legal history of version 2 with the same entries.
use Rattle.std.proofs.Common.{◌≡◌, ◌∙◌, ℕ, suc, ◌≤◌, true, List, [], ◌∷◌, length, map, ap, refl, subst, arith}
use Rattle.std.proofs.{lemmas.Bool.{and_parts, and_from, lt-ltb}, lemmas.List.length-map}
use Rattle.std.specs.List.{list_all}
use Rattle.mh_model.specs.{declared.config.Config.Config, declared.config.Rules.TheVariants.First}
use Rattle.mh_model.specs.{declared.command.Event.Event, declared.reply.Reply.Reply, declared.history.Entry.Entry}
use Rattle.mh_model.specs.{Limits.most_entries, Bytes.Text, declared.history.Version.TheVariants.{One, Two}}
use Rattle.mh_model.specs.{Replies.{is_reply, are_u64}, Script.{Reading, Means}}
use Rattle.mh_model.specs.Machine.{Machine, first_machine, event_step, machine_replies}
use Rattle.mh_model.specs.History.{IsLegal, events_of, replies_of}
use Rattle.mh_model.specs.HistoryTexts.{IsMigratedTo, is_event, is_entry, is_measured, measured_step, machine_record, history_text, history_reading, migrated, migration_text, IsChecked, IsAudited, measured_events}
use Rattle.mh_model.specs.declared.history.Verdict.TheVariants.{Legal}
use Rattle.mh_text_laws.specs.Migration.{IsMigrated}
use Rattle.mh_text_laws.proofs.{ListLemmas.{first_same, others_same}, round_trips.HeaderRoundTrips.config_limits}
use Rattle.mh_text_laws.proofs.round_trips.HistoryRoundTrips.{recorded_reading-text}
use Rattle.mh_text_laws.proofs.{rewritings.HistoriesWrittenAgain.history_reading_is, verdicts.OneVerdict.checked-once}
use Rattle.mh_text_laws.proofs.{verdicts.SomeVerdict.texts_checked, migration.LettersAdded.event_adds}
use Rattle.mh_text_laws.proofs.migration.RecordLength.{recorded_length}

-- Entries ----------------------------------------------------------------------------------------

-- what version 1 knows, version 2 knows
event_two : (e : Event) → is_event One e ≡ true → is_event Two e ≡ true
event_two e h = grind (arith, and_parts)

reply_two : (r : Reply) → is_reply One r ≡ true → is_reply Two r ≡ true
reply_two other h = grind arith

entry_two : (e : Entry) → is_entry One e ≡ true → is_entry Two e ≡ true
entry_two e h = and_from _ _ (event_two e.event (and_parts _ _ h).0) (reply_two e.reply (and_parts _ _ h).1)

-- the letters of one event are few
units_small : (machine : Machine) (e : Event) → machine.heap.config.rules ≡ First
    → are_u64 ((measured_step machine e (event_step machine e)).mutator ∷ (measured_step machine e (event_step machine e)).collector ∷ []) ≡ true
units_small machine e first = grind (arith, event_adds, config_limits, and_from, lt-ltb)

-- Records ----------------------------------------------------------------------------------------

record_entries : (machine : Machine) (entries : List Entry) → replies_of entries ≡ machine_replies machine (events_of entries)
    → map (λ measured. measured.entry) (machine_record machine (events_of entries)) ≡ entries
unfolding machine_replies machine_record
record_entries machine [] h = refl
record_entries machine (e ∷ entries) h = grind (arith, first_same, others_same, record_entries (event_step machine e.event).state entries (others_same h))

record_measured : (machine : Machine) (entries : List Entry) → machine.heap.config.rules ≡ First → list_all (is_entry One) entries ≡ true
    → replies_of entries ≡ machine_replies machine (events_of entries) → list_all is_measured (machine_record machine (events_of entries)) ≡ true
unfolding machine_replies machine_record
record_measured machine [] first h same = refl
record_measured machine (e ∷ entries) first h same =
    let here : e.reply ≡ (event_step machine e.event).reply = first_same same in
    let known : is_entry Two e ≡ true = entry_two e (and_parts _ _ h).0 in
    let answered : is_entry Two (record { event = e.event; reply = (event_step machine e.event).reply }) ≡ true = rw (← here) known in
    let next : (event_step machine e.event).state.heap.config.rules ≡ First = ap (λ (config : Config). config.rules) (event_adds machine e.event first).config ∙ first in
    let later = record_measured (event_step machine e.event).state entries next (and_parts _ _ h).1 (others_same same) in
    and_from _ _ (and_from _ _ answered (units_small machine e.event first)) later

pub record_events : (machine : Machine) (events : List Event) → measured_events (machine_record machine events) ≡ events
unfolding machine_record
record_events machine [] = refl
record_events machine (e ∷ events) = ap (λ (found : List Event). e ∷ found) (record_events (event_step machine e).state events)

pub record_length : (machine : Machine) (events : List Event) → length (machine_record machine events) ≡ length events
unfolding machine_record
record_length machine [] = refl
record_length machine (e ∷ events) = ap suc (record_length (event_step machine e).state events)

-- Texts ------------------------------------------------------------------------------------------

pub migration_keeps : (config : Config) (text : Text) (entries : List Entry) → config.rules ≡ First → history_reading text ≡ Means entries → IsLegal config entries
    → IsMigrated config entries
unfolding most_entries
migration_keeps config text entries first read legal =
    let known = history_reading_is text entries read in
    let few : length (history_text entries) ≤ 1073741824 = subst (λ (t : Text). length t ≤ 1073741824) known.same known.short in
    let count : length (migrated config entries).entries ≡ length entries = record_length (first_machine config) (events_of entries) ∙ length-map entries (λ entry. entry.event) in
    let same : map (λ measured. measured.entry) (migrated config entries).entries ≡ entries = record_entries (first_machine config) entries legal.replies in
    let in_range = record_measured (first_machine config) entries first known.passed legal.replies in
    let size = recorded_length (migrated config entries) in_range (omega (arith, count, legal.few)) (rw same few) in
    search (arith, recorded_reading-text, record_events)

migrated_by : (config : Config) (text : Text) (count : ℕ) (found : Reading (List Entry)) → history_reading text ≡ found → config.rules ≡ First → IsChecked config text (Legal count)
    → IsAudited (migration_text config (Legal count) found) (Legal count)
migrated_by config text count found is first h = grind (arith, migration_keeps)

pub migrated_legal : (config : Config) (text written : Text) (count : ℕ) → config.rules ≡ First → IsMigratedTo config text written → IsChecked config text (Legal count)
    → IsAudited written (Legal count)
migrated_legal config text written count first made h = grind (arith, checked-once, migrated_by)

pub texts_migrated : (config : Config) (text : Text) → (written : Text) × IsMigratedTo config text written
texts_migrated config text =
    let found = texts_checked config text in
    (migration_text config found.0 (history_reading text), (found.0, found.1, refl))
