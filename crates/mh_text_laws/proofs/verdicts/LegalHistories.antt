-- Legal histories of both versions keep their rule step by step.
use Rattle.std.proofs.{Common.{◌≡◌, ◌⊎◌, true, List, [], ◌∷◌, refl, arith}, lemmas.Bool.and_parts}
use Rattle.mh_model.specs.{declared.config.Config.Config, declared.history.Entry.Entry}
use Rattle.mh_model.specs.declared.history.Version.TheVariants.{One}
use Rattle.mh_model.specs.{Machine.{Machine, first_machine, event_step, machine_replies}, Limits.most_entries}
use Rattle.mh_model.specs.History.{IsLegal, events_of, replies_of}
use Rattle.mh_model.specs.HistoryTexts.{is_entry, measured_events, measured_step, machine_record, IsLegalRecord}
use Rattle.mh_model.specs.declared.history.Measured.{Measured}
use Rattle.mh_text_laws.proofs.{ListLemmas.{first_same, others_same}, verdicts.EqualReplies.same_or_other}
use Rattle.mh_text_laws.proofs.verdicts.StepRules.{Follows, IsRule}

-- Version 1 --------------------------------------------------------------------------------------

-- an entry has the machine's reply to its event
abbrev pub IsAnswered : Machine → Entry → Type 0
IsAnswered machine e = e.reply ≡ (event_step machine e.event).reply

abbrev pub after_entry : Machine → Entry → Machine
after_entry machine e = (event_step machine e.event).state

pub answered_or_not : (machine : Machine) (e : Entry) → is_entry One e ≡ true → IsAnswered machine e ⊎ (IsAnswered machine e → ⊥)
answered_or_not machine e h = same_or_other One e.reply (event_step machine e.event).reply (and_parts _ _ h).1

replies-follow : (machine : Machine) (entries : List Entry) → Follows IsAnswered after_entry machine entries → replies_of entries ≡ machine_replies machine (events_of entries)
unfolding machine_replies
replies-follow machine [] h = refl
replies-follow machine (e ∷ entries) h = grind (arith, replies-follow (after_entry machine e) entries h.1)

follow-replies : (machine : Machine) (entries : List Entry) → replies_of entries ≡ machine_replies machine (events_of entries) → Follows IsAnswered after_entry machine entries
unfolding machine_replies
follow-replies machine [] h = tt
follow-replies machine (e ∷ entries) h = (first_same h, follow-replies (after_entry machine e) entries (others_same h))

pub legal_rule : (config : Config) → IsRule IsAnswered after_entry (first_machine config) (IsLegal config)
unfolding most_entries
legal_rule config = grind (arith, replies-follow, follow-replies)

-- Version 2 --------------------------------------------------------------------------------------

-- an entry has the machine's reply to its event, and the letters that it adds
abbrev pub IsRight : Machine → Measured → Type 0
IsRight machine m = m ≡ measured_step machine m.entry.event (event_step machine m.entry.event)

abbrev pub after_measured : Machine → Measured → Machine
after_measured machine m = (event_step machine m.entry.event).state

record-follows : (machine : Machine) (entries : List Measured) → Follows IsRight after_measured machine entries → entries ≡ machine_record machine (measured_events entries)
unfolding machine_record
record-follows machine [] h = refl
record-follows machine (m ∷ entries) h = grind (arith, record-follows (after_measured machine m) entries h.1)

follow-record : (machine : Machine) (entries : List Measured) → entries ≡ machine_record machine (measured_events entries) → Follows IsRight after_measured machine entries
unfolding machine_record
follow-record machine [] h = tt
follow-record machine (m ∷ entries) h = (first_same h, follow-record (after_measured machine m) entries (others_same h))

pub record_rule : (config : Config) → IsRule IsRight after_measured (first_machine config) (IsLegalRecord config)
unfolding most_entries
record_rule config = grind (arith, record-follows, follow-record)
