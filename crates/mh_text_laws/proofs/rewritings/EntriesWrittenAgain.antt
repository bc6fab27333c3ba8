-- Words that are an event, and lines that are an entry, with its units or without, are what is written of these.
use Rattle.std.proofs.Common.{◌≡◌, ◌∙◌, ℕ, nat_le, cond, Bool, true, false, Option, Some, option_map, option_and_then, List, [], ◌∷◌, ◌++◌, map, ap, sym, refl, codes, decimal, arith}
use Rattle.std.proofs.lemmas.Bool.{and_from}
use Rattle.mh_model.specs.{declared.command.Event.Event, declared.reply.Reply.Reply, declared.history.Entry.Entry}
use Rattle.mh_model.specs.{Bytes.{Text, joined, words, is_text, numbers}, Forms.{command_of, control_of}}
use Rattle.mh_model.specs.{declared.history.Version.Version, declared.history.Version.TheVariants.Two}
use Rattle.mh_model.specs.Replies.{reply_of, are_u64}
use Rattle.mh_model.specs.HistoryTexts.{event_words, is_event, event_of, session_of, entry_words, is_entry, entry_by, entry_of, measured_words, is_measured, measured_with, measured_by, measured_of, Halves, halves_at}
use Rattle.mh_model.specs.declared.history.Measured.{Measured}
use Rattle.mh_text_laws.proofs.rewritings.NumbersWrittenAgain.{mapped, chained, within_is, numbers_are}
use Rattle.mh_text_laws.proofs.rewritings.WordsWrittenAgain.{joined-words, tagged_is}
use Rattle.mh_text_laws.proofs.rewritings.FormsWrittenAgain.{IsOf, same_of, command_is, control_is}
use Rattle.mh_text_laws.proofs.rewritings.RepliesWrittenAgain.{reply_is}
use Rattle.mh_model.proofs.TextLemmas.{text_is}

-- Events -----------------------------------------------------------------------------------------

session_is : (word : Text) (who : ℕ) → session_of word ≡ Some who → (115 ∷ decimal who ≡ word) × (nat_le who 8 ≡ true)
session_is word who h = grind (arith, chained, nat_le, within_is, tagged_is)

abbrev control_event : Version → List Text → Option Event
control_event version words = option_map (λ control. Event.Control control) (control_of version words)

abbrev session_event : Text → List Text → Option Event
session_event word words = option_and_then (λ who. option_map (λ command. Event.Session who command) (command_of words)) (session_of word)

-- a control, after the word `*`
control_event_is : (version : Version) (word : Text) (words : List Text) (e : Event) → is_text word (codes "*") ≡ true
    → control_event version words ≡ Some e → IsOf event_words (is_event version) (word ∷ words) e
control_event_is version word words e is h =
    let found = mapped (λ control. Event.Control control) (control_of version words) e h in
    let known = control_is version words found.from found.is in
    let star : codes "*" ≡ word = sym (text_is word (codes "*") is) in
    grind (arith, same_of)

-- a command, after the word of its session
session_event_is : (version : Version) (word : Text) (words : List Text) (e : Event)
    → session_event word words ≡ Some e
    → IsOf event_words (is_event version) (word ∷ words) e
session_event_is version word words e h =
    let who = chained (λ who. option_map (λ command. Event.Session who command) (command_of words)) (session_of word) e h in
    let found = mapped (λ command. Event.Session who.from command) (command_of words) e who.then in
    grind (arith, session_is, command_is, same_of, and_from)

pub event_is : (version : Version) (words : List Text) (e : Event) → event_of version words ≡ Some e → IsOf event_words (is_event version) words e
event_is version [] e h = cc
event_is version (word ∷ words) e h = by (is_text word (codes "*")) refl h where
  by : (is : Bool) → is_text word (codes "*") ≡ is → cond is (control_event version words) (session_event word words) ≡ Some e
      → IsOf event_words (is_event version) (word ∷ words) e
  by true is k = control_event_is version word words e is k
  by false is k = session_event_is version word words e k

-- Entries ----------------------------------------------------------------------------------------

abbrev with_before : Text → Halves → Halves
with_before word halves = record { before = word ∷ halves.before; after = halves.after }

-- the words before and after a mark, with it, are all of them
halves_are : (mark : Text) (words : List Text) (halves : Halves) → halves_at mark words ≡ Some halves → halves.before ++ mark ∷ halves.after ≡ words
halves_are mark [] halves h = cc
halves_are mark (word ∷ words) halves h = by (is_text word mark) refl (halves_are mark words) h where
  by : (is : Bool) → is_text word mark ≡ is → ((found : Halves) → halves_at mark words ≡ Some found → found.before ++ mark ∷ found.after ≡ words)
      → cond is (Some (record { before = []; after = words })) (option_map (with_before word) (halves_at mark words)) ≡ Some halves
      → halves.before ++ mark ∷ halves.after ≡ word ∷ words
  by true is later k =
      let made : Halves = record { before = []; after = words } in
      let same : made ≡ halves = cc in
      let here : mark ≡ word = sym (text_is word mark is) in
      ap (λ (found : Halves). found.before ++ mark ∷ found.after) (sym same) ∙ ap (λ (w : Text). w ∷ words) here
  by false is later k = grind (arith, mapped)

abbrev entry : Event → Reply → Entry
entry event reply = record { event = event; reply = reply }

entry_by_is : (version : Version) (halves : Halves) (e : Entry) → entry_by version halves ≡ Some e
    → IsOf entry_words (is_entry version) (halves.before ++ codes "=" ∷ halves.after) e
entry_by_is version halves e h =
    let ev = chained (λ event. option_map (entry event) (reply_of version halves.after)) (event_of version halves.before) e h in
    let re = mapped (entry ev.from) (reply_of version halves.after) e ev.then in
    let event_known = event_is version halves.before ev.from ev.is in
    let reply_known = reply_is version halves.after re.from re.is in
    grind (arith, same_of, and_from)

entry_is : (version : Version) (words : List Text) (e : Entry) → entry_of version words ≡ Some e → IsOf entry_words (is_entry version) words e
entry_is version words e h =
    let found = chained (entry_by version) (halves_at (codes "=") words) e h in
    let known = entry_by_is version found.from e found.then in
    (known.0 ∙ halves_are (codes "=") words found.from found.is, known.1)

units_are : (e : Entry) (ns : List ℕ) (words : List Text) (m : Measured) → map decimal ns ≡ words → are_u64 ns ≡ true → is_entry Two e ≡ true → measured_with e ns ≡ Some m
    → IsOf measured_words is_measured (entry_words e ++ codes "units" ∷ words) m
units_are e ns words m is small known h = grind (arith, same_of, and_from)

measured_is : (words : List Text) (m : Measured) → measured_of words ≡ Some m → IsOf measured_words is_measured words m
measured_is words m h =
    let halves = chained measured_by (halves_at (codes "units") words) m h in
    let found = chained (λ e. option_and_then (measured_with e) (numbers halves.from.after)) (entry_of Two halves.from.before) m halves.then in
    let units = chained (measured_with found.from) (numbers halves.from.after) m found.then in
    let entry_known = entry_is Two halves.from.before found.from found.is in
    let units_known = numbers_are halves.from.after units.from units.is in
    let known = units_are found.from units.from halves.from.after m units_known.0 units_known.1 entry_known.1 units.then in
    (known.0 ∙ ap (λ (ws : List Text). ws ++ codes "units" ∷ halves.from.after) entry_known.0 ∙ halves_are (codes "units") words halves.from halves.is, known.1)

-- Lines ------------------------------------------------------------------------------------------

pub entry_line_is : (version : Version) (line : Text) (e : Entry) → entry_of version (words line) ≡ Some e → (joined (entry_words e) ≡ line) × (is_entry version e ≡ true)
entry_line_is version line e h = let found = entry_is version (words line) e h in (ap joined found.0 ∙ joined-words line, found.1)

pub measured_line_is : (line : Text) (m : Measured) → measured_of (words line) ≡ Some m → (joined (measured_words m) ≡ line) × (is_measured m ≡ true)
measured_line_is line m h = let found = measured_is (words line) m h in (ap joined found.0 ∙ joined-words line, found.1)
