-- A line that is read as an entry is no comment, and its words are sound.
use Rattle.std.proofs.Common.{◌≡◌, ◌≢◌, true, Option, Some, None, List, [], ◌∷◌, ◌++◌, get_or, append_assoc, refl, sym, ap, ◌∙◌, codes, decimal, arith}
use Rattle.mh_model.specs.{declared.command.Event.Event, declared.history.Entry.Entry}
use Rattle.mh_model.specs.{declared.history.Measured.Measured, declared.history.Version.Version}
use Rattle.mh_model.specs.{declared.history.Version.TheVariants.{One, Two}, Bytes.{Text, words, joined}}
use Rattle.mh_model.specs.{Forms.{phrase_words, command_phrase, control_phrase}, Replies.reply_words}
use Rattle.mh_model.specs.HistoryTexts.{event_words, measured_words, entry_of, measured_of}
use Rattle.mh_text_laws.proofs.round_trips.WordRoundTrips.{are_words, words-joined}
use Rattle.mh_text_laws.proofs.round_trips.EntryRoundTrips.{entry_are_words, measured_are_words}
use Rattle.mh_text_laws.proofs.rewritings.EntriesWrittenAgain.{entry_line_is, measured_line_is}
use Rattle.mh_reasons.specs.HistoryReasons.{IsEntryWrong}
use Rattle.mh_reasons.proofs.{SoundWords.are_sound, SoundEntries.{is_printable, entry_sound, measured_sound}}

-- no byte of a line is out of place, and it doesn't begin as a comment
pub record IsSoundLine (line : Text) : Type 0 where
  pub sound : are_sound is_printable (words line) ≡ true
  pub uncommented : get_or line 0 0 ≢ 35

split_sound : (line word : Text) (more : List Text) → are_words (word ∷ more) ≡ true → are_sound is_printable (word ∷ more) ≡ true → joined (word ∷ more) ≡ line → are_sound is_printable (words line) ≡ true
split_sound line word more are sound is = grind (arith, are_sound, is_printable, words-joined)

-- an event begins with `s` or with `*`
begins : (e : Event) (more : List Text) → get_or (joined (event_words e ++ more)) 0 0 ≢ 35
begins e more = grind arith

event_line : (line : Text) (e : Event) (more : List Text) → are_words (event_words e ++ more) ≡ true → are_sound is_printable (event_words e ++ more) ≡ true → joined (event_words e ++ more) ≡ line → are_sound is_printable (words line) ≡ true
event_line line (Event.Session who c) more are sound is = search (arith, split_sound)
event_line line (Event.Control c) more are sound is = split_sound line (codes "*") (phrase_words (control_phrase c) ++ more) are sound is

-- a line of these words
sound_line : (line : Text) (e : Event) (more : List Text) → are_words (event_words e ++ more) ≡ true → are_sound is_printable (event_words e ++ more) ≡ true → joined (event_words e ++ more) ≡ line → IsSoundLine line
sound_line line e more are sound is = grind (arith, event_line, begins)

entry_line : (version : Version) (line : Text) (e : Entry) → entry_of version (words line) ≡ Some e → IsSoundLine line
entry_line version line e h =
    let found = entry_line_is version line e h in
    sound_line line e.event (codes "=" ∷ reply_words e.reply) (entry_are_words version e found.1) (entry_sound version e found.1) found.0

measured_line : (line : Text) (m : Measured) → measured_of (words line) ≡ Some m → IsSoundLine line
measured_line line m h =
    let found = measured_line_is line m h in
    let units : List Text = codes "units" ∷ decimal m.mutator ∷ decimal m.collector ∷ [] in
    let same : measured_words m ≡ event_words m.entry.event ++ ((codes "=" ∷ reply_words m.entry.reply) ++ units) = append_assoc (event_words m.entry.event) (codes "=" ∷ reply_words m.entry.reply) units in
    sound_line line m.entry.event ((codes "=" ∷ reply_words m.entry.reply) ++ units) (sym (ap are_words same) ∙ measured_are_words m found.1)
    (sym (ap (are_sound is_printable) same) ∙ measured_sound m found.1) (sym (ap joined same) ∙ found.0)

none_by : {X : Type 0} (read : Option X) → ((x : X) → read ≡ Some x → ⊥) → read ≡ None
none_by read other = grind arith

-- another line is no entry
pub no_entry_line : (version : Version) (line : Text) → (IsSoundLine line → ⊥) → IsEntryWrong version line
no_entry_line version line other = search (arith, none_by, entry_line, measured_line)
