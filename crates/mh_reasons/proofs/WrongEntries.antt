-- What reasons say of a line after the first makes it no entry.
use Rattle.std.proofs.Common.{◌≡◌, ◌≢◌, ℕ, nat_lt, ◌&&◌, ◌||◌, Bool, true, false, Option, Some, None, IsSome, option_map, option_and_then, List, [], ◌∷◌, length, inl, inr, ◌⊎◌, refl, sym, ap, ◌∙◌, arith}
use Rattle.std.proofs.lemmas.Bool.{false≢true}
use Rattle.std.specs.Prelude.{if◌then◌else◌}
use Rattle.mh_model.specs.{declared.command.Command.Command, declared.command.Event.Event, declared.reply.Reply.Reply}
use Rattle.mh_model.specs.{declared.history.Entry.Entry, declared.history.Measured.Measured}
use Rattle.mh_model.specs.{declared.history.Version.Version, declared.history.Version.TheVariants.Two}
use Rattle.mh_model.specs.{Bytes.{Text, words, number, numbers}, Forms.u64}
use Rattle.mh_model.specs.HistoryTexts.{Halves, event_of, entry_by, entry_of, measured_with, measured_by, measured_of}
use Rattle.mh_model.specs.Replies.{reply_of}
use Rattle.mh_text.proofs.WordLemmas.{length_numbers}
use Rattle.mh_reasons.specs.declared.history_reason.HistoryLineReason.{HistoryLineReason}
use Rattle.mh_reasons.specs.{declared.reason.LineReason.LineReason, Operands.{are_numbers_below, fit, IsOperandReason}}
use Rattle.mh_reasons.specs.Reasons.{word_at}
use Rattle.mh_reasons.specs.HistoryReasons.{is_caller, IsEventReason, IsReplyReason, IsEntryWordsReason, IsUnitsReason, IsMeasuredReason, IsVersionReason, IsEntryReason, IsEntryWrong}
use Rattle.mh_reasons.specs.declared.verb.Verb.{Verb}
use Rattle.mh_reasons.proofs.{EntryLemmas.{session_name, entry_from}, SoundWords.are_sound, SoundLines.fault_unsound}
use Rattle.mh_reasons.proofs.{SoundEntries.{is_printable, printable_stray}, SoundEntryLines.no_entry_line}
use Rattle.mh_reasons.proofs.WrongWords.{IsTailWrong, words_tail, miscounted, operand_unfit}

-- Events and replies -----------------------------------------------------------------------------

caller_some : (star some : Bool) → star ≡ false → (star || some) ≡ true → some ≡ true
caller_some star some is caller = grind arith

no_who : (who : Option ℕ) (event : ℕ → Command → Event) (command : Option Command) → command ≡ None → option_and_then (λ w. option_map (event w) command) who ≡ None
no_who who event command none = grind arith

caller_tail : (version : Version) (event : List Text) → IsTailWrong version event → is_caller (word_at event 0) ≡ true → event_of version event ≡ None
caller_tail version event wrong caller = grind (arith, caller_some, false≢true, session_name, no_who)

stranger : (version : Version) (event : List Text) → is_caller (word_at event 0) ≡ false → event_of version event ≡ None
stranger version event caller = grind arith

event_none : (version : Version) (event : List Text) (r : HistoryLineReason) → IsEventReason version event r → event_of version event ≡ None
event_none version event r is = grind (arith, stranger, caller_tail, words_tail)

reply_none : (version : Version) (reply : List Text) (r : HistoryLineReason) → IsReplyReason version reply r → reply_of version reply ≡ None
reply_none version reply r is = grind arith

-- Entries ----------------------------------------------------------------------------------------

no_event : (event : Option Event) (reply : Option Reply) → event ≡ None → entry_from event reply ≡ None
no_event event reply none = grind arith

no_reply : (event : Option Event) (reply : Option Reply) → reply ≡ None → entry_from event reply ≡ None
no_reply event reply none = grind arith

halves_none : (version : Version) (halves : Halves) (r : HistoryLineReason) → IsEventReason version halves.before r ⊎ (IsSome (event_of version halves.before) × IsReplyReason version halves.after r) → entry_by version halves ≡ None
halves_none version halves r is = grind (arith, no_event, event_none, no_reply, reply_none)

entry_none : (version : Version) (entry : List Text) (r : HistoryLineReason) → IsEntryWordsReason version entry r → entry_of version entry ≡ None
entry_none version entry HistoryLineReason.NoReply is = ap (option_and_then (entry_by version)) is
entry_none version entry r is = ap (option_and_then (entry_by version)) is.1 ∙ halves_none version is.0 r is.2

-- Units ------------------------------------------------------------------------------------------

small_by : (numeral short : Bool) (value n : ℕ) → (if numeral && short then Some value else None) ≡ Some n → nat_lt value u64 ≡ short → nat_lt n u64 ≡ true
small_by numeral short value n read same = grind arith

pub small : (word : Text) (n : ℕ) → number word ≡ Some n → nat_lt n u64 ≡ true
small word n read = grind arith

abbrev two : List ℕ
two = u64 ∷ u64 ∷ []

abbrev read_two : Option ℕ → Option ℕ → Option (List ℕ)
read_two a b = option_and_then (λ n. option_map (λ ns. n ∷ ns) (option_and_then (λ m. option_map (λ ms. m ∷ ms) (Some [])) b)) a

abbrev measured_from : Entry → Option (List ℕ) → Option Measured
measured_from entry all = option_and_then (measured_with entry) all

two_by : (a b : Option ℕ) (entry : Entry) → ((n : ℕ) → a ≡ Some n → nat_lt n u64 ≡ true) → ((n : ℕ) → b ≡ Some n → nat_lt n u64 ≡ true) → are_numbers_below two (read_two a b) ≡ false → measured_from entry (read_two a b) ≡ None
two_by a b entry x y none = grind arith

other_count : (entry : Entry) (all : Option (List ℕ)) → ((ns : List ℕ) → all ≡ Some ns → length ns ≢ 2) → measured_from entry all ≡ None
other_count entry (Some (a ∷ b ∷ [])) other = absurd (other (a ∷ b ∷ []) refl refl)
other_count entry all other = refl

units_none : (entry : Entry) (units : List Text) → fit two units ≡ false → measured_from entry (numbers units) ≡ None
units_none entry [] none = refl
units_none entry (a ∷ []) none = grind arith
units_none entry units none = grind (arith, two_by, small, other_count, length_numbers)

operands_none : (units : List Text) (r : LineReason) → IsOperandReason Verb.Units two units r → fit two units ≡ false
operands_none units r is = grind (arith, miscounted, operand_unfit)

units_unfit : (units : List Text) (r : HistoryLineReason) → IsUnitsReason units r → fit two units ≡ false
units_unfit units r is = grind (arith, operands_none)

abbrev measured_of_entry : Option Entry → Option (List ℕ) → Option Measured
measured_of_entry entry all = option_and_then (λ entry. measured_from entry all) entry

no_units : (entry : Option Entry) (units : List Text) → fit two units ≡ false → measured_of_entry entry (numbers units) ≡ None
no_units None units none = refl
no_units (Some entry) units none = units_none entry units none

no_entry : (entry : Option Entry) (units : List Text) → entry ≡ None → measured_of_entry entry (numbers units) ≡ None
no_entry entry units none = grind arith

measured_halves : (halves : Halves) (r : HistoryLineReason) → IsUnitsReason halves.after r ⊎ ((fit two halves.after ≡ true) × IsEntryWordsReason Two halves.before r) → measured_by halves ≡ None
measured_halves halves r (inl is) = no_units (entry_of Two halves.before) halves.after (units_unfit halves.after r is)
measured_halves halves r (inr is) = no_entry (entry_of Two halves.before) halves.after (entry_none Two halves.before r is.1)

measured_none : (measured : List Text) (r : HistoryLineReason) → IsMeasuredReason measured r → measured_of measured ≡ None
measured_none measured HistoryLineReason.NoUnits is = ap (option_and_then measured_by) is
measured_none measured r is = ap (option_and_then measured_by) is.1 ∙ measured_halves is.0 r is.2

version_wrong : (version : Version) (line : Text) (r : HistoryLineReason) → IsVersionReason version (words line) r → IsEntryWrong version line
version_wrong version line r is = grind (arith, entry_none, measured_none)

-- Lines ------------------------------------------------------------------------------------------

empty_unsound : (line : Text) → line ≡ [] → are_sound is_printable (words line) ≡ false
empty_unsound line is = rw is refl

unsound_wrong : (version : Version) (line : Text) → are_sound is_printable (words line) ≡ false → IsEntryWrong version line
unsound_wrong version line unsound = no_entry_line version line (λ good. false≢true (sym unsound ∙ good.sound))

-- a line of which a reason speaks is no entry
pub entry_wrong : (version : Version) (line : Text) (r : HistoryLineReason) → IsEntryReason version line r → IsEntryWrong version line
entry_wrong version line HistoryLineReason.Blank is = unsound_wrong version line (empty_unsound line is)
entry_wrong version line HistoryLineReason.Comment is = no_entry_line version line (λ good. good.uncommented is)
entry_wrong version line r is = grind (arith, unsound_wrong, fault_unsound, is_printable, printable_stray, version_wrong)
