-- Events and replies of entries.
use Rattle.std.proofs.Common.{◌≡◌, ◌≢◌, ℕ, ◌*◌, ◌-◌, ◌≤◌, ◌==◌, nat_le, nat_lt, ◌&&◌, ◌||◌, Bool, true, Option, Some, None, IsSome, option_map, option_and_then, List, [], ◌∷◌, length, ◌⊎◌, arith}
use Rattle.std.proofs.{lemmas.Bool.Decides.nat_tests, lemmas.Bool.and_parts}
use Rattle.std.specs.{Prelude.{if◌then◌else◌, codes, is_some, slice_index}, List.list_all}
use Rattle.mh_model.specs.Bytes.{Text, words, is_text, is_digit, is_letter, is_numeral, is_name, value_after, number}
use Rattle.mh_model.specs.{Forms.within, declared.command.Event.Event, declared.reply.Reply.Reply}
use Rattle.mh_model.specs.{declared.history.Entry.Entry, declared.history.Version.Version}
use Rattle.mh_model.specs.declared.history.Version.TheVariants.{One, Two}
use Rattle.mh_model.specs.{HistoryTexts.{Halves, halves_at, session_of, event_of, entry_of}, Replies.reply_of}
use Rattle.mh_text.proofs.WordLemmas.{value_after_grows}
use Rattle.mh_reasons.specs.HistoryReasons.{is_caller, IsEntryReason, IsEntryWordsReason, IsMeasuredReason, IsVersionReason}
use Rattle.mh_reasons.specs.{declared.history_reason.HistoryLineReason.HistoryLineReason, Lines.IsPlain}

-- Sessions ---------------------------------------------------------------------------------------

-- a numeral of at most 8 is one digit
one_digit : (bytes : Text) → is_numeral bytes ≡ true → value_after 0 bytes ≤ 8 → (list_all (λ c. is_letter c || is_digit c) bytes && nat_lt (length bytes) 16) ≡ true
one_digit bytes numeral few = search (arith, and_parts, nat_tests, value_after_grows)

small_number : (is : Bool) (value : ℕ) → IsSome (option_and_then (λ who. within (nat_le who 8) who) (if is then Some value else None)) → (is ≡ true) × (nat_le value 8 ≡ true)
small_number is value some = grind arith

tagged_name : (is : Bool) (byte : ℕ) (bytes : Text) → (byte == 115) ≡ is → IsSome (option_and_then (λ who. within (nat_le who 8) who) (if is then number bytes else None)) → is_name (byte ∷ bytes) ≡ true
tagged_name is byte bytes same some = grind (arith, small_number, and_parts, nat_tests, one_digit)

-- a session of a history is written as a name
pub session_name : (word : Text) → IsSome (session_of word) → is_name word ≡ true
session_name word some = grind (arith, tagged_name)

caller_by : (star session : Bool) → session ≡ true → (star || session) ≡ true
caller_by star session is = grind arith

pub is_caller-session : (word : Text) → IsSome (session_of word) → is_caller word ≡ true
is_caller-session word some = caller_by (is_text word (codes "*")) (is_some (session_of word)) some

-- Entries ----------------------------------------------------------------------------------------

abbrev pub entry_from : Option Event → Option Reply → Option Entry
entry_from event reply = option_and_then (λ event. option_map (λ reply. record { event = event; reply = reply }) reply) event

reply_by : (event : Option Event) (reply : Option Reply) → entry_from event reply ≡ None → IsSome event → reply ≡ None
reply_by event reply none some = grind arith

-- a good event in a bad entry has no reply
pub reply_none : (version : Version) (words : List Text) (halves : Halves) → entry_of version words ≡ None → halves_at (codes "=") words ≡ Some halves → IsSome (event_of version halves.before) → reply_of version halves.after ≡ None
reply_none version words halves none split some = search (arith, reply_by)

-- Lines ------------------------------------------------------------------------------------------

neither : {A : Type 0} → ⊥ ⊎ (A × ⊥) → ⊥
neither is = grind arith

-- what is said of its words is said of a line
pub of_entry : (version : Version) (line : Text) (r : HistoryLineReason) → (line ≢ []) → (slice_index line 0 ≢ 35) → IsPlain line → IsVersionReason version (words line) r → IsEntryReason version line r
of_entry version line r some uncommented plain is = grind arith

pub of_one : (version : Version) (line : Text) (entry : List Text) (r : HistoryLineReason) → version ≡ One → entry ≡ words line → (line ≢ []) → (slice_index line 0 ≢ 35) → IsPlain line → IsEntryWordsReason One entry r
    → IsEntryReason version line r
of_one version line entry r one split some uncommented plain is = grind (arith, of_entry)

pub of_two : (version : Version) (line : Text) (measured : List Text) (r : HistoryLineReason) → version ≡ Two → measured ≡ words line → (line ≢ []) → (slice_index line 0 ≢ 35) → IsPlain line → IsMeasuredReason measured r
    → IsEntryReason version line r
of_two version line measured r two split some uncommented plain is = grind (arith, of_entry)
