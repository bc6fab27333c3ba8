-- The text of a record is little longer than that of its entries, so migration keeps within the limit.
use Rattle.std.proofs.Common.{◌≡◌, ℕ, ◌+◌, ◌*◌, ◌<◌, ◌≤◌, ◌^◌, true, List, [], ◌∷◌, ◌++◌, length, map, ap, refl, codes, decimal, arith, length-append}
use Rattle.std.proofs.{lemmas.Bool.{and_parts, ltb-true}, lemmas.Fmt.length-decimal-le}
use Rattle.std.specs.List.{list_all}
use Rattle.mh_model.specs.{declared.config.Config.Config, Bytes.{Text, joined, lines_text}, Forms.u64, Replies.are_u64}
use Rattle.mh_model.specs.HistoryTexts.{Recorded, entry_words, is_measured, header_words, history_text, recorded_text, measured_line}
use Rattle.mh_model.specs.declared.history.Measured.{Measured}
use Rattle.mh_model.proofs.TextLemmas.{joined-append}
use Rattle.mh_text_laws.proofs.round_trips.HeaderRoundTrips.{header_numbers, small_header}
use Rattle.mh_text_laws.proofs.round_trips.HistoryRoundTrips.{entry_line}

-- a number has 20 digits at most
few_digits : (n : ℕ) (ns : List ℕ) → are_u64 (n ∷ ns) ≡ true → length (decimal n) ≤ 20
few_digits n ns h = let small : n < 2 ^ 64 = ltb-true n u64 (and_parts _ _ h).0 in length-decimal-le 20 n (omega arith) (omega arith) small

decimals_length : (ns : List ℕ) → are_u64 ns ≡ true → length (joined (map decimal ns)) ≤ 21 * length ns
decimals_length (n ∷ next ∷ ns) h =
    let more = decimals_length (next ∷ ns) (and_parts _ _ h).1 in
    omega (arith, more, few_digits n (next ∷ ns) h, length-append (decimal n) (32 ∷ joined (map decimal (next ∷ ns))))
decimals_length ns h = search (arith, few_digits)

units_length : (words : List Text) (ns : List ℕ) → length ns ≡ 2 → are_u64 ns ≡ true → length (joined (words ++ codes "units" ∷ map decimal ns)) ≤ length (joined words) + 49
units_length words [] two h = absurd (omega arith)
units_length [] (n ∷ ns) two h = omega (arith, decimals_length (n ∷ ns) h)
units_length (word ∷ words) (n ∷ ns) two h =
    let units : Text = joined (codes "units" ∷ map decimal (n ∷ ns)) in
    let split = ap length (joined-append word words (codes "units") (map decimal (n ∷ ns))) in
    omega (arith, split, length-append (joined (word ∷ words)) (32 ∷ units), decimals_length (n ∷ ns) h)

measured_length : (m : Measured) → is_measured m ≡ true → length (measured_line m) ≤ length (entry_line m.entry) + 49
measured_length m h = units_length (entry_words m.entry) (m.mutator ∷ m.collector ∷ []) refl (and_parts _ _ h).1

header_length : (c : Config) → length (joined (header_words c)) ≤ 121
header_length c = omega (arith, decimals_length (header_numbers c) (small_header c))

lines-cons : (line : Text) (lines : List Text) → length (lines_text (line ∷ lines)) ≡ length line + 1 + length (lines_text lines)
lines-cons line lines = omega (arith, length-append (line ++ 10 ∷ []) (lines_text lines), length-append line (10 ∷ []))

entries_length : (ms : List Measured) → list_all is_measured ms ≡ true
    → length (lines_text (map measured_line ms)) ≤ length (lines_text (map entry_line (map (λ measured. measured.entry) ms))) + 49 * length ms
entries_length [] h = omega arith
entries_length (m ∷ ms) h =
    let one = measured_length m (and_parts _ _ h).0 in
    let more = entries_length ms (and_parts _ _ h).1 in
    omega (arith, one, more, lines-cons (measured_line m) (map measured_line ms), lines-cons (entry_line m.entry) (map entry_line (map (λ measured. measured.entry) ms)))

pub recorded_length : (r : Recorded) → list_all is_measured r.entries ≡ true → length r.entries ≤ 1000000
    → length (history_text (map (λ measured. measured.entry) r.entries)) ≤ 1073741824
    → length (recorded_text r) ≤ 2147483648
recorded_length r h few short = grind (arith, header_length, entries_length, lines-cons, entry_line)
