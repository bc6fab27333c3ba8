-- Sets in words: one bit changed, and the least member by a summary.
use Rattle.std.proofs.Common.{◌≡◌, ◌≢◌, ℕ, suc, ◌+◌, ◌*◌, ◌/◌, ◌%◌, ◌^◌, ◌<◌, ◌≤◌, ◌==◌, nat_lt, Bool, true, false, not, MatchBool, List, length, get_or, set, replicate, refl, ap, ◌∙◌, sym, subst, arith, get_or-set_same, get_or-set_other, eq-eqb}
use Rattle.std.proofs.{lemmas.Bool.{cases_eq, cases_lt, true≢false}, lemmas.List.{length-set, length-replicate}}
use Rattle.std.specs.Int.{bit_not, w64, trailing_zeros, RustNames.bit_or}
use lib.Bits.{bit_and}
use mir.Val.{bits}
use Rattle.mh_bits.specs.{Bits.has_bit, Auxiliary.{has_bit_among, bits_of, IsSummed}}
use Rattle.mh_bits.specs.Sets.{empty_sets, has_member, HasLower, HasNoLower, IsEmptySet, IsLeastMember}
use Rattle.mh_model.proofs.TabulateLemmas.{length-tabulate, get_or-tabulate, tabulate-set, tabulate-replicate}
use Rattle.mh_bits.proofs.BitLemmas.{has_bit-zero, has_bit-set_same, has_bit-set_other, has_bit-clear_same, has_bit-clear_other, some_bit, lowest_bit, IsLowest}

pub length-bits_of : (words : List ℕ) → length (bits_of words) ≡ 64 * length words
unfolding bits_of
length-bits_of words = length-tabulate (has_bit_among words) 0 (64 * length words)

pub get_or-bits_of : (words : List ℕ) (i : ℕ) → i < 64 * length words → get_or (bits_of words) i false ≡ has_bit_among words i
unfolding bits_of
get_or-bits_of words i h = grind (arith, get_or-tabulate)

pub bits_of-zeros : (count : ℕ) → bits_of (replicate (64 * count) 0) ≡ replicate (4096 * count) false
unfolding bits_of
bits_of-zeros count =
    let e : 64 * length {A = ℕ} (replicate (64 * count) 0) ≡ 4096 * count = omega (arith, length-replicate {A = ℕ} (64 * count) 0) in
    rw e (tabulate-replicate (has_bit_among (replicate (64 * count) 0)) 0 (4096 * count) false (λ i h l. ap (λ w. has_bit w (i % 64)) (zero_at (64 * count) (i / 64)) ∙ has_bit-zero (i % 64)))
  where
    zero_at : (n k : ℕ) → get_or {A = ℕ} (replicate n 0) k 0 ≡ 0
    zero_at (suc n) (suc k) = zero_at n k
    zero_at n k = refl

pub bits_of-empty : (count : ℕ) → bits_of (replicate (64 * count) 0) ≡ empty_sets count
unfolding empty_sets
bits_of-empty count = bits_of-zeros count

pub length-empty_sets : (count : ℕ) → length (empty_sets count) ≡ 4096 * count
unfolding empty_sets
length-empty_sets count = length-replicate {A = Bool} (4096 * count) false

pub no_member-empty : (count number member : ℕ) → has_member (empty_sets count) number member ≡ false
unfolding empty_sets
no_member-empty count number member = none_at (4096 * count) (4096 * number + member)
  where
    none_at : (n k : ℕ) → get_or (replicate n false) k false ≡ false
    none_at (suc n) (suc k) = none_at n k
    none_at n k = refl

-- one bit of one word changed
pub bits_of-set : (words : List ℕ) (at bit word : ℕ) (value : Bool) → at < length words → bit < 64 → has_bit word bit ≡ value
    → ((i : ℕ) → i < 64 → i ≢ bit → has_bit word i ≡ has_bit (get_or words at 0) i)
    → bits_of (set words at word) ≡ set (bits_of words) (64 * at + bit) value
unfolding bits_of
bits_of-set words at bit word value within small same others = grind (arith, length-set, tabulate-set, cases_eq, get_or-set_same, get_or-set_other)

-- one word changed, and its bit of the summary with it
pub summed-set : (words summaries : List ℕ) (at word summary : ℕ) → IsSummed words summaries → at < length words
    → has_bit summary (at % 64) ≡ not (word == 0)
    → ((i : ℕ) → i < 64 → i ≢ at % 64 → has_bit summary i ≡ has_bit (get_or summaries (at / 64) 0) i)
    → IsSummed (set words at word) (set summaries (at / 64) summary)
summed-set words summaries at word summary summed within same others = search (arith, length-set, cases_eq, get_or-set_same, get_or-set_other)

-- Members ----------------------------------------------------------------------------------------

pub member_is : (words : List ℕ) (number member : ℕ) → 64 * number + member / 64 < length words → has_member (bits_of words) number member ≡ has_bit (get_or words (64 * number + member / 64) 0) (member % 64)
member_is words number member within = grind (arith, get_or-bits_of)

-- a word of a set is 0 exactly when the summary says so
word_sum : (words summaries : List ℕ) (number j : ℕ) → IsSummed words summaries → number < length summaries → j < 64 → has_bit (get_or summaries number 0) j ≡ not (get_or words (64 * number + j) 0 == 0)
word_sum words summaries number j summed inside small = grind arith

-- a word that the summary leaves out is 0
left_out : (words summaries : List ℕ) (number j : ℕ) → IsSummed words summaries → number < length summaries → j < 64 → has_bit (get_or summaries number 0) j ≡ false → get_or words (64 * number + j) 0 ≡ 0
left_out words summaries number j summed inside small out = grind arith

no_member : (words summaries : List ℕ) (number member : ℕ) → IsSummed words summaries → number < length summaries → member < 4096 → has_bit (get_or summaries number 0) (member / 64) ≡ false → has_member (bits_of words) number member ≡ false
no_member words summaries number member summed inside small out = grind (arith, member_is, left_out, has_bit-zero)

pub empty_set : (words summaries : List ℕ) (number : ℕ) → IsSummed words summaries → number < length summaries → get_or summaries number 0 ≡ 0 → IsEmptySet (bits_of words) number
empty_set words summaries number summed inside none member small = grind (arith, no_member, has_bit-zero)

-- the word that the lowest bit of a summary names has a bit
pub summed_word : (words summaries : List ℕ) (number : ℕ) → IsSummed words summaries → number < length summaries → get_or summaries number 0 ≢ 0 → get_or summaries number 0 < 2 ^ 64
    → (trailing_zeros w64 (get_or summaries number 0) < 64) × (get_or words (64 * number + trailing_zeros w64 (get_or summaries number 0)) 0 ≢ 0)
summed_word words summaries number summed inside some small = grind (arith, lowest_bit, true≢false, word_sum, eq-eqb)

pub least_member : (words summaries : List ℕ) (number : ℕ) → IsSummed words summaries → number < length summaries
    → get_or summaries number 0 ≢ 0 → get_or summaries number 0 < 2 ^ 64
    → get_or words (64 * number + trailing_zeros w64 (get_or summaries number 0)) 0 < 2 ^ 64
    → IsLeastMember (bits_of words) number (64 * trailing_zeros w64 (get_or summaries number 0) + trailing_zeros w64 (get_or words (64 * number + trailing_zeros w64 (get_or summaries number 0)) 0))
least_member words summaries number summed inside some small small_word = search (arith, lowest_bit, summed_word, IsLowest, member_is, cases_lt, no_member)

-- Steps of the code -------------------------------------------------------------------------------

pub set_within : (words summaries : List ℕ) (sets : List Bool) (number : ℕ) → IsSummed words summaries → bits_of words ≡ sets → 4096 * number + 4096 ≤ length sets → number < length summaries
set_within words summaries sets number summed shown inside = omega (arith, summed.counts, length-bits_of words, ap length shown)

-- a word with this bit set, and with it cleared
abbrev pub with_bit : ℕ → ℕ → ℕ
with_bit word bit = bit_or word (1 * 2 ^ bit % 2 ^ bits w64)

abbrev pub without_bit : ℕ → ℕ → ℕ
without_bit word bit = bit_and word (bit_not w64 (1 * 2 ^ bit % 2 ^ bits w64))

-- the place of a member's bit
module _ (words summaries : List ℕ) (number page word summary : ℕ) (summed : IsSummed words summaries) (inside : number < length summaries) (small : page < 4096) (read : word ≡ get_or words (number * 64 + page / 64) 0) (read_summary : summary ≡ get_or summaries number 0) where
  at_within : number * 64 + page / 64 < length words
  at_within = omega (arith, summed.counts)

  at_row : (number * 64 + page / 64) / 64 ≡ number
  at_row = omega arith

  at_column : (number * 64 + page / 64) % 64 ≡ page / 64
  at_column = omega arith

  shown_at : (changed : ℕ) (value : Bool) → bits_of (set words (number * 64 + page / 64) changed) ≡ set (bits_of words) (64 * (number * 64 + page / 64) + page % 64) value → bits_of (set words (number * 64 + page / 64) changed) ≡ set (bits_of words) (4096 * number + page) value
  shown_at changed value e = grind arith

  summed_at : (changed new : ℕ) → has_bit new (page / 64) ≡ not (changed == 0) → ((i : ℕ) → i < 64 → i ≢ page / 64 → has_bit new i ≡ has_bit summary i) → IsSummed (set words (number * 64 + page / 64) changed) (set summaries number new)
  summed_at changed new same others =
      subst (λ row. IsSummed (set words (number * 64 + page / 64) changed) (set summaries row new)) at_row
      (summed-set words summaries (number * 64 + page / 64) changed new summed at_within (ap (has_bit new) at_column ∙ same)
      (λ i l apart. others i l (λ e. apart (e ∙ sym at_column)) ∙ ap (λ w. has_bit w i) (read_summary ∙ ap (λ set_number. get_or summaries set_number 0) (sym at_row))))

  pub inserted_bits : bits_of (set words (number * 64 + page / 64) (with_bit word (page % 64))) ≡ set (bits_of words) (4096 * number + page) true
  inserted_bits = grind (arith, shown_at, bits_of-set, at_within, has_bit-set_same, has_bit-set_other)

  pub inserted_summed : IsSummed (set words (number * 64 + page / 64) (with_bit word (page % 64))) (set summaries number (with_bit summary (page / 64)))
  inserted_summed =
      summed_at _ _
      (has_bit-set_same summary (page / 64) (omega arith) ∙ ap not (sym (some_bit (with_bit word (page % 64)) (page % 64) (has_bit-set_same word (page % 64) (omega arith)))))
      (λ i l apart. has_bit-set_other summary (page / 64) i (omega arith) apart)

  pub removed_bits : bits_of (set words (number * 64 + page / 64) (without_bit word (page % 64))) ≡ set (bits_of words) (4096 * number + page) false
  removed_bits = grind (arith, shown_at, bits_of-set, at_within, has_bit-clear_same, has_bit-clear_other)

  pub removed_last : without_bit word (page % 64) ≡ 0 → IsSummed (set words (number * 64 + page / 64) (without_bit word (page % 64))) (set summaries number (without_bit summary (page / 64)))
  removed_last none =
      summed_at _ _
      (has_bit-clear_same summary (page / 64) (omega arith) ∙ ap not (sym (eq-eqb _ _ none)))
      (λ i l apart. has_bit-clear_other summary (page / 64) i (omega arith) l apart)

-- the words that the search for the least member reads
module _ (words summaries : List ℕ) (number summary : ℕ) (summed : IsSummed words summaries) (inside : number < length summaries) (read : summary ≡ get_or summaries number 0) (some : summary ≢ 0) (small : summary < 2 ^ 64) where
  pub row_of_summary : trailing_zeros w64 summary < 64
  row_of_summary = (lowest_bit summary some small).within

  pub least_found : (word : ℕ) → word ≡ get_or words (number * 64 + trailing_zeros w64 summary) 0 → word < 2 ^ 64 → IsLeastMember (bits_of words) number (trailing_zeros w64 summary * 64 + trailing_zeros w64 word)
  least_found word is small_word =
      subst (IsLeastMember (bits_of words) number) (omega arith) (go summary read some small word (is ∙ ap (λ k. get_or words k 0) (omega arith)) small_word)
    where
      go : (s : ℕ) → s ≡ get_or summaries number 0 → s ≢ 0 → s < 2 ^ 64 → (w : ℕ) → w ≡ get_or words (64 * number + trailing_zeros w64 s) 0 → w < 2 ^ 64 → IsLeastMember (bits_of words) number (64 * trailing_zeros w64 s + trailing_zeros w64 w)
      go s e some' small' w f small'' = grind (arith, least_member)

-- Below a page -----------------------------------------------------------------------------------

pub lower_by_least : (sets : List Bool) (row least below : ℕ) → IsLeastMember sets row least → MatchBool (nat_lt least below) (HasLower sets row below) (HasNoLower sets row below)
lower_by_least sets row least below is = grind arith
