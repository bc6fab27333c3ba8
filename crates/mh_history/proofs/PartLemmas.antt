-- Words that are numbers, and words that are texts.
use Rattle.std.proofs.Common.{◌≡◌, ℕ, zero, suc, ◌+◌, ◌^◌, ◌<◌, ◌≤◌, nat_lt, ◌&&◌, Bool, true, false, if◌then◌else◌, Option, Some, None, option_and_then, List, [], ◌∷◌, length, get_or, drop, refl, ap, sym, ◌∙◌, arith}
use Rattle.std.proofs.{lemmas.Bool.Decides.nat_tests, Math.Bool.and-false}
use Rattle.std.specs.{Prelude.codes, Borrow.Bor}
use Rattle.mh_model.specs.Bytes.{Text, is_text, is_numeral, value_after, number, numbers}
use Rattle.mh_model.specs.{Forms.{within, formed, numbered, are_below, at, u32, u64}, declared.shape.Shape.Shape}
use Rattle.mh_model.specs.{declared.reply.Refusal.TheVariants.TooManySessions, Replies.{are_texts, refusal_forms}}
use Rattle.mh_text.specs.{Names.names_shown, Words.few_numbers}
use Rattle.mh_text.proofs.{WordLemmas.{few_same, none_of, length_numbers}, RowLemmas.below_other, FormLemmas.small_same}
use Rattle.mh_model.proofs.TextLemmas.{text_is}

-- Numbers ----------------------------------------------------------------------------------------

pub within_other : {X : Type 0} (bounds ns : List ℕ) (x : X) → (length bounds ≡ length ns → ⊥) → within (are_below bounds ns) x ≡ None
within_other bounds ns x other = rw (below_other bounds ns other) refl

numbered_by : {X : Type 0} (bounds : List ℕ) (made : List ℕ → X) (count : ℕ) (all : Option (List ℕ)) → ((ns : List ℕ) → all ≡ Some ns → length ns ≡ count) → (length bounds ≡ count → ⊥)
    → option_and_then (λ ns. within (are_below bounds ns) (made ns)) all ≡ None
numbered_by bounds made count None same other = refl
numbered_by bounds made count (Some ns) same other = within_other bounds ns (made ns) (λ e. other (e ∙ same ns refl))

-- as many words as bounds are wanted
pub numbered_other : {X : Type 0} (bounds : List ℕ) (made : List ℕ → X) (words : List Text) → (length bounds ≡ length words → ⊥) → numbered bounds made words ≡ None
numbered_other bounds made words other = numbered_by bounds made (length words) (numbers words) (length_numbers words) other

pub numbered_none : {X : Type 0} (bounds : List ℕ) (made : List ℕ → X) (words : List Text) → length bounds ≤ 4 → few_numbers words ≡ None → numbered bounds made words ≡ None
numbered_none bounds made words few none = none_of (λ ns. within (are_below bounds ns) (made ns)) (λ found many. within_other bounds found (made found) (λ same. omega arith)) words none

pub numbered_few : {X : Type 0} (bounds : List ℕ) (made : List ℕ → X) (words : List Text) (ns : List ℕ) → few_numbers words ≡ Some ns → numbered bounds made words ≡ within (are_below bounds ns) (made ns)
numbered_few bounds made words ns few = rw (few_same words ns few) refl

small_by : (is below : Bool) (value n : ℕ) → nat_lt value (2 ^ 64) ≡ below → (if is && below then Some value else None) ≡ Some n → nat_lt n u64 ≡ true
small_by true true value n test found = let same : value ≡ n = cc in rw (← same) test
small_by true false value n test found = cc
small_by false below value n test found = cc

pub number_small : (word : Text) (n : ℕ) → number word ≡ Some n → nat_lt n u64 ≡ true
number_small word n found = small_by (is_numeral word) (nat_lt (value_after 0 word) (2 ^ 64)) (value_after 0 word) n refl found

-- One number
pub one_number : (words : List Text) (ns : List ℕ) → few_numbers words ≡ Some ns → length ns ≡ 1 → get_or ns 0 0 < 2 ^ 64 → numbered (u64 ∷ []) (λ ns. at ns 0) words ≡ Some (get_or ns 0 0)
one_number words [] few one small = absurd (omega arith)
one_number words (n ∷ []) few one small = let below : nat_lt n u64 ≡ true = grind (arith, nat_tests) in rw (few_same words (n ∷ []) few, below) refl
one_number words (n ∷ m ∷ ns) few one small = absurd (omega arith)

pub not_one : (words : List Text) (ns : List ℕ) → few_numbers words ≡ Some ns → (length ns ≡ 1 → ⊥) → numbered (u64 ∷ []) (λ ns. at ns 0) words ≡ None
not_one words ns few other = numbered_few (u64 ∷ []) (λ ns. at ns 0) words ns few ∙ within_other (u64 ∷ []) ns (at ns 0) (λ same. other (sym same))

pub no_number : (words : List Text) → few_numbers words ≡ None → numbered (u64 ∷ []) (λ ns. at ns 0) words ≡ None
no_number words none = numbered_none (u64 ∷ []) (λ ns. at ns 0) words (omega arith) none

-- A shape
abbrev pub shape_made : List ℕ → Shape
shape_made ns = record { references = at ns 0; numbers = at ns 1 }

pub no_shape : (words : List Text) → few_numbers words ≡ None → numbered (u32 ∷ u32 ∷ []) shape_made words ≡ None
no_shape words none = numbered_none (u32 ∷ u32 ∷ []) shape_made words (omega arith) none

pub not_two : (words : List Text) (ns : List ℕ) → few_numbers words ≡ Some ns → (length ns ≡ 2 → ⊥) → numbered (u32 ∷ u32 ∷ []) shape_made words ≡ None
not_two words ns few other = numbered_few (u32 ∷ u32 ∷ []) shape_made words ns few ∙ within_other (u32 ∷ u32 ∷ []) ns (shape_made ns) (λ same. other (sym same))

within_some : (is : Bool) (n found : ℕ) → within is n ≡ Some found → is ≡ true
within_some true n found is = refl
within_some false n found is = cc

within_none : (is : Bool) (n : ℕ) → within {X = ℕ} is n ≡ None → is ≡ false
within_none true n is = cc
within_none false n is = refl

shape_by : (ns : List ℕ) (references numbers : ℕ) → length ns ≡ 2 → within (nat_lt (get_or ns 0 0) u32) (get_or ns 0 0) ≡ Some references → within (nat_lt (get_or ns 1 0) u32) (get_or ns 1 0) ≡ Some numbers
    → within (are_below (u32 ∷ u32 ∷ []) ns) (shape_made ns) ≡ Some (record { references = references; numbers = numbers })
shape_by [] references numbers two a b = absurd (omega arith)
shape_by (x ∷ []) references numbers two a b = absurd (omega arith)
shape_by (x ∷ y ∷ []) references numbers two a b = grind (arith, within_some, small_same)
shape_by (x ∷ y ∷ z ∷ ns) references numbers two a b = absurd (omega arith)

pub shape_two : (words : List Text) (ns : List ℕ) (references numbers : ℕ) → few_numbers words ≡ Some ns → length ns ≡ 2 → within (nat_lt (get_or ns 0 0) u32) (get_or ns 0 0) ≡ Some references
    → within (nat_lt (get_or ns 1 0) u32) (get_or ns 1 0) ≡ Some numbers → numbered (u32 ∷ u32 ∷ []) shape_made words ≡ Some (record { references = references; numbers = numbers })
shape_two words ns references numbers few two a b = numbered_few (u32 ∷ u32 ∷ []) shape_made words ns few ∙ shape_by ns references numbers two a b

large_by : (ns : List ℕ) (i : ℕ) → within {X = ℕ} (nat_lt (get_or ns i 0) u32) (get_or ns i 0) ≡ None → length ns ≡ 2 → i < 2 → within (are_below (u32 ∷ u32 ∷ []) ns) (shape_made ns) ≡ None
large_by [] i none two below = absurd (omega arith)
large_by (x ∷ []) i none two below = absurd (omega arith)
large_by (x ∷ y ∷ []) zero none two below = rw (within_none (nat_lt x u32) x none) refl
large_by (x ∷ y ∷ []) (suc zero) none two below = rw (within_none (nat_lt y u32) y none) (rw (and-false (nat_lt x u32)) refl)
large_by (x ∷ y ∷ []) (suc (suc i)) none two below = absurd (omega arith)
large_by (x ∷ y ∷ z ∷ ns) i none two below = absurd (omega arith)

pub shape_large : (words : List Text) (ns : List ℕ) (i : ℕ) → few_numbers words ≡ Some ns → within {X = ℕ} (nat_lt (get_or ns i 0) u32) (get_or ns i 0) ≡ None → length ns ≡ 2 → i < 2
    → numbered (u32 ∷ u32 ∷ []) shape_made words ≡ None
shape_large words ns i few none two below = numbered_few (u32 ∷ u32 ∷ []) shape_made words ns few ∙ large_by ns i none two below

-- Texts ------------------------------------------------------------------------------------------

pub shown_next : (items : List (Bor (List ℕ))) (i : ℕ) (text : Text) (none : Bor (List ℕ)) → i < length items → text ≡ (get_or items i none).now → names_shown (drop i items) ≡ text ∷ names_shown (drop (i + 1) items)
shown_next [] i text none below is = absurd (omega arith)
shown_next (item ∷ items) zero text none below is = rw is refl
shown_next (item ∷ items) (suc i) text none below is = let one : suc i + 1 ≡ suc (i + 1) = omega arith in rw one (shown_next items i text none (omega arith) is)

-- the words are the texts if the words left are the texts left
wrong_by : (word text : Text) (words texts : List Text) → is_text word text ≡ false → are_texts (word ∷ words) (text ∷ texts) ≡ false
wrong_by word text words texts is = rw is refl

right_by : (word text : Text) (words texts : List Text) → is_text word text ≡ true → are_texts (word ∷ words) (text ∷ texts) ≡ are_texts words texts
right_by word text words texts is = rw is refl

pub texts_ended : (words : List Text) (items : List (Bor (List ℕ))) (i : ℕ) (all : Bool) → are_texts words (names_shown (drop i items)) ≡ all → i < length items → words ≡ [] → false ≡ all
texts_ended words items i all done below none =
    ap (λ (texts : List Text). are_texts [] texts) (sym (shown_next items i _ (record { ref_ptr = (0, 0); now = [] }) below refl)) ∙ (ap (λ (ws : List Text). are_texts ws (names_shown (drop i items))) (sym none) ∙ done)

pub texts_wrong : (words : List Text) (items : List (Bor (List ℕ))) (i : ℕ) (all : Bool) (word text : Text) (none : Bor (List ℕ)) (rest : List Text) → are_texts words (names_shown (drop i items)) ≡ all → i < length items
    → text ≡ (get_or items i none).now → words ≡ word ∷ rest → is_text word text ≡ false → false ≡ all
texts_wrong words items i all word text none rest done below at is other = grind (arith, wrong_by, shown_next)

pub texts_next : (words : List Text) (items : List (Bor (List ℕ))) (i : ℕ) (all : Bool) (word text : Text) (none : Bor (List ℕ)) (rest : List Text) → are_texts words (names_shown (drop i items)) ≡ all → i < length items
    → text ≡ (get_or items i none).now → words ≡ word ∷ rest → is_text word text ≡ true → are_texts rest (names_shown (drop (i + 1) items)) ≡ all
texts_next words items i all word text none rest done below at is same = grind (arith, right_by, shown_next)

-- Refusals ---------------------------------------------------------------------------------------

pub sessions_refused : (number : Text) (words : List Text) → is_text number (codes "7") ≡ true
    → formed refusal_forms (number ∷ words) ≡ within (are_texts words (codes "too" ∷ codes "many" ∷ codes "sessions" ∷ [])) TooManySessions
sessions_refused number words is = rw (text_is number (codes "7") is) refl
