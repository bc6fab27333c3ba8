-- Classes: what is known of each, and which words have one.
use Rattle.std.proofs.Common.{◌≡◌, ℕ, ◌==◌, ◌<◌, ◌≤◌, ◌*◌, ◌&&◌, nat_lt, nat_le, true, Option, Some, None, unwrap_or, get_or, refl, sym, ap, ◌∙◌, arith}
use Rattle.std.proofs.lemmas.Bool.{and_parts, eqb-true, ltb-true, leb-true, agree_below_at}
use Rattle.mh_model.specs.Classes.{class_sizes, class_of, is_class_size, slots_in}
use Rattle.mh_table_laws.proofs.{Lists.member-passes, tables.PageSlots.class_of-class_size}
use Rattle.mh_classes.specs.{declared.class.TheConstants.SIZES, Numbers.class_number}

-- Classes ----------------------------------------------------------------------------------------

-- a class has 4 to 64 words, and 4 to 64 slots, which fit a page
pub record IsClass (size : ℕ) : Type 0 where
  pub least : 4 ≤ size
  pub most : size ≤ 64
  pub some : 4 ≤ slots_in size
  pub few : slots_in size ≤ 64
  pub fit : slots_in size * size ≤ 256
  pub number : class_number size < 20
  pub is_size : get_or class_sizes (class_number size) 0 ≡ size

pub class_is : (size : ℕ) → is_class_size size ≡ true → IsClass size
unfolding is_class_size class_number
class_is size member = search (arith, and_parts, nat_le, member-passes, leb-true, ltb-true, eqb-true)

-- two classes of one number are one
pub class_number-same : (a b : ℕ) → is_class_size a ≡ true → is_class_size b ≡ true → class_number a ≡ class_number b → a ≡ b
class_number-same a b one two e = sym (class_is a one).is_size ∙ (ap (λ k. get_or class_sizes k 0) e ∙ (class_is b two).is_size)

-- The class of so many words ---------------------------------------------------------------------

-- the table has the size of each
pub sizes_by_words : (words : ℕ) → words ≤ 64 → get_or SIZES words 0 ≡ unwrap_or (class_of words) 0
sizes_by_words words few = eqb-true _ _ (sym (agree_below_at (λ w. true) (λ w. get_or SIZES w 0 == unwrap_or (class_of w) 0) 65 words refl (omega arith)))

-- none if its size would be 0
pub no_class : (words : ℕ) → unwrap_or (class_of words) 0 ≡ 0 → None ≡ class_of words
no_class words e = grind arith

pub some_class : (words : ℕ) → (unwrap_or (class_of words) 0 ≡ 0 → ⊥) → Some (unwrap_or (class_of words) 0) ≡ class_of words
some_class words e = grind arith
