-- The place of a name among the names that things show.
use Rattle.std.proofs.Common.{◌≡◌, ◌∙◌, ℕ, ◌+◌, ◌≤◌, nat_lt, not, Bool, true, false, cond, Some, None, List, [], ◌∷◌, length, ap, refl, arith}
use Rattle.std.proofs.lemmas.Bool.Decides.{nat_tests}
use Rattle.std.specs.{Prelude.map, List.{position, position_or_len}}
use Rattle.mh_model.specs.{Bytes.{Text, is_text}, Script.session_number}

pub place_le_by : (is : Bool) (n k : ℕ) → n ≤ k → cond (not is) (1 + n) 0 ≤ k + 1
place_le_by true n k le = omega arith
place_le_by false n k le = omega arith

module _ {A : Type 0} (shown : A → Text) (name : Text) where
  abbrev pub place : List A → ℕ
  place items = position_or_len (λ item. is_text (shown item) name) items

  pub place_shown : (items : List A) → session_number (map shown items) name ≡ place items
  place_shown [] = refl
  place_shown (x ∷ items) = ap (λ (n : ℕ). cond (not (is_text (shown x) name)) (1 + n) 0) (place_shown items)

  place_le : (items : List A) → place items ≤ length items
  place_le [] = omega arith
  place_le (x ∷ items) = let next : cond (not (is_text (shown x) name)) (1 + place items) 0 ≤ length items + 1 = place_le_by (is_text (shown x) name) (place items) (length items) (place_le items) in omega (arith, next)

  some_by : (is : Bool) (n p : ℕ) → cond is (Some n) None ≡ Some p → n ≡ p
  some_by true n p found = cc
  some_by false n p found = cc

  none_by : (is : Bool) (n : ℕ) → cond is (Some n) None ≡ None → is ≡ false
  none_by true n found = cc
  none_by false n found = refl

  pub number_found : (items : List A) (p : ℕ) → position (λ item. is_text (shown item) name) items ≡ Some p → session_number (map shown items) name ≡ p
  number_found items p found = place_shown items ∙ some_by (nat_lt (place items) (length items)) (place items) p found

  pub number_missing : (items : List A) → position (λ item. is_text (shown item) name) items ≡ None → session_number (map shown items) name ≡ length items
  number_missing items none = grind (arith, none_by, place_le, place_shown, nat_tests)
