-- The place of a name among those seen.
use Rattle.std.proofs.Common.{◌≡◌, ℕ, zero, suc, ◌+◌, ◌<◌, ◌≤◌, ◌==◌, nat_lt, nat_le, nat_eq, ◌&&◌, ◌||◌, not, Bool, true, false, cond, Option, Some, None, is_none, List, [], ◌∷◌, ◌++◌, length, length-append, get_or, set, ap, subst, sym, refl, ◌∙◌, arith}
use Rattle.std.proofs.{lemmas.List.map-append, lemmas.Bool.Decides.nat_tests}
use Rattle.std.specs.{Prelude.{if◌then◌else◌, IfSome}, Cmp.Lexicographic.{pointwise, nat_list_eq_equiv}}
use Rattle.std.specs.{List.{list_all, list_any, position}, Borrow.Bor}
use Rattle.mh_model.specs.{Bytes.{Text, is_text, is_name}, Script.{session_number, with_name}}
use Rattle.mh_text.specs.{Names.names_shown, Auxiliary.{IsKnown, AreKnown}}
use Rattle.mh_text.proofs.NamePlaces.{place, place_le_by, place_shown, number_found, number_missing}
use Rattle.mh_model.proofs.TextLemmas.{text_is, text_itself}
use Rattle.indexmap.specs.IndexSet.{insert_key}

-- what a name shows
abbrev shown : Bor (List ℕ) → Text
shown seen = seen.now

pub place_found : (items : List (Bor (List ℕ))) (name : Text) (p : ℕ) → position (λ (seen : Bor (List ℕ)). is_text seen.now name) items ≡ Some p → session_number (names_shown items) name ≡ p
place_found items name = number_found shown name items

pub place_missing : (items : List (Bor (List ℕ))) (name : Text) → position (λ (seen : Bor (List ℕ)). is_text seen.now name) items ≡ None → session_number (names_shown items) name ≡ length items
place_missing items name = number_missing shown name items

length_shown : (items : List (Bor (List ℕ))) → length (names_shown items) ≡ length items
length_shown [] = refl
length_shown (x ∷ items) = rw (length_shown items) refl

with_name_by : (known full : Bool) (names : List Text) (name : Text) → nat_lt (session_number names name) (length names) ≡ known → nat_le 8 (length names) ≡ full → with_name names name ≡ (if known || full then names else names ++ name ∷ [])
with_name_by known full names name is past = rw (is, past) refl

some_below : (is : Bool) (n k p : ℕ) → nat_lt n k ≡ is → cond is (Some n) None ≡ Some p → n < k
some_below true n k p test found = grind (arith, nat_tests)
some_below false n k p test found = cc

pub known_name : (items : List (Bor (List ℕ))) (name : Text) (p : ℕ) → position (λ (seen : Bor (List ℕ)). is_text seen.now name) items ≡ Some p → with_name (names_shown items) name ≡ names_shown items
known_name items name p found = grind (arith, length_shown, place, place_shown, some_below, with_name_by, nat_tests)

pub added_name : (items : List (Bor (List ℕ))) (name : Bor (List ℕ)) → session_number (names_shown items) name.now ≡ length items → length items < 8 → with_name (names_shown items) name.now ≡ names_shown (items ++ name ∷ [])
added_name items name is room = grind (arith, length_shown, with_name_by, nat_tests, map-append)

-- Keys of a set ----------------------------------------------------------------------------------

same_text : (a b : Text) → pointwise nat_eq a b ≡ is_text a b
same_text [] [] = refl
same_text [] (y ∷ ys) = refl
same_text (x ∷ xs) [] = refl
same_text (x ∷ xs) (y ∷ ys) = ap (λ (same : Bool). (x == y) && same) (same_text xs ys)

same_key : (name seen : Text) → pointwise nat_eq name seen ≡ is_text seen name
same_key name seen = nat_list_eq_equiv.symm name seen ∙ same_text seen name

-- a set looks a name up by its bytes
pub looked_up : (items : List (Bor (List ℕ))) (name : Text)
    → position (λ (seen : Bor (List ℕ)). is_text seen.now name) items ≡ position (λ (seen : Bor (List ℕ)). pointwise nat_eq name seen.now) items
looked_up items name = λ j. position (λ (seen : Bor (List ℕ)). sym (same_key name seen.now) j) items

pub inserted_name : (items new : List (Bor (List ℕ))) (name : Bor (List ℕ)) → list_any (λ (seen : Bor (List ℕ)). pointwise nat_eq name.now seen.now) items ≡ false
    → new ≡ insert_key (λ (a b : Bor (List ℕ)). pointwise nat_eq a.now b.now) items name → position (λ (seen : Bor (List ℕ)). is_text seen.now name.now) items ≡ None → length items < 8
    → names_shown new ≡ with_name (names_shown items) name.now
inserted_name items new name absent is missing room = grind (arith, added_name, place_missing)

-- A name that was seen ---------------------------------------------------------------------------

number_le : (names : List Text) (name : Text) → session_number names name ≤ length names
number_le [] name = omega arith
number_le (x ∷ names) name =
    let next : cond (not (is_text x name)) (1 + session_number names name) 0 ≤ length names + 1 = place_le_by (is_text x name) (session_number names name) (length names) (number_le names name) in
    omega (arith, next)

number_after : (names : List Text) (name : Text) → session_number (names ++ name ∷ []) name ≡ session_number names name
number_after [] name = ap (λ (is : Bool). cond (not is) (1 + 0) 0) (text_itself name)
number_after (x ∷ names) name = ap (λ (n : ℕ). cond (not (is_text x name)) (1 + n) 0) (number_after names name)

-- it keeps its number, and is new no more
abbrev IsSettled : List Text → List Text → Text → Type 0
IsSettled names after name = (session_number after name ≡ session_number names name) × (with_name after name ≡ after)

settled_by : (known full : Bool) (names : List Text) (name : Text) → nat_lt (session_number names name) (length names) ≡ known → nat_le 8 (length names) ≡ full → IsSettled names (with_name names name) name
settled_by true full names name is past = grind (arith, with_name_by)
settled_by false true names name is past = grind (arith, with_name_by)
settled_by false false names name is past = grind (arith, with_name_by, number_after, number_le, length-append, nat_tests)

settled : (names : List Text) (name : Text) → IsSettled names (with_name names name) name
settled names name = settled_by (nat_lt (session_number names name) (length names)) (nat_le 8 (length names)) names name refl refl

pub settled_name : (names after : List Text) (name : Text) (who : ℕ) → who ≡ session_number names name → after ≡ with_name names name → is_name name ≡ true → IsKnown after name who
settled_name names after name who is same named = grind (arith, settled)

-- A name that is known stays so ------------------------------------------------------------------

prefix_by : (is : Bool) (n k count : ℕ) → (n < count → k ≡ n) → cond (not is) (1 + n) 0 < suc count → cond (not is) (1 + k) 0 ≡ cond (not is) (1 + n) 0
prefix_by true n k count same below = refl
prefix_by false n k count same below = ap (λ (m : ℕ). 1 + m) (same (omega arith))

number_prefix : (names more : List Text) (name : Text) → session_number names name < length names → session_number (names ++ more) name ≡ session_number names name
number_prefix [] more name below = absurd (omega arith)
number_prefix (x ∷ names) more name below = prefix_by (is_text x name) (session_number names name) (session_number (names ++ more) name) (length names) (number_prefix names more name) below

longer : (names : List Text) (name : Text) → names ++ name ∷ [] ≡ names → ⊥
longer names name same =
    let count : length (names ++ name ∷ []) ≡ length names + 1 = length-append names (name ∷ []) in
    grind arith

seen_by : (known : Bool) (names : List Text) (name : Text) → nat_lt (session_number names name) (length names) ≡ known → nat_le 8 (length names) ≡ false → with_name names name ≡ names → session_number names name < length names
seen_by true names name is past same = grind (arith, nat_tests)
seen_by false names name is past same = absurd (longer names name (sym (with_name_by false false names name is past) ∙ same))

known_by : (seen full : Bool) (names : List Text) (other name : Text) (who : ℕ) → nat_lt (session_number names other) (length names) ≡ seen → nat_le 8 (length names) ≡ full → IsKnown names name who → IsKnown (with_name names other) name who
known_by true full names other name who is past known = subst (λ (after : List Text). IsKnown after name who) (sym (with_name_by true full names other is past)) known
known_by false true names other name who is past known = subst (λ (after : List Text). IsKnown after name who) (sym (with_name_by false true names other is past)) known
known_by false false names other name who is past known = grind (arith, with_name_by, seen_by, number_prefix, length-append, nat_tests)

known_more : (names : List Text) (other : Text) (it : Option (Bor (List ℕ) × ℕ)) → IfSome it (λ numbered. IsKnown names numbered.0.now numbered.1) → IfSome it (λ numbered. IsKnown (with_name names other) numbered.0.now numbered.1)
known_more names other None known = tt
known_more names other (Some numbered) known = known_by _ _ names other numbered.0.now numbered.1 refl refl known

-- The table of names that were looked up ---------------------------------------------------------

pub none_known : (names : List Text) (table : List (Option (Bor (List ℕ) × ℕ))) → list_all is_none table ≡ true → AreKnown names table
none_known names [] all place = tt
none_known names (None ∷ table) all zero = tt
none_known names (None ∷ table) all (suc place) = none_known names table all place
none_known names (Some numbered ∷ table) all place = cc

pub all_known : (names after : List Text) (other : Text) (table : List (Option (Bor (List ℕ) × ℕ))) → after ≡ with_name names other → AreKnown names table → AreKnown after table
all_known names after other table same known = subst (λ (after : List Text). AreKnown after table) (sym same) (λ place. known_more names other (get_or table place None) (known place))

pub set_known : (names : List Text) (table : List (Option (Bor (List ℕ) × ℕ))) (place : ℕ) (name : Bor (List ℕ)) (who : ℕ) → AreKnown names table → IsKnown names name.now who → AreKnown names (set table place (Some (name, who)))
set_known names [] place name who known is at = known at
set_known names (it ∷ table) zero name who known is zero = is
set_known names (it ∷ table) zero name who known is (suc at) = known (suc at)
set_known names (it ∷ table) (suc place) name who known is zero = known zero
set_known names (it ∷ table) (suc place) name who known is (suc at) = set_known names table place name who (λ (at : ℕ). known (suc at)) is at

-- a name of the table is looked up again
pub again : (names : List Text) (it : Option (Bor (List ℕ) × ℕ)) (seen : Bor (List ℕ)) (who : ℕ) (name : Text) → IfSome it (λ numbered. IsKnown names numbered.0.now numbered.1) → it ≡ Some (seen, who) → is_text seen.now name ≡ true
    → (who ≡ session_number names name) × (names ≡ with_name names name)
again names it seen who name known is same =
    let text : seen.now ≡ name = text_is seen.now name same in
    grind arith
