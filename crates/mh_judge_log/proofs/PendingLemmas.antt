-- Commands that are left in slots, and the first of a session that is taken of them.
use Rattle.std.proofs.Common.{◌≡◌, ◌∙◌, ◌↔◌, ℕ, zero, suc, ◌<◌, ◌≤◌, Bool, true, false, not, IsTrue, Option, Some, None, IfSome, is_some, option_map, List, [], ◌∷◌, ◌++◌, length, get_or, set, ap, sym, refl, arith}
use Rattle.std.proofs.{lemmas.Bool.false≢true, lemmas.List.get_or_default}
use Rattle.std.specs.List.{list_all}
use Rattle.mh_judge_log.specs.{declared.timed.Timed.Timed, Auxiliary.{has_of, left_in}, Logs.{Taken, is_of, take_first}}

pub left_push : (slots : List (Option Timed)) (timed : Timed) → left_in (slots ++ Some timed ∷ []) ≡ left_in slots ++ timed ∷ []
left_push [] timed = refl
left_push (None ∷ slots) timed = left_push slots timed
left_push (Some first ∷ slots) timed = ap (λ (left : List Timed). first ∷ left) (left_push slots timed)

-- a session has none in the first so many slots
abbrev pub HasNoneBefore : ℕ → ℕ → List (Option Timed) → Type 0
HasNoneBefore who n slots = (k : ℕ) → k < n → has_of who (get_or slots k None) ≡ false

rest_none : (who n : ℕ) (slot : Option Timed) (slots : List (Option Timed)) → HasNoneBefore who (suc n) (slot ∷ slots) → HasNoneBefore who n slots
rest_none who n slot slots none k below = none (suc k) (omega (arith, below))

passed : (who : ℕ) (timed : Timed) (left : List Timed) (found : Option Taken) → is_of who timed ≡ false → take_first who left ≡ found
    → take_first who (timed ∷ left) ≡ option_map (λ taken. record { command = taken.command; others = timed ∷ taken.others }) found
passed who timed left found other is = rw (other, is) refl

pub first_taken : (who : ℕ) (slots : List (Option Timed)) (place : ℕ) (timed : Timed) → HasNoneBefore who place slots → has_of who (get_or slots place None) ≡ true → get_or slots place None ≡ Some timed
    → take_first who (left_in slots) ≡ Some (record { command = timed; others = left_in (set slots place None) })
first_taken who [] place timed none has is = cc
first_taken who (None ∷ slots) zero timed none has is = cc
first_taken who (Some first ∷ slots) zero timed none has is =
    let same : first ≡ timed = cc in
    rw has (ap (λ (t : Timed). Some (record { command = t; others = left_in slots })) same)
first_taken who (None ∷ slots) (suc place) timed none has is = first_taken who slots place timed (rest_none who place None slots none) has is
first_taken who (Some first ∷ slots) (suc place) timed none has is =
    passed who first (left_in slots) _ (none 0 (omega arith)) (first_taken who slots place timed (rest_none who place (Some first) slots none) has is)

pub none_left : (who : ℕ) (slots : List (Option Timed)) → HasNoneBefore who (length slots) slots → take_first who (left_in slots) ≡ None
none_left who [] none = refl
none_left who (None ∷ slots) none = none_left who slots (rest_none who (length slots) None slots none)
none_left who (Some first ∷ slots) none = passed who first (left_in slots) None (none 0 (omega arith)) (none_left who slots (rest_none who (length slots) (Some first) slots none))

pub taken_at : (who : ℕ) (seen slots : List (Option Timed)) (place : ℕ) (slot found after : Option Timed) → seen ≡ slots → HasNoneBefore who place seen → (place < length seen → has_of who (get_or seen place None) ≡ true)
    → slot ≡ get_or slots place slot → place < length slots → found ≡ slot → after ≡ None
    → IfSome found (λ timed. take_first who (left_in slots) ≡ Some (record { command = timed; others = left_in (set slots place after) }))
taken_at who seen slots place slot None after same before has is within value none = tt
taken_at who seen slots place slot (Some timed) after same before has is within value none =
    let none_before : HasNoneBefore who place slots = rw same at before in
    let own : has_of who (get_or slots place None) ≡ true = (rw same at has) within in
    let stands : get_or slots place None ≡ Some timed = get_or_default slots place None slot within ∙ (sym is ∙ sym value) in
    rw none (first_taken who slots place timed none_before own stands)

pub none_taken : (who : ℕ) (seen slots : List (Option Timed)) (place : ℕ) → seen ≡ slots → HasNoneBefore who place seen → length slots ≤ place → take_first who (left_in slots) ≡ None
none_taken who seen slots place same before past = none_left who slots (λ k within. rw (← same) (before k (omega (arith, within, past))))

pub all_empty : (slots : List (Option Timed)) (empty : Bool) → empty ≡ list_all (λ slot. not (is_some slot)) slots → IsTrue empty ↔ (left_in slots ≡ [])
all_empty [] empty is = (λ _. refl, λ _. is)
all_empty (None ∷ slots) empty is = all_empty slots empty is
all_empty (Some timed ∷ slots) empty is = (λ holds. absurd (false≢true (sym is ∙ holds)), λ none. cc)
