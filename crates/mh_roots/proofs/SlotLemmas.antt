-- Slots that lead straight to where they led, so many of them so far.
use Rattle.std.proofs.Common.{◌≡◌, ℕ, zero, suc, ◌+◌, ◌<◌, IsSome, Option, Some, None, List, [], ◌∷◌, ◌++◌, get_or, set, map, take, drop, length, sym, ap, ◌∙◌, refl, subst}
use Rattle.std.proofs.{lemmas.List.get_or_default, lemmas.List.Edits.map_over_more}
use Rattle.mh_model.specs.{Pages.{Table, Leads, block_at}, Table.{Block, target_of}}
use Rattle.mh_roots.specs.Roots.{SlotsLead}

-- the slots, of which those before one have been forwarded
abbrev pub forwarded_so_far : Table Block → List (Option ℕ) → ℕ → List (Option ℕ)
forwarded_so_far table slots i = map (target_of table) (take i slots) ++ drop i slots

length-is : (f : Option ℕ → Option ℕ) (xs : List (Option ℕ)) (i : ℕ) → length (map f (take i xs) ++ drop i xs) ≡ length xs
length-is f [] zero = refl
length-is f [] (suc i) = refl
length-is f (x ∷ xs) zero = refl
length-is f (x ∷ xs) (suc i) = ap suc (length-is f xs i)

rest-is : (f : Option ℕ → Option ℕ) (xs : List (Option ℕ)) (i : ℕ) → get_or (map f (take i xs) ++ drop i xs) i None ≡ get_or xs i None
rest-is f [] zero = refl
rest-is f [] (suc i) = refl
rest-is f (x ∷ xs) zero = refl
rest-is f (x ∷ xs) (suc i) = rest-is f xs i

within : (table : Table Block) (xs ys : List (Option ℕ)) (i : ℕ) → i < length xs → ys ≡ forwarded_so_far table xs i → i < length ys
within table xs ys i below h = subst (λ n. i < n) (sym (length-is (target_of table) xs i) ∙ sym (ap length h)) below

-- a slot that isn't forwarded yet holds what it held, whatever is read past the last
pub slot-leads : (table : Table Block) (xs ys : List (Option ℕ)) (i place : ℕ) (d : Option ℕ) → SlotsLead table xs → i < length xs → ys ≡ forwarded_so_far table xs i → get_or ys i d ≡ Some place → IsSome (block_at table place)
slot-leads table xs ys i place d lead below h is =
    subst (Leads table) (sym (rest-is (target_of table) xs i) ∙ (ap (λ zs. get_or zs i None) (sym h) ∙ (get_or_default ys i None d (within table xs ys i below h) ∙ is))) (lead i)

pub slot-forwarded : (table : Table Block) (xs ys : List (Option ℕ)) (i : ℕ) (d v : Option ℕ) → i < length xs → ys ≡ forwarded_so_far table xs i → get_or ys i d ≡ v → set ys i (target_of table v) ≡ forwarded_so_far table xs (i + 1)
slot-forwarded table xs ys i d v below h is = map_over_more (target_of table) xs ys i v below h (sym (get_or_default ys i v d (within table xs ys i below h) ∙ is))

pub slot-empty : (table : Table Block) (xs ys : List (Option ℕ)) (i : ℕ) (d : Option ℕ) → i < length xs → ys ≡ forwarded_so_far table xs i → get_or ys i d ≡ None → set ys i (get_or ys i d) ≡ forwarded_so_far table xs (i + 1)
slot-empty table xs ys i d below h is = ap (set ys i) is ∙ slot-forwarded table xs ys i d None below h is
