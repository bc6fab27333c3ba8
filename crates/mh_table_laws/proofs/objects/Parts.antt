-- The parts of an object of any size: which are its middle spines and its arraylets, and which parts are the children of which.
-- Each part but the first is the child of one before it.
use Rattle.std.proofs.Common.{◌≡◌, ℕ, zero, suc, ◌+◌, ◌-◌, ◌*◌, ◌/◌, ◌%◌, ◌<◌, ◌≤◌, nat_le, nat_lt, if◌then◌else◌, Bool, true, false, ◌⊎◌, inl, inr, List, [], ◌∷◌, ◌++◌, length, slice_get, Some, None, IsSome, find, option_and_then, refl, sym, ap, ◌∙◌, arith}
use Rattle.std.proofs.lemmas.Bool.{cases_Bool, eqb-true, leb-true, leb-false, ltb-true, ltb-false}
use Rattle.std.proofs.{lemmas.Option.{none-some, same_Some, slice_get_within}, lemmas.List.length-append}
use Rattle.mh_model.specs.declared.shape.Shape.{Shape}
use Rattle.mh_model.specs.Classes.{Part, class_of, part_words, tabulate, plain_part, middle_spine, arraylet, run_count, middle_count, child_count, spine_parts, parts}
use Rattle.mh_model.specs.{declared.config.Rules.Rules, World.most_fields_under, Invariant.first_child}
use Rattle.mh_table_laws.specs.Auxiliary.{PartsFitTogether}
use Rattle.mh_model.proofs.TabulateLemmas.{length-tabulate}

-- Lists ------------------------------------------------------------------------------------------

pub tabulated : (f : ℕ → Part) (count first i : ℕ) (part : Part) → slice_get (tabulate f first count) i ≡ Some part → (part ≡ f (first + i)) × (i < count)
tabulated f (suc count) first (suc i) part e = grind (arith, tabulated f count (suc first) i part e)
tabulated f count first i part e = grind (arith, none-some)

pub slice-tabulate : (f : ℕ → Part) (first count i : ℕ) → i < count → slice_get (tabulate f first count) i ≡ Some (f (first + i))
slice-tabulate f first (suc count) (suc i) below = let k : suc first + i ≡ first + suc i = omega arith in slice-tabulate f (suc first) count i (omega (arith, below)) ∙ ap (λ j. Some (f j)) k
slice-tabulate f first count i below = grind arith

pub slice-left : {X : Type 0} (xs ys : List X) (i : ℕ) → i < length xs → slice_get (xs ++ ys) i ≡ slice_get xs i
slice-left (x ∷ xs) ys (suc i) below = slice-left xs ys i (omega (arith, below))
slice-left xs ys i below = grind arith

pub slice-right : {X : Type 0} (xs ys : List X) (i j : ℕ) → i ≡ length xs + j → slice_get (xs ++ ys) i ≡ slice_get ys j
slice-right (x ∷ xs) ys (suc i) j e = slice-right xs ys i j (omega (arith, e))
slice-right xs ys i j e = grind arith

pub slice_there : {X : Type 0} (xs : List X) (i : ℕ) → i < length xs → (x : X) × (slice_get xs i ≡ Some x)
slice_there [] i below = absurd (omega arith)
slice_there (x ∷ xs) zero below = (x, refl)
slice_there (x ∷ xs) (suc i) below = slice_there xs i (omega arith)

-- Counts -----------------------------------------------------------------------------------------

-- without middle spines, or with them
pub record HasCounts (fields : ℕ) : Type 0 where
  pub case : ((fields ≤ 3600) × (middle_count fields ≡ 0) × (child_count fields ≡ run_count fields)) ⊎ ((3600 < fields) × (middle_count fields ≡ run_count (run_count fields)) × (child_count fields ≡ run_count (run_count fields)))

pub counts : (fields : ℕ) → HasCounts fields
counts fields = grind arith

-- Parts ------------------------------------------------------------------------------------------

-- the first part has the object's shape in its header, and its fields itself, or so many children
pub record IsFirst (r n : ℕ) (part : Part) : Type 0 where
  pub header : part.header ≡ record { references = r; numbers = n }
  pub plain : r + n ≤ 60 → (part.references ≡ r) × (part.numbers ≡ n) × (part.children ≡ None)
  pub spine : 60 < r + n → (part.references ≡ child_count (r + n)) × (part.children ≡ Some 1) × (part.numbers ≡ 0)

abbrev parts_if : ℕ → ℕ → Bool → List Part
parts_if r n few = if few then plain_part r n ∷ [] else spine_parts r n

pub first_part : (r n : ℕ) (part : Part) → slice_get (parts r n) 0 ≡ Some part → IsFirst r n part
first_part r n part e = grind arith

-- a part after the first is a middle spine or an arraylet of an object of many fields
pub record IsLater (r n i : ℕ) (part : Part) : Type 0 where
  pub many : 60 < r + n
  pub case : ((i < middle_count (r + n)) × (part ≡ middle_spine (r + n) i)) ⊎ ((j : ℕ) × (i ≡ middle_count (r + n) + j) × (j < run_count (r + n)) × (part ≡ arraylet r n j))

pub later_part : (r n i : ℕ) (part : Part) → slice_get (parts r n) (suc i) ≡ Some part → IsLater r n i part
later_part r n i part e = go (nat_le (r + n) 60) refl e
  where
    middles : List Part
    middles = tabulate (middle_spine (r + n)) 0 (middle_count (r + n))

    arraylets : List Part
    arraylets = tabulate (arraylet r n) 0 (run_count (r + n))

    size : length middles ≡ middle_count (r + n)
    size = length-tabulate (middle_spine (r + n)) 0 (middle_count (r + n))

    go : (b : Bool) → nat_le (r + n) 60 ≡ b → slice_get (parts_if r n b) (suc i) ≡ Some part → IsLater r n i part
    go true is h = absurd (none-some part h)
    go false is h = record {
      many = omega (arith, leb-false (r + n) 60 is);
      case = elim (cases_Bool (nat_lt i (middle_count (r + n)))) [
        | inl below ↦
            let inside : i < middle_count (r + n) = ltb-true i (middle_count (r + n)) below in
            let (same, less) = tabulated (middle_spine (r + n)) (middle_count (r + n)) 0 i part (sym (slice-left middles arraylets i (omega (arith, inside, size))) ∙ h) in
            inl (inside, same ∙ ap (middle_spine (r + n)) (omega arith))
        | inr past ↦
            let after : middle_count (r + n) ≤ i = ltb-false i (middle_count (r + n)) past in
            let (same, less) = tabulated (arraylet r n) (run_count (r + n)) 0 (i - middle_count (r + n)) part (sym (slice-right middles arraylets i (i - middle_count (r + n)) (omega (arith, after, size))) ∙ h) in
            inr (i - middle_count (r + n), omega (arith, after), less, same ∙ ap (arraylet r n) (omega arith))
      ];
    }

-- how many parts an object of many fields has
pub length-parts : (r n : ℕ) → 60 < r + n → length (parts r n) ≡ 1 + middle_count (r + n) + run_count (r + n)
length-parts r n many = grind (arith, nat_le, leb-true, length-append, length-tabulate)

-- and of few fields
pub length-one : (r n : ℕ) → r + n ≤ 60 → length (parts r n) ≡ 1
length-one r n few = grind arith

-- there is a first part
pub some_parts : (r n : ℕ) → 0 < length (parts r n)
some_parts r n = grind arith

pub middle_at : (r n i : ℕ) → 60 < r + n → i < middle_count (r + n) → slice_get (parts r n) (suc i) ≡ Some (middle_spine (r + n) i)
middle_at r n i many below = grind (arith, nat_le, leb-true, length-tabulate, slice-left, slice-tabulate)

-- Children ---------------------------------------------------------------------------------------

-- the children of a part come after it, and are parts of the object
pub children_inside : (r n i : ℕ) (part : Part) (child : ℕ) → slice_get (parts r n) i ≡ Some part → part.children ≡ Some child → (i < child) × (child + part.references ≤ length (parts r n))
children_inside r n zero part child e is = grind (arith, cases_Bool, nat_le, none-some, first_part, leb-true, leb-false, same_Some, length-parts, counts)
children_inside r n (suc i) part child e is = grind (arith, later_part, length-parts, none-some, same_Some, counts)

-- each part but the first is a child of a part before it
pub record IsChild (r n number : ℕ) : Type 0 where
  pub parent : ℕ
  pub part : Part
  pub at : slice_get (parts r n) parent ≡ Some part
  pub before : parent < number
  pub child : ℕ
  pub children : part.children ≡ Some child
  pub index : ℕ
  pub inside : index < part.references
  pub number_is : child + index ≡ number

pub parent_of : (r n i : ℕ) → suc i < length (parts r n) → IsChild r n (suc i)
parent_of r n i below = grind (arith, cases_Bool, nat_le, length-one, leb-true, of_many, leb-false)
  where
    of_first : 60 < r + n → i < child_count (r + n) → IsChild r n (suc i)
    of_first many inside =
        let (part, at) = slice_there (parts r n) 0 (omega (arith, some_parts r n)) in
        let (size, one, none) = (first_part r n part at).spine many in
        record { parent = 0; part = part; at = at; before = omega arith; child = 1; children = one; index = i; inside = omega (arith, inside, size); number_is = omega arith }

    of_many : 60 < r + n → IsChild r n (suc i)
    of_many many =
        let all = length-parts r n many in
        elim (counts (r + n)).case [
          | inl k ↦ let (small, none, runs) = k in of_first many (omega (arith, below, all, none, runs))
          | inr k ↦
              let (large, some, runs) = k in
              elim (cases_Bool (nat_lt i (middle_count (r + n)))) [
                | inl middle ↦ of_first many (omega (arith, ltb-true i (middle_count (r + n)) middle, some, runs))
                | inr after ↦
                    let within : (i - middle_count (r + n)) / 60 < middle_count (r + n) = omega (arith, some) in
                    record {
                      parent = suc ((i - middle_count (r + n)) / 60);
                      part = middle_spine (r + n) ((i - middle_count (r + n)) / 60);
                      at = middle_at r n ((i - middle_count (r + n)) / 60) many within;
                      before = omega (arith, within, ltb-false);
                      child = 1 + middle_count (r + n) + 60 * ((i - middle_count (r + n)) / 60);
                      children = refl;
                      index = (i - middle_count (r + n)) % 60;
                      inside = omega arith;
                      number_is = omega (arith, ltb-false);
                    }
              ]
        ]

-- the first child of a part that is known
pub child_is : (shape : Shape) (index : ℕ) (part : Part) → slice_get (parts shape.references shape.numbers) index ≡ Some part → first_child shape index ≡ part.children
child_is shape index part e = ap (option_and_then (λ (p : Part). p.children)) e

-- Classes ----------------------------------------------------------------------------------------

find_has : (test : ℕ → Bool) (xs : List ℕ) (i x : ℕ) → slice_get xs i ≡ Some x → test x ≡ true → IsSome (find test xs)
find_has test [] i x e passes = absurd (none-some x e)
find_has test (y ∷ xs) i x e passes = go (test y) refl i e (λ j f. find_has test xs j x f passes)
  where
    go : (b : Bool) → test y ≡ b → (i : ℕ) → slice_get (y ∷ xs) i ≡ Some x → ((j : ℕ) → slice_get xs j ≡ Some x → IsSome (find test xs)) → IsSome (if b then Some y else find test xs)
    go b is i e more = grind arith

-- up to 64 words have a class
pub class_of-some : (words : ℕ) → 0 < words → words ≤ 64 → IsSome (class_of words)
class_of-some words some few = grind (arith, nat_le, eqb-true, find_has, leb-false)

-- a part of an object that isn't too large has at most 60 fields and references of its own
few_words : (r n i : ℕ) (part : Part) → r + n ≤ 216000 → slice_get (parts r n) i ≡ Some part → part.references + part.numbers ≤ 60
few_words r n i part most e = grind (arith, cases_Bool, nat_le, first_part, leb-true, leb-false, counts, later_part)

-- within the limits, there are no more parts than this
pub parts-few : (r n : ℕ) → r + n ≤ 216000 → length (parts r n) ≤ 3661
parts-few r n most = grind (arith, cases_Bool, nat_le, length-one, leb-true, length-parts, leb-false, counts)

-- and each has no more fields in its header than the object
header_fields : (r n i : ℕ) (part : Part) → slice_get (parts r n) i ≡ Some part → part.header.references + part.header.numbers ≤ r + n
header_fields r n i part e = grind (arith, first_part, later_part)

pub small_parts : (r n i : ℕ) (part : Part) → r + n ≤ 216000 → slice_get (parts r n) i ≡ Some part → (part.header.references + part.header.numbers ≤ r + n) × (0 + i < 3661)
small_parts r n i part most e = grind (arith, header_fields, parts-few, slice_get_within)

-- an object whose first part has few words isn't too large
pub few_fields : (r n : ℕ) (part : Part) → slice_get (parts r n) 0 ≡ Some part → part_words part ≤ 64 → r + n ≤ 216000
few_fields r n part e words = grind arith

most_fields-few : (rules : Rules) → most_fields_under rules ≤ 216000
most_fields-few rules = grind arith

-- The parts of an object fit together, and each has a class if the object isn't too large
pub parts_fit : PartsFitTogether
parts_fit = record {
  header = λ r n part e. (first_part r n part e).header;
  children = children_inside;
  parents = λ r n i below. let k = parent_of r n i below in (k.parent, k.part, k.child, k.index, k.at, k.children, k.before, k.inside, k.number_is);
  classes = λ rules r n i part most e. class_of-some (part_words part) (omega arith) (omega (arith, few_words r n i part (omega (arith, most, most_fields-few rules)) e));
  limits = λ rules r n i part most e. omega (arith, header_fields r n i part e, most);
  few = λ rules r n most. parts-few r n (omega (arith, most, most_fields-few rules));
  most = most_fields-few;
}
