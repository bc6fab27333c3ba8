-- The parts of an object: which part stands at which number, and what each is.
use Rattle.std.proofs.Common.{◌≡◌, ℕ, zero, suc, ◌+◌, ◌-◌, ◌<◌, ◌≤◌, nat_le, nat_lt, inl, inr, length, slice_get, Some, sym, ap, ◌∙◌, subst, arith}
use Rattle.std.proofs.lemmas.Bool.{cases_Bool, leb-true, leb-false, ltb-true, ltb-false}
use Rattle.std.proofs.lemmas.Option.{same_Some, slice_get_within}
use Rattle.mh_model.specs.Classes.{Part, tabulate, plain_part, spine_part, middle_spine, arraylet, run_count, middle_count, child_count, spine_parts, parts}
use Rattle.mh_model.proofs.TabulateLemmas.{length-tabulate}
use Rattle.mh_table_laws.proofs.objects.Parts.{slice-tabulate, slice-right, length-parts, middle_at}
use Rattle.mh_classes.specs.Auxiliary.{IsPart}

-- Parts by size --------------------------------------------------------------------------------

parts_large : (r n : ℕ) → 60 < r + n → parts r n ≡ spine_parts r n
parts_large r n many = grind arith

-- Parts by number --------------------------------------------------------------------------------

pub small_at : (r n i : ℕ) → r + n ≤ 60 → i < length (parts r n) → slice_get (parts r n) i ≡ Some (plain_part r n)
small_at r n i few inside = grind arith

pub first_at : (r n : ℕ) → 60 < r + n → slice_get (parts r n) 0 ≡ Some (spine_part (record { references = r; numbers = n }) (child_count (r + n)) 1)
first_at r n many = ap (λ ps. slice_get ps 0) (parts_large r n many)

pub arraylet_at : (r n i run : ℕ) → 60 < r + n → run < run_count (r + n) → i ≡ suc (middle_count (r + n) + run) → slice_get (parts r n) i ≡ Some (arraylet r n run)
arraylet_at r n i run many below is =
    let size = length-tabulate (middle_spine (r + n)) 0 (middle_count (r + n)) in
    ap (slice_get (parts r n)) is ∙ ap (λ ps. slice_get ps (suc (middle_count (r + n) + run))) (parts_large r n many)
    ∙ slice-right (tabulate (middle_spine (r + n)) 0 (middle_count (r + n))) (tabulate (arraylet r n) 0 (run_count (r + n))) (middle_count (r + n) + run) run (omega (arith, size))
    ∙ slice-tabulate (arraylet r n) 0 (run_count (r + n)) run below ∙ ap (λ j. Some (arraylet r n j)) (omega arith)

-- Headers ----------------------------------------------------------------------------------------

plain_is : (r n : ℕ) → r + n ≤ 60 → IsPart (plain_part r n)
plain_is r n few = grind arith

first_is : (r n : ℕ) → 60 < r + n → r + n ≤ 216000 → IsPart (spine_part (record { references = r; numbers = n }) (child_count (r + n)) 1)
first_is r n many most = grind arith

middle_is : (fields run : ℕ) → IsPart (middle_spine fields run)
middle_is fields run = grind arith

arraylet_is : (r n run : ℕ) → IsPart (arraylet r n run)
arraylet_is r n run = plain_is _ _ (omega arith)

-- so it is of each part of an object that isn't too large
pub part_is : (r n i : ℕ) (part : Part) → r + n ≤ 216000 → slice_get (parts r n) i ≡ Some part → IsPart part
part_is r n i part most e = grind (arith, cases_Bool, nat_le, known, small_at, leb-true, inside, plain_is, large, leb-false)
  where
    inside : i < length (parts r n)
    inside = slice_get_within (parts r n) i part e

    known : (other : Part) → slice_get (parts r n) i ≡ Some other → IsPart other → IsPart part
    known other at is = subst IsPart (same_Some other part (sym at ∙ e)) is

    large : (i : ℕ) → slice_get (parts r n) i ≡ Some part → 60 < r + n → IsPart part
    large zero at many = grind arith
    large (suc i) at many = elim (cases_Bool (nat_lt i (middle_count (r + n)))) [
      | inl below ↦ subst IsPart (same_Some _ part (sym (middle_at r n i many (ltb-true i (middle_count (r + n)) below)) ∙ at)) (middle_is (r + n) i)
      | inr past ↦
          let after : middle_count (r + n) ≤ i = ltb-false i (middle_count (r + n)) past in
          let all = length-parts r n many in
          let less : suc i < length (parts r n) = slice_get_within (parts r n) (suc i) part at in
          subst IsPart (same_Some _ part (sym (arraylet_at r n (suc i) (i - middle_count (r + n)) many (omega (arith, after, all, less)) (omega (arith, after))) ∙ at)) (arraylet_is r n (i - middle_count (r + n)))
    ]
