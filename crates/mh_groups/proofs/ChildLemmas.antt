-- The parts of an object: which have children, and if these stand.
use Rattle.std.proofs.Common.{◌≡◌, ℕ, zero, suc, ◌+◌, ◌-◌, ◌*◌, ◌<◌, ◌≤◌, ◌⊎◌, nat_le, nat_lt, inl, inr, List, length, slice_get, Some, None, refl, sym, ◌∙◌, subst, arith}
use Rattle.std.proofs.lemmas.Bool.{cases_Bool, leb-true, leb-false, ltb-true, ltb-false}
use Rattle.std.proofs.lemmas.Option.{none-some, same_Some, slice_get_within}
use Rattle.mh_model.specs.Classes.{Part, parts, run_count, middle_count}
use Rattle.mh_table_laws.proofs.objects.Parts.{counts, length-parts, middle_at}
use Rattle.mh_classes.proofs.PartLemmas.{small_at, first_at, arraylet_at}
use Rattle.mh_classes.specs.Fits.{AreParts}
use Rattle.mh_groups.specs.Auxiliary.{HaveTheirChildren}

-- a part is a spine whose children are among the parts, or it has no children and stands after every spine
pub record HasChildren (r n index : ℕ) (part : Part) : Type 0 where
  pub case : ((child : ℕ) × (part.children ≡ Some child) × (child + part.references ≤ length (parts r n)) × (60 < r + n) × (index ≤ middle_count (r + n))) ⊎ ((part.children ≡ None) × ((60 < r + n) → middle_count (r + n) < index))

spine : (r n index : ℕ) (part spine : Part) (child : ℕ) → slice_get (parts r n) index ≡ Some part → slice_get (parts r n) index ≡ Some spine → spine.children ≡ Some child → child + spine.references ≤ length (parts r n) → 60 < r + n → index ≤ middle_count (r + n) → HasChildren r n index part
spine r n index part other child at is children within many before =
    subst (HasChildren r n index) (same_Some other part (sym is ∙ at)) (record { case = inl (child, children, within, many, before) })

childless : (r n index : ℕ) (part other : Part) → slice_get (parts r n) index ≡ Some part → slice_get (parts r n) index ≡ Some other → other.children ≡ None → ((60 < r + n) → middle_count (r + n) < index) → HasChildren r n index part
childless r n index part other at is none after = subst (HasChildren r n index) (same_Some other part (sym is ∙ at)) (record { case = inr (none, after) })

part_at : (r n index : ℕ) (part : Part) → slice_get (parts r n) index ≡ Some part → HasChildren r n index part
part_at r n index part at = elim (cases_Bool (nat_le (r + n) 60)) [
  | inl few ↦ let small : r + n ≤ 60 = leb-true (r + n) 60 few in childless r n index part _ at (small_at r n index small (slice_get_within (parts r n) index part at)) refl (λ many. absurd (omega arith))
  | inr past ↦ large index at (omega (arith, leb-false (r + n) 60 past))
]
  where
    large : (i : ℕ) → slice_get (parts r n) i ≡ Some part → 60 < r + n → HasChildren r n i part
    large zero e many = grind (arith, length-parts, spine, first_at, counts, inl, inr)
    large (suc i) e many = elim (cases_Bool (nat_lt i (middle_count (r + n)))) [
      | inl below ↦
          let inside : i < middle_count (r + n) = ltb-true i (middle_count (r + n)) below in
          let all = length-parts r n many in
          spine r n (suc i) part _ (1 + middle_count (r + n) + 60 * i) e (middle_at r n i many inside) refl
          (elim (counts (r + n)).case [ inl k ↦ let (small, none, runs) = k in absurd (omega (arith, inside, none)) | inr k ↦ let (large, some, runs) = k in omega (arith, all, some, inside) ]) many (omega arith)
      | inr past ↦
          let after : middle_count (r + n) ≤ i = ltb-false i (middle_count (r + n)) past in
          let run : i - middle_count (r + n) < run_count (r + n) = omega (arith, slice_get_within (parts r n) (suc i) part e, length-parts r n many) in
          childless r n (suc i) part _ e (arraylet_at r n (suc i) (i - middle_count (r + n)) many run (omega arith)) refl (λ _. omega arith)
    ]

pub parts-have_children : (r n : ℕ) → HaveTheirChildren (parts r n)
parts-have_children r n = record { within = within; last = last }
  where
    within : (index : ℕ) (part : Part) (child : ℕ) → slice_get (parts r n) index ≡ Some part → part.children ≡ Some child → child + part.references ≤ length (parts r n)
    within index part child at is = grind (arith, part_at, inl, same_Some, inr, none-some)

    last : (index later : ℕ) (part other : Part) → index ≤ later → slice_get (parts r n) index ≡ Some part → part.children ≡ None → slice_get (parts r n) later ≡ Some other → other.children ≡ None
    last index later part other before at none at' = grind (arith, part_at, inr, inl, none-some)

pub have_children : (list : List Part) → AreParts list → HaveTheirChildren list
have_children list are = subst HaveTheirChildren (sym are.3) (parts-have_children are.0 are.1)

-- an only part has no children
pub only_part : (list : List Part) (part : Part) → AreParts list → length list ≡ 1 → slice_get list 0 ≡ Some part → part.children ≡ None
only_part list part are one at = grind (arith, part_at, inr, inl, length-parts)
