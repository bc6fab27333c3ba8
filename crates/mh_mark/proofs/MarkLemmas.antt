-- The references of a block marked through, one after the other.
use Rattle.std.proofs.Common.{◌≡◌, ℕ, suc, ◌+◌, ◌<◌, ◌≤◌, length, get_or, set, drop, None, IsSome, refl, sym, ap, ◌∙◌, subst, arith}
use Rattle.std.proofs.lemmas.List.{get_or-set_other, length-set, drop_more}
use Rattle.mh_model.specs.Pages.{block_at}
use Rattle.mh_model.specs.Table.{target_of, references_at, reference_at, with_reference_at, LeadsOn, LeadsHome}
use Rattle.mh_model.specs.Collector.{Marking, shade, mark_reference, mark_references}
use Rattle.mh_grey.specs.Shading.{marking, AreMarked}
use Rattle.mh_grey.proofs.StampLemmas.{IsLike, like-trans, like-reference, home-like, IsShaded, shaded}
use Rattle.mh_mark.specs.Walkable.{LeadHome}
use Rattle.mh_mark.proofs.ReferenceLemmas.{home-leads, at_home-leads, target-at_home, references_written, marked-written}

-- marking through the references of a block, as far as an index
pub record IsMarkingOn (start : Marking) (place : ℕ) (m : Marking) (index : ℕ) : Type 0 where
  pub same : mark_references m place index (drop index (references_at start.table place)) ≡ mark_references start place 0 (references_at start.table place)
  pub cycle : m.cycle ≡ start.cycle
  pub there : IsSome (block_at m.table place)
  pub long : length (references_at m.table place) ≡ length (references_at start.table place)
  pub rest : (i : ℕ) → index ≤ i → reference_at m.table place i ≡ reference_at start.table place i
  pub lead : (i : ℕ) → index ≤ i → i < length (references_at start.table place) → LeadsHome m.table (reference_at m.table place i)
  pub marked : AreMarked m.table m.cycle m.grey
  pub pages : length m.table ≡ length start.table

pub marking-starts : (start : Marking) (place : ℕ) → IsSome (block_at start.table place) → LeadHome start.table place → AreMarked start.table start.cycle start.grey → IsMarkingOn start place start 0
marking-starts start place there lead marked = record { same = refl; cycle = refl; there = there; long = refl; rest = λ i h. refl; lead = λ i h below. lead i below; marked = marked; pages = refl }

-- a reference written and shaded
pub marking-goes : (start : Marking) (place : ℕ) (m : Marking) (index : ℕ) → IsMarkingOn start place m index → index < length (references_at start.table place)
    → IsMarkingOn start place (mark_reference m place index (reference_at m.table place index)) (index + 1)
marking-goes start place m index on below =
    let reference = reference_at m.table place index in
    let target = target_of m.table reference in
    let written = with_reference_at m.table place index target in
    let between : Marking = record m { table = written } in
    let like : IsLike m.table written = like-reference m.table place index target in
    let home : LeadsHome m.table reference = on.lead index (omega arith) below in
    let leads : LeadsOn written target = home-leads written target (home-like m.table written target like (at_home-leads m.table target (target-at_home m.table reference home))) in
    let after : IsShaded between (shade between target) = shaded between target leads in
    let whole : IsLike m.table (shade between target).table = like-trans m.table written (shade between target).table like after.like in
    let fields : references_at (shade between target).table place ≡ set (references_at m.table place) index target = after.references place ∙ references_written m.table place index target on.there in
    let next : index + 1 ≡ suc index = omega arith in
    let others : ((i : ℕ) → index + 1 ≤ i → reference_at (shade between target).table place i ≡ reference_at m.table place i) = λ i h. ap (λ rs. get_or rs i None) fields ∙ get_or-set_other (references_at m.table place) index i target None (λ e. later index i h e) in
    record {
      same =
          ap (λ i. mark_references (shade between target) place i (drop (index + 1) (references_at start.table place))) next
          ∙ ap (λ r. mark_references (mark_reference m place index r) place (suc index) (drop (index + 1) (references_at start.table place))) (on.rest index (omega arith))
          ∙ sym (ap (mark_references m place index) (drop_more (references_at start.table place) index None below))
          ∙ on.same;
      cycle = after.cycle ∙ on.cycle;
      there = whole.there place ∙ on.there;
      long = ap length fields ∙ length-set (references_at m.table place) index target ∙ on.long;
      rest = λ i h. others i h ∙ on.rest i (omega arith);
      lead = λ i h inside. subst (LeadsHome (shade between target).table) (sym (others i h)) (home-like m.table (shade between target).table (reference_at m.table place i) whole (on.lead i (omega arith) inside));
      marked = subst (λ n. AreMarked (shade between target).table n (shade between target).grey) (sym after.cycle) (after.marked (marked-written m.table place index target m.cycle m.grey on.marked));
      pages = whole.long ∙ on.pages;
    }
  where
    later : (index i : ℕ) → index + 1 ≤ i → i ≡ index → ⊥
    later index i h e = omega arith

pub marking-goes_on : (start : Marking) (place : ℕ) (m : Marking) (index : ℕ) → IsMarkingOn start place m index → index < length (references_at start.table place)
    → IsMarkingOn start place (marking (mark_reference m place index (reference_at m.table place index)).table (mark_reference m place index (reference_at m.table place index)).grey start.cycle) (index + 1)
marking-goes_on start place m index on below = grind (arith, marking-goes)
