-- What the next step of a steady collector asks for.
use Rattle.std.proofs.Common.{◌≡◌, ℕ, ◌<◌, ◌==◌, inl, inr, true, List, [], ◌∷◌, length, Option, Some, None, option_map, option_and_then, unwrap_or, is_some, refl, sym, ap, ◌∙◌, subst, arith}
use Rattle.std.proofs.lemmas.Bool.{false≢true, eqb-true, or_cases}
use Rattle.mh_model.specs.{Pages.block_at, Table.{Block, references_at, reference_at, forward_at, LeadsOn, LeadsHome}}
use Rattle.mh_model.specs.{Collector.Collector, Mutator.in_roots_or_mark, Invariant.{IsIn, IsPlainAt, IsSteady}}
use Rattle.mh_laws.specs.Fields.{ReferencesLeadOn}
use Rattle.mh_laws.proofs.marking.BlockChanges.{not_sweep}
use Rattle.mh_grey.specs.{Queue.is_in, Shading.AreMarked}
use Rattle.mh_mark.specs.Walkable.{IsWalkable}

listed : (grey : List ℕ) (place : ℕ) → is_in place grey ≡ true → IsIn place grey
listed [] place is = absurd (false≢true is)
listed (first ∷ grey) place is = elim (or_cases (place == first) (is_in place grey) is) [ inl same ↦ inl (eqb-true place first same) | inr after ↦ inr (listed grey place after) ]

-- grey places have marked blocks
pub are-marked : ReferencesLeadOn → (c : Collector) → IsSteady c → AreMarked c.table c.cycle c.grey
are-marked law c steady place is =
    let (block, plain, stamp) = law.grey c steady place (listed c.grey place is) in
    ap (λ (o : Option Block). unwrap_or (option_map (λ b. b.stamp) o) 0) plain.there ∙ stamp

-- and blocks to mark through
pub walkable : ReferencesLeadOn → (c : Collector) → IsSteady c → IsWalkable c.table c.cycle c.grey
walkable law c steady = record {
  there = λ place is. let (block, plain, stamp) = law.grey c steady place (listed c.grey place is) in ap is_some plain.there;
  lead = λ place is index below. let (block, plain, stamp) = law.grey c steady place (listed c.grey place is) in (law.words c steady place block plain index).home;
  marked = are-marked law c steady;
}

-- While blocks are marked ---------------------------------------------------------------------------

-- a block with references that is no forwarder is plain
plain-at : (c : Collector) (place index : ℕ) → in_roots_or_mark c.phase ≡ true → index < length (references_at c.table place) → forward_at c.table place ≡ None → (block : Block) × IsPlainAt c place block
plain-at c place index marks there original = go (block_at c.table place) refl
  where
    go : (content : Option Block) → block_at c.table place ≡ content → (block : Block) × IsPlainAt c place block
    go None is = absurd (none (subst (λ (o : Option Block). index < length (unwrap_or (option_map (λ b. b.references) o) [])) is there))
      where
        none : index < 0 → ⊥
        none h = omega arith
    go (Some block) is = (block, record { there = is; original = sym (ap (option_and_then (λ (b : Block). b.forward)) is) ∙ original; surviving = λ s. absurd (not_sweep c.phase marks s) })

-- so its references lead to blocks that are no forwarders
pub reference-leads : ReferencesLeadOn → (c : Collector) → IsSteady c → (place index : ℕ) → in_roots_or_mark c.phase ≡ true → index < length (references_at c.table place) → forward_at c.table place ≡ None
    → LeadsOn c.table (reference_at c.table place index)
reference-leads law c steady place index marks there original = let (block, plain) = plain-at c place index marks there original in (law.words c steady place block plain index).on

pub reference-home : ReferencesLeadOn → (c : Collector) → IsSteady c → (place index : ℕ) → in_roots_or_mark c.phase ≡ true → index < length (references_at c.table place) → forward_at c.table place ≡ None
    → LeadsHome c.table (reference_at c.table place index)
reference-home law c steady place index marks there original = let (block, plain) = plain-at c place index marks there original in (law.words c steady place block plain index).home
