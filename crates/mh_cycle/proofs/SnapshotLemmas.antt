-- What barriers and a start keep for each snapshot.
use Rattle.std.proofs.{Common.{arith, ◌≡◌, ℕ, ◌<◌, true, length, get_or, Option, Some, None}, lemmas.Option.same_Some}
use Rattle.mh_model.specs.{Pages.block_at, Table.{Block, resolve, reference_at, references_at, LeadsHome, forward_at}}
use Rattle.mh_model.specs.{Collector.{Collector, with_shade, quantum}, Mutator.{in_roots, in_roots_or_mark}}
use Rattle.mh_model.specs.{Snapshot.IsKept, Invariant.IsSteady}
use Rattle.mh_laws.specs.{Barriers.BarriersKeepTheSnapshot, Snapshots.{ShadingKeepsTheSnapshot, CyclesStartFromTheView}}
use Rattle.mh_laws.specs.Fields.{ReferencesLeadOn}
use Rattle.mh_laws.proofs.{marking.BlockChanges.roots_mark, snapshots.CycleSteps.snapshot-counted}
use Rattle.mh_cycle.specs.{State.CycleState, Snapshots.{KeepsEach, KeepsEachBehind, StartsFromTheView}}
use Rattle.mh_cycle.proofs.ReadyLemmas.{reference-home}

-- what keeps each snapshot leaves a steady collector
pub kept-steady : (old new : Collector) → KeepsEach old new → IsSteady old → IsSteady new
kept-steady old new kept (snapshot, n, keeps) = (snapshot, n, kept snapshot n keeps)

pub asked-kept : (c : Collector) → KeepsEach c (record c { is_asked = true })
asked-kept c snapshot n keeps = snapshot-counted snapshot n c true c.quanta keeps

pub root-kept : ShadingKeepsTheSnapshot → (c : Collector) (slot : ℕ) → in_roots c.phase ≡ true → KeepsEach c (with_shade c (get_or c.slots slot None))
root-kept law c slot roots snapshot n keeps = law snapshot n c (roots_mark c.phase roots) slot keeps

-- a reference that leads home leads to no forwarder
no-forwarder : (c : Collector) (reference : Option ℕ) → LeadsHome c.table reference → (place : ℕ) (block : Block) → reference ≡ Some place → block_at c.table (resolve c.table place) ≡ Some block → block.forward ≡ None
no-forwarder c None home place block is at = cc
no-forwarder c (Some found) home place block is at = grind (arith, same_Some)

pub field-kept : ReferencesLeadOn → BarriersKeepTheSnapshot → (c : Collector) (place index : ℕ) → index < length (references_at c.table place) → forward_at c.table place ≡ None → IsSteady c → in_roots_or_mark c.phase ≡ true
    → KeepsEachBehind place c (with_shade c (reference_at c.table place index))
field-kept leads law c place index there original steady marks snapshot n kept keeps =
    law snapshot n c (reference_at c.table place index) marks (λ p block is at. (no-forwarder c (reference_at c.table place index) (reference-home leads c steady place index marks there original) p block is at, target p block is at)) keeps
  where
    target : (p : ℕ) (block : Block) → reference_at c.table place index ≡ Some p → block_at c.table (resolve c.table p) ≡ Some block → IsKept snapshot n block.birth
    target p block is at = grind arith

-- a cycle that starts
pub starts-from : CyclesStartFromTheView → (old : CycleState) → StartsFromTheView old (quantum old.config old.collector).collector
starts-from law old heap config collector idle due sound = grind arith
