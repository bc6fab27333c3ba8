-- A place with a marked block that isn't in the grey list doesn't enter it before the next cycle.
use Rattle.std.proofs.Common.{◌≡◌, ◌≢◌, ℕ, ◌==◌, Bool, true, if◌then◌else◌, List, [], ◌∷◌, get_or, None, refl, sym, ap, ◌∙◌, arith}
use Rattle.std.proofs.lemmas.Bool.{false≢true}
use Rattle.std.specs.List.{AllByRecursion}
use Rattle.mh_model.specs.{declared.cycle.Phase.Phase, declared.cycle.Phase.TheVariants.{Idle, Roots, Mark}}
use Rattle.mh_model.specs.Collector.{Collector, marking_of, with_marking, mark_first, after_mark, step_in, phase_after, collector_step}
use Rattle.mh_model.specs.{Mutator.{HeapState, in_roots_or_mark, mutator_step}, CycleBounds.{IsGreySound, IsUnderway}}
use Rattle.mh_model.specs.Limits.{root_slots}
use Rattle.mh_laws.specs.Deeds.{Deed, Step, Perform, with_step, heap_after}
use Rattle.mh_run_laws.specs.GreyRoom.{StaysOut, NoPlaceTurnsGreyAgain}
use Rattle.mh_table_laws.specs.Marking.{IsSettled}
use Rattle.mh_laws.proofs.commands.LeftUnchanged.{mutator_step-course}
use Rattle.mh_laws.proofs.bounds.CommandsKeepBounds.{with_shade-carries, mutator_step-carried}
use Rattle.mh_laws.proofs.{bounds.CycleBounds.carried-leaves, bounds.StepsOfACycle.{step-under, deeds-took}}
use Rattle.mh_laws.proofs.bounds.CyclesInTime.{cycle_start-fresh, half-stays}
use Rattle.mh_table_laws.proofs.marking.GreyList.{mark_first-pays, cycle-mark_first}

-- in the roots and in marking this place is settled
abbrev StaysSettled : ℕ → Collector → Type 0
StaysSettled place collector = in_roots_or_mark collector.phase ≡ true → IsSettled (marking_of collector) place

after_mark-settled : (place : ℕ) (collector : Collector) (grey : List ℕ) → IsSettled (marking_of collector) place → IsSettled (marking_of (after_mark collector grey)) place
after_mark-settled place collector grey s = grind arith

step-settled : (place : ℕ) (phase : Phase) (collector : Collector) → collector.phase ≡ phase → IsGreySound (marking_of collector) → StaysSettled place collector → StaysSettled place (phase_after phase (step_in phase collector))
step-settled place Idle collector is sound s = s
step-settled place Roots collector is sound s = go (new.cursor == root_slots)
  where
    new : Collector
    new = step_in Roots collector

    settled : IsSettled (marking_of new) place
    settled = let t = (with_shade-carries collector (get_or collector.slots collector.cursor None) sound).settled place (s (ap in_roots_or_mark is)) in record { marked = t.marked; apart = t.apart }

    go : (last : Bool) → StaysSettled place (if last then after_mark new new.grey else new)
    go last = grind (arith, after_mark-settled, settled)
step-settled place Mark collector is sound s = λ inside. go collector.grey refl
  where
    go : (grey : List ℕ) → collector.grey ≡ grey → IsSettled (marking_of (after_mark (with_marking collector (mark_first (marking_of collector) grey)) (mark_first (marking_of collector) grey).grey)) place
    go [] e = grind arith
    go (first ∷ grey) e = grind (arith, cycle-mark_first (marking_of collector) (first ∷ grey), mark_first-pays (marking_of collector) first grey e sound)
step-settled place phase collector is sound s = grind (arith, false≢true)

collector_step-settled : (place : ℕ) (collector : Collector) → IsGreySound (marking_of collector) → StaysSettled place collector → StaysSettled place (collector_step collector)
unfolding collector_step
collector_step-settled place collector sound s = step-settled place collector.phase collector refl sound s

stays_out : (place : ℕ) (collector : Collector) → IsUnderway collector → StaysSettled place collector → AllByRecursion (λ other. other ≢ place) collector.grey
stays_out place collector under s = grind arith

deeds-settled : (place : ℕ) (deeds : List Deed) (heap : HeapState) → IsUnderway heap.collector → StaysSettled place heap.collector → AllByRecursion (λ other. other ≢ place) (heap_after heap deeds).collector.grey
deeds-settled place [] heap under s = stays_out place heap.collector under s
deeds-settled place (Step ∷ deeds) heap under s = deeds-settled place deeds (with_step heap) (step-under heap.collector under) (collector_step-settled place heap.collector under.sound s)
deeds-settled place (Perform who command ∷ deeds) heap under s =
    let new : HeapState = (mutator_step heap who command).state in
    let course = mutator_step-course heap who command in
    let carried = mutator_step-carried heap who command under.sound in
    let leaves = carried-leaves heap.collector new.collector course carried under in
    deeds-settled place deeds new leaves.under (λ inside. (carried.carries).settled place (s (ap in_roots_or_mark (sym course.phase) ∙ inside)))

after-settled : (heap : HeapState) → IsUnderway heap.collector → StaysOut heap
after-settled heap under = grind (arith, deeds-settled, deeds-took)

-- In a cycle no place turns grey again
pub no_place_again : NoPlaceTurnsGreyAgain
no_place_again = record {
  from_moments = λ config events event. after-settled _ ((half-stays config events event).bounds).under;
  from_starts = λ config events event. after-settled _ (cycle_start-fresh config _ (half-stays config events event).bounds).under;
}
