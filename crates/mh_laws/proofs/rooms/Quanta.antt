-- What a quantum does: it takes no free page, and starts no cycle, ends one, or counts one more.
use Rattle.std.proofs.Common.{◌≡◌, ◌⊎◌, inl, inr, ℕ, zero, suc, ◌+◌, ◌-◌, ◌<◌, ◌≤◌, nat_le, nat_lt, Bool, true, false, ◌||◌, Option, Some, None, option_map, ◌∷◌, set, refl, sym, ap, ◌∙◌, subst, arith}
use Rattle.std.proofs.{lemmas.Bool.{cases_Bool, or_parts, leb-false, true≢false}, lemmas.List.set-get_or}
use Rattle.mh_model.specs.{declared.config.Config.Config, declared.cycle.Phase.Phase}
use Rattle.mh_model.specs.Pages.{Table, page_number, slot_number, page_at, free_pages, page_with, with_block, HaveTheirSlots}
use Rattle.mh_model.specs.Table.{Block}
use Rattle.mh_model.specs.Collector.{Collector, swept_table, Move, next_move, with_move, step_in, collector_step, step_cost, is_moving, is_idle, cycle_start, steps, quantum}
use Rattle.mh_model.specs.CycleBounds.{IsInBounds}
use Rattle.mh_table_laws.proofs.{Lists.below_length, placing.Places.{shaped-slots, least_dense_place-page}}
use Rattle.mh_laws.proofs.bounds.CycleBounds.{steps-count}
use Rattle.mh_laws.proofs.commands.LeftUnchanged.{collector_step-keeps, table-phase_after}
use Rattle.mh_laws.proofs.{costs.Quanta.{steps-stop, steps-go}, costs.QuantumStarts.{begins, quantum-rests}}
use Rattle.mh_laws.proofs.{moving.NextMove.next_move-is, rooms.Rooms.{if_free, free_pages-set, taken-in_use}}
use Rattle.mh_laws.proofs.rooms.KeptRoom.{with_shade-room, mark_first-room}

-- Free pages -------------------------------------------------------------------------------------

free-with_block : (table : Table Block) (place : ℕ) (content : Option Block) → free_pages (with_block table place content) ≡ free_pages table
free-with_block table place content = go table (page_number place)
  where
    go : (pages : Table Block) (number : ℕ) → free_pages (set pages number (option_map (page_with (slot_number place) content) (page_at pages number))) ≡ free_pages pages
    go (None ∷ pages) (suc number) = ap suc (go pages number)
    go (Some page ∷ pages) (suc number) = go pages number
    go pages number = refl

-- the sweep takes no free page
free-swept : (cycle : ℕ) (table : Table Block) (place : ℕ) → free_pages table ≤ free_pages (swept_table cycle table place)
free-swept cycle table place = grind (arith, set-get_or, free_pages-set, below_length, if_free)

-- nor does a move, which goes into a page in use
free-move : (collector : Collector) → HaveTheirSlots collector.table → (move : Option Move) → next_move collector.table collector.cursor ≡ move → free_pages (with_move collector move).table ≡ free_pages collector.table
free-move collector slots None is = refl
free-move collector slots (Some move) is =
    let (page, at, of_class, unflagged, empty) = least_dense_place-page collector.table move.class_size (shaped-slots collector.table slots) move.target (next_move-is collector.table collector.cursor move is).target in
    grind (arith, free-with_block, taken-in_use)

free-step_in : (phase : Phase) (collector : Collector) → HaveTheirSlots collector.table → free_pages collector.table ≤ free_pages (step_in phase collector).table
free-step_in phase collector slots = grind (arith, with_shade-room, mark_first-room, free-swept, free-move)

free-step : (collector : Collector) → HaveTheirSlots collector.table → free_pages collector.table ≤ free_pages (collector_step collector).table
unfolding collector_step
free-step collector slots = rw (table-phase_after collector.phase (step_in collector.phase collector)) (free-step_in collector.phase collector slots)

free-steps : (more left : ℕ) (has_moved : Bool) (collector : Collector) → HaveTheirSlots collector.table → free_pages collector.table ≤ free_pages (steps more left has_moved collector).collector.table
unfolding steps
free-steps zero left has_moved collector slots = omega arith
free-steps (suc more) left has_moved collector slots = elim (cases_Bool (is_idle collector.phase || nat_lt left (step_cost collector has_moved))) [
  | inl stops ↦ rw (steps-stop more left has_moved collector stops) (omega arith)
  | inr goes ↦
      let next : Collector = collector_step collector in
      let rest = free-steps more (left - step_cost collector has_moved) (has_moved || is_moving collector) next ((collector_step-keeps 0 collector).slots slots) in
      rw (steps-go more left has_moved collector goes) (omega (arith, free-step collector slots, rest))
]

-- Quanta -----------------------------------------------------------------------------------------

-- no cycle runs and none was due, or a cycle has ended, or one runs and has had a quantum more
pub record IsAfter (config : Config) (old new : Collector) : Type 0 where
  pub free : free_pages old.table ≤ free_pages new.table
  pub case : ((config.trigger < free_pages old.table) × (is_idle new.phase ≡ true) × (new.quanta ≡ 0)) ⊎ (((is_idle new.phase ≡ true) × ((is_idle old.phase ≡ false) ⊎ (old.cycle < new.cycle))) ⊎ ((is_idle new.phase ≡ false) × (new.quanta ≡ old.quanta + 1)))

-- steps of a cycle that runs as a quantum begins
started-after : (config : Config) (old new : Collector) → HaveTheirSlots old.table → new.table ≡ old.table → is_idle new.phase ≡ false → new.quanta ≡ old.quanta + 1 → ((is_idle old.phase ≡ false) ⊎ (old.cycle < new.cycle))
    → IsAfter config old (steps config.quantum config.quantum false new).collector
started-after config old new slots table runs quanta cycle =
    let after : Collector = (steps config.quantum config.quantum false new).collector in
    let (count, back) = steps-count config.quantum config.quantum false new (λ idle. absurd (true≢false (sym idle ∙ runs))) in
    record {
      free = omega (arith, ap free_pages table, free-steps config.quantum config.quantum false new (subst HaveTheirSlots (sym table) slots));
      case = grind (arith, cases_Bool);
    }

not-due : (asked low : Bool) → (asked || low) ≡ false → low ≡ false
not-due asked low e = (or_parts asked low e).1

pub quantum-after : (config : Config) (old : Collector) → IsInBounds config old → HaveTheirSlots old.table → IsAfter config old (quantum config old).collector
unfolding quantum
quantum-after config old bounds slots = elim (begins config old).case [
  | inl (due, idle, starts) ↦ subst (λ c. IsAfter config old (steps config.quantum config.quantum false c).collector) (sym starts)
      (started-after config old (record (cycle_start old) { quanta = 1 }) slots refl refl (omega (arith, bounds.idle (ap is_idle idle))) (inr (omega arith)))
  | inr other ↦ elim other [
    | inl (runs, starts) ↦ subst (λ c. IsAfter config old (steps config.quantum config.quantum false c).collector) (sym starts) (started-after config old (record old { quanta = old.quanta + 1 }) slots refl runs refl (inl runs))
    | inr (rests, idle, starts) ↦ grind (arith, nat_le, not-due, quantum-rests, leb-false)
  ]
]
