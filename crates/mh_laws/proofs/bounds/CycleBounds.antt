-- A cycle within its bounds: what commands and quanta leave of it, at every moment of a run.
use Rattle.std.specs.{Prelude.◌-◌, List.sum_by}
use Rattle.std.proofs.Common.{◌≡◌, ℕ, zero, suc, ◌+◌, ◌-◌, ◌*◌, ◌<◌, ◌≤◌, Bool, true, false, ◌||◌, nat_lt, inl, inr, List, [], ◌∷◌, length, get_or, Option, Some, None, refl, ◌∙◌, arith}
use Rattle.std.proofs.{Math.Nat.mul-suc, lemmas.Bool.{cases_Bool, ltb-true, true≢false, or_parts}}
use Rattle.std.proofs.lemmas.List.Sums.{sum_by-cons}
use Rattle.mh_model.specs.{declared.config.Config.Config, declared.cycle.Phase.Phase}
use Rattle.mh_model.specs.{Pages.{Page, Table, page_at, block_in}, Table.Block}
use Rattle.mh_model.specs.Collector.{Collector, Spending, Move, with_move, after_mark, cost_in, step_cost, is_moving_in, is_moving, step_in, phase_after, collector_step, is_idle, steps, quantum}
use Rattle.mh_model.specs.CycleBounds.{IsRoomyPage, IsRoomy, class_at, slot_weight, page_weight, table_weight, in_steps, in_units, size_at, steps_left, units_left, IsUnderway}
use Rattle.mh_model.specs.Limits.{least_quantum, root_slots}
use Rattle.mh_laws.proofs.costs.Quanta.{steps-stop, steps-go, step_cost-positive, step_cost-bounded}
use Rattle.mh_laws.proofs.{bounds.CommandsKeepBounds.Carried, bounds.WorkLeft.collector_step-paid}
use Rattle.mh_laws.proofs.costs.QuantumStarts.{begins}
use Rattle.mh_laws.specs.Commands.{IsOnCourse}
use Rattle.mh_table_laws.proofs.tables.BlockRoom.{few_slots, roomy-sized}

-- Commands ---------------------------------------------------------------------------------------

-- what is left after a command is no more than before it
pub record LeavesNoMore (old new : Collector) : Type 0 where
  pub under : IsUnderway new
  pub steps : steps_left new.phase new ≤ steps_left old.phase old
  pub units : units_left new.phase new ≤ units_left old.phase old

words-kept : (old new : Table Block) (number slot : ℕ) → ((size : ℕ) → class_at old number ≡ Some size → class_at new number ≡ Some size) → 256 - size_at new number * slot ≤ 256 - size_at old number * slot
words-kept old new number slot kept = grind arith

module _ (old new : Collector) {made : ℕ} (course : IsOnCourse made old new) (carried : Carried old new) (under : IsUnderway old) where
  pub carried-leaves : LeavesNoMore old new
  carried-leaves = grind arith

-- Steps ------------------------------------------------------------------------------------------

-- what a quantum may still be charged for slots
abbrev pub charge : Bool → ℕ
charge true = 0
charge false = root_slots

charged : (phase : Phase) (collector : Collector) (has_moved : Bool) → cost_in phase collector has_moved + charge (has_moved || is_moving_in phase collector) ≡ cost_in phase collector true + charge has_moved
charged other collector has_moved = grind arith

pub step-charged : (collector : Collector) (has_moved : Bool) → step_cost collector has_moved + charge (has_moved || is_moving collector) ≡ cost_in collector.phase collector true + charge has_moved
unfolding step_cost
step-charged collector has_moved = charged collector.phase collector has_moved

-- what steps leave of a cycle
pub record Spends (has_moved : Bool) (left : ℕ) (old : Collector) (after : Spending) : Type 0 where
  pub under : IsUnderway after.collector
  pub steps_paid : steps_left after.collector.phase after.collector ≤ steps_left old.phase old
  pub units_paid : units_left after.collector.phase after.collector + after.units ≤ units_left old.phase old + charge has_moved
  pub rest : is_idle after.collector.phase ≡ false → left ≤ after.units + (least_quantum - 1)

nothing_spent : (has_moved : Bool) (left : ℕ) (collector : Collector) → IsUnderway collector → (is_idle collector.phase ≡ false → left ≤ least_quantum - 1) → Spends has_moved left collector (record { units = 0; collector = collector })
nothing_spent has_moved left collector under small = grind arith

stopped_small : (collector : Collector) (has_moved : Bool) (left : ℕ) → IsUnderway collector → (is_idle collector.phase || nat_lt left (step_cost collector has_moved)) ≡ true → is_idle collector.phase ≡ false → left ≤ least_quantum - 1
stopped_small collector has_moved left under stops runs = grind (arith, cases_Bool, ltb-true, step_cost-bounded, roomy-sized, true≢false)

pub steps-spend : (more left : ℕ) (has_moved : Bool) (collector : Collector) → left ≤ more → IsUnderway collector → Spends has_moved left collector (steps more left has_moved collector)
unfolding steps
steps-spend zero left has_moved collector enough under = nothing_spent has_moved left collector under (λ runs. omega arith)
steps-spend (suc more) left has_moved collector enough under = elim (cases_Bool (is_idle collector.phase || nat_lt left (step_cost collector has_moved))) [
  | inl stops ↦ rw (steps-stop more left has_moved collector stops) (nothing_spent has_moved left collector under (stopped_small collector has_moved left under stops))
  | inr goes ↦
      let (runs, long) = or_parts (is_idle collector.phase) (nat_lt left (step_cost collector has_moved)) goes in
      let positive = step_cost-positive collector has_moved runs in
      let paid = collector_step-paid collector under runs in
      let rest = steps-spend more (left - step_cost collector has_moved) (has_moved || is_moving collector) (collector_step collector) (omega arith) paid.under in
      grind (arith, steps-go, step-charged)
]

-- A quantum of at least 209 units takes a step of a cycle that runs
pub steps-some : (quantum : ℕ) (has_moved : Bool) (collector : Collector) → least_quantum ≤ quantum → IsUnderway collector → is_idle collector.phase ≡ false
    → steps_left (steps quantum quantum has_moved collector).collector.phase (steps quantum quantum has_moved collector).collector + 1 ≤ steps_left collector.phase collector
unfolding steps
steps-some zero has_moved collector enough under runs = absurd (omega arith)
steps-some (suc more) has_moved collector enough under runs = grind (arith, cases_Bool, inl, stopped_small, under, inr, step_cost-positive, collector_step-paid, steps-spend, steps-go)

-- The count of quanta ----------------------------------------------------------------------------

-- the cycle's number stays, and its count of quanta, which is 0 if the cycle has ended
pub record KeepsCount (old new : Collector) : Type 0 where
  pub cycle : new.cycle ≡ old.cycle
  pub running : is_idle new.phase ≡ false → new.quanta ≡ old.quanta
  pub ended : is_idle new.phase ≡ true → new.quanta ≡ 0

running-count : (old new : Collector) → new.cycle ≡ old.cycle → new.quanta ≡ old.quanta → is_idle new.phase ≡ false → KeepsCount old new
running-count old new cycle quanta runs = grind arith

after_mark-count : (old new : Collector) (grey : List ℕ) → new.cycle ≡ old.cycle → new.quanta ≡ old.quanta → KeepsCount old (after_mark new grey)
after_mark-count old new grey cycle quanta = grind arith

with_move-count : (collector : Collector) (move : Option Move) → ((with_move collector move).cycle ≡ collector.cycle) × ((with_move collector move).quanta ≡ collector.quanta)
with_move-count collector move = grind arith

step-count : (phase : Phase) (collector : Collector) → collector.phase ≡ phase → is_idle phase ≡ false → KeepsCount collector (phase_after phase (step_in phase collector))
step-count phase collector is runs = search (arith, true≢false, after_mark-count, running-count, with_move-count)

collector_step-count : (collector : Collector) → is_idle collector.phase ≡ false → KeepsCount collector (collector_step collector)
unfolding collector_step
collector_step-count collector runs = step-count collector.phase collector refl runs

then_count : (first second third : Collector) → is_idle first.phase ≡ false → KeepsCount first second → (is_idle third.phase ≡ false → is_idle second.phase ≡ false) → KeepsCount second third → KeepsCount first third
then_count first second third runs one back two = grind arith

-- what steps leave of the count, and a cycle that runs after them ran before
pub steps-count : (more left : ℕ) (has_moved : Bool) (collector : Collector) → (is_idle collector.phase ≡ true → collector.quanta ≡ 0)
    → KeepsCount collector (steps more left has_moved collector).collector × (is_idle (steps more left has_moved collector).collector.phase ≡ false → is_idle collector.phase ≡ false)
unfolding steps
steps-count zero left has_moved collector none = (record { cycle = refl; running = λ r. refl; ended = none }, λ r. r)
steps-count (suc more) left has_moved collector none = elim (cases_Bool (is_idle collector.phase || nat_lt left (step_cost collector has_moved))) [
  | inl stops ↦ rw (steps-stop more left has_moved collector stops) (record { cycle = refl; running = λ r. refl; ended = none }, λ r. r)
  | inr goes ↦
      let (runs, long) = or_parts (is_idle collector.phase) (nat_lt left (step_cost collector has_moved)) goes in
      let one = collector_step-count collector runs in
      let rest = steps-count more (left - step_cost collector has_moved) (has_moved || is_moving collector) (collector_step collector) one.ended in
      rw (steps-go more left has_moved collector goes) (then_count collector (collector_step collector) _ runs one rest.1 rest.0, λ r. runs)
]

-- steps leave the cycle's number
pub steps-number : (more left : ℕ) (has_moved : Bool) (collector : Collector) → (steps more left has_moved collector).collector.cycle ≡ collector.cycle
unfolding steps
steps-number zero left has_moved collector = refl
steps-number (suc more) left has_moved collector = elim (cases_Bool (is_idle collector.phase || nat_lt left (step_cost collector has_moved))) [
  | inl stops ↦ rw (steps-stop more left has_moved collector stops) refl
  | inr goes ↦
      let (runs, long) = or_parts (is_idle collector.phase) (nat_lt left (step_cost collector has_moved)) goes in
      let rest = steps-number more (left - step_cost collector has_moved) (has_moved || is_moving collector) (collector_step collector) in
      rw (steps-go more left has_moved collector goes) (rest ∙ (collector_step-count collector runs).cycle)
]

-- and a quantum raises it if it starts a cycle
pub quantum-number : (config : Config) (collector : Collector) → (collector.cycle ≤ (quantum config collector).collector.cycle) × ((quantum config collector).collector.cycle ≤ collector.cycle + 1)
unfolding quantum
quantum-number config collector = grind (arith, steps-number, begins)

-- The start of a cycle ---------------------------------------------------------------------------

sum-bounded : {X : Type 0} (f : Option X → ℕ) (most : ℕ) (xs : List (Option X)) → ((index : ℕ) → index < length xs → f (get_or xs index None) ≤ most) → sum_by f xs ≤ most * length xs
sum-bounded f most [] small = omega arith
sum-bounded f most (x ∷ xs) small =
    omega (arith, sum_by-cons f x xs, small 0 (omega arith), mul-suc most (length xs), sum-bounded f most xs (λ index inside. small (suc index) (omega arith)))

slot_weight-bounded : (price : ℕ → ℕ) (cycle : ℕ) (block : Option Block) (most : ℕ) → ((b : Block) → block ≡ Some b → price (length b.references) ≤ most) → slot_weight price cycle block ≤ most
slot_weight-bounded price cycle block most small = grind arith

pub page-in_steps : (cycle : ℕ) (page : Page Block) → IsRoomyPage page → page_weight in_steps cycle (Some page) ≤ 64
page-in_steps cycle page roomy = omega (arith, few_slots page roomy, sum-bounded (slot_weight in_steps cycle) 1 page.slots (λ slot inside. slot_weight-bounded in_steps cycle (block_in slot page) 1 (λ b e. omega arith)))

pub page-in_units : (cycle : ℕ) (page : Page Block) → IsRoomyPage page → page_weight in_units cycle (Some page) ≤ 256
page-in_units cycle page roomy = grind (arith, sum-bounded, slot_weight-bounded)

pub table-bounded : (price : ℕ → ℕ) (cycle most : ℕ) (table : Table Block) → ((page : Page Block) → IsRoomyPage page → page_weight price cycle (Some page) ≤ most) → IsRoomy table → table_weight price cycle table ≤ most * length table
table-bounded price cycle most table small roomy = sum-bounded (page_weight price cycle) most table (λ number inside. go (page_at table number) (roomy.pages number))
  where
    go : (content : Option (Page Block)) → ((page : Page Block) → content ≡ Some page → IsRoomyPage page) → page_weight price cycle content ≤ most
    go None all = omega arith
    go (Some page) all = small page (all page refl)
