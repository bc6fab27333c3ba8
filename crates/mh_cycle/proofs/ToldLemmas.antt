-- Deeds added step by step, and the quantum that the steps make up.
use Rattle.std.proofs.Common.{◌≡◌, ℕ, ◌+◌, ◌/◌, ◌<◌, ◌≤◌, ◌==◌, ◌≢◌, Bool, true, false, nat_lt, if◌then◌else◌, List, [], ◌∷◌, ◌++◌, length, Option, None, get_or, refl, sym, ap, ◌∙◌, arith}
use Rattle.mh_model.specs.{declared.config.Config.Config, declared.cycle.Phase.TheVariants.{Roots, Sweep, Defrag}}
use Rattle.mh_model.specs.{Pages.{Table, page_number, page_at}, Table.{Block, target_of}}
use Rattle.mh_model.specs.Collector.{Collector, after_mark, next_place, roots_step, sweep_step, swept_table, with_phase, is_idle, cycle_start, with_count, is_start_due, collector_step, quantum_start}
use Rattle.mh_model.specs.{Deeds.{root_deed, deeds_of_steps, start_deeds, quantum_deeds}, Limits.root_slots}
use Rattle.mh_model.specs.declared.deed.Deed.{Deed}
use Rattle.mh_cycle.specs.State.{CycleState, state_with_collector}
use Rattle.mh_cycle.proofs.StepLemmas.{step-is, sweep-past, sweep-stays}

-- Roots --------------------------------------------------------------------------------------------

-- the grey list after a step of the roots
pub roots-grey : (c : Collector) → c.phase ≡ Roots → (collector_step c).grey ≡ (roots_step c).grey
roots-grey c phase = ap (λ r. r.grey) (step-is c Roots phase) ∙ same (roots_step c) ((roots_step c).cursor == root_slots)
  where
    marked : (r : Collector) (grey : List ℕ) → (after_mark r grey).grey ≡ r.grey
    marked r [] = refl
    marked r (place ∷ grey) = refl

    same : (r : Collector) (last : Bool) → (if last then after_mark r r.grey else r).grey ≡ r.grey
    same r true = marked r r.grey
    same r false = refl

-- the deed of that step, by what was found
pub root-is : (c : Collector) (reference target : Option ℕ) (before after : ℕ) → c.phase ≡ Roots → reference ≡ get_or c.slots c.cursor None → target ≡ target_of c.table reference → before ≡ length c.grey → after ≡ length (collector_step c).grey
    → Deed.Root c.cursor (record { reference = reference; target = target; is_shaded = nat_lt before after }) ≡ root_deed c
root-is c reference target before after phase found leads was is = rw (is, was, leads, found, roots-grey c phase) refl

-- Sweep --------------------------------------------------------------------------------------------

sweep-as : (c : Collector) (table : Table Block) (cursor : ℕ) → table ≡ swept_table c.cycle c.table c.cursor → cursor ≡ next_place c.cursor (page_at c.table (page_number c.cursor)) → record c { table = table; cursor = cursor } ≡ sweep_step c
sweep-as c table cursor a b = rw (a, b) refl

pub sweep-ends : (c : Collector) (table : Table Block) (cursor : ℕ) → c.phase ≡ Sweep → table ≡ swept_table c.cycle c.table c.cursor → cursor ≡ next_place c.cursor (page_at c.table (page_number c.cursor))
    → length table ≤ cursor / 64 → with_phase (record c { table = table; cursor = cursor }) Defrag 0 ≡ collector_step c
sweep-ends c table cursor phase a b past = grind (arith, sweep-as, sweep-past)

pub sweep-goes : (c : Collector) (table : Table Block) (cursor : ℕ) → c.phase ≡ Sweep → table ≡ swept_table c.cycle c.table c.cursor → cursor ≡ next_place c.cursor (page_at c.table (page_number c.cursor))
    → cursor / 64 < length table → record c { table = table; cursor = cursor } ≡ collector_step c
sweep-goes c table cursor phase a b inside = grind (arith, sweep-as, sweep-stays)

-- The start ----------------------------------------------------------------------------------------

cycle-begun : (c : Collector) (due : Bool) → (with_count (if due then cycle_start c else c)).cycle ≡ (if due then c.cycle + 1 else c.cycle)
cycle-begun c true = refl
cycle-begun c false = same (is_idle c.phase)
  where
    same : (idle : Bool) → (if idle then c else record c { quanta = c.quanta + 1 }).cycle ≡ c.cycle
    same true = refl
    same false = refl

-- the cycle's number tells whether one starts
pub start-told : (config : Config) (c : Collector) (before after : ℕ) → before ≡ c.cycle → after ≡ (quantum_start config c).cycle → after ≢ before → start_deeds config c ≡ (Deed.Start after ∷ []) ++ (Deed.Enter Roots ∷ [])
start-told config c before after was is other = go (is_start_due config c) (is ∙ cycle-begun c (is_start_due config c))
  where
    go : (due : Bool) → after ≡ (if due then c.cycle + 1 else c.cycle) → (if due then Deed.Start (c.cycle + 1) ∷ Deed.Enter Roots ∷ [] else []) ≡ (Deed.Start after ∷ []) ++ (Deed.Enter Roots ∷ [])
    go true e = ap (λ n. Deed.Start n ∷ Deed.Enter Roots ∷ []) (sym e)
    go false e = absurd (other (e ∙ sym was))

pub start-quiet : (config : Config) (c : Collector) (before after : ℕ) → before ≡ c.cycle → after ≡ (quantum_start config c).cycle → after ≡ before → start_deeds config c ≡ []
start-quiet config c before after was is same = go (is_start_due config c) (is ∙ cycle-begun c (is_start_due config c))
  where
    go : (due : Bool) → after ≡ (if due then c.cycle + 1 else c.cycle) → (if due then Deed.Start (c.cycle + 1) ∷ Deed.Enter Roots ∷ [] else []) ≡ []
    go true e = absurd (omega arith)
    go false e = refl

-- The quantum --------------------------------------------------------------------------------------

pub quantum-deeds : (old begun : CycleState) (most : ℕ) → most ≡ old.config.quantum → begun ≡ state_with_collector old (quantum_start old.config old.collector) → quantum_deeds old.config old.collector ≡ start_deeds old.config old.collector ++ deeds_of_steps most most false begun.collector
unfolding quantum_deeds
quantum-deeds old begun most limit start = rw (limit, start) refl
