-- When a defragmentation begins within a quantum no block is a forwarder, and each that its cycle leaves was made since.
-- The step that ends the sweep leaves none: the sweep leaves marked blocks alone, and until then no marked block is a forwarder.
-- A quantum that ends a cycle goes through that step, unless it was entered in the cycle's defragmentation.
use Rattle.std.proofs.Common.{◌≡◌, ◌⊎◌, ℕ, zero, suc, ◌-◌, nat_lt, ◌||◌, Bool, true, false, inl, inr, List, Option, Some, None, refl, sym, ap, ◌∙◌, subst, arith}
use Rattle.std.proofs.lemmas.Bool.{false≢true, cases_Bool}
use Rattle.mh_model.specs.{declared.config.Config.Config, declared.cycle.Phase.Phase}
use Rattle.mh_model.specs.{declared.cycle.Phase.TheVariants.{Sweep, Defrag}, Pages.block_at, Table.{Block, forward_at}}
use Rattle.mh_model.specs.Collector.{Collector, Move, Spending, with_move, sweep_step, after_mark, collector_step, step_cost, is_moving, is_idle, is_start_due, quantum_start, steps, quantum}
use Rattle.mh_model.specs.Invariant.{in_trace, KeepsSnapshot, IsSteady}
use Rattle.mh_laws.specs.Forwarders.{after_steps, BeginsToDefragment, IsMadeSince, MakesItsForwarders, QuantaMakeTheirForwarders}
use Rattle.mh_laws.proofs.{bounds.CycleBounds.steps-number, costs.Quanta.{steps-stop, steps-go}}
use Rattle.mh_laws.proofs.{costs.QuantumStarts.begins, sweeping.SweepSteps.snapshot-sweep_step}
use Rattle.mh_laws.proofs.{snapshots.CycleSteps.continues-collector_step, snapshots.SteadyStates.collectors-steady}

-- Steps ------------------------------------------------------------------------------------------

-- from marking and the sweep a step leads to defragmentation alone, and from the sweep
trace-step : (c : Collector) → in_trace c.phase ≡ true → in_trace (collector_step c).phase ≡ false → (c.phase ≡ Sweep) × ((collector_step c).phase ≡ Defrag)
unfolding collector_step
trace-step c trace ended = grind arith

cycle-after_mark : (c : Collector) (grey : List ℕ) → (after_mark c grey).cycle ≡ c.cycle
cycle-after_mark c grey = grind arith

cycle-with_move : (c : Collector) (move : Option Move) → (with_move c move).cycle ≡ c.cycle
cycle-with_move c move = grind arith

-- a step leaves the cycle's number
cycle-collector_step : (c : Collector) → (collector_step c).cycle ≡ c.cycle
unfolding collector_step
cycle-collector_step c = grind (arith, cycle-after_mark, cycle-with_move)

-- after the last step of the sweep no block is a forwarder: all that is left was marked, and so no forwarder
none-forwarded : (c : Collector) → IsSteady c → c.phase ≡ Sweep → (collector_step c).phase ≡ Defrag → (place : ℕ) → forward_at (collector_step c).table place ≡ None
unfolding collector_step
none-forwarded c (snapshot, n, h) sweeps defrags place = by_block (block_at swept.table place) refl
  where
    swept : Collector
    swept = sweep_step c

    kept : KeepsSnapshot snapshot n (collector_step c)
    kept = (continues-collector_step snapshot n c (ap is_idle sweeps) h).keeps

    kept_swept : KeepsSnapshot snapshot n swept
    kept_swept = snapshot-sweep_step snapshot n c sweeps h

    -- the phase that follows leaves the table
    same : (collector_step c).table ≡ swept.table
    same = grind arith

    original : (block : Block) → block_at swept.table place ≡ Some block → block.forward ≡ None
    original block at = grind (arith, kept, same, kept_swept, cycle-collector_step)

    by_block : (content : Option Block) → block_at swept.table place ≡ content → forward_at (collector_step c).table place ≡ None
    by_block content at = grind (arith, same, original)

-- Some steps -------------------------------------------------------------------------------------

-- steps after the first are those of the collector after it
steps-next : (count left : ℕ) (moved : Bool) (c : Collector) → (is_idle c.phase || nat_lt left (step_cost c moved)) ≡ false
    → (steps (suc count) left moved c).collector ≡ (steps count (left - step_cost c moved) (moved || is_moving c) (collector_step c)).collector
steps-next count left moved c goes = ap (λ (s : Spending). s.collector) (steps-go count left moved c goes)

steps-none : (count left : ℕ) (moved : Bool) (c : Collector) → (is_idle c.phase || nat_lt left (step_cost c moved)) ≡ true → (steps (suc count) left moved c).collector ≡ c
steps-none count left moved c stops = ap (λ (s : Spending). s.collector) (steps-stop count left moved c stops)

steps-zero : (left : ℕ) (moved : Bool) (c : Collector) → (steps 0 left moved c).collector ≡ c
unfolding steps
steps-zero left moved c = refl

steps-steady : (count left : ℕ) (moved : Bool) (c : Collector) → IsSteady c → IsSteady (steps count left moved c).collector
steps-steady zero left moved c steady = subst IsSteady (sym (steps-zero left moved c)) steady
steps-steady (suc count) left moved c steady = elim (cases_Bool (is_idle c.phase || nat_lt left (step_cost c moved))) [
  | inl stops ↦ subst IsSteady (sym (steps-none count left moved c stops)) steady
  | inr goes ↦ subst IsSteady (sym (steps-next count left moved c goes)) (steps-steady count (left - step_cost c moved) (moved || is_moving c) (collector_step c) (collectors-steady.steps c steady))
]

-- one step more is a step, or none
steps-more : (count left : ℕ) (moved : Bool) (c : Collector)
    → ((steps (suc count) left moved c).collector ≡ (steps count left moved c).collector) ⊎ ((steps (suc count) left moved c).collector ≡ collector_step (steps count left moved c).collector)
steps-more zero left moved c = grind (arith, cases_Bool, steps-none, steps-zero, steps-next)
steps-more (suc count) left moved c = elim (cases_Bool (is_idle c.phase || nat_lt left (step_cost c moved))) [
  | inl stops ↦ inl (steps-none (suc count) left moved c stops ∙ sym (steps-none count left moved c stops))
  | inr goes ↦ grind (arith, steps-next, steps-more count (left - step_cost c moved) (moved || is_moving c) (collector_step c))
]

-- after so many steps the sweep goes on, and after one more defragmentation has begun
record Begun (left : ℕ) (moved : Bool) (c : Collector) : Type 0 where
  pub count : ℕ
  pub sweeps : (steps count left moved c).collector.phase ≡ Sweep
  pub defragments : (steps (suc count) left moved c).collector.phase ≡ Defrag

-- steps that lead from marking or the sweep to defragmentation or the cycle's end go through its beginning
steps-begin : (count left : ℕ) (moved : Bool) (c : Collector) → in_trace c.phase ≡ true → in_trace (steps count left moved c).collector.phase ≡ false → Begun left moved c
steps-begin zero left moved c trace ended = absurd (false≢true (sym ended ∙ ap (λ k. in_trace k.phase) (steps-zero left moved c) ∙ trace))
steps-begin (suc count) left moved c trace ended = elim (cases_Bool (is_idle c.phase || nat_lt left (step_cost c moved))) [
  | inl stops ↦ absurd (false≢true (sym ended ∙ ap (λ (k : Collector). in_trace k.phase) (steps-none count left moved c stops) ∙ trace))
  | inr goes ↦ elim (cases_Bool (in_trace (collector_step c).phase)) [
    | inl still ↦
        let begun = steps-begin count (left - step_cost c moved) (moved || is_moving c) (collector_step c) still (ap (λ (k : Collector). in_trace k.phase) (sym (steps-next count left moved c goes)) ∙ ended) in
        grind (arith, steps-next begun.count left moved c goes, steps-next (suc begun.count) left moved c goes)
    | inr passed ↦ grind (arith, trace-step, steps-zero, steps-next)
  ]
]

-- Quanta -----------------------------------------------------------------------------------------

defrag_is : (phase : Phase) → is_idle phase ≡ false → in_trace phase ≡ false → phase ≡ Defrag
defrag_is other runs ended = grind arith

module _ (config : Config) (c : Collector) (steady : IsSteady c) where
  abbrev start : Collector
  start = quantum_start config c

  abbrev end : Collector
  end = (steps config.quantum config.quantum false start).collector

  -- when a defragmentation begins no block is a forwarder
  begins-clean : (begun : Collector) → BeginsToDefragment config c begun → (place : ℕ) → forward_at begun.table place ≡ None
  begins-clean begun b place = elim (steps-more b.count config.quantum false start) [
    | inl none ↦ absurd (false≢true (sym (ap in_trace b.defragments) ∙ ap (λ (k : Collector). in_trace k.phase) (sym b.is ∙ none) ∙ ap in_trace b.sweeps))
    | inr one ↦
        let now : Collector = after_steps config c b.count in
        let is : collector_step now ≡ begun = sym one ∙ b.is in
        let here : IsSteady now = steps-steady b.count config.quantum false start (collectors-steady.starts config c steady) in
        subst (λ (k : Collector). forward_at k.table place ≡ None) is (none-forwarded now here b.sweeps (ap (λ (k : Collector). k.phase) is ∙ b.defragments) place)
  ]

  -- a quantum that is entered in marking or the sweep, or starts a cycle
  begins-within : in_trace start.phase ≡ true → in_trace end.phase ≡ false → (begun : Collector) × BeginsToDefragment config c begun × IsMadeSince begun end
  begins-within trace ended = grind (arith, steps-begin, steps-number, begins-clean)

  made : MakesItsForwarders config c end
  made = record { begins = begins-clean; reaches = reaches }
    where
      reaches : in_trace end.phase ≡ false → (is_idle c.phase ≡ false) ⊎ (is_start_due config c ≡ true) → ((c.phase ≡ Defrag) × (c.cycle ≡ end.cycle)) ⊎ ((begun : Collector) × BeginsToDefragment config c begun × IsMadeSince begun end)
      reaches ended within = elim (begins config c).case [
        | inl starts ↦ inr (begins-within (ap (λ (k : Collector). in_trace k.phase) starts.2) ended)
        | inr other ↦ elim other [
          | inl counted ↦ elim (cases_Bool (in_trace c.phase)) [
            | inl trace ↦ inr (begins-within (ap (λ (k : Collector). in_trace k.phase) counted.1 ∙ trace) ended)
            | inr passed ↦ inl (defrag_is c.phase counted.0 passed, sym (steps-number config.quantum config.quantum false start ∙ ap (λ (k : Collector). k.cycle) counted.1))
          ]
          | inr rests ↦ elim within [ inl runs ↦ absurd (false≢true (sym runs ∙ ap is_idle rests.1)) | inr due ↦ absurd (false≢true (sym rests.0 ∙ due)) ]
        ]
      ]

-- Each quantum
pub quanta-made : QuantaMakeTheirForwarders
unfolding quantum
quanta-made config c steady = made config c steady
