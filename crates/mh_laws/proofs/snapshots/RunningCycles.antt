-- Quanta that start a cycle or none, events, and every moment of a run: some world is the snapshot of the running cycle.
use Rattle.std.proofs.Common.{◌≡◌, ℕ, ◌≤◌, true, false, inl, inr, List, Some, option_and_then, refl, sym, ap, ◌∙◌, subst, arith}
use Rattle.std.proofs.{lemmas.Bool.{false≢true, cases_Bool}, lemmas.Option.none-some}
use Rattle.mh_model.specs.{declared.config.Config.Config, declared.command.Command.Command}
use Rattle.mh_model.specs.{declared.command.Event.Event, declared.cycle.Phase.TheVariants.Idle}
use Rattle.mh_model.specs.{World.{World, births, first_world}, Pages.{page_number, slot_number, block_in, block_at}}
use Rattle.mh_model.specs.Table.{Block, resolve}
use Rattle.mh_model.specs.Collector.{Collector, first_collector, is_idle, is_start_due, cycle_start, quantum_start, quantum}
use Rattle.mh_model.specs.Mutator.{HeapState, first_heap}
use Rattle.mh_model.specs.Machine.{Machine, first_machine, with_collector, quantum_run, command_step, half_step, machine_after}
use Rattle.mh_model.specs.View.{in_sweep, heap_view}
use Rattle.mh_model.specs.{Invariant.{IsSound, KeepsSnapshot, Continues, IsLinked, IsKeeping}, Limits.root_slots}
use Rattle.mh_laws.specs.Snapshots.{MomentsKeepASnapshot}
use Rattle.mh_table_laws.proofs.Lists.{none_at}
use Rattle.mh_laws.proofs.{runs.EveryMoment.{half_step-keeps, machine_after-keeps}, marking.MarkSteps.leads}
use Rattle.mh_laws.proofs.snapshots.CycleSteps.{continues-steps, continues-quantum, snapshot-counted}
use Rattle.mh_laws.proofs.{snapshots.SessionCommands.snapshot-mutator_step, snapshots.CycleStarts.snapshot-started}
use Rattle.mh_laws.proofs.showing.SamePlainBlocks.{plain-held, held-plain}
use Rattle.mh_laws.proofs.costs.QuantumStarts.{idle_is, quantum-rests, begins}

-- if no cycle runs, a sound state keeps any snapshot
pub snapshot-idle : (snapshot : World) (n : ℕ) (c : Collector) → c.phase ≡ Idle → births snapshot ≤ n → IsSound n c → KeepsSnapshot snapshot n c
snapshot-idle snapshot n c idle before sound = grind (arith, false≢true)

-- A quantum that starts a cycle keeps what is reachable in the view at its entry, or ends the cycle with just that and what is born since
pub continues-start : (heap : HeapState) → heap.collector.phase ≡ Idle → is_start_due heap.config heap.collector ≡ true → IsSound heap.next_birth heap.collector → Continues (heap_view heap) heap.next_birth (quantum heap.config heap.collector).collector
unfolding quantum
continues-start heap idle due sound = continues-steps (heap_view heap) heap.next_birth heap.config.quantum heap.config.quantum false (quantum_start heap.config heap.collector) started
  where
    started : Continues (heap_view heap) heap.next_birth (quantum_start heap.config heap.collector)
    started = elim (begins heap.config heap.collector).case [
      | inl starts ↦ subst (Continues (heap_view heap) heap.next_birth) (sym starts.2) (record {
        keeps = snapshot-counted (heap_view heap) heap.next_birth (cycle_start heap.collector) false 1 (snapshot-started heap (ap in_sweep idle) sound);
        ends = λ i. absurd (false≢true i);
      })
      | inr other ↦ elim other [ inl runs ↦ absurd (false≢true (sym runs.0 ∙ ap is_idle idle)) | inr rests ↦ absurd (false≢true (sym rests.0 ∙ due)) ]
    ]

-- A quantum leaves some snapshot kept
pub keeping-quantum : (heap : HeapState) → IsKeeping heap → IsKeeping (record heap { collector = (quantum heap.config heap.collector).collector })
keeping-quantum heap (snapshot, h) = elim (cases_Bool (is_idle heap.collector.phase)) [
  | inr runs ↦ (snapshot, (continues-quantum heap.config snapshot heap.next_birth heap.collector runs h).keeps)
  | inl idle ↦ elim (cases_Bool (is_start_due heap.config heap.collector)) [
    | inl due ↦ (heap_view heap, (continues-start heap (idle_is heap.collector.phase idle) due h.sound).keeps)
    | inr rests ↦ (snapshot, subst (KeepsSnapshot snapshot heap.next_birth) (sym (quantum-rests heap.config heap.collector idle rests)) h)
  ]
]

-- Events -----------------------------------------------------------------------------------------

keeping-quantum_run : (machine : Machine) → IsKeeping machine.heap → IsKeeping (quantum_run machine).state.heap
unfolding quantum_run
keeping-quantum_run machine h = keeping-quantum machine.heap h

keeping-command_step : (machine : Machine) (who : ℕ) (command : Command) → IsKeeping machine.heap → IsKeeping (command_step machine who command).state.heap
unfolding command_step
keeping-command_step machine who command (snapshot, h) = (snapshot, snapshot-mutator_step snapshot machine.heap h who command)

keeping-asking : (machine : Machine) → IsKeeping machine.heap → IsKeeping (with_collector machine (record (machine.heap.collector) { is_asked = true })).heap
keeping-asking machine (snapshot, h) = (snapshot, snapshot-counted snapshot machine.heap.next_birth machine.heap.collector true machine.heap.collector.quanta h)

-- The first machine ------------------------------------------------------------------------------

pub keeps-first : (config : Config) → KeepsSnapshot (first_world config) 0 (first_collector config)
keeps-first config = snapshot-idle (first_world config) 0 (first_collector config) refl (omega arith) sound
  where
    no_block : (q : ℕ) (x : Block) → block_at (first_collector config).table q ≡ Some x → ⊥
    no_block q x e = none-some x (sym (ap (option_and_then (block_in (slot_number q))) (none_at config.pages (page_number q))) ∙ e)

    sound : IsSound 0 (first_collector config)
    sound = record {
      narrow = λ number page e. absurd (none-some page (sym (none_at config.pages number) ∙ e));
      roots = refl;
      births = λ q x e. absurd (no_block q x e);
      stamps = λ q x e. absurd (no_block q x e);
      shapes = λ birth. record { references = 0; numbers = 0 };
      parts = λ q x e. absurd (no_block q x e);
      one = λ q r x y e f. absurd (no_block q x e);
      slots = λ i r e. absurd (none-some r (sym (none_at root_slots i) ∙ e));
      fields = λ q x plain. absurd (no_block q x plain.there);
      spines = λ q x child plain. absurd (no_block q x plain.there);
      grey = λ q is. absurd is;
      quiet = λ m. refl;
      original = λ m q x e. absurd (no_block q x e);
      straight = λ m q x e. absurd (no_block q x e);
      swept = λ m q x e. absurd (no_block q x e);
      marked = λ m q x e. absurd (no_block q x e);
      dense = λ m q t x e. absurd (no_block q x e);
    }

pub keeping-first : (config : Config) → IsKeeping (first_heap config)
keeping-first config = (first_world config, keeps-first config)

-- References at each moment ----------------------------------------------------------------------

module _ (n : ℕ) (c : Collector) (h : IsSound n c) where
  pub linked : IsLinked c
  linked = record {
    slots = λ i r e. let (x, plain, first) = h.slots i r e in (x, plain.there, plain-held c r x plain);
    references = λ q x there held i r e. let (y, plain) = leads n c h q x (held-plain n c h q x there held) i r e in (y, plain.there, plain-held c (resolve c.table r) y plain);
  }

-- what is kept is linked too
linked_too : (heap : HeapState) → IsKeeping heap → IsKeeping heap × IsLinked heap.collector
linked_too heap h = (h, linked heap.next_birth heap.collector h.1.sound)

-- Every moment of a run
keeping-run : (config : Config) (events : List Event) → IsKeeping (machine_after (first_machine config) events).heap
keeping-run config events = machine_after-keeps (λ machine. IsKeeping machine.heap) keeping-command_step keeping-quantum_run keeping-asking events (first_machine config) (keeping-first config)

keeping-half : (config : Config) (events : List Event) (e : Event) → IsKeeping (half_step (machine_after (first_machine config) events) e).heap
keeping-half config events e = half_step-keeps (λ machine. IsKeeping machine.heap) keeping-command_step keeping-quantum_run keeping-asking (machine_after (first_machine config) events) e (keeping-run config events)

pub moments_keep : MomentsKeepASnapshot
moments_keep = search (arith, linked_too, keeping-run, keeping-half)
