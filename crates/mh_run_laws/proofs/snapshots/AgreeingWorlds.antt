-- A view that agrees with a world reaches what the world reaches, so that either may be taken as the snapshot.
use Rattle.std.proofs.Common.{◌≡◌, ℕ, ◌≤◌, if◌then◌else◌, Bool, true, false, inl, inr, List, [], ◌∷◌, Option, Some, None, get_or, refl, sym, ap, ◌∙◌, subst, arith}
use Rattle.std.proofs.lemmas.Bool.{and_parts, cases_Bool}
use Rattle.mh_table_laws.proofs.Lists.{from_some}
use Rattle.mh_model.specs.{declared.cycle.Phase.TheVariants.Idle, declared.command.Control.Control}
use Rattle.mh_model.specs.{declared.command.Event.Event, World.{Object, World, object_at, reference_of}}
use Rattle.mh_model.specs.{Paths.{IsPath, Reachable, Agrees}, Collector.{Collector, is_idle, is_start_due, quantum}}
use Rattle.mh_model.specs.{Mutator.HeapState, View.heap_view}
use Rattle.mh_model.specs.Machine.{Machine, quantum_run, is_quantum_due, command_step, control_step, event_step}
use Rattle.mh_model.specs.Snapshot.{Moment, half_moment, next_moment, IsKept}
use Rattle.mh_model.specs.Invariant.{IsSound, KeepsSnapshot, IsFinished, Continues, HeapKeeps}
use Rattle.mh_laws.proofs.snapshots.CycleSteps.{continues-quantum, snapshot-counted}
use Rattle.mh_laws.proofs.{snapshots.SessionCommands.snapshot-mutator_step, snapshots.RunningCycles.continues-start}
use Rattle.mh_laws.proofs.costs.QuantumStarts.{idle_is, quantum-rests}

has_object : (o : Option Object) (field birth : ℕ) → reference_of o field ≡ Some birth → (object : Object) × (o ≡ Some object)
has_object o field birth e = grind arith

module _ (view world : World) (agrees : Agrees view world) where
  path-world : (path : List ℕ) (birth : ℕ) → IsPath view birth path → IsPath world birth path
  path-world [] birth (slot, e) = (slot, ap (λ slots. get_or slots slot None) (sym agrees.slots) ∙ e)
  path-world (nearest ∷ path) birth ((field, e), after) = grind (arith, has_object, path-world path nearest after)

  path-view : (path : List ℕ) (birth : ℕ) → IsPath world birth path → IsPath view birth path
  path-view [] birth (slot, e) = (slot, ap (λ slots. get_or slots slot None) agrees.slots ∙ e)
  path-view (nearest ∷ path) birth ((field, e), after) =
      let (object, is) = from_some (object_at view nearest) (agrees.reached nearest (path, after)) in
      ((field, ap (λ o. reference_of o field) (is ∙ sym (agrees.objects nearest object is)) ∙ e), path-view path nearest after)

  pub reachable-world : (birth : ℕ) → Reachable view birth → Reachable world birth
  reachable-world birth (path, is) = (path, path-world path birth is)

  pub reachable-view : (birth : ℕ) → Reachable world birth → Reachable view birth
  reachable-view birth (path, is) = (path, path-view path birth is)

  kept-world : (n birth : ℕ) → IsKept view n birth → IsKept world n birth
  kept-world n birth is = grind (arith, reachable-world)

  kept-view : (n birth : ℕ) → IsKept world n birth → IsKept view n birth
  kept-view n birth is = grind (arith, reachable-view)

  -- what keeps the view as its snapshot keeps the world
  pub snapshot-agreeing : (n : ℕ) (c : Collector) → KeepsSnapshot view n c → KeepsSnapshot world n c
  snapshot-agreeing n c h = record {
    sound = h.sound;
    before = subst (λ b. b ≤ n) agrees.next_birth h.before;
    cycle = record {
      path = λ m q x e live reached. h.cycle.path m q x e live (reachable-view x.birth reached);
      marked = λ m q x e s. kept-world n x.birth (h.cycle.marked m q x e s);
      whole = λ m birth kept. h.cycle.whole m birth (kept-view n birth kept);
      born = λ m q x e since. h.cycle.born m q x e (subst (λ b. b ≤ x.birth) (sym agrees.next_birth) since);
      slots = λ m i r t e f. kept-world n t.birth (h.cycle.slots m i r t e f);
      references = λ m q x i r t e live kept f g. kept-world n t.birth (h.cycle.references m q x i r t e live (kept-view n x.birth kept) f g);
    };
  }

  pub finished-agreeing : (n : ℕ) (c : Collector) → IsFinished view n c → IsFinished world n c
  finished-agreeing n c h = record {
    only = λ q x e live. kept-world n x.birth (h.only q x e live);
    whole = λ birth kept. h.whole birth (kept-view n birth kept);
    stamped = h.stamped;
  }

-- A quantum that starts a cycle keeps any world that agrees with the view at its entry
pub continues-start_agreeing : (heap : HeapState) (world : World) → Agrees (heap_view heap) world → heap.collector.phase ≡ Idle → is_start_due heap.config heap.collector ≡ true → IsSound heap.next_birth heap.collector → Continues world heap.next_birth (quantum heap.config heap.collector).collector
continues-start_agreeing heap world agrees idle due sound =
    let h = continues-start heap idle due sound in
    record {
      keeps = snapshot-agreeing (heap_view heap) world agrees heap.next_birth (quantum heap.config heap.collector).collector h.keeps;
      ends = λ i. finished-agreeing (heap_view heap) world agrees heap.next_birth (quantum heap.config heap.collector).collector (h.ends i);
    }

-- Moments ----------------------------------------------------------------------------------------

-- a quantum, with the world as the snapshot if it starts a cycle
keeps-quantum : (heap : HeapState) (world snapshot : World) → Agrees (heap_view heap) world → HeapKeeps snapshot heap → HeapKeeps (if is_start_due heap.config heap.collector then world else snapshot) (record heap { collector = (quantum heap.config heap.collector).collector })
keeps-quantum heap world snapshot agrees h = go (is_start_due heap.config heap.collector) refl
  where
    go : (due : Bool) → is_start_due heap.config heap.collector ≡ due → KeepsSnapshot (if due then world else snapshot) heap.next_birth (quantum heap.config heap.collector).collector
    go true due = (continues-start_agreeing heap world agrees (idle_is heap.collector.phase (and_parts (is_idle heap.collector.phase) _ due).0) due h.sound).keeps
    go false rests = elim (cases_Bool (is_idle heap.collector.phase)) [
      | inr runs ↦ (continues-quantum heap.config snapshot heap.next_birth heap.collector runs h).keeps
      | inl idle ↦ subst (KeepsSnapshot snapshot heap.next_birth) (sym (quantum-rests heap.config heap.collector idle rests)) h
    ]

keeps-quantum_run : (machine : Machine) (world snapshot : World) → Agrees (heap_view machine.heap) world → HeapKeeps snapshot machine.heap → HeapKeeps (if is_start_due machine.heap.config machine.heap.collector then world else snapshot) (quantum_run machine).state.heap
unfolding quantum_run
keeps-quantum_run machine world snapshot agrees h = keeps-quantum machine.heap world snapshot agrees h

-- the half moment of an event keeps the snapshot
pub keeps-half_moment : (moment : Moment) (e : Event) → HeapKeeps moment.snapshot moment.machine.heap → HeapKeeps (half_moment moment e).snapshot (half_moment moment e).machine.heap
unfolding half_moment command_step
keeps-half_moment moment (Event.Session who command) h = snapshot-mutator_step moment.snapshot moment.machine.heap h who command
keeps-half_moment moment (Event.Control control) h = h

-- And so does the event, if the view agrees with the world at its half moment
pub keeps-next_moment : (moment : Moment) (e : Event) → Agrees (heap_view (half_moment moment e).machine.heap) (half_moment moment e).world → HeapKeeps moment.snapshot moment.machine.heap → HeapKeeps (next_moment moment e).snapshot (next_moment moment e).machine.heap
unfolding next_moment half_moment event_step control_step command_step
keeps-next_moment moment (Event.Session who command) agrees h = go (is_quantum_due (command_step moment.machine who command).state)
  where
    after : Machine
    after = (command_step moment.machine who command).state

    world : World
    world = (half_moment moment (Event.Session who command)).world

    go : (due : Bool) → HeapKeeps (if due then (if is_start_due after.heap.config after.heap.collector then world else moment.snapshot) else moment.snapshot) (if due then (quantum_run after).state else after).heap
    go true = keeps-quantum_run after world moment.snapshot agrees (snapshot-mutator_step moment.snapshot moment.machine.heap h who command)
    go false = snapshot-mutator_step moment.snapshot moment.machine.heap h who command
keeps-next_moment moment (Event.Control Control.Quantum) agrees h = grind (arith, keeps-quantum_run)
keeps-next_moment moment (Event.Control Control.Start) agrees h = search (arith, snapshot-counted)
keeps-next_moment moment (Event.Control asked) agrees h = h
