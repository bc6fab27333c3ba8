-- What replies tell of the units of quanta.
use Rattle.std.proofs.Common.{◌≡◌, ℕ, ◌≤◌, ◌==◌, Bool, true, false, if◌then◌else◌, Option, Some, None, refl, sym, subst, ◌∙◌, ap, arith}
use Rattle.mh_model.specs.{declared.command.Command.Command, declared.command.Control.Control}
use Rattle.mh_model.specs.{declared.command.Event.Event, declared.config.Config.Config, declared.cycle.Phase.Phase}
use Rattle.mh_model.specs.{declared.reply.Refusal.Refusal, declared.reply.Reply.Reply, declared.shape.Shape.Shape}
use Rattle.mh_model.specs.World.{own_slot, names_same, yes_or_no, shape_reply, says, refusal, unless_refused}
use Rattle.mh_model.specs.Mutator.{HeapState, root_at, shape_at, heap_sight, heap_effect, mutator_step}
use Rattle.mh_model.specs.Machine.{Machine, quantum_run, control_step, event_step}
use Rattle.mh_laws.specs.Costs.{QuantumKeepsItsLimit}
use Rattle.mh_promise.proofs.AnsweredEvents.{session-reply, control-reply}

-- the units that a reply states of a quantum
pub units_of : Reply → ℕ
units_of (Reply.Spent units phase) = units
units_of _ = 0

effect-units : (heap : HeapState) (who : ℕ) (command : Command) → units_of (heap_effect heap who command).reply ≡ 0
unfolding heap_effect units_of
effect-units heap who (Command.New slot references numbers) = refl
effect-units heap who (Command.Get slot source field) = refl
effect-units heap who (Command.Put slot field value) = refl
effect-units heap who (Command.Copy slot source) = refl
effect-units heap who (Command.Clear slot) = refl
effect-units heap who (Command.Read slot index) = refl
effect-units heap who (Command.Write slot index number) = refl
effect-units heap who (Command.Same left right) = go (names_same (root_at heap (own_slot who left)) (root_at heap (own_slot who right)))
  where
    go : (same : Bool) → units_of (yes_or_no same) ≡ 0
    go true = refl
    go false = refl
effect-units heap who (Command.Shape slot) = go (shape_at heap (own_slot who slot))
  where
    go : (shape : Option Shape) → units_of (shape_reply shape) ≡ 0
    go None = refl
    go (Some shape) = refl
effect-units heap who asked = refl

mutator-units : (heap : HeapState) (who : ℕ) (command : Command) → units_of (mutator_step heap who command).reply ≡ 0
unfolding mutator_step units_of
mutator-units heap who command = go (refusal (heap_sight heap) who command)
  where
    go : (refused : Option Refusal) → units_of (unless_refused refused heap (heap_effect heap who command)).reply ≡ 0
    go None = effect-units heap who command
    go (Some refused) = refl

module _ (keeps : QuantumKeepsItsLimit) where
  quantum-units : (machine : Machine) → units_of (quantum_run machine).reply ≤ machine.heap.config.quantum
  unfolding quantum_run units_of
  quantum-units machine = keeps machine.heap.config machine.heap.collector

  control-units : (machine : Machine) (control : Control) → units_of (control_step machine control).reply ≤ machine.heap.config.quantum
  unfolding control_step units_of
  control-units machine Control.Quantum = go (machine.heap.config.every == 0)
    where
      go : (test : Bool) → units_of (if test then quantum_run machine else says (Reply.Spent 0 machine.heap.collector.phase) machine).reply ≤ machine.heap.config.quantum
      go true = quantum-units machine
      go false = omega arith
  control-units machine asked = omega arith

  -- No reply states more units than are configured
  pub event-units : (machine : Machine) (event : Event) → units_of (event_step machine event).reply ≤ machine.heap.config.quantum
  event-units machine (Event.Session who command) = let none = ap units_of (session-reply machine who command) ∙ mutator-units machine.heap who command in omega (arith, none)
  event-units machine (Event.Control control) = subst (λ r. units_of r ≤ machine.heap.config.quantum) (sym (control-reply machine control)) (control-units machine control)

  pub spent-is : (config : Config) (machine : Machine) → machine.heap.config ≡ config → (event : Event) (units : ℕ) (phase : Phase) → Reply.Spent units phase ≡ (event_step machine event).reply → units ≤ config.quantum
  unfolding units_of
  spent-is config machine same event units phase told = subst (λ (c : Config). units ≤ c.quantum) same (subst (λ r. units_of r ≤ machine.heap.config.quantum) (sym told) (event-units machine event))
