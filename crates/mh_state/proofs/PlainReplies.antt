-- Only the control that asks for a dump is answered one.
use Rattle.std.proofs.Common.{◌≡◌, ◌==◌, Bool, true, false, if◌then◌else◌, Option, Some, None, sym, refl, subst}
use Rattle.mh_model.specs.{declared.command.Command.Command, declared.command.Control.Control}
use Rattle.mh_model.specs.{declared.reply.Refusal.Refusal, declared.shape.Shape.Shape}
use Rattle.mh_model.specs.World.{own_slot, names_same, yes_or_no, shape_reply, says, refusal, unless_refused}
use Rattle.mh_model.specs.Mutator.{HeapState, root_at, shape_at, heap_sight, heap_effect, mutator_step}
use Rattle.mh_model.specs.{Machine.{Machine, quantum_run, control_step, event_step}, declared.command.Event.Event}
use Rattle.mh_model.specs.declared.reply.Reply.{Reply}
use Rattle.mh_promise.proofs.AnsweredEvents.{session-reply}
use Rattle.mh_state.specs.Auxiliary.{IsNoDump}

effect-plain : (heap : HeapState) (who : _) (command : Command) → IsNoDump (heap_effect heap who command).reply
unfolding heap_effect
effect-plain heap who (Command.New slot references numbers) = tt
effect-plain heap who (Command.Get slot source field) = tt
effect-plain heap who (Command.Put slot field value) = tt
effect-plain heap who (Command.Copy slot source) = tt
effect-plain heap who (Command.Clear slot) = tt
effect-plain heap who (Command.Read slot index) = tt
effect-plain heap who (Command.Write slot index number) = tt
effect-plain heap who (Command.Same left right) = go (names_same (root_at heap (own_slot who left)) (root_at heap (own_slot who right)))
  where
    go : (same : Bool) → IsNoDump (yes_or_no same)
    go true = tt
    go false = tt
effect-plain heap who (Command.Shape slot) = go (shape_at heap (own_slot who slot))
  where
    go : (shape : Option Shape) → IsNoDump (shape_reply shape)
    go None = tt
    go (Some shape) = tt
effect-plain heap who asked = tt

mutator-plain : (heap : HeapState) (who : _) (command : Command) → IsNoDump (mutator_step heap who command).reply
unfolding mutator_step
mutator-plain heap who command = go (refusal (heap_sight heap) who command)
  where
    go : (refused : Option Refusal) → IsNoDump (unless_refused refused heap (heap_effect heap who command)).reply
    go None = effect-plain heap who command
    go (Some refused) = tt

-- a command of a session is answered none
pub session-plain : (machine : Machine) (who : _) (command : Command) → IsNoDump (event_step machine (Event.Session who command)).reply
session-plain machine who command = subst IsNoDump (sym (session-reply machine who command)) (mutator-plain machine.heap who command)

quantum-plain : (machine : Machine) (test : Bool) → IsNoDump (if test then quantum_run machine else says (Reply.Spent 0 machine.heap.collector.phase) machine).reply
unfolding quantum_run
quantum-plain machine true = tt
quantum-plain machine false = tt

-- nor is another control
pub control-plain : (machine : Machine) (asked : Control) → ¬ (asked ≡ Control.Dump) → IsNoDump (event_step machine (Event.Control asked)).reply
unfolding event_step control_step
control-plain machine Control.Quantum other = quantum-plain machine (machine.heap.config.every == 0)
control-plain machine Control.Dump other = absurd (other refl)
control-plain machine asked other = tt
