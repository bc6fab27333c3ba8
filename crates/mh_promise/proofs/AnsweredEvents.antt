-- What an event of a run was answered, and what its half step leaves.
use Rattle.std.proofs.{Common.{◌≡◌, ℕ, List, ◌∷◌, length, slice_get, refl, sym, ap, ◌∙◌}, lemmas.Option.same_Some}
use Rattle.mh_model.specs.{declared.command.Command.Command, declared.command.Control.Control}
use Rattle.mh_model.specs.{declared.command.Event.Event, declared.config.Config.Config, declared.reply.Reply.Reply}
use Rattle.mh_model.specs.{World.{Answer, World}, Mutator.mutator_step}
use Rattle.mh_model.specs.Machine.{Machine, first_machine, command_step, control_step, half_step, event_step, machine_replies}
use Rattle.mh_model.specs.Snapshot.{Moment, half_moment, world_beside}
use Rattle.mh_laws.specs.Bounds.{left_of, QuantaLeftEndTheCycle}
use Rattle.mh_run_laws.specs.Replays.{machine_at}
use Rattle.mh_promise.specs.Runs.{IsAnswered}
use Rattle.mh_run_laws.proofs.runs.RunsByEvents.{reply-at, beside-at}

module _ (config : Config) (events : List Event) (replies : List Reply) (before : List Event) (event : Event) (given : Reply)
    (is : replies ≡ machine_replies (first_machine config) events) (answered : IsAnswered events replies before event given) where
  -- the reply is that of the machine's step
  pub answered-is : given ≡ (event_step (machine_at config before) event).reply
  answered-is =
      same_Some given (event_step (machine_at config before) event).reply
      (sym answered.given
      ∙ ap (λ rs. slice_get rs (length before)) (is ∙ ap (machine_replies (first_machine config)) answered.split)
      ∙ reply-at (first_machine config) before event answered.later)

  -- and the world beside the events before it is that beside the machine
  pub beside-is : (world : World) → world_beside world before replies ≡ world_beside world before (machine_replies (first_machine config) before)
  beside-is world = ap (world_beside world before) (is ∙ ap (machine_replies (first_machine config)) answered.split) ∙ beside-at world (first_machine config) before (event ∷ answered.later)

pub session-reply : (machine : Machine) (who : ℕ) (command : Command) → (event_step machine (Event.Session who command)).reply ≡ (mutator_step machine.heap who command).reply
unfolding event_step command_step
session-reply machine who command = refl

pub control-reply : (machine : Machine) (control : Control) → (event_step machine (Event.Control control)).reply ≡ (control_step machine control).reply
unfolding event_step
control-reply machine control = refl

pub half-heap : (machine : Machine) (who : ℕ) (command : Command) → (half_step machine (Event.Session who command)).heap ≡ (mutator_step machine.heap who command).state
unfolding command_step
half-heap machine who command = refl

pub half-machine : (moment : Moment) (event : Event) → (half_moment moment event).machine ≡ half_step moment.machine event
unfolding half_moment
half-machine moment event = refl

-- who asks for the quanta left is answered with them
pub left-is : QuantaLeftEndTheCycle → (machine : Machine) (given : Reply) → given ≡ (event_step machine (Event.Control Control.Left)).reply → given ≡ Reply.Left (left_of machine)
left-is law machine given same = same ∙ control-reply machine Control.Left ∙ ap (λ (a : Answer Machine). a.reply) (law.told machine)
