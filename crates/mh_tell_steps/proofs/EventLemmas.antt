-- The steps of a run tell the machine's replies.
use Rattle.std.proofs.Common.{suc, List, [], ◌∷◌, refl}
use Rattle.mh_model.specs.{declared.command.Event.Event, declared.config.Config.Config, Bytes.Text, Deeds.account_of}
use Rattle.mh_model.specs.Machine.{first_machine, machine_replies}
use Rattle.mh_script.specs.Lines.{lines_from}
use Rattle.mh_orders.specs.declared.steps.Steps.{Steps}
use Rattle.mh_tell_steps.specs.Figures.{counts_of, moment_of}
use Rattle.mh_tell_steps.specs.Steps.{AreInTurn, IsTold, Stage, TellsReplies, event_text, first_stage, stage_after, steps_told, told_text}

events_told : (steps : Steps) (at : Stage) (events : List Event) → AreInTurn (IsTold steps) (suc at.done) events (machine_replies at.machine events) (lines_from (steps_told steps) at events)
unfolding machine_replies
events_told steps at [] = refl
events_told steps at (event ∷ events) =
    let after = stage_after at event in (
      event_text steps (suc at.done) at.machine event,
      lines_from (steps_told steps) after events,
      record {
        moment = moment_of (suc at.done) at.machine after.machine;
        counts = counts_of after.machine.heap.collector;
        quantum = at.machine.heap.config.quantum;
        account = account_of at.machine event;
        numbered = refl;
        is = refl;
      },
      events_told steps after events,
      refl,
    )

pub tells_replies : (steps : Steps) (script : Text) (config : Config) (events : List Event) → TellsReplies steps config events (machine_replies (first_machine config) events) (told_text steps script config events)
tells_replies steps script config events = record { script = script; told = lines_from (steps_told steps) (first_stage config) events; each = events_told steps (first_stage config) events; is = refl }
