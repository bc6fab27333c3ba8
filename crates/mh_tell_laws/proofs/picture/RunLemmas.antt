-- The induction over a run: the accounts of events and of runs draw the picture after them.
use Rattle.std.proofs.Common.{◌≡◌, ℕ, Bool, true, if◌then◌else◌, List, [], ◌∷◌, refl, ap, ◌∙◌, arith}
use Rattle.mh_model.specs.{declared.command.Command.Command, declared.command.Event.Event}
use Rattle.mh_model.specs.{declared.config.Config.Config, declared.reply.Reply.Reply}
use Rattle.mh_model.specs.Machine.{Machine, first_machine, is_quantum_due, quantum_run, command_step, control_step, half_step, event_step, machine_after}
use Rattle.mh_model.specs.{Deeds.{command_deeds, ran_if, account_of}, Invariant.IsKeeping}
use Rattle.mh_laws.proofs.{runs.EveryMoment.event_step-keeps, snapshots.SteadyStates.{collectors-steady, heaps-kept}}
use Rattle.mh_laws.proofs.snapshots.RunningCycles.{moments_keep}
use Rattle.mh_tell_laws.specs.Picture.{drawn_of, picture_of, empty_picture, with_table, drawn_all, drawn_quantum, drawn_account, accounts_of, drawn_run, pictured_dump, pictured_stat}
use Rattle.mh_tell_laws.specs.PictureLaws.{RunsTellThePicture}
use Rattle.mh_table_laws.proofs.TableMapLemmas.{free-table_map}
use Rattle.mh_tell_laws.proofs.picture.{QuantumLemmas.quanta-tell, CommandLemmas.commands-tell}
use Rattle.mh_tell_laws.proofs.picture.DumpLemmas.{dump-drawn, stat-drawn}

-- Events -----------------------------------------------------------------------------------------

quantum_run-drawn : (machine : Machine) → IsKeeping machine.heap → picture_of (quantum_run machine).state.heap.collector ≡ drawn_quantum (picture_of machine.heap.collector) (ran_if true machine.heap)
unfolding quantum_run
quantum_run-drawn machine keeps = quanta-tell machine.heap.config machine.heap.collector (collectors-steady.of_heaps machine.heap keeps)

-- a quantum if it is due
due-drawn : (test : Bool) (machine : Machine) → IsKeeping machine.heap → picture_of (if test then (quantum_run machine).state else machine).heap.collector ≡ drawn_quantum (picture_of machine.heap.collector) (ran_if test machine.heap)
due-drawn test machine keeps = grind (arith, quantum_run-drawn)

command_step-keeping : (machine : Machine) (who : ℕ) (command : Command) → IsKeeping machine.heap → IsKeeping (command_step machine who command).state.heap
unfolding command_step
command_step-keeping machine who command keeps = heaps-kept.commands machine.heap keeps who command

command_step-drawn : (machine : Machine) (who : ℕ) (command : Command) → IsKeeping machine.heap → picture_of (command_step machine who command).state.heap.collector ≡ drawn_all (picture_of machine.heap.collector) (command_deeds machine.heap who command)
unfolding command_step
command_step-drawn machine who command keeps = commands-tell machine.heap who command keeps

quantum_run-keeping : (machine : Machine) → IsKeeping machine.heap → IsKeeping (quantum_run machine).state.heap
unfolding quantum_run
quantum_run-keeping machine keeps = heaps-kept.quanta machine.heap keeps

-- the deeds of its command
half-drawn : (machine : Machine) (event : Event) → IsKeeping machine.heap → picture_of (half_step machine event).heap.collector ≡ drawn_all (picture_of machine.heap.collector) (account_of machine event).command
unfolding account_of
half-drawn machine event keeps = grind (arith, command_step-drawn)

-- The account of an event
event-drawn : (machine : Machine) (event : Event) → IsKeeping machine.heap → picture_of (event_step machine event).state.heap.collector ≡ drawn_account (picture_of machine.heap.collector) (account_of machine event)
unfolding event_step control_step account_of
event-drawn machine (Event.Session who command) keeps =
    let after : Machine = (command_step machine who command).state in
    due-drawn (is_quantum_due after) after (command_step-keeping machine who command keeps)
    ∙ ap (λ picture. drawn_quantum picture (ran_if (is_quantum_due after) after.heap)) (command_step-drawn machine who command keeps)
event-drawn machine event keeps = grind (arith, quantum_run-drawn)

-- Runs -------------------------------------------------------------------------------------------

event_step-keeping : (machine : Machine) (event : Event) → IsKeeping machine.heap → IsKeeping (event_step machine event).state.heap
event_step-keeping = event_step-keeps (λ machine. IsKeeping machine.heap) command_step-keeping quantum_run-keeping (λ machine keeps. heaps-kept.asking machine.heap keeps)

events-drawn : (events : List Event) (machine : Machine) → IsKeeping machine.heap → picture_of (machine_after machine events).heap.collector ≡ drawn_run (picture_of machine.heap.collector) (accounts_of machine events)
unfolding machine_after accounts_of
events-drawn [] machine keeps = refl
events-drawn (event ∷ events) machine keeps =
    let after : Machine = (event_step machine event).state in
    events-drawn events after (event_step-keeping machine event keeps) ∙ ap (λ picture. drawn_run picture (accounts_of after events)) (event-drawn machine event keeps)

-- The accounts of a run
run-drawn : (config : Config) (events : List Event) → picture_of (machine_after (first_machine config) events).heap.collector ≡ drawn_run (empty_picture config) (accounts_of (first_machine config) events)
run-drawn config events =
    events-drawn events (first_machine config) (heaps-kept.first config)
    ∙ ap (λ table. drawn_run (with_table (empty_picture config) table) (accounts_of (first_machine config) events)) (free-table_map drawn_of config.pages)

pub runs-tell : RunsTellThePicture
unfolding event_step control_step
runs-tell = record {
  picture = run-drawn;
  half = λ config events event.
      half-drawn (machine_after (first_machine config) events) event (moments_keep.at_each config events).0 ∙ ap (λ picture. drawn_all picture (account_of (machine_after (first_machine config) events) event).command) (run-drawn config events);
  dump = λ config events. ap Reply.Dump (dump-drawn (machine_after (first_machine config) events).heap.collector ∙ ap pictured_dump (run-drawn config events));
  stat = λ config events. ap Reply.Stat (stat-drawn (machine_after (first_machine config) events).heap.collector ∙ ap pictured_stat (run-drawn config events));
}
