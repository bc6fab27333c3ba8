-- Auxiliary definitions of where a run by lines stands. They are apart from those of a feed, which has such a run.
use Rattle.mh_model.specs.Live.{Live, Waits, Runs, Grows}
use Rattle.mh_live.specs.declared.live.{AttendedMachine.AttendedMachine, AttendedWorld.AttendedWorld, Attended.Attended}

-- where a run by lines stands: the configuration hasn't come; or there is a machine or a world, with the names seen and its count of events
abbrev pub runs_of : AttendedMachine → Live
runs_of run = Runs run.machine.machine run.names run.machine.done

abbrev pub grows_of : AttendedWorld → Live
grows_of run = Grows run.world.world run.names run.world.done

abbrev pub live_of : Attended → Live
live_of Attended.Nothing = Waits
live_of (Attended.Machine run) = runs_of run
live_of (Attended.World run) = grows_of run
