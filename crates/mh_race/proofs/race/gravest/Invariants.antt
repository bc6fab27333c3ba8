use Rattle.std.proofs.Common.{◌≡◌, ◌<◌, ℕ, Some, None, get_or}
use Rattle.mh_machine.specs.declared.machine.Stop.{Stop, TheVariants.NoMemory}
use Rattle.mh_race.specs.Racing.{SomeSeatStopped}
use Rattle.mh_race.proofs.race.gravest.Given as goal

abbrev pub invariant-loop-stop : goal.invariant-loop-stop
invariant-loop-stop l = record {
  none : l.most ≡ None → (seat : ℕ) → seat < l.stop-index → get_or l.stops seat None ≡ None;
  one : (stop : Stop) → l.most ≡ Some stop → SomeSeatStopped l.stops stop;
  starved : (seat : ℕ) → seat < l.stop-index → get_or l.stops seat None ≡ Some NoMemory → l.most ≡ Some NoMemory;
}
