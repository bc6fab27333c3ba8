use Rattle.std.proofs.Common.{◌+◌, ◌*◌, length}
use Rattle.mh_scan.proofs.team.+team.Given as goal

abbrev pub decreases-on_each_from : goal.decreases-on_each_from
decreases-on_each_from g l = 3 * length l.items.now

abbrev pub decreases-first_and_rest : goal.decreases-first_and_rest
decreases-first_and_rest g l = 3 * length l.rest.now + 2

abbrev pub decreases-first_and_rest-here : goal.decreases-first_and_rest-here
decreases-first_and_rest-here g l = 3 * length l.rest.now + 1
