use Rattle.std.proofs.Common.{rules}
use Rattle.mh_embed.specs.Endings.{NoRoom, NotReserved, Reserved}
use Rattle.mh_embed.proofs.{EndingLemmas.is_world, embedded.Embedded.reserve.Goals.{in-Ok, in-Err}}
use Rattle.mh_embed.proofs.embedded.Embedded.reserve.Goals as goal

pub returns-in_default : goal.returns-in_default
returns-in_default c = rw (← c.self.view_is) (NotReserved (is_world c.self.inside.driver c.in_default.field-0 c.in_default.is) (search rules))

pub returns : goal.returns
returns c = elim c.match-reserve.branch [
  | in-Ok w ↦ rw (← c.self.view_is, w.result-is) (Reserved c.in-Collects.machine c.reserve.new.self c.in-Collects.is (search rules) w.in-Ok.ensures.done)
  | in-Err w ↦ rw (← c.self.view_is, w.result-is) (NoRoom c.in-Collects.machine c.in-Collects.is (search rules))
]
