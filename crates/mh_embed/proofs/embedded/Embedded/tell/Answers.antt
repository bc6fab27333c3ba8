use Rattle.std.proofs.Common.{rules}
use Rattle.mh_embed.specs.Endings.{NotTold, Told}
use Rattle.mh_embed.proofs.EndingLemmas.{is_world}
use Rattle.mh_embed.proofs.embedded.Embedded.tell.Goals as goal

pub returns-in_default : goal.returns-in_default
returns-in_default c = rw (← c.self.view_is) (NotTold (is_world c.self.inside.driver c.in_default.field-0 c.in_default.is) (search rules))

pub returns : goal.returns
returns c = rw (← c.self.view_is) (Told c.in-Collects.machine c.in-Collects.is (search rules))
