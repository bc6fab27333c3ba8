use Rattle.std.proofs.Common.{rules}
use Rattle.mh_embed.specs.Endings.{Forgotten, NotForgotten}
use Rattle.mh_embed.proofs.EndingLemmas.{is_world}
use Rattle.mh_embed.proofs.embedded.Embedded.forget.Goals as goal

pub returns-in_default : goal.returns-in_default
returns-in_default c = rw (← c.self.view_is) (NotForgotten (is_world c.self.inside.driver c.in_default.field-0 c.in_default.is) (search rules))

pub returns : goal.returns
returns c = rw (← c.self.view_is) (Forgotten c.in-Collects.machine c.forget.new.self c.in-Collects.is (search rules) c.forget.ensures)
