use Rattle.std.proofs.Common.{refl}
use Rattle.mh_embed.specs.Endings.{NotSeen, Seen}
use Rattle.mh_embed.proofs.EndingLemmas.{is_world}
use Rattle.mh_embed.proofs.embedded.Embedded.see_stat.Goals as goal

pub returns-in_default : goal.returns-in_default
returns-in_default c = rw (← c.self.view_is) (NotSeen (is_world c.self.inside.driver c.in_default.field-0 c.in_default.is) refl)

pub returns : goal.returns
returns c = rw (← c.self.view_is) (Seen c.in-Collects.machine c.in-Collects.is (rw (← c.stat.ensures) c.reply_numbers.ensures))
