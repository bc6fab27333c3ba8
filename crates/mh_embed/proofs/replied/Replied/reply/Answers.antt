use Rattle.std.proofs.Common.{rules, refl}
use Rattle.mh_embed.specs.Endings.{NoneYet, Shown}
use Rattle.mh_embed.proofs.replied.Replied.reply.Goals as goal

pub returns-in-Some : goal.returns-in-Some
returns-in-Some c = Shown c.in-Some.reply (search rules) c.reply_numbers.ensures

pub returns-in-None : goal.returns-in-None
returns-in-None c = NoneYet (search rules) refl
