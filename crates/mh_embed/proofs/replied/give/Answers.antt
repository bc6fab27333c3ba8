use Rattle.std.proofs.Common.{refl}
use Rattle.mh_embed.specs.Endings.{Short, Whole}
use Rattle.mh_embed.proofs.replied.give.Goals as goal

pub returns-then-text-out : goal.returns-then-text-out
returns-then-text-out c = Short c.if-text-out.true refl refl

pub returns : goal.returns
returns c = Whole (rw c.copy_from_slice.ensures.after refl) refl
