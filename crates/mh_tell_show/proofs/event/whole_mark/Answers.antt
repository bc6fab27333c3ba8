use Rattle.std.proofs.Common.{Bool, if◌then◌else◌, codes, sym, ap}
use Rattle.mh_tell_show.proofs.event.whole_mark.Goals as goal

pub returns-then-is_whole : goal.returns-then-is_whole
returns-then-is_whole c = ap (λ (is_whole : Bool). codes (if is_whole then ",1," else ",0,")) (sym c.if-is_whole.true)

pub returns-else-is_whole : goal.returns-else-is_whole
returns-else-is_whole c = ap (λ (is_whole : Bool). codes (if is_whole then ",1," else ",0,")) (sym c.if-is_whole.false)
