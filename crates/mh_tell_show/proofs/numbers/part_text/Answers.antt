use Rattle.std.proofs.Common.{arith}
use Rattle.mh_tell_show.proofs.RunLemmas.{part_is}
use Rattle.mh_tell_show.proofs.numbers.part_text.Goals as goal

pub returns : goal.returns
returns c = part_is c.args.config _ _ _ _ _ _ _ _ c.new-text.ensures.bytes c.in_ok-push_front.ensures (omega (arith, c.saturating_sub-room.ensures, c.len.ensures)) c.in_ok-trace.ensures.text c.in_ok-trace.ensures.trace _ c.in_ok-push_rest.ensures
