use Rattle.std.proofs.{Common.arith, lemmas.Result.{IfOk-weaker, on_err_weaker}}
use Rattle.mh_groups.proofs.{ChildLemmas.{have_children, only_part}, GroupLemmas.{one_group, no_group, unlinked-front}}
use Rattle.mh_groups.proofs.TellLemmas.{parts-there}
use Rattle.mh_groups.proofs.group.make_group.Goals as goal

pub returns-then-is_silent-clause-made : goal.returns-then-is_silent-clause-made
returns-then-is_silent-clause-made g c = grind (arith, IfOk-weaker, one_group, only_part)

pub returns-then-is_silent-clause-full : goal.returns-then-is_silent-clause-full
returns-then-is_silent-clause-full g c = grind (arith, on_err_weaker, no_group)

pub tell_parts-requires-clause-there : goal.tell_parts-requires-clause-there
tell_parts-requires-clause-there g c = grind (arith, parts-there)

pub link_parts-requires-clause-children : goal.link_parts-requires-clause-children
link_parts-requires-clause-children g c = have_children c.args.parts.now c.count-count.ensures.object

pub link_parts-requires-clause-unlinked : goal.link_parts-requires-clause-unlinked
link_parts-requires-clause-unlinked g c = grind (arith, unlinked-front)
