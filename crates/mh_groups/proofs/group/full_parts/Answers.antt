use Rattle.std.proofs.Common.{arith}
use Rattle.mh_groups.proofs.FullLemmas.{parts_full, first_header}
use Rattle.mh_groups.proofs.group.full_parts.Goals as goal

pub returns : goal.returns
returns c = grind (arith, first_header, parts_full)
