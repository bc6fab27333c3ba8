use Rattle.std.proofs.Common.{subst, sym}
use Rattle.std.specs.Fork.{ChangesAt}
use Rattle.mh_scan.proofs.TeamLemmas.{only, single, single_set}
use Rattle.mh_scan.proofs.team.at_most_one.Goals as goal

pub returns-then-items-eq1 : goal.returns-then-items-eq1
returns-then-items-eq1 g c = let xs = c.args.items.now in let one = c.if-items-eq1.true in
    only (ChangesAt g.F.Fn c.args.f.now) c.args.base xs _ c.index-items-0.result c.at_one.new.item (single xs one c.index-items-0.result c.index-items-0.is) (single_set xs one c.at_one.new.item)
    (subst (λ x. ChangesAt g.F.Fn c.args.f.now c.args.base x c.at_one.new.item) (sym c.index-items-0.is) c.at_one.ensures)
