use Rattle.std.proofs.Common.{arith, ◌+◌, ℕ, refl, get_or, subst}
use Rattle.std.specs.Fork.{ChangesAt}
use Rattle.mh_scan.proofs.team.on_each.Goals as goal

pub returns : goal.returns
returns g c = λ i d lt. (refl, subst (λ (k : ℕ). ChangesAt g.F.Fn c.args.f.now k (get_or c.args.items.now i d) (get_or c.on_each_from.new.items i d)) {x = 0 + i} (omega arith) (c.on_each_from.ensures.each i d lt))
