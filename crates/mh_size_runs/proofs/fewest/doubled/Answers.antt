use Rattle.std.proofs.Common.{◌≡◌, ℕ, subst, arith}
use Rattle.mh_size_runs.specs.Auxiliary.{IsFew}
use Rattle.mh_size_runs.proofs.fewest.doubled.Goals as goal

pub returns : goal.returns
returns g c =
    let most : c.loop-few.few ≡ 4096 = omega (arith, c.loop-few-test.false, c.loop-few.invariant.most) in
    subst (λ (n : ℕ). IsFew c.args.config.now c.args.events.now n c.loop-few.latest) most c.loop-few.invariant.few
