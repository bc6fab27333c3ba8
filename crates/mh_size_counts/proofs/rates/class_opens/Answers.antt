use Rattle.std.proofs.{Common.{◌≤◌, ◌*◌, arith}, lemmas.Nat.mul-le}
use Rattle.mh_size_counts.proofs.RateLemmas.{ceil_few}
use Rattle.mh_size_counts.proofs.rates.class_opens.Goals as goal

pub returns-clause-few : goal.returns-clause-few
returns-clause-few c =
    let filled = ceil_few c.allowed_by.result c.slots-slots.result (omega (arith, c.slots-slots.ensures.some)) in
    let all : c.args.quanta * c.div_ceil.result ≤ 1000000 * 1003660 = mul-le c.args.quanta c.div_ceil.result 1000000 1003660 c.requires.quanta (omega (arith, filled)) in
    omega (arith, all)
