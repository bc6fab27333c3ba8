use Rattle.std.proofs.Common.{◌≡◌, ◌+◌, ◌-◌, drop, take, sum, arith}
use Rattle.mh_size_runs.proofs.InARowLemmas.{most-before, row-before}
use Rattle.mh_size_runs.proofs.in_a_row.most_in_a_row.Goals as goal

pub overflow_sub-sum : goal.overflow_sub-sum
overflow_sub-sum c =
    let row = row-before c.args.numbers.now c.args.count c.loop-start.start c.loop-start-test.true c.loop-start.auto.start in
    omega (arith, row, c.from-first.ensures, c.from-after.ensures, c.number_after.ensures, c.loop-start.invariant.sum)

pub loop-start-preserved : goal.loop-start-preserved
loop-start-preserved c =
    let row = row-before c.args.numbers.now c.args.count c.loop-start.start c.loop-start-test.true c.loop-start.auto.start in
    let start = c.loop-start.start - 1 in
    let now : c.loop-start.sum + c.from-first.result - c.from-after.result ≡ sum (take c.args.count (drop start c.args.numbers.now)) = omega (arith, row, c.from-first.ensures, c.from-after.ensures, c.number_after.ensures, c.loop-start.invariant.sum) in
    record {
      sum = now;
      few = omega (arith, c.loop-start.invariant.few, c.loop-start.auto.start, c.loop-start-test.true, c.type_inv.numbers (c.loop-start.start - 1), c.from-first.ensures);
      most = omega (arith, c.max-most.ensures, c.loop-start.invariant.most, now, most-before c.args.numbers.now c.args.count c.loop-start.start c.loop-start-test.true c.loop-start.auto.start);
    }
