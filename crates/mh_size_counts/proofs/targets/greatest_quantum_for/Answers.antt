use Rattle.std.proofs.Common.{arith}
use Rattle.mh_size_counts.proofs.QuantumLemmas.{no_quantum, greatest_found}
use Rattle.mh_size_counts.proofs.targets.greatest_quantum_for.Goals as goal

pub returns-then-not-is_met-clause-greatest : goal.returns-then-not-is_met-clause-greatest
returns-then-not-is_met-clause-greatest c = no_quantum c.args.target.now c.args.every c.requires.some (λ met. cc (c.is_met.ensures.1 met))

pub returns-clause-greatest : goal.returns-clause-greatest
returns-clause-greatest c =
    greatest_found c.args.target.now c.args.every c.loop-unmet.met c.loop-unmet.unmet c.requires.some c.requires.few c.loop-unmet.invariant.least c.loop-unmet.invariant.order (omega arith)
    c.loop-unmet.invariant.most c.loop-unmet.invariant.met c.loop-unmet.invariant.unmet
