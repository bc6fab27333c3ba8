use Rattle.std.proofs.Common.{arith}
use Rattle.mh_size_counts.proofs.QuantumLemmas.{no_every, least_found}
use Rattle.mh_size_counts.proofs.targets.least_every_for.Goals as goal

pub returns-then-not-is_met : goal.returns-then-not-is_met
returns-then-not-is_met c = no_every c.args.target.now c.args.quantum (omega arith) (λ met. cc (c.is_met.ensures.1 met))

pub returns : goal.returns
returns c =
    least_found c.args.target.now c.args.quantum c.loop-met.unmet c.loop-met.met c.requires.least c.requires.most c.loop-met.invariant.order (omega arith) c.loop-met.invariant.most
    c.loop-met.invariant.met c.loop-met.invariant.unmet
