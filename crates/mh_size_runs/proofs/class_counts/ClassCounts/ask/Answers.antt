use Rattle.std.proofs.{Common.{◌≡◌, ◌∙◌, ◌++◌, List, length, take, ap, sym, subst, arith}, Math.Seq.take-length}
use Rattle.mh_model.specs.Classes.{Part}
use Rattle.mh_size_runs.specs.Auxiliary.{HasCounted}
use Rattle.mh_size_runs.proofs.ClassLemmas.{taken-next}
use Rattle.mh_size_runs.proofs.class_counts.ClassCounts.ask.Goals as goal

pub loop-index-preserved : goal.loop-index-preserved
loop-index-preserved c = record {
  total = omega (arith, c.count.ensures.total, c.loop-index.invariant.total);
  counted = λ parts counted.
      subst (λ (list : List Part). HasCounted c.count.new.self list) (taken-next parts c.args.asked.now c.loop-index.index c.get.result (sym c.get.ensures))
      (c.count.ensures.counted (parts ++ take c.loop-index.index c.args.asked.now) (c.loop-index.invariant.counted parts counted));
}

pub returns-clause-counted : goal.returns-clause-counted
returns-clause-counted c = λ parts counted.
    let last : c.loop-index.index ≡ length c.args.asked.now = omega (arith, c.loop-index-test.false, c.count-index-end.ensures.count) in
    subst (λ (list : List Part). HasCounted c.loop-index.self (parts ++ list)) (ap (λ n. take n c.args.asked.now) last ∙ take-length c.args.asked.now) (c.loop-index.invariant.counted parts counted)
