use Rattle.mh_size_runs.proofs.ClassLemmas.{counts-more}
use Rattle.mh_size_runs.proofs.class_counts.ClassCounts.count.Goals as goal

pub returns-clause-counted : goal.returns-clause-counted
returns-clause-counted c = λ parts counted.
    counts-more c.args.self.now.counts parts c.args.part c.class.result c.number-number.result c.class.ensures.class c.number-number.ensures.class c.number-number.ensures.value counted
