use Rattle.std.proofs.Common.{◌≡◌, ◌≤◌, get_or, take, sum}
use Rattle.mh_model.specs.{Classes.class_sizes, Openings.pages_for}
use Rattle.mh_size_runs.proofs.ClassLemmas.{sum_below}
use Rattle.mh_size_runs.proofs.class_counts.ClassCounts.pages.Given as goal

abbrev pub invariant-loop-number : goal.invariant-loop-number
invariant-loop-number l =
    (l.pages ≡ sum_below (λ k. pages_for (get_or class_sizes k 0) (get_or l.self.counts k 0)) l.number) × (l.pages ≤ sum (take l.number l.self.counts))
