use Rattle.mh_model.specs.Mutator.{first_heap}
use Rattle.mh_cycle.proofs.cycle.Cycle.open.Goals as goal

pub returns-clause-steady : goal.returns-clause-steady
returns-clause-steady c =
    rw (c.in_ok-open.ensures, c.new.ensures, c.in_ok-open-2.ensures) (c.collectors_stay_steady.ensures.of_heaps (first_heap c.args.config) (c.heaps_stay_kept.ensures.first c.args.config))
