use Rattle.mh_model.specs.{Mutator.HeapState, View.heap_view}
use Rattle.mh_laws.proofs.{snapshots.CycleStarts.births-view, runs.EveryMoment.config-mutator_step}
use Rattle.mh_paged.specs.Auxiliary.{heap_of}
use Rattle.mh_paged.proofs.kept.KeptHeap.lawful.Goals as goal

pub returns : goal.returns
returns c =
    let heap : HeapState = heap_of c.self.inside.cycle c.self.inside.next_birth c.self.inside.ended in
    let keeping = c.self.invariant.keeping in
    rw (← c.self.view_is) (record {
      closed = c.kept_views_are_closed.ensures heap keeping;
      births = births-view heap;
      follows = c.commands_follow.ensures heap keeping;
      cycle = λ who command. (c.command_keeps_the_course.ensures heap who command).cycle;
      config = config-mutator_step heap;
      agrees = c.quanta_keep_the_view.ensures keeping.0 (heap_view heap) heap keeping.1 (c.kept_views_agree_with_themselves.ensures heap keeping);
      limit = c.quantum_keeps_its_limit.ensures heap.config heap.collector;
      number = (c.quantum_starts_one_cycle_at_most.ensures heap.config heap.collector).0;
      one = (c.quantum_starts_one_cycle_at_most.ensures heap.config heap.collector).1;
    })
