use Rattle.mh_heap.specs.PlainHeap.{world_of}
use Rattle.mh_judge_sessions.proofs.JudgeLemmas.{answers_new}
use Rattle.mh_judge_sessions.proofs.watch.is_made.Goals as goal

pub returns : goal.returns
returns c =
    rw c.in-New.is
    (answers_new c.refusal_of_new.result c.is_none.result (world_of c.args.heap.now) c.args.who c.in-New.slot c.in-New.references c.in-New.numbers c.is_none.ensures c.refusal_of_new.ensures)
