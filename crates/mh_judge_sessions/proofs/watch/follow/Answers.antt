use Rattle.std.proofs.{Common.{◌∙◌, ap, sym}, lemmas.Bool.false≢true, lemmas.Result.err_from_is_err_and}
use Rattle.mh_heap.proofs.BirthLemmas.{births_performed}
use Rattle.mh_heap.specs.PlainHeap.{world_of}
use Rattle.mh_model.specs.World.{Answer, World, never_full}
use Rattle.mh_judge_sessions.proofs.{JudgeLemmas.{followed, followed_full, makes_object}, WatchLemmas.unseen_here}
use Rattle.mh_judge_sessions.proofs.watch.follow.Goals as goal

pub returns-then-may_lack_room-clause-right : goal.returns-then-may_lack_room-clause-right
returns-then-may_lack_room-clause-right c =
    followed_full (world_of c.args.heap.now) c.args.entry c.in-Session.who c.in-Session.command c.in-Session.is (c.may_lack_room.ensures.0 c.if-may_lack_room.true)

pub returns-then-is_same-clause-right : goal.returns-then-is_same-clause-right
returns-then-is_same-clause-right c =
    followed _ _ c.args.entry c.in-Session.who c.in-Session.command c.in_ok-right.right c.in-Session.is c.in_ok-right.ensures.exactly (c.is_same.ensures.0 c.if-is_same.true)

pub returns-then-is_same-clause-few : goal.returns-then-is_same-clause-few
returns-then-is_same-clause-few c = births_performed never_full _ _ c.in-Session.who c.in-Session.command c.in_ok-right.right c.in_ok-right.ensures.exactly

pub reply_fault-requires : goal.reply_fault-requires
reply_fault-requires c = λ same. false≢true (sym c.if-is_same.false ∙ c.is_same.ensures.1 same)

pub returns-clause-wrong : goal.returns-clause-wrong
returns-clause-wrong c =
    unseen_here (world_of c.args.heap.now) (world_of c.args.heap.now) c.args.entry c.in-Session.who c.in-Session.command c.in_ok-right.right _ c.in-Session.is
    (sym (ap (λ (after : Answer World). after.reply) c.in_ok-right.ensures.exactly))
    (λ may. false≢true (sym c.if-may_lack_room.false ∙ c.may_lack_room.ensures.1 may))
    (λ same. false≢true (sym c.if-is_same.false ∙ c.is_same.ensures.1 same))
    c.reply_fault.ensures

pub returns-clause-few : goal.returns-clause-few
returns-clause-few c = births_performed never_full _ _ c.in-Session.who c.in-Session.command c.in_ok-right.right c.in_ok-right.ensures.exactly

pub returns-in_err-right-clause-memory : goal.returns-in_err-right-clause-memory
returns-in_err-right-clause-memory c =
    let p = err_from_is_err_and c.from_residual.result c.from_residual.ensures.1 in
    rw p.1 (makes_object (world_of c.args.heap.now) c.args.entry c.in-Session.who c.in-Session.command c.in-Session.is c.in_err-right.ensures.only_new c.in_err-right.ensures.asked
    (λ may. false≢true (sym c.if-may_lack_room.false ∙ c.may_lack_room.ensures.1 may)))
