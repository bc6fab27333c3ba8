use Rattle.std.proofs.{Common.sym, lemmas.List.take-map}
use Rattle.mh_judge_log.specs.declared.timed.Timed.{Timed}
use Rattle.mh_judge_log.proofs.tally.looked_through.Goals as goal

pub returns-in-FirstBad : goal.returns-in-FirstBad
returns-in-FirstBad c = rw c.in-FirstBad.is (sym (take-map (λ (t : Timed). t.entry) c.in-FirstBad.number c.args.order.now))
