use Rattle.std.proofs.Common.{◌∙◌, ap}
use Rattle.mh_report.specs.declared.walk.Walk.{Walk}
use Rattle.mh_report.proofs.OrderLemmas.{at-position}
use Rattle.mh_report.proofs.walks.Walks.find.Goals as goal

pub returns-else-walk-window-clause-found : goal.returns-else-walk-window-clause-found
returns-else-walk-window-clause-found c has =
    let p = c.position-number.ensures in
    let at = at-position c.args.self.now.walks.items c.args.window c.position-number.result c.requires (record { within = p.within; shorter = p.shorter; rest = p.rest }) has in
    absurd (c.if-walk-window.false (ap (λ (w : Walk). w.window) c.index-walk.ensures ∙ at.1 c.index-walk.result.now))
