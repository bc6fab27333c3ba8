use Rattle.std.proofs.Common.{subst, sym, arith, is_ok}
use Rattle.std.specs.List.{All}
use Rattle.mh_report.specs.Auxiliary.{IsWalk, HasWalk}
use Rattle.mh_report.proofs.OrderLemmas.{at-position, all-inserted, order-inserted, has-inserted}
use Rattle.mh_report.proofs.walks.Walks.keep.Goals.{else-number-count-via-then-number-count+else-index-walk, else-number-count-via-else-number-count}
use Rattle.mh_report.proofs.walks.Walks.keep.Goals as goal

pub returns-then-count-lt-WINDOWS-clause-order : goal.returns-then-count-lt-WINDOWS-clause-order
returns-then-count-lt-WINDOWS-clause-order c = grind (arith, order-inserted, is_ok)

pub returns-then-count-lt-WINDOWS-clause-kept : goal.returns-then-count-lt-WINDOWS-clause-kept
returns-then-count-lt-WINDOWS-clause-kept c window has =
    subst (λ walks. HasWalk walks window) (sym c.insert.ensures.items) (has-inserted c.args.self.now.walks.items c.position-number.result c.args.walk (is_ok c.insert.result) window c.position-number.ensures.within has)

pub returns-then-count-lt-WINDOWS-clause-put : goal.returns-then-count-lt-WINDOWS-clause-put
returns-then-count-lt-WINDOWS-clause-put c has =
    let p = c.position-number.ensures in
    let at = at-position c.args.self.now.walks.items c.args.walk.window c.position-number.result c.requires (record { within = p.within; shorter = p.shorter; rest = p.rest }) has in
    grind (arith, else-number-count-via-then-number-count+else-index-walk, else-number-count-via-else-number-count)

pub returns-then-count-lt-WINDOWS-clause-walks : goal.returns-then-count-lt-WINDOWS-clause-walks
returns-then-count-lt-WINDOWS-clause-walks c segments all one =
    subst (All (IsWalk segments)) (sym c.insert.ensures.items) (all-inserted (IsWalk segments) c.args.self.now.walks.items c.position-number.result c.args.walk (is_ok c.insert.result) all one)

pub returns-else-count-lt-WINDOWS-clause-put : goal.returns-else-count-lt-WINDOWS-clause-put
returns-else-count-lt-WINDOWS-clause-put c has =
    let p = c.position-number.ensures in
    let at = at-position c.args.self.now.walks.items c.args.walk.window c.position-number.result c.requires (record { within = p.within; shorter = p.shorter; rest = p.rest }) has in
    grind (arith, else-number-count-via-then-number-count+else-index-walk, else-number-count-via-else-number-count)
