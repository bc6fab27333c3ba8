use Rattle.std.proofs.Common.{sym, ◌∙◌}
use Rattle.mh_history.proofs.HalfLemmas.{around_cut, some_of}
use Rattle.mh_history.proofs.entry.around_equals.Goals as goal

pub returns-then-back-eq32 : goal.returns-then-back-eq32
returns-then-back-eq32 c =
    let front = c.in_ok-front.front.now in
    let back = c.in_ok-front.back.now in
    let full = some_of front (sym c.is_empty.ensures ∙ c.if-is_empty.false) in
    let some = some_of back (sym c.is_empty-else-is_empty.ensures ∙ c.if-is_empty-2.false) in
    around_cut c.args.line.now front back c.in_ok-front.ensures.whole c.in_ok-front.ensures.first full c.if-front-last-eq32.true some c.if-back-eq32.true
