use Rattle.std.proofs.Common.{sym}
use Rattle.mh_reasons.proofs.HeaderLemmas.{headed_by}
use Rattle.mh_reasons.proofs.header.after_rules.Goals as goal

pub returns-then-is_word-3-clause-some : goal.returns-then-is_word-3-clause-some
returns-then-is_word-3-clause-some c =
    headed_by c.args.first.now c.in_ok-second.second.now c.in_ok-third.third.now c.args.words c.next_word.new.self c.next_word-2.new.self
    (sym c.if-is_word.ensures) (sym c.if-is_word-2.ensures) (sym c.if-is_word-3.ensures) c.in_ok-second.ensures.next c.in_ok-third.ensures.next
