use Rattle.std.proofs.Common.{refl, sym, ◌∙◌}
use Rattle.mh_text.proofs.HalfLemmas.{scan_found, scan_next, scan_last, scan_none}
use Rattle.mh_text.proofs.pieces.halves_of.Goals as goal

pub returns-then-is_word-clause-some : goal.returns-then-is_word-clause-some
returns-then-is_word-clause-some c = scan_found _ _ _ _ c.in-Some.next.now _ c.loop-word.invariant c.in-Some.ensures.some (sym c.is_word.ensures ∙ c.if-is_word.true)

pub loop-word-preserved : goal.loop-word-preserved
loop-word-preserved c = scan_next _ _ _ _ _ _ _ c.loop-word.invariant c.in-Some.ensures.whole c.in-Some.ensures.first (sym c.is_word.ensures ∙ c.if-is_word.false) refl

pub returns-then-is_word-2-clause-some : goal.returns-then-is_word-2-clause-some
returns-then-is_word-2-clause-some c = scan_last _ _ _ _ c.loop-word.invariant c.in_default.ensures.none (sym c.is_word-2.ensures ∙ c.if-is_word-2.true)

pub returns-else-is_word-2-clause-none : goal.returns-else-is_word-2-clause-none
returns-else-is_word-2-clause-none c = scan_none _ _ _ _ c.loop-word.invariant c.in_default.ensures.none (sym c.is_word-2.ensures ∙ c.if-is_word-2.false)
