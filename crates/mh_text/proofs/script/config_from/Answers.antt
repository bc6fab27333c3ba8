use Rattle.std.proofs.Common.{sym, ◌∙◌}
use Rattle.mh_text.proofs.ScriptLemmas.{blanks_found, blanks_more}
use Rattle.mh_text.proofs.script.config_from.Goals as goal

pub returns-then-not-is_blank-clause-config : goal.returns-then-not-is_blank-clause-config
returns-then-not-is_blank-clause-config c =
    blanks_found _ _ _ _ _ c.ok_or.result c.loop-number.invariant c.in-Some.ensures.next (sym c.if-not-is_blank.ensures) (sym c.config_line.ensures ∙ c.ok_or.ensures.ok_part)

pub loop-number-preserved : goal.loop-number-preserved
loop-number-preserved c = blanks_more _ _ _ _ _ c.loop-number.invariant c.in-Some.ensures.next (sym c.if-not-is_blank.ensures)
