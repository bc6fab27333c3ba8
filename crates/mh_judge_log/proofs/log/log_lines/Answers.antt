use Rattle.std.proofs.Common.{◌∙◌, sym}
use Rattle.mh_judge_log.proofs.LogLemmas.{begins_with_command}
use Rattle.mh_judge_log.proofs.log.log_lines.Goals as goal

pub returns-clause-begins : goal.returns-clause-begins
returns-clause-begins c =
    let first = rw c.new-lines.ensures at c.in-Some.ensures.next in
    begins_with_command _ _ _ _ c.if-text-gt-RECORD_BYTES.false first (sym c.is_word.ensures ∙ c.if-not-is_word.false)
