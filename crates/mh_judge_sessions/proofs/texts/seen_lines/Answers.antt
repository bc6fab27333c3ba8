use Rattle.std.proofs.Common.{◌∙◌, sym}
use Rattle.mh_judge_sessions.proofs.OpenedLemmas.{opened_one, opened_two, refused_empty, refused_long, refused_one_long, refused_wrong}
use Rattle.mh_judge_sessions.proofs.texts.seen_lines.Goals as goal

pub returns-then-text-gt-RECORD_BYTES-clause-line : goal.returns-then-text-gt-RECORD_BYTES-clause-line
returns-then-text-gt-RECORD_BYTES-clause-line c = refused_long c.args.text.now c.if-text-gt-RECORD_BYTES.true

pub returns-in_default-clause-line : goal.returns-in_default-clause-line
returns-in_default-clause-line c = refused_empty c.args.text.now c.if-text-gt-RECORD_BYTES.false (rw c.new-lines.ensures at c.in_default.ensures.end)

pub returns-then-text-gt-HISTORY_BYTES-clause-line : goal.returns-then-text-gt-HISTORY_BYTES-clause-line
returns-then-text-gt-HISTORY_BYTES-clause-line c =
    refused_one_long c.args.text.now _ _ _ c.if-text-gt-HISTORY_BYTES.true (rw c.new-lines.ensures at c.in-Some.ensures.next) (sym c.is_word.ensures ∙ c.if-is_word.true)

pub returns-else-text-gt-HISTORY_BYTES-clause-lines : goal.returns-else-text-gt-HISTORY_BYTES-clause-lines
returns-else-text-gt-HISTORY_BYTES-clause-lines c =
    opened_one c.args.text.now _ _ _ c.if-text-gt-HISTORY_BYTES.false (rw c.new-lines.ensures at c.in-Some.ensures.next) (sym c.is_word.ensures ∙ c.if-is_word.true)

pub returns-in-Some-header_of-clause-lines : goal.returns-in-Some-header_of-clause-lines
returns-in-Some-header_of-clause-lines c =
    opened_two c.args.text.now _ _ _ _ c.if-text-gt-RECORD_BYTES.false (rw c.new-lines.ensures at c.in-Some.ensures.next) (sym c.is_word.ensures ∙ c.if-is_word.false) (rw c.new.ensures at (sym c.in-Some-header_of.ensures))

pub returns-in-None-clause-line : goal.returns-in-None-clause-line
returns-in-None-clause-line c =
    refused_wrong c.args.text.now _ _ _ c.if-text-gt-RECORD_BYTES.false (rw c.new-lines.ensures at c.in-Some.ensures.next) (sym c.is_word.ensures ∙ c.if-is_word.false) (rw c.new.ensures at (sym c.in-None.ensures))
