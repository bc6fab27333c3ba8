use Rattle.std.proofs.Common.{sym, ap, ◌∙◌}
use Rattle.mh_model.specs.Script.{BadLine}
use Rattle.mh_size_text.proofs.SizingLemmas.{bad_line}
use Rattle.mh_size_text.proofs.script.write_sizes.Goals as goal

pub returns-in-Ok-write_verdict : goal.returns-in-Ok-write_verdict
returns-in-Ok-write_verdict g c =
    let bad = (rw c.in-Err-Line.field-0-is at c.in-Err-Line.ensures.line) ∙ ap BadLine (sym c.in-Err-Line.line-is) in
    bad_line c.args.options.now c.args.text.now _ c.of.result bad c.of.ensures.line c.of.ensures.reason c.in-Ok-write_verdict.ensures
