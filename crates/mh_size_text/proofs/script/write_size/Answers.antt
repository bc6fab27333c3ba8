use Rattle.std.proofs.Common.{subst, sym}
use Rattle.std.specs.Prelude.{Ok}
use Rattle.mh_script.specs.Tasks.{IsPerformed}
use Rattle.mh_script.proofs.RunLemmas.{few_entries, many_entries}
use Rattle.mh_size_text.specs.{Scripts.IsSized, declared.end.SizeEnd.SizeEnd}
use Rattle.mh_size_text.proofs.SizingLemmas.{sized_few, sized_many, starved}
use Rattle.mh_size_text.proofs.script.write_size.Goals as goal

pub returns-in_err-text : goal.returns-in_err-text
returns-in_err-text g c = λ text is. starved c.args.options.now text c.args.script.now _ _ is c.from_residual.ensures.1

pub returns-in-Ok : goal.returns-in-Ok
returns-in-Ok g c = λ text is.
    sized_many c.args.options.now text c.args.script.now is _ _ c.in_ok-text.ensures (many_entries _ c.events.result.now c.events.ensures c.if-events-gt-MOST_ANSWERED.true)
    (rw c.as_bytes.ensures.value at c.in-Ok.ensures)

pub returns-in-Ok-2 : goal.returns-in-Ok-2
returns-in-Ok-2 g c = λ text is.
    let P : SizeEnd → Type 0 = λ ended. IsPerformed (IsSized c.args.options.now) (g.W.Sink.device c.args.sink.now) (g.W.Sink.device c.write_text.new.sink) (Ok ended) text in
    subst P (sym c.ended.ensures)
    (sized_few c.args.options.now text c.args.script.now is _ _ c.in_ok-text.ensures (few_entries _ c.events.result.now c.events.ensures c.if-events-gt-MOST_ANSWERED.false)
    (rw c.as_bytes.ensures.value at c.in-Ok-2.ensures))
