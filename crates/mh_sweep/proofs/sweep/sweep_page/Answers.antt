use Rattle.std.proofs.{Common.{◌≡◌, ◌∙◌, None, sym, ap, arith, rules}, lemmas.List.length-set}
use Rattle.mh_model.specs.Pages.{class_at, page_number}
use Rattle.mh_sweep.specs.Auxiliary.{slots_swept}
use Rattle.mh_sweep.proofs.PageSweeping.{sweeping-ends, sweeping-all, sweeping-judged, not_last, whole, stretch-class, stretch-long, free-passed}
use Rattle.mh_sweep.proofs.sweep.sweep_page.Goals as goal

pub returns-in_default-clause-swept : goal.returns-in_default-clause-swept
returns-in_default-clause-swept c =
    let none : c.class_at.result ≡ None = search rules in
    let class : class_at c.args.blocks.now (page_number c.args.place) ≡ None = ap (class_at c.args.blocks.now) (sym c.page-page.ensures) ∙ sym c.class_at.ensures ∙ none in
    let free = rw c.page-page.ensures at c.free_run-count.ensures.free in
    let inside = rw c.page-page.ensures at c.free_run-count.ensures.inside in
    rw c.page-page.ensures (free-passed c.args.cycle c.args.blocks.now c.args.place c.free_run-count.result c.requires.inside class free inside)

pub judge-requires-clause-inside : goal.judge-requires-clause-inside
judge-requires-clause-inside c = rw (c.sweep_slots.ensures, stretch-long c.args.cycle c.args.blocks.now c.args.place c.min-count.result, c.page-page.ensures) c.requires.inside

pub judge-requires-clause-class : goal.judge-requires-clause-class
judge-requires-clause-class c = grind (arith, stretch-class)

pub returns-clause-swept : goal.returns-clause-swept
returns-clause-swept c = grind (arith, sweeping-judged)

pub returns-clause-long : goal.returns-clause-long
returns-clause-long c = rw (c.judge.ensures, c.sweep_slots.ensures) (length-set (slots_swept c.args.cycle c.args.blocks.now c.args.place c.min-count.result) _ _ ∙ stretch-long c.args.cycle c.args.blocks.now c.args.place c.min-count.result)

pub returns-then-slot-count-clause-swept : goal.returns-then-slot-count-clause-swept
returns-then-slot-count-clause-swept c = grind (arith, sweeping-ends, sweeping-all, not_last)

pub returns-then-slot-count-clause-far : goal.returns-then-slot-count-clause-far
returns-then-slot-count-clause-far c = grind (arith, whole)

pub returns-then-slot-count-clause-long : goal.returns-then-slot-count-clause-long
returns-then-slot-count-clause-long c = rw c.sweep_slots.ensures (stretch-long c.args.cycle c.args.blocks.now c.args.place c.min-count.result)
