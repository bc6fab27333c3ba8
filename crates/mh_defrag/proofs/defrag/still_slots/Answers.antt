use Rattle.std.proofs.Common.{◌≡◌, Some, sym, subst, arith}
use Rattle.mh_model.specs.Pages.{class_at}
use Rattle.mh_defrag.proofs.StillLemmas.{slots-go, slots-end}
use Rattle.mh_defrag.proofs.defrag.still_slots.Goals as goal

pub returns-then-slot-count-clause-still : goal.returns-then-slot-count-clause-still
returns-then-slot-count-clause-still c = grind (arith, slots-go)

pub returns-clause-still : goal.returns-clause-still
returns-clause-still c =
    let class = subst (λ n. class_at c.args.blocks.now n ≡ Some c.in-Some.class) c.page-page.ensures (sym c.in-Some.ensures) in
    rw c.page-page.ensures
    (slots-end c.args.blocks.now c.args.place c.in-Some.class c.still_count-count.result c.len.ensures.slots class c.requires.flagged (omega (arith, c.slots-slots.ensures.value, c.slots-slots.ensures.few)) c.requires.inside
    (omega (arith, c.slot-slot.ensures, c.slots-slots.ensures.value, c.if-slot-slots.false)) (omega (arith, c.slot-slot.ensures, c.slots-slots.ensures.value, c.if-slot-count.false)) c.still_count-count.ensures.still)
