use Rattle.std.proofs.Common.{◌≡◌, ◌+◌, ◌-◌, refl, sym, ap, ◌∙◌, arith}
use Rattle.mh_model.specs.Mutator.{with_roots_cleared}
use Rattle.mh_paged.proofs.KeptLemmas.{steady-cleared}
use Rattle.mh_paged.proofs.lent.clear_roots.Goals as goal

pub loop-slot-init : goal.loop-slot-init
loop-slot-init c =
    let count : c.args.first + 16 - c.args.first ≡ 16 = omega arith in
    (refl, ap (with_roots_cleared c.args.cycle.now.collector c.args.first) count, c.requires.steady)

pub loop-slot-preserved : goal.loop-slot-preserved
loop-slot-preserved c =
    let written = ap (λ s. s.collector) c.write_root.ensures in
    let rest = ap (λ x. with_roots_cleared x (c.loop-slot.slot + 1) (c.args.first + 16 - (c.loop-slot.slot + 1))) written in (
      ap (λ s. s.config) c.write_root.ensures ∙ c.loop-slot.invariant.0,
      rest ∙ sym (c.commands_are_answered.ensures.emptied c.loop-slot.cycle.collector c.loop-slot.slot (c.args.first + 16) c.loop-slot-test.true) ∙ c.loop-slot.invariant.1,
      steady-cleared c.roots_written_keep_the_snapshot.ensures c.loop-slot.cycle.collector c.write_root.new.cycle.collector c.loop-slot.slot written c.loop-slot.invariant.2,
    )
