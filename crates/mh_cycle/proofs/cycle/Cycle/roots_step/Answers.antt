use Rattle.std.proofs.Common.{arith, refl}
use Rattle.mh_grey.proofs.ShadeLemmas.{marked-apart}
use Rattle.mh_cycle.proofs.{FrameLemmas.{length-shade, framed-roots, framed-next}, ReadyLemmas.are-marked}
use Rattle.mh_cycle.proofs.StepLemmas.{roots-stay, roots-after}
use Rattle.mh_cycle.proofs.cycle.Cycle.roots_step.Goals as goal

pub shade-requires-clause-apart : goal.shade-requires-clause-apart
shade-requires-clause-apart c = grind (arith, marked-apart, are-marked)

pub invariant_of-self : goal.invariant_of-self
invariant_of-self c = framed-next _ _ _ _ _ _ _ _ c.self.invariant (rw c.shade.ensures.table (length-shade _ _)) (rw c.shade.ensures.grey refl) c.after_mark-self-inside.ensures

pub invariant_of-self-else-self-eq-ROOT_SLOTS : goal.invariant_of-self-else-self-eq-ROOT_SLOTS
invariant_of-self-else-self-eq-ROOT_SLOTS c =
    let phase = rw (← c.self.view_is) at c.requires.phase in
    rw (c.shade.ensures.table, c.shade.ensures.grey) (framed-roots _ _ _ _ _ _ _ c.self.invariant phase c.if-self-eq-ROOT_SLOTS.false)

pub returns-then-self-eq-ROOT_SLOTS : goal.returns-then-self-eq-ROOT_SLOTS
returns-then-self-eq-ROOT_SLOTS c = grind (arith, roots-after)

pub returns-else-self-eq-ROOT_SLOTS : goal.returns-else-self-eq-ROOT_SLOTS
returns-else-self-eq-ROOT_SLOTS c = grind (arith, roots-stay)
