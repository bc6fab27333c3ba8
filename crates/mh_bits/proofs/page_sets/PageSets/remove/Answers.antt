use Rattle.std.proofs.Common.{arith}
use Rattle.mh_bits.proofs.SetLemmas.{set_within, removed_bits, removed_last}
use Rattle.mh_bits.proofs.page_sets.PageSets.remove.Goals as goal

pub read-summary-requires-clause-within : goal.read-summary-requires-clause-within
read-summary-requires-clause-within c = set_within _ _ _ _ c.self.invariant c.self.view_is c.requires.set

pub overflow_mul-at : goal.overflow_mul-at
overflow_mul-at c = omega (arith, set_within _ _ _ _ c.self.invariant c.self.view_is c.requires.set)

pub overflow_add-at : goal.overflow_add-at
overflow_add-at c = omega (arith, set_within _ _ _ _ c.self.invariant c.self.view_is c.requires.set)

pub read-requires-clause-within : goal.read-requires-clause-within
read-requires-clause-within c = omega (arith, set_within _ _ _ _ c.self.invariant c.self.view_is c.requires.set)

pub write-requires : goal.write-requires
write-requires c = omega (arith, set_within _ _ _ _ c.self.invariant c.self.view_is c.requires.set)

pub write-requires-then-word-eq0 : goal.write-requires-then-word-eq0
write-requires-then-word-eq0 c = set_within _ _ _ _ c.self.invariant c.self.view_is c.requires.set

pub invariant_of-self : goal.invariant_of-self
invariant_of-self c =
    rw (c.write.ensures, c.write-then-word-eq0.ensures)
    (removed_last _ _ _ _ _ _ c.self.invariant (set_within _ _ _ _ c.self.invariant c.self.view_is c.requires.set) c.requires.page c.read.ensures.value c.read-summary.ensures.value c.if-word-eq0.true)

pub returns-then-word-eq0 : goal.returns-then-word-eq0
returns-then-word-eq0 c =
    rw (c.write.ensures, ← c.self.view_is)
    (removed_bits _ _ _ _ _ _ c.self.invariant (set_within _ _ _ _ c.self.invariant c.self.view_is c.requires.set) c.requires.page c.read.ensures.value c.read-summary.ensures.value)

pub returns-else-word-eq0 : goal.returns-else-word-eq0
returns-else-word-eq0 c =
    rw (c.write.ensures, ← c.self.view_is)
    (removed_bits _ _ _ _ _ _ c.self.invariant (set_within _ _ _ _ c.self.invariant c.self.view_is c.requires.set) c.requires.page c.read.ensures.value c.read-summary.ensures.value)
