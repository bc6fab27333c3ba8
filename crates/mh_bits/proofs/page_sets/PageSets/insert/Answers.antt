use Rattle.std.proofs.Common.{arith}
use Rattle.mh_bits.proofs.SetLemmas.{set_within, inserted_bits, inserted_summed}
use Rattle.mh_bits.proofs.page_sets.PageSets.insert.Goals as goal

pub read-requires-clause-within : goal.read-requires-clause-within
read-requires-clause-within c = set_within _ _ _ _ c.self.invariant c.self.view_is c.requires.set

pub overflow_mul-at : goal.overflow_mul-at
overflow_mul-at c = omega (arith, set_within _ _ _ _ c.self.invariant c.self.view_is c.requires.set)

pub overflow_add-at : goal.overflow_add-at
overflow_add-at c = omega (arith, set_within _ _ _ _ c.self.invariant c.self.view_is c.requires.set)

pub read-requires-2-clause-within : goal.read-requires-2-clause-within
read-requires-2-clause-within c = omega (arith, set_within _ _ _ _ c.self.invariant c.self.view_is c.requires.set)

pub write-requires : goal.write-requires
write-requires c = omega (arith, set_within _ _ _ _ c.self.invariant c.self.view_is c.requires.set)

pub write-requires-2 : goal.write-requires-2
write-requires-2 c = set_within _ _ _ _ c.self.invariant c.self.view_is c.requires.set

pub invariant_of-self : goal.invariant_of-self
invariant_of-self c =
    rw (c.write.ensures, c.write-2.ensures)
    (inserted_summed _ _ _ _ _ _ c.self.invariant (set_within _ _ _ _ c.self.invariant c.self.view_is c.requires.set) c.requires.page c.read-2.ensures.value c.read.ensures.value)

pub returns : goal.returns
returns c =
    rw (c.write.ensures, ← c.self.view_is)
    (inserted_bits _ _ _ _ _ _ c.self.invariant (set_within _ _ _ _ c.self.invariant c.self.view_is c.requires.set) c.requires.page c.read-2.ensures.value c.read.ensures.value)
