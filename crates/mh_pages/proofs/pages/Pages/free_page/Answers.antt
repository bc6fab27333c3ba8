use Rattle.std.proofs.Common.{arith}
use Rattle.mh_pages.proofs.KeptLemmas.{used_of, class_used, room, free_few, kept-freed, freed_shown}
use Rattle.mh_pages.proofs.pages.Pages.free_page.Goals as goal

pub read-requires-clause-within : goal.read-requires-clause-within
read-requires-clause-within c = (used_of _ _ _ _ _ c.self.invariant _ _ c.self.view_is c.requires.used).inside

pub class_of_head-class-requires : goal.class_of_head-class-requires
class_of_head-class-requires c = rw c.read.ensures.value (class_used _ _ _ _ _ c.self.invariant _ (used_of _ _ _ _ _ c.self.invariant _ _ c.self.view_is c.requires.used).used)

pub overflow_add-self : goal.overflow_add-self
overflow_add-self c = omega (arith, free_few _ _ _ _ _ c.self.invariant)

pub change-requires : goal.change-requires
change-requires c = room _ _ _ _ _ c.self.invariant _ (used_of _ _ _ _ _ c.self.invariant _ _ c.self.view_is c.requires.used).inside

pub invariant_of-self : goal.invariant_of-self
invariant_of-self c =
    rw (c.change.ensures.heads, c.change.ensures.frees, c.change.ensures.sets, c.class_of_head-class.ensures, c.read.ensures.value)
    (kept-freed _ _ _ _ _ c.self.invariant _ (used_of _ _ _ _ _ c.self.invariant _ _ c.self.view_is c.requires.used))

pub returns : goal.returns
returns c =
    rw (c.change.ensures.heads, c.change.ensures.frees, ← c.self.view_is) (freed_shown _ _ _ _ _ c.self.invariant _ (used_of _ _ _ _ _ c.self.invariant _ _ c.self.view_is c.requires.used))
