use Rattle.std.proofs.Common.{arith}
use Rattle.mh_pages.proofs.KeptLemmas.{block_of, class_used, room, kept-released, released_shown}
use Rattle.mh_pages.proofs.pages.Pages.release_slot.Goals as goal

pub read-head-requires-clause-within : goal.read-head-requires-clause-within
read-head-requires-clause-within c = rw c.page-page.ensures ((block_of _ _ _ _ _ c.self.invariant _ _ c.self.view_is c.requires).inside)

pub read-before-requires-clause-within : goal.read-before-requires-clause-within
read-before-requires-clause-within c = omega (arith, c.page-page.ensures, (block_of _ _ _ _ _ c.self.invariant _ _ c.self.view_is c.requires).inside, c.self.invariant.sized.as_many_frees)

pub class_of_head-class-requires : goal.class_of_head-class-requires
class_of_head-class-requires c = rw (c.read-head.ensures.value, c.page-page.ensures) (class_used _ _ _ _ _ c.self.invariant _ (block_of _ _ _ _ _ c.self.invariant _ _ c.self.view_is c.requires).used)

pub change_free-requires : goal.change_free-requires
change_free-requires c = rw c.page-page.ensures (room _ _ _ _ _ c.self.invariant _ (block_of _ _ _ _ _ c.self.invariant _ _ c.self.view_is c.requires).inside)

pub invariant_of-self : goal.invariant_of-self
invariant_of-self c =
    rw (c.change_free.ensures.frees, c.change_free.ensures.sets, c.class_of_head-class.ensures, c.read-before.ensures.value, c.read-head.ensures.value, c.slot.ensures, c.page-page.ensures)
    (kept-released _ _ _ _ _ c.self.invariant _ (block_of _ _ _ _ _ c.self.invariant _ _ c.self.view_is c.requires))

pub returns : goal.returns
returns c = grind (arith, released_shown, block_of)
