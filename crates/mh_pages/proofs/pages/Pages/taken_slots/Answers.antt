use Rattle.std.proofs.Common.{arith, ◌∙◌, sym}
use Rattle.mh_pages.proofs.{KeptLemmas.inside_of, SlotLemmas.{no_slots_told, slots_told}}
use Rattle.mh_pages.proofs.pages.Pages.taken_slots.Goals as goal

pub read-head-requires-clause-within : goal.read-head-requires-clause-within
read-head-requires-clause-within c = inside_of _ _ _ _ _ c.self.invariant _ _ c.self.view_is c.requires

pub returns-then-head-eq0 : goal.returns-then-head-eq0
returns-then-head-eq0 c = λ slot few. rw (← c.self.view_is) (no_slots_told _ c.self.inside.frees c.self.inside.words _ slot (sym c.read-head.ensures.value ∙ c.if-head-eq0.true) few)

pub returns : goal.returns
returns c = grind (arith, slots_told, inside_of)
