use Rattle.std.proofs.Common.{arith}
use Rattle.mh_pages.proofs.{KeptLemmas.size_used, TakenLemmas.{place_taken, block_within, kept-cleared, cleared_shown}}
use Rattle.mh_pages.proofs.pages.Pages.take.Goals as goal

pub start_of-first-requires-clause-page : goal.start_of-first-requires-clause-page
start_of-first-requires-clause-page c = (place_taken _ _ _ _ _ c.self.invariant _ _ _ _ _ c.self.view_is c.take_slot.ensures c.requires).inside

pub start_of-first-requires-clause-class : goal.start_of-first-requires-clause-class
start_of-first-requires-clause-class c = (size_used _ _ _ _ _ c.self.invariant _ (place_taken _ _ _ _ _ c.self.invariant _ _ _ _ _ c.self.view_is c.take_slot.ensures c.requires).used).most

pub overflow_add-first : goal.overflow_add-first
overflow_add-first c =
    omega (
      arith,
      c.start_of-first.ensures,
      c.size.ensures.value,
      block_within _ _ _ _ _ c.self.invariant _ _ _ _ _ c.self.view_is c.take_slot.ensures c.requires,
      c.self.invariant.sized.as_many_words,
      c.self.invariant.sized.few_pages,
    )

pub clear-requires-clause-within : goal.clear-requires-clause-within
clear-requires-clause-within c =
    omega (arith, c.start_of-first.ensures, c.size.ensures.value, block_within _ _ _ _ _ c.self.invariant _ _ _ _ _ c.self.view_is c.take_slot.ensures c.requires)

pub invariant_of-self : goal.invariant_of-self
invariant_of-self c =
    let zeroed = rw (c.start_of-first.ensures, c.size.ensures.value) at c.clear.ensures in
    kept-cleared _ _ _ _ _ c.self.invariant _ _ _ _ _ c.self.view_is c.take_slot.ensures c.requires _ zeroed

pub returns : goal.returns
returns c =
    let zeroed = rw (c.start_of-first.ensures, c.size.ensures.value) at c.clear.ensures in
    cleared_shown _ _ _ _ _ c.self.invariant _ _ _ _ _ c.self.view_is c.take_slot.ensures c.requires _ zeroed
