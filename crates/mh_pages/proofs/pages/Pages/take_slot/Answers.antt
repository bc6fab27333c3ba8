use Rattle.std.proofs.Common.{arith, ◌∙◌, ap, sym, get_or}
use Rattle.mh_pages.proofs.KeptLemmas.{free_of, free_within, room, fresh_counted, kept-taken_fresh, kept-taken_used, taken_shown_fresh, taken_shown_used}
use Rattle.mh_pages.proofs.pages.Pages.take_slot.Goals as goal

pub read-head-requires-clause-within : goal.read-head-requires-clause-within
read-head-requires-clause-within c = rw c.page-page.ensures (free_within _ _ _ _ _ c.self.invariant _ _ (free_of _ _ _ _ _ _ c.self.view_is c.requires))

pub overflow_sub-self : goal.overflow_sub-self
overflow_sub-self c = grind (arith, fresh_counted, free_of)

pub change-requires : goal.change-requires
change-requires c = rw c.page-page.ensures (room _ _ _ _ _ c.self.invariant _ (free_within _ _ _ _ _ c.self.invariant _ _ (free_of _ _ _ _ _ _ c.self.view_is c.requires)))

pub invariant_of-self : goal.invariant_of-self
invariant_of-self c =
    let none = ap (λ k. get_or c.self.inside.heads k 0) (sym c.page-page.ensures) ∙ (sym c.read-head.ensures.value ∙ c.if-head-eq0.true) in
    rw (c.change.ensures.heads, c.change.ensures.frees, c.change.ensures.sets, c.all_slots.ensures, c.size.ensures.value, c.slot.ensures, c.page-page.ensures)
    (kept-taken_fresh _ _ _ _ _ c.self.invariant _ _ c.size.ensures.class (free_of _ _ _ _ _ _ c.self.view_is c.requires) none)

pub returns-then-head-eq0 : goal.returns-then-head-eq0
returns-then-head-eq0 c = grind (arith, taken_shown_fresh, free_of)

pub invariant_of-self-else-head-eq0 : goal.invariant_of-self-else-head-eq0
invariant_of-self-else-head-eq0 c =
    rw (c.change_free.ensures.frees, c.change_free.ensures.sets, c.read-before.ensures.value, c.slot.ensures, c.page-page.ensures)
    (kept-taken_used _ _ _ _ _ c.self.invariant _ _ (free_of _ _ _ _ _ _ c.self.view_is c.requires) (λ e. c.if-head-eq0.false (c.read-head.ensures.value ∙ (ap (λ k. get_or c.self.inside.heads k 0) c.page-page.ensures ∙ e))))

pub returns-else-head-eq0 : goal.returns-else-head-eq0
returns-else-head-eq0 c = grind (arith, taken_shown_used, free_of)
