use Rattle.std.proofs.Common.{◌/◌, ◌∙◌, ap, arith, get_or}
use Rattle.std.specs.Int.Count.{ones}
use Rattle.mh_model.specs.Classes.{slots_in}
use Rattle.mh_pages.proofs.{ShownLemmas.page_at-shown, LiveLemmas.{live-shown, live-free}, KeptLemmas.inside_of}
use Rattle.mh_pages.proofs.pages.Pages.live_in.Goals as goal

pub read-head-requires-clause-within : goal.read-head-requires-clause-within
read-head-requires-clause-within c = inside_of _ _ _ _ _ c.self.invariant _ _ c.self.view_is c.requires

pub returns-then-head-eq0-clause-count : goal.returns-then-head-eq0-clause-count
returns-then-head-eq0-clause-count c = grind (arith, page_at-shown, inside_of, live-free)

pub overflow_sub-result : goal.overflow_sub-result
overflow_sub-result c =
    omega (arith, live-shown (get_or c.self.inside.heads c.args.page 0) (get_or c.self.inside.frees c.args.page 0) c.self.inside.words c.args.page (λ e. c.if-head-eq0.false (c.read-head.ensures.value ∙ e)) (c.self.invariant.pages.no_more_slots c.args.page), ap ones c.read.ensures.value, c.slots.ensures.value, ap slots_in c.class_of_head.ensures, ap (λ h. slots_in (h / 2)) c.read-head.ensures.value)

pub returns-clause-count : goal.returns-clause-count
returns-clause-count c = grind (arith, live-shown, page_at-shown, inside_of)
