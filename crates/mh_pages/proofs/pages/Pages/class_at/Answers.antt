use Rattle.std.proofs.Common.{arith, ◌∙◌, sym}
use Rattle.mh_pages.proofs.KeptLemmas.{inside_of, class_shown, class_none}
use Rattle.mh_pages.proofs.pages.Pages.class_at.Goals as goal

pub read-head-requires-clause-within : goal.read-head-requires-clause-within
read-head-requires-clause-within c = inside_of _ _ _ _ _ c.self.invariant _ _ c.self.view_is c.requires

pub returns-then-head-eq0 : goal.returns-then-head-eq0
returns-then-head-eq0 c = grind (arith, class_none, inside_of)

pub returns : goal.returns
returns c =
    rw (c.class_of_head.ensures, c.read-head.ensures.value, ← c.self.view_is)
    (sym (class_shown _ _ _ _ _ c.self.invariant _ (record { inside = inside_of _ _ _ _ _ c.self.invariant _ _ c.self.view_is c.requires; used = λ e. c.if-head-eq0.false (c.read-head.ensures.value ∙ e) })))
