use Rattle.std.proofs.Common.{sym, arith}
use Rattle.mh_pages.proofs.LeastLemmas.{fresh_found, fresh_is_free, fresh_none}
use Rattle.mh_pages.proofs.pages.Pages.least_fresh.Goals as goal

pub returns-in-Some-clause-place : goal.returns-in-Some-clause-place
returns-in-Some-clause-place c = grind (arith, fresh_found)

pub returns-in-None-clause-place : goal.returns-in-None-clause-place
returns-in-None-clause-place c = rw (← c.self.view_is) (sym (fresh_none _ _ c.self.inside.words _ c.self.invariant.sized.few_pages c.self.invariant.pages c.self.invariant.indexed c.in-None.ensures.least))

pub returns-in-Some-clause-free : goal.returns-in-Some-clause-free
returns-in-Some-clause-free c =
    rw (← c.self.view_is) (fresh_is_free _ _ c.self.inside.words _ c.self.invariant.sized.few_pages c.self.invariant.pages c.self.invariant.indexed _ _ c.number.ensures.class c.in-Some.ensures.least)
