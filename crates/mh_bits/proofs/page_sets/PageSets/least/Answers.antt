use Rattle.std.proofs.Common.{arith, ◌∙◌, sym}
use Rattle.mh_bits.proofs.SetLemmas.{set_within, empty_set, row_of_summary, least_found}
use Rattle.mh_bits.proofs.page_sets.PageSets.least.Goals as goal

pub read-summary-requires-clause-within : goal.read-summary-requires-clause-within
read-summary-requires-clause-within c = set_within _ _ _ _ c.self.invariant c.self.view_is c.requires.set

pub returns-then-summary-eq0-clause-least : goal.returns-then-summary-eq0-clause-least
returns-then-summary-eq0-clause-least c =
    rw (← c.self.view_is) (empty_set _ _ _ c.self.invariant (set_within _ _ _ _ c.self.invariant c.self.view_is c.requires.set) (sym c.read-summary.ensures.value ∙ c.if-summary-eq0.true))

pub overflow_add-set : goal.overflow_add-set
overflow_add-set c =
    let inside = set_within _ _ _ _ c.self.invariant c.self.view_is c.requires.set in
    omega (arith, inside, row_of_summary _ _ _ _ c.self.invariant inside c.read-summary.ensures.value c.if-summary-eq0.false c.read-summary.type_inv)

pub read-word-requires-clause-within : goal.read-word-requires-clause-within
read-word-requires-clause-within c =
    let inside = set_within _ _ _ _ c.self.invariant c.self.view_is c.requires.set in
    omega (arith, inside, row_of_summary _ _ _ _ c.self.invariant inside c.read-summary.ensures.value c.if-summary-eq0.false c.read-summary.type_inv)

pub returns-clause-least : goal.returns-clause-least
returns-clause-least c =
    rw (← c.self.view_is)
    (least_found _ _ _ _ c.self.invariant (set_within _ _ _ _ c.self.invariant c.self.view_is c.requires.set) c.read-summary.ensures.value c.if-summary-eq0.false c.read-summary.type_inv _ c.read-word.ensures.value c.read-word.type_inv)
