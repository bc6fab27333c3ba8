use Rattle.std.proofs.Common.{sym}
use Rattle.mh_text.proofs.NameLemmas.{again, all_known, set_known, settled_name}
use Rattle.mh_text.proofs.names.Names.number.Goals as goal

pub invariant_of-self-then-is_name : goal.invariant_of-self-then-is_name
invariant_of-self-then-is_name c = (
  c.in_ok-number.ensures.few,
  set_known _ _ c.place_of-place.result _ _ (all_known _ _ _ _ c.in_ok-number.ensures.seen c.self.invariant.1) (settled_name _ _ _ _ c.in_ok-number.ensures.number c.in_ok-number.ensures.seen (sym c.if-is_name.ensures)),
)

pub invariant_of-self-else-is_name : goal.invariant_of-self-else-is_name
invariant_of-self-else-is_name c = (c.in_ok-number.ensures.few, all_known _ _ _ _ c.in_ok-number.ensures.seen c.self.invariant.1)

pub returns-clause-number : goal.returns-clause-number
returns-clause-number c =
    rw (← c.self.view_is) (again _ _ _ _ _ (c.self.invariant.1 c.place_of-place.result) c.in-Some.is (sym c.if-is_word.ensures)).0

pub returns-clause-seen : goal.returns-clause-seen
returns-clause-seen c =
    rw (← c.self.view_is) (again _ _ _ _ _ (c.self.invariant.1 c.place_of-place.result) c.in-Some.is (sym c.if-is_word.ensures)).1
