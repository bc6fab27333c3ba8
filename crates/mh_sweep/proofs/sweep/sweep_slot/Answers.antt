use Rattle.std.proofs.{Common.{◌∙◌, sym}, lemmas.Bool.eqb-true}
use Rattle.mh_sweep.proofs.SweepLemmas.{swept-free, swept-kept, none_of}
use Rattle.mh_sweep.proofs.sweep.sweep_slot.Goals as goal

pub returns-then-not-is_taken : goal.returns-then-not-is_taken
returns-then-not-is_taken c = swept-free _ _ _ (sym c.is_taken.ensures ∙ c.if-not-is_taken.true)

pub returns-then-is_marked : goal.returns-then-is_marked
returns-then-is_marked c = swept-kept _ _ _ (none_of _ (sym c.is_forwarder.ensures ∙ c.if-not-is_forwarder.true)) (eqb-true _ _ (sym c.is_marked.ensures ∙ c.if-is_marked.true))
