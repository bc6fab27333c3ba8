use Rattle.std.proofs.Common.{false, ◌∙◌, sym, ap, subst}
use Rattle.mh_model.specs.Deeds.{deeds_in}
use Rattle.mh_deeds.specs.Logs.{Told}
use Rattle.mh_cycle.specs.State.{CycleState}
use Rattle.mh_cycle.proofs.TellingLemmas.{step-told}
use Rattle.mh_cycle.proofs.cycle.Cycle.sweep_told.Goals as goal

pub returns-clause-told : goal.returns-clause-told
returns-clause-told g c =
    step-told g.L.Log.has c.args.self.now.collector false _ _ _ _ _ (sym c.requires) (ap (λ (s : CycleState). s.collector.phase) (c.self.view_is ∙ c.slot_told.ensures.after))
    (subst (λ deeds. Told g.L.Log.has c.args.log.now deeds c.slot_told.new.log) (sym (ap (λ p. deeds_in p c.args.self.now.collector false) c.requires)) c.slot_told.ensures.told) c.tell_phase.ensures
