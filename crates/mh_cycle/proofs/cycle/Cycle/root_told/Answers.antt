use Rattle.std.proofs.Common.{false, ◌∙◌, ◌∷◌, [], length, sym, ap, subst}
use Rattle.mh_model.specs.Deeds.{deeds_in, root_deed}
use Rattle.mh_deeds.specs.Logs.{Told}
use Rattle.mh_cycle.specs.State.{CycleState}
use Rattle.mh_cycle.proofs.{ToldLemmas.root-is, TellingLemmas.step-told}
use Rattle.mh_cycle.proofs.cycle.Cycle.root_told.Goals as goal

pub returns-clause-told : goal.returns-clause-told
returns-clause-told g c =
    let has = g.L.Log.has in
    let stepped = c.self-2.view_is ∙ c.roots_step-2.ensures in
    let after = c.len.ensures.count ∙ ap (λ s. length s.collector.grey) stepped in
    let phase = rw (← c.self.view_is) at c.requires.phase in
    let root : Told has c.args.log.now (root_deed c.args.self.now.collector ∷ []) c.tell.new.self =
    rw (← c.self.view_is) (subst (λ deed. Told has c.args.log.now (deed ∷ []) c.tell.new.self) (root-is _ c.get.result c.target_of-edge.result c.len-before.result c.len.result phase c.get.ensures.value c.target_of-edge.ensures c.len-before.ensures.count (rw (← c.self.view_is) at after)) c.tell.ensures) in
    step-told has c.args.self.now.collector false _ _ _ _ _ (sym c.requires.phase) (ap (λ (s : CycleState). s.collector.phase) stepped)
    (subst (λ deeds. Told has c.args.log.now deeds c.tell.new.self) (sym (ap (λ p. deeds_in p c.args.self.now.collector false) c.requires.phase)) root) c.tell_phase.ensures
