use Rattle.std.proofs.Common.{◌∙◌, sym, ap, subst}
use Rattle.mh_model.specs.Deeds.{start_deeds}
use Rattle.mh_deeds.specs.Logs.{Told}
use Rattle.mh_deeds.proofs.ToldLemmas.{told-none, told-then}
use Rattle.mh_cycle.specs.State.{CycleState}
use Rattle.mh_cycle.proofs.ToldLemmas.{start-told, start-quiet}
use Rattle.mh_cycle.proofs.cycle.Cycle.begin_told.Goals.{then-self-before, else-self-before}
use Rattle.mh_cycle.proofs.cycle.Cycle.begin_told.Goals as goal

pub returns-clause-told : goal.returns-clause-told
returns-clause-told g c =
    let has = g.L.Log.has in
    let was = ap (λ (s : CycleState). s.collector.cycle) c.self.view_is in
    let is = ap (λ (s : CycleState). s.collector.cycle) (c.self-2.view_is ∙ c.begin.ensures) in
    elim c.if-self-before.branch [
      | then-self-before w ↦
          subst (Told has c.args.log.now (start_deeds c.args.self.now.config c.args.self.now.collector)) (sym w.log-is)
          (subst (λ deeds. Told has c.args.log.now deeds w.tell-then-self-before.new.self) (sym (start-told c.args.self.now.config c.args.self.now.collector _ _ was is w.if-self-before.true)) (told-then has _ _ _ _ _ w.tell.ensures w.tell-then-self-before.ensures))
      | else-self-before w ↦
          subst (Told has c.args.log.now (start_deeds c.args.self.now.config c.args.self.now.collector)) (sym w.log-is)
          (subst (λ deeds. Told has c.args.log.now deeds c.args.log.now) (sym (start-quiet c.args.self.now.config c.args.self.now.collector _ _ was is w.if-self-before.false)) (told-none has _))
    ]
