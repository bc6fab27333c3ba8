use Rattle.std.proofs.Common.{◌++◌, false, refl, sym, ap, ◌∙◌, arith}
use Rattle.mh_model.specs.{declared.cycle.Phase.TheVariants.Sweep, Collector.is_idle, Deeds.deeds_of_steps}
use Rattle.mh_cycle.specs.State.{CycleState, state_with_collector}
use Rattle.mh_cycle.proofs.{StepLemmas.cost-is, StrideLemmas.{stride-one, still}, TellingLemmas.leads-one}
use Rattle.mh_cycle.proofs.cycle.Cycle.sweep_some.Goals as goal

-- a log that keeps nothing has any deeds
pub returns-then-is_silent-clause-told : goal.returns-then-is_silent-clause-told
returns-then-is_silent-clause-told g c = λ end rest before is. c.is_silent.ensures c.if-is_silent.true end (before ++ deeds_of_steps c.args.left c.args.left false c.args.self.now.collector)

pub returns-clause-state : goal.returns-clause-state
returns-clause-state g c = c.sweep_told.ensures.after ∙ sym (ap (λ (s : CycleState). state_with_collector c.args.self.now s.collector) c.sweep_told.ensures.after)

pub returns-clause-run : goal.returns-clause-run
returns-clause-run g c = record {
  fits = omega (arith, c.requires.some);
  goes = λ moved. stride-one 1 moved moved _ _ (ap is_idle c.requires.phase) (sym (cost-is _ Sweep moved c.requires.phase)) (still Sweep moved _ c.requires.phase refl) (ap (λ (s : CycleState). s.collector) c.sweep_told.ensures.after);
  dear = λ e. absurd (omega arith);
}

pub returns-clause-told : goal.returns-clause-told
returns-clause-told g c = leads-one g.L.Log.has _ 1 _ _ _ _ _ _ (ap is_idle c.requires.phase) (sym (cost-is _ Sweep false c.requires.phase)) (omega (arith, c.requires.some)) (still Sweep false _ c.requires.phase refl) (ap (λ (s : CycleState). s.collector) c.sweep_told.ensures.after) c.sweep_told.ensures.told
