-- A machine of a run stays within the bounds of its cycle, event by event.
use Rattle.std.proofs.Common.{◌≡◌, ◌<◌, ◌^◌, refl, sym, subst, arith}
use Rattle.mh_model.specs.{declared.command.Event.Event, declared.config.Config.Config, declared.reply.Reply.Reply}
use Rattle.mh_model.specs.{World.{Answer, says}, Machine.{Machine, event_step, first_machine}}
use Rattle.mh_laws.specs.Bounds.{IsInTime}
use Rattle.mh_laws.proofs.bounds.CyclesInTime.{StaysInBounds, by_asking, by_command, by_quantum, collectors-in_bounds}
use Rattle.mh_laws.proofs.runs.EveryMoment.{event_step-keeps}

module _ (config : Config) where
  pub stays-first : StaysInBounds config (first_machine config)
  stays-first = record { config_is = refl; bounds = collectors-in_bounds.first config }

  pub stays-more : (machine next : Machine) (event : Event) (answer : Reply) → event_step machine event ≡ says answer next → StaysInBounds config machine → StaysInBounds config next
  stays-more machine next event answer steps stays =
      subst (λ (a : Answer Machine). StaysInBounds config a.state) steps
      (event_step-keeps (StaysInBounds config) (by_command config) (by_quantum config) (by_asking config) machine event stays)

  -- its cycle is in time
  pub in_time : (machine : Machine) → StaysInBounds config machine → IsInTime machine.heap.config machine.heap.collector
  in_time machine stays = subst (λ (c : Config). IsInTime c machine.heap.collector) (sym stays.config_is) (collectors-in_bounds.in_time config machine.heap.collector stays.bounds)

  -- and has had few quanta
  pub few_quanta : (machine : Machine) → StaysInBounds config machine → machine.heap.collector.quanta < 2 ^ 62
  few_quanta machine stays = omega (arith, collectors-in_bounds.count config machine.heap.collector stays.bounds, collectors-in_bounds.few config)
