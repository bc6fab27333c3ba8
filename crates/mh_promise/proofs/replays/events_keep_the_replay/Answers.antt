use Rattle.std.proofs.Common.{List, [], ◌∷◌, ◌++◌, refl, sym, ap, ◌∙◌}
use Rattle.mh_model.specs.{declared.command.Event.Event, declared.config.Config.Config, declared.reply.Reply.Reply}
use Rattle.mh_model.specs.Machine.{Machine, first_machine, event_step, machine_replies}
use Rattle.mh_promise.specs.{Runs.{outcome_of, IsTheMachines}, Replays.IsReplay}
use Rattle.mh_run_laws.proofs.runs.RunsByEvents.{no-events, no-replies}
use Rattle.mh_promise.proofs.replays.events_keep_the_replay.Goals as goal

the-machines : (config : Config) (events : List Event) (replies : List Reply) (machine : Machine) → IsReplay config events replies machine → IsTheMachines config events (outcome_of machine replies)
the-machines config events replies machine is = record {
  replies = is.replies_are;
  heap = ap (λ m. m.heap) is.machine_is;
  free = refl;
  trace = ap (λ m. m.trace) is.machine_is;
}

pub returns : goal.returns
returns c = record {
  first = λ config. record { machine_is = no-events config; replies_are = no-replies config };
  step = λ config events replies machine next event given is e. record {
    machine_is = ap (λ a. a.state) (sym e) ∙ ap (λ m. (event_step m event).state) is.machine_is ∙ sym (c.machine_after_more.ensures.event (first_machine config) events event);
    replies_are = ap (λ rs. rs ++ given ∷ []) is.replies_are ∙ ap (λ r. machine_replies (first_machine config) events ++ r ∷ []) (ap (λ a. a.reply) (sym e) ∙ ap (λ m. (event_step m event).reply) is.machine_is)
        ∙ sym (c.machine_replies_more.ensures.event (first_machine config) events event);
  };
  machines = the-machines;
  promise = λ config events replies machine is. c.runs_keep_their_promise.ensures config events (outcome_of machine replies) (the-machines config events replies machine is);
}
