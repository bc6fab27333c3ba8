use Rattle.std.proofs.Common.{◌≡◌, ℕ, ◌≤◌, true, false, sym, ap, ◌∙◌, subst, length}
use Rattle.mh_model.specs.{declared.reply.Refusal.TheVariants.HeapFull, World.{first_world, world_step}}
use Rattle.mh_model.specs.{Collector.{is_idle, quantum}, Machine.{first_machine, half_step, event_step}}
use Rattle.mh_model.specs.Snapshot.{first_moment, half_moment, is_heap_full, snapshot_at}
use Rattle.mh_model.specs.{Invariant.{IsFinished, IsLinked}, Paths.Agrees, View.heap_view}
use Rattle.mh_model.specs.{declared.command.Command.Command, declared.command.Control.Control}
use Rattle.mh_model.specs.{declared.command.Event.Event, declared.reply.Reply.Reply}
use Rattle.mh_laws.specs.Bounds.{left_of}
use Rattle.mh_run_laws.specs.{Utilisation.HasShare, Replays.{machine_at, moment_at}}
use Rattle.mh_laws.proofs.bounds.CyclesInTime.{run-stays}
use Rattle.mh_run_laws.proofs.{runs.RunsByEvents.{after_more, replies-length}, forwarders.RunForwarders.event-quantum}
use Rattle.mh_run_laws.proofs.{worlds.FullAlone.{full-alone, new-alone}, worlds.FullWorlds.made_by_the_world}
use Rattle.mh_promise.proofs.AnsweredEvents.{answered-is, beside-is, session-reply, left-is, half-heap, half-machine}
use Rattle.mh_promise.proofs.SpentUnits.{spent-is}
use Rattle.mh_promise.proofs.promise.runs_keep_their_promise.Goals as goal

pub returns : goal.returns
returns c config events outcome is = record {
  answered = ap length is.replies ∙ replies-length (first_machine config) events;
  replies = λ before who command given answered full.
      let same = answered-is config events outcome.replies before (Event.Session who command) given is.replies answered in
      let machine = c.moment_has_the_machine.ensures before (first_moment config) in
      let world = c.moment_has_the_world.ensures before (first_moment config) ∙ sym (beside-is config events outcome.replies before (Event.Session who command) given is.replies answered (first_world config)) in
      let there = same ∙ ap (λ m. (event_step m (Event.Session who command)).reply) (sym machine) in
      there ∙ c.replies_are_the_worlds.ensures config before who command (subst (λ r. is_heap_full r ≡ false) there full) ∙ ap (λ w. (world_step w who command).reply) world;
  full = record {
    new = λ before who asked answered.
        let same = answered-is config events outcome.replies before (Event.Session who asked) (Reply.Refused HeapFull) is.replies answered in
        new-alone (machine_at config before).heap who asked (sym (same ∙ session-reply (machine_at config before) who asked));
    only = λ before who slot references numbers answered.
        let same = answered-is config events outcome.replies before (Event.Session who (Command.New slot references numbers)) (Reply.Refused HeapFull) is.replies answered in
        c.full_heap_has_no_place.ensures (machine_at config before).heap who slot references numbers (sym (same ∙ session-reply (machine_at config before) who (Command.New slot references numbers)));
    alone = λ before who slot references numbers answered.
        let same = answered-is config events outcome.replies before (Event.Session who (Command.New slot references numbers)) (Reply.Refused HeapFull) is.replies answered in
        full-alone (machine_at config before).heap who slot references numbers (sym (same ∙ session-reply (machine_at config before) who (Command.New slot references numbers)));
    each = λ before who slot references numbers given answered others none.
        let same = answered-is config events outcome.replies before (Event.Session who (Command.New slot references numbers)) given is.replies answered in
        same ∙ session-reply (machine_at config before) who (Command.New slot references numbers) ∙ c.no_place_is_a_full_heap.ensures (machine_at config before).heap who slot references numbers others none;
    made = λ before who slot references numbers answered.
        let asked = Command.New slot references numbers in
        let same = answered-is config events outcome.replies before (Event.Session who asked) (Reply.Refused HeapFull) is.replies answered in
        let alone = full-alone (machine_at config before).heap who slot references numbers (sym (same ∙ session-reply (machine_at config before) who asked)) in
        let machine = c.moment_has_the_machine.ensures before (first_moment config) in
        let world = c.moment_has_the_world.ensures before (first_moment config) ∙ sym (beside-is config events outcome.replies before (Event.Session who asked) (Reply.Refused HeapFull) is.replies answered (first_world config)) in
        let agrees = subst (λ m. Agrees (heap_view m.heap) (moment_at config before).world) machine (c.moments_are_faithful.ensures.at_each config before).agrees in
        subst (λ w. (world_step w who asked).reply ≡ Reply.Done) world (made_by_the_world (machine_at config before).heap (moment_at config before).world agrees who slot references numbers alone);
  };
  refused = λ before who command refused answered.
      let same = answered-is config events outcome.replies before (Event.Session who command) (Reply.Refused refused) is.replies answered in
      half-heap (machine_at config before) who command ∙ c.refusal_leaves_the_heap.ensures (machine_at config before).heap who command refused (sym (same ∙ session-reply (machine_at config before) who command));
  limit = record {
    greatest = subst (λ t. t.greatest ≤ config.quantum) (sym is.trace) (c.quanta_stay_within_their_bound.ensures.greatest config events);
    spent = λ before event units phase answered.
        let same = answered-is config events outcome.replies before event (Reply.Spent units phase) is.replies answered in
        spent-is c.quantum_keeps_its_limit.ensures config (machine_at config before) (run-stays config before).config_is event units phase same;
  };
  cycles = record {
    run = λ before event later split runs cycle idle.
        let half = half_moment (moment_at config before) event in
        let machine = c.moment_has_the_machine.ensures before (first_moment config) in
        let steps = half-machine (moment_at config before) event ∙ ap (λ m. half_step m event) machine in
        let after = ap (λ m. m.heap.collector) (after_more.event (first_machine config) before event) ∙ event-quantum (machine_at config before) event runs ∙ ap (λ m. (quantum m.heap.config m.heap.collector).collector) (sym steps) in
        subst (λ c. IsFinished (snapshot_at half) half.machine.heap.next_birth c) (sym after) (c.finished_cycles_are_exact.ensures config before event cycle (subst (λ c. is_idle c.phase ≡ true) after idle));
    any = λ before event later split. c.finished_cycles_are_exact.ensures config before event;
  };
  forwarders = λ before event later split. c.finished_cycles_made_their_forwarders.ensures config before event;
  moments = record {
    each = λ before later split. record {
      faithful = c.moments_are_faithful.ensures.at_each config before;
      linked = subst (λ m. IsLinked m.heap.collector) (sym (c.moment_has_the_machine.ensures before (first_moment config))) (c.moments_keep_a_snapshot.ensures.at_each config before).1;
    };
    half = λ before event later split. record {
      faithful = c.moments_are_faithful.ensures.half config before event;
      linked = subst (λ m. IsLinked m.heap.collector) (sym (half-machine (moment_at config before) event ∙ ap (λ m. half_step m event) (c.moment_has_the_machine.ensures before (first_moment config)))) (c.moments_keep_a_snapshot.ensures.half config before event).1;
    };
  };
  ends = λ before runs more later split. c.cycle_ends_within_its_bound.ensures.ends config before more runs;
  left = record {
    running = λ before given answered runs. record {
      count = left_of (machine_at config before);
      is = left-is c.quanta_left_end_the_cycle.ensures (machine_at config before) given (answered-is config events outcome.replies before (Event.Control Control.Left) given is.replies answered);
      some = c.quanta_left_end_the_cycle.ensures.some config before runs;
      ends = λ more later split. c.quanta_left_end_the_cycle.ensures.ends config before more runs;
    };
    idle = λ before given answered idle.
        left-is c.quanta_left_end_the_cycle.ensures (machine_at config before) given (answered-is config events outcome.replies before (Event.Control Control.Left) given is.replies answered)
        ∙ ap Reply.Left (c.quanta_left_end_the_cycle.ensures.none (machine_at config before) idle);
  };
  share = λ often. subst (HasShare config) (sym is.trace) (c.mutator_has_its_share.ensures.after_events config events often);
}
