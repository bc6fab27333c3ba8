-- Runs beside the ever-growing world: if each command does on the pages what it does on what the heap shows, the view agrees with the world at each moment,
-- half moments included: with the world of the commands that a full heap didn't refuse. The running cycle keeps as its snapshot the world as it started.
-- The laws of `beside_the_world` follow: replies are the world's, moments are faithful, finished cycles are exact.
use Rattle.std.proofs.Common.{◌≡◌, ℕ, Bool, true, false, if◌then◌else◌, inl, inr, List, [], ◌∷◌, refl, sym, ap, ◌∙◌, arith}
use Rattle.std.proofs.{lemmas.Bool.{false≢true, and_parts}, lemmas.Option.none-some}
use Rattle.mh_model.specs.{declared.config.Config.Config, declared.command.Command.Command}
use Rattle.mh_model.specs.{declared.command.Control.Control, declared.command.Event.Event, World.{World, first_world}}
use Rattle.mh_model.specs.{Paths.{IsPath, Agrees}, Collector.{is_idle, is_start_due, quantum}}
use Rattle.mh_model.specs.Mutator.{HeapState, mutator_step}
use Rattle.mh_model.specs.Machine.{Machine, is_quantum_due, quantum_run, command_step, control_step, event_step}
use Rattle.mh_model.specs.View.{heap_view}
use Rattle.mh_model.specs.Snapshot.{Moment, first_moment, half_moment, next_moment, moment_after, is_heap_full, world_beside_event}
use Rattle.mh_model.specs.{Invariant.{HeapKeeps, IsKeeping, IsFinished}, Limits.root_slots}
use Rattle.mh_run_laws.specs.BesideTheWorld.{IsFaithful, MomentsAreFaithful, RepliesAreTheWorlds, IsInCycle, FinishedCyclesAreExact}
use Rattle.mh_run_laws.specs.Following.{Follows, has_no_place}
use Rattle.mh_table_laws.proofs.Lists.{none_at}
use Rattle.mh_run_laws.proofs.worlds.FullHeaps.{heap_step-beside, heap_step-answers}
use Rattle.mh_run_laws.proofs.showing.QuantaShow.{agrees-quantum}
use Rattle.mh_run_laws.proofs.snapshots.AgreeingWorlds.{continues-start_agreeing, keeps-half_moment, keeps-next_moment}
use Rattle.mh_laws.proofs.{snapshots.CycleSteps.continues-quantum, snapshots.RunningCycles.keeps-first}
use Rattle.mh_laws.proofs.costs.QuantumStarts.{idle_is}

-- the first world reaches nothing
none-reached : (config : Config) (path : List ℕ) (birth : ℕ) → IsPath (first_world config) birth path → ⊥
none-reached config [] birth (slot, e) = none-some birth (sym (none_at root_slots slot) ∙ e)
none-reached config (nearest ∷ path) birth is = none-reached config path nearest is.1

first-faithful : (config : Config) → IsFaithful (first_moment config)
unfolding heap_view
first-faithful config = record {
  keeps = keeps-first config;
  agrees = record { config = refl; next_birth = refl; slots = refl; ended = refl; objects = λ birth object e. e; reached = λ birth (path, is). absurd (none-reached config path birth is) };
}

-- that a cycle is asked for doesn't show
asked-agrees : (heap : HeapState) (world : World) → Agrees (heap_view heap) world → Agrees (heap_view (record heap { collector = record (heap.collector) { is_asked = true } })) world
unfolding heap_view
asked-agrees heap world agrees = agrees

-- a quantum that ends a cycle, which ran or which it starts
ends-exactly : (heap : HeapState) (world snapshot : World) → Agrees (heap_view heap) world → HeapKeeps snapshot heap → (due : Bool) → is_start_due heap.config heap.collector ≡ due → IsInCycle heap
    → is_idle (quantum heap.config heap.collector).collector.phase ≡ true → IsFinished (if due then world else snapshot) heap.next_birth (quantum heap.config heap.collector).collector
ends-exactly heap world snapshot agrees h true is within ended = (continues-start_agreeing heap world agrees (idle_is heap.collector.phase (and_parts (is_idle heap.collector.phase) _ is).0) is h.sound).ends ended
ends-exactly heap world snapshot agrees h false is (inr due) ended = absurd (false≢true (sym is ∙ due))
ends-exactly heap world snapshot agrees h false is (inl runs) ended = (continues-quantum heap.config snapshot heap.next_birth heap.collector runs h).ends ended

module _ (follow : (heap : HeapState) → IsKeeping heap → (who : ℕ) (command : Command) → Follows heap who command) where
  agrees-command : (snapshot world : World) (heap : HeapState) → HeapKeeps snapshot heap → Agrees (heap_view heap) world → (who : ℕ) (command : Command)
      → Agrees (heap_view (mutator_step heap who command).state) (world_beside_event world (Event.Session who command) (mutator_step heap who command).reply)
  agrees-command snapshot world heap keeps agrees who command =
      let same = follow heap (snapshot, keeps) who command in
      rw (same.state, same.reply) (heap_step-beside (has_no_place heap) (heap_view heap) world agrees who command)

  half-agrees : (moment : Moment) (e : Event) → IsFaithful moment → Agrees (heap_view (half_moment moment e).machine.heap) (half_moment moment e).world
  unfolding half_moment event_step command_step
  half-agrees moment e faithful = grind (arith, agrees-command)

  agrees-quantum_run : (snapshot world : World) (machine : Machine) → HeapKeeps snapshot machine.heap → Agrees (heap_view machine.heap) world → Agrees (heap_view (quantum_run machine).state.heap) world
  unfolding quantum_run
  agrees-quantum_run snapshot world machine keeps agrees = agrees-quantum snapshot world machine.heap keeps agrees

  next-agrees : (moment : Moment) (e : Event) → IsFaithful moment → Agrees (heap_view (next_moment moment e).machine.heap) (next_moment moment e).world
  unfolding next_moment half_moment event_step control_step command_step
  next-agrees moment (Event.Session who command) faithful = go (is_quantum_due (command_step moment.machine who command).state)
    where
      agrees : Agrees (heap_view (command_step moment.machine who command).state.heap) (world_beside_event moment.world (Event.Session who command) (command_step moment.machine who command).reply)
      agrees = half-agrees moment (Event.Session who command) faithful

      go : (due : Bool) → Agrees (heap_view (if due then (quantum_run (command_step moment.machine who command).state).state else (command_step moment.machine who command).state).heap) (world_beside_event moment.world (Event.Session who command) (command_step moment.machine who command).reply)
      go true = agrees-quantum_run moment.snapshot (world_beside_event moment.world (Event.Session who command) (command_step moment.machine who command).reply) (command_step moment.machine who command).state (keeps-half_moment moment (Event.Session who command) faithful.keeps) agrees
      go false = agrees
  next-agrees moment (Event.Control Control.Quantum) faithful = search (arith, agrees-quantum_run)
  next-agrees moment e faithful = grind (arith, asked-agrees)

  faithful-after : (events : List Event) (moment : Moment) → IsFaithful moment → IsFaithful (moment_after moment events)
  unfolding moment_after
  faithful-after [] moment faithful = faithful
  faithful-after (e ∷ events) moment faithful = faithful-after events (next_moment moment e) (record { keeps = keeps-next_moment moment e (half-agrees moment e faithful) faithful.keeps; agrees = next-agrees moment e faithful })

  faithful-run : (config : Config) (events : List Event) → IsFaithful (moment_after (first_moment config) events)
  faithful-run config events = faithful-after events (first_moment config) (first-faithful config)

  faithful-half : (config : Config) (events : List Event) (e : Event) → IsFaithful (half_moment (moment_after (first_moment config) events) e)
  faithful-half config events e =
      let faithful = faithful-run config events in
      record { keeps = keeps-half_moment (moment_after (first_moment config) events) e faithful.keeps; agrees = half-agrees (moment_after (first_moment config) events) e faithful }

  -- At each moment of a run
  pub moments-faithful : MomentsAreFaithful
  moments-faithful = record { at_each = faithful-run; half = faithful-half }

  -- Replies
  pub replies-worlds : RepliesAreTheWorlds
  unfolding event_step command_step
  replies-worlds config events who command other =
      let moment = moment_after (first_moment config) events in
      let faithful = faithful-run config events in
      let same = follow moment.machine.heap (moment.snapshot, faithful.keeps) who command in
      same.reply ∙ heap_step-answers (has_no_place moment.machine.heap) (heap_view moment.machine.heap) moment.world faithful.agrees who command (ap is_heap_full (sym same.reply) ∙ other)

  -- Ends of cycles
  pub finished-exact : FinishedCyclesAreExact
  finished-exact config events event within ended =
      let moment = half_moment (moment_after (first_moment config) events) event in
      let faithful = faithful-half config events event in
      ends-exactly moment.machine.heap moment.world moment.snapshot faithful.agrees faithful.keeps (is_start_due moment.machine.heap.config moment.machine.heap.collector) refl within ended
