-- What a run of a list of events promises of its replies, its heap and its trace. By the laws at the end an outcome that is the machine's keeps this
-- promise. If a clause speaks of the events before another, it holds at each moment of the run. docs/THEOREM.md has the clauses in plain words.
use Rattle.std.specs.Prelude.{◌≡◌, ℕ, ◌-◌, ◌<◌, ◌≤◌, true, false, Some, None, List, [], ◌∷◌, ◌++◌, length}
use Rattle.mh_model.specs.{declared.command.Command.Command, declared.command.Event.Event}
use Rattle.mh_model.specs.{declared.config.Config.Config, declared.cycle.Phase.Phase, declared.reply.Refusal.Refusal}
use Rattle.mh_model.specs.{declared.reply.Refusal.TheVariants.HeapFull, declared.reply.Reply.Reply, Bound.most_quanta}
use Rattle.mh_model.specs.{World.{IsNew, first_world, never_full, refusal, world_step}, Collector.{is_idle, quantum}}
use Rattle.mh_model.specs.Mutator.{heap_sight, new_group}
use Rattle.mh_model.specs.Machine.{first_machine, half_step, machine_after, machine_replies}
use Rattle.mh_model.specs.Invariant.{IsFinished, IsLinked}
use Rattle.mh_model.specs.Snapshot.{Moment, half_moment, has_quantum, is_heap_full, snapshot_at, world_beside}
use Rattle.mh_model.specs.{Trace.{least_mutator, floor}, declared.command.Control.Control}
use Rattle.mh_run_laws.specs.{BesideTheWorld.{IsFaithful, IsInCycle}, Forwarders.AreOfItsCycle}
use Rattle.mh_run_laws.specs.Replays.{machine_at, moment_at}
use Rattle.mh_laws.specs.Bounds.{HasEnded, HasRunQuanta}
use Rattle.mh_promise.specs.Runs.{Outcome, outcome_of, IsAnswered, IsTheMachines, AreAnsweredSoFar}

-- Replies ----------------------------------------------------------------------------------------

-- Each event has one reply
abbrev pub AreAnswered : List Event → List Reply → Type 0
AreAnswered events replies = length replies ≡ length events

-- Every reply to a session but a full heap is that of a heap that never collects or moves. The commands that a full heap refused weren't given to it
abbrev pub AreTheWorlds : Config → List Event → List Reply → Type 0
AreTheWorlds config events replies = (before : List Event) (who : ℕ) (command : Command) (given : Reply) → IsAnswered events replies before (Event.Session who command) given → is_heap_full given ≡ false
    → given ≡ (world_step (world_beside (first_world config) before replies) who command).reply

-- A full heap answers new objects alone, and exactly those of which some part has no place and which no other test refuses. So the heap that never
-- collects or moves would make each
pub record FullIsNoPlace (config : Config) (events : List Event) (replies : List Reply) : Type 0 where
  pub new : (before : List Event) (who : ℕ) (asked : Command) → IsAnswered events replies before (Event.Session who asked) (Reply.Refused HeapFull) → IsNew asked
  pub only : (before : List Event) (who slot references numbers : ℕ) → IsAnswered events replies before (Event.Session who (Command.New slot references numbers)) (Reply.Refused HeapFull) → new_group (machine_at config before).heap references numbers ≡ None
  pub alone : (before : List Event) (who slot references numbers : ℕ) → IsAnswered events replies before (Event.Session who (Command.New slot references numbers)) (Reply.Refused HeapFull)
      → refusal (record (heap_sight (machine_at config before).heap) { is_full = never_full }) who (Command.New slot references numbers) ≡ None
  pub each : (before : List Event) (who slot references numbers : ℕ) (given : Reply) → IsAnswered events replies before (Event.Session who (Command.New slot references numbers)) given
      → refusal (record (heap_sight (machine_at config before).heap) { is_full = never_full }) who (Command.New slot references numbers) ≡ None → new_group (machine_at config before).heap references numbers ≡ None → given ≡ Reply.Refused HeapFull
  pub made : (before : List Event) (who slot references numbers : ℕ) → IsAnswered events replies before (Event.Session who (Command.New slot references numbers)) (Reply.Refused HeapFull)
      → (world_step (world_beside (first_world config) before replies) who (Command.New slot references numbers)).reply ≡ Reply.Done

-- A command that is refused, by a full heap too, leaves the heap as it was; only the quantum that it makes due may change it. It is still one unit in
-- the trace
abbrev pub RefusedChangesNothing : Config → List Event → List Reply → Type 0
RefusedChangesNothing config events replies = (before : List Event) (who : ℕ) (command : Command) (refused : Refusal) → IsAnswered events replies before (Event.Session who command) (Reply.Refused refused)
    → (half_step (machine_at config before) (Event.Session who command)).heap ≡ (machine_at config before).heap

-- Quanta -----------------------------------------------------------------------------------------

-- No quantum spends more units than are configured: by the greatest of the trace, and by each reply that states what one spent
pub record QuantaKeepTheirLimit (config : Config) (events : List Event) (outcome : Outcome) : Type 0 where
  pub greatest : outcome.trace.greatest ≤ config.quantum
  pub spent : (before : List Event) (event : Event) (units : ℕ) (phase : Phase) → IsAnswered events outcome.replies before event (Reply.Spent units phase) → units ≤ config.quantum

-- Each stretch of the trace has at least the floor of its length in units of the mutator
-- from: Cheng and Blelloch
abbrev pub MutatorHasItsFloor : Config → Outcome → Type 0
MutatorHasItsFloor config outcome = (window count : ℕ) → least_mutator window outcome.trace.letters ≡ Some count → floor config.every config.quantum window ≤ count

-- A quantum that ends its cycle leaves just the objects that the world reached as the cycle started, and those born since: one that an event runs, and any that would be run after a command
pub record CyclesLeaveWhatIsKept (config : Config) (events : List Event) : Type 0 where
  pub run : (before : List Event) (event : Event) (later : List Event) → events ≡ before ++ event ∷ later → has_quantum (machine_at config before) event ≡ true →
      let moment = half_moment (moment_at config before) event in
      let after = (machine_at config (before ++ event ∷ [])).heap.collector in
      IsInCycle moment.machine.heap → is_idle after.phase ≡ true → IsFinished (snapshot_at moment) moment.machine.heap.next_birth after
  pub any : (before : List Event) (event : Event) (later : List Event) → events ≡ before ++ event ∷ later →
      let moment = half_moment (moment_at config before) event in
      let after = (quantum moment.machine.heap.config moment.machine.heap.collector).collector in
      IsInCycle moment.machine.heap → is_idle after.phase ≡ true → IsFinished (snapshot_at moment) moment.machine.heap.next_birth after

-- A quantum of the run that ends its cycle leaves only forwarders that the cycle made: as its defragmentation began, in that quantum or an earlier one, no forwarder was at their places
abbrev pub CyclesMakeTheirForwarders : Config → List Event → Type 0
CyclesMakeTheirForwarders config events = (before : List Event) (event : Event) (later : List Event) → events ≡ before ++ event ∷ later → has_quantum (machine_at config before) event ≡ true →
    let after = (machine_at config (before ++ event ∷ [])).heap.collector in
    IsInCycle (half_step (machine_at config before) event).heap → is_idle after.phase ≡ true → AreOfItsCycle config (before ++ event ∷ []) after

-- Moments ----------------------------------------------------------------------------------------

-- a moment keeps the snapshot of its cycle and shows what agrees with the world. Its root slots hold the places of held blocks. References of held
-- blocks lead in one hop at most to held blocks, so to no freed place
pub record IsSafe (moment : Moment) : Type 0 where
  pub faithful : IsFaithful moment
  pub linked : IsLinked moment.machine.heap.collector

-- Each moment between two events is so, and each half moment, between a command and the quantum that it makes due
pub record MomentsAreSafe (config : Config) (events : List Event) : Type 0 where
  pub each : (before later : List Event) → events ≡ before ++ later → IsSafe (moment_at config before)
  pub half : (before : List Event) (event : Event) (later : List Event) → events ≡ before ++ event ∷ later → IsSafe (half_moment (moment_at config before) event)

-- Cycles -----------------------------------------------------------------------------------------

-- the cycle that runs after the events before has ended once so many quanta more have been run
abbrev pub EndsAfter : Config → List Event → List Event → ℕ → Type 0
EndsAfter config events before count = (more later : List Event) → events ≡ before ++ more ++ later →
    let machine = machine_at config before in
    let after = machine_after machine more in
    HasRunQuanta count machine after → HasEnded machine.heap.collector.cycle after.heap.collector

-- A cycle that runs has ended once the quanta that its bound leaves to it have been run, whatever the sessions do
abbrev pub CyclesEnd : Config → List Event → Type 0
CyclesEnd config events = (before : List Event) →
    let collector = (machine_at config before).heap.collector in
    is_idle collector.phase ≡ false → EndsAfter config events before (most_quanta config - collector.quanta)

-- a reply to the control `left` that is true: some quanta are left, at least 1, and once so many have been run the cycle has ended
pub record CountsToTheEnd (config : Config) (events before : List Event) (given : Reply) : Type 0 where
  pub count : ℕ
  pub is : given ≡ Reply.Left count
  pub some : 1 ≤ count
  pub ends : EndsAfter config events before count

-- The control `left` is answered 0 if no cycle runs, and otherwise a number of quanta, at least 1, after which the cycle has ended
pub record LeftCountsToTheEnd (config : Config) (events : List Event) (replies : List Reply) : Type 0 where
  pub running : (before : List Event) (given : Reply) → IsAnswered events replies before (Event.Control Control.Left) given → is_idle (machine_at config before).heap.collector.phase ≡ false → CountsToTheEnd config events before given
  pub idle : (before : List Event) (given : Reply) → IsAnswered events replies before (Event.Control Control.Left) given → is_idle (machine_at config before).heap.collector.phase ≡ true → given ≡ Reply.Left 0

-- The promise ------------------------------------------------------------------------------------

-- What a run promises of its outcome, in eleven clauses, all of them above. That of the mutator's floor is promised if the scheduler runs quanta
pub record IsPromised (config : Config) (events : List Event) (outcome : Outcome) : Type 0 where
  -- each event is answered once
  pub answered : AreAnswered events outcome.replies
  -- replies are those of a heap that never collects or moves
  pub replies : AreTheWorlds config events outcome.replies
  -- a full heap answers new objects alone, exactly if there is no place and nothing else refuses them
  pub full : FullIsNoPlace config events outcome.replies
  -- a command that is refused leaves the heap as it was
  pub refused : RefusedChangesNothing config events outcome.replies
  -- no quantum is longer than configured
  pub limit : QuantaKeepTheirLimit config events outcome
  -- a cycle that ends leaves just what was reachable as it started, and what was born since
  pub cycles : CyclesLeaveWhatIsKept config events
  -- a cycle that ends leaves no forwarder that it didn't make itself
  pub forwarders : CyclesMakeTheirForwarders config events
  -- at each moment the snapshot is kept, what sessions see is the world's, and each reference of a root or of a held block leads to a held block in one hop at most
  pub moments : MomentsAreSafe config events
  -- a cycle that runs ends within its bound of quanta
  pub ends : CyclesEnd config events
  -- a cycle has ended once as many quanta as are reported to be left have been run
  pub left : LeftCountsToTheEnd config events outcome.replies
  -- if the scheduler runs quanta, the mutator has its share of the units
  pub share : 0 < config.every → MutatorHasItsFloor config outcome

-- Replies of an outcome that keeps the promise of these events
pub record ArePromised (config : Config) (events : List Event) (replies : List Reply) : Type 0 where
  pub outcome : Outcome
  pub promise : IsPromised config events outcome
  pub replies_are : outcome.replies ≡ replies

-- What a run that stopped early promises: its replies are the machine's to the first of its events, and all clauses hold of these
pub record IsPromisedSoFar (config : Config) (events : List Event) (replies : List Reply) : Type 0 where
  pub so_far : AreAnsweredSoFar config events replies
  pub promise : IsPromised config so_far.done (outcome_of (machine_at config so_far.done) replies)

-- An outcome that is the machine's, in replies, heap, free pages and trace, keeps the promise
abbrev pub RunsKeepTheirPromise : Type 0
RunsKeepTheirPromise = (config : Config) (events : List Event) (outcome : Outcome) → IsTheMachines config events outcome → IsPromised config events outcome

-- Replies that are the machine's are those of an outcome that keeps the promise
abbrev pub RepliesArePromised : Type 0
RepliesArePromised = (config : Config) (events : List Event) (replies : List Reply) → replies ≡ machine_replies (first_machine config) events → ArePromised config events replies

-- Replies that are the machine's to the first events of a run that stopped keep the promise of these events
abbrev pub StoppedRunsKeepTheirPromise : Type 0
StoppedRunsKeepTheirPromise = (config : Config) (events : List Event) (replies : List Reply) → AreAnsweredSoFar config events replies → IsPromisedSoFar config events replies
