-- What is seen of a run so far, with what the rest shows, is what is seen of the whole.
use Rattle.std.proofs.Common.{◌≡◌, ◌∙◌, ◌⊎◌, inl, inr, ℕ, ◌+◌, ◌==◌, ◌<◌, ◌≤◌, max, nat_lt, Bool, true, false, if◌then◌else◌, Option, Some, None, IsSome, Result, Ok, Err, IfOk, List, [], ◌∷◌, ◌++◌, length, map, drop, get_or, add-one, refl, ap, sym, subst, arith}
use Rattle.std.proofs.{Math.Nat.zero-max, Math.Seq.drop-cons, lemmas.Bool.lt-ltb}
use Rattle.std.proofs.lemmas.List.{append-nil, append_assoc}
use Rattle.std.specs.List.{flat_map}
use Rattle.mh_model.specs.{declared.command.Event.Event, declared.config.Config.Config, declared.reply.Reply.Reply}
use Rattle.mh_model.specs.{Classes.Part, Intervals.{cycle_ends, has_ended, intervals}}
use Rattle.mh_model.specs.Machine.{Machine, command_step, control_step, event_step, first_machine, machine_after, quantum_run, is_quantum_due}
use Rattle.mh_model.specs.{Openings.{asked_parts, free_of, opens_at_most, pages_of_parts}, Snapshot.has_quantum}
use Rattle.mh_model.specs.{Trace.{lesser, least_of}, World.{Answer, says}, declared.command.Control.Control}
use Rattle.mh_size_laws.specs.Room.{first_start, has_cycle, later_intervals}
use Rattle.mh_size_runs.specs.{declared.class_counts.ClassCounts.ClassCounts, declared.sample.Sample.Sample}
use Rattle.mh_size_runs.specs.{declared.watched.Facts.Facts, declared.watched.Watched.Watched}
use Rattle.mh_size_runs.specs.Auxiliary.{HasCounted, HasFacts, ended_between, quanta_between, sample_of, GoesOn, HasSameCounts, Starts}
use Rattle.mh_size_runs.specs.Seen.{counts_of_quanta, fewest_left, free_at_start, greatest, most_quanta_of}

-- Quanta that are run ----------------------------------------------------------------------------

-- an event has a quantum run just if the trace counts one more
run-more : (machine : Machine) → nat_lt machine.trace.quanta (quantum_run machine).state.trace.quanta ≡ true
unfolding quantum_run
run-more machine = lt-ltb machine.trace.quanta (machine.trace.quanta + 1) (omega arith)

none-more : (count : ℕ) → nat_lt count count ≡ false
none-more count = grind arith

pub quanta-count : (machine : Machine) (event : Event) → nat_lt machine.trace.quanta (event_step machine event).state.trace.quanta ≡ has_quantum machine event
unfolding event_step control_step command_step
quanta-count machine (Event.Session who command) = go (is_quantum_due half) (run-more half)
  where
    half : Machine
    half = (command_step machine who command).state

    go : (due : Bool) → nat_lt machine.trace.quanta (quantum_run half).state.trace.quanta ≡ true → nat_lt machine.trace.quanta (if due then (quantum_run half).state else half).trace.quanta ≡ due
    go true more = more
    go false more = none-more machine.trace.quanta
quanta-count machine (Event.Control Control.Quantum) = go (machine.heap.config.every == 0) (run-more machine)
  where
    go : (asked : Bool) → nat_lt machine.trace.quanta (quantum_run machine).state.trace.quanta ≡ true → nat_lt machine.trace.quanta (if asked then quantum_run machine else says (Reply.Spent 0 machine.heap.collector.phase) machine).state.trace.quanta ≡ asked
    go true more = more
    go false more = none-more machine.trace.quanta
quanta-count machine (Event.Control asked) = none-more machine.trace.quanta

-- the machine after an event and the rest
after-first : (machine : Machine) (event : Event) (rest : List Event) → machine_after machine (event ∷ rest) ≡ machine_after (event_step machine event).state rest
unfolding machine_after
after-first machine event rest = refl

-- What cycles leave ------------------------------------------------------------------------------

-- the lesser of two numbers, of which each may be none
abbrev pub joined : Option ℕ → Option ℕ → Option ℕ
joined None other = other
joined (Some number) other = Some (lesser number other)

joined-more : (left rest : Option ℕ) (number : ℕ) → joined (Some (lesser number left)) rest ≡ joined left (Some (lesser number rest))
joined-more None rest number = refl
joined-more (Some left) None number = ap Some (omega arith)
joined-more (Some left) (Some rest) number = ap Some (omega arith)

left-if : (ended : Bool) (left : Option ℕ) (machine : Machine) (ends : List Machine)
    → joined (if ended then Some (lesser (free_of machine) left) else left) (least_of (map free_of ends)) ≡ joined left (least_of (map free_of (if ended then machine ∷ ends else ends)))
left-if true left machine ends = joined-more left (least_of (map free_of ends)) (free_of machine)
left-if false left machine ends = refl

length-if : (ended : Bool) (machine : Machine) (ends : List Machine) → length (if ended then machine ∷ ends else ends) ≡ (if ended then 1 else 0) + length ends
length-if true machine ends = omega arith
length-if false machine ends = omega arith

pub one_at_most : (test : Bool) → (if test then 1 else 0) ≤ 1
one_at_most true = omega arith
one_at_most false = omega arith

-- Intervals --------------------------------------------------------------------------------------

module _ (config : Config) (events : List Event) where
  -- no cycle has started
  pub record HasNone (rest : List Event) (machine : Machine) (start : Option ℕ) (opened : List ℕ) (running : ClassCounts) : Type 0 where
    pub none : start ≡ None
    pub empty : opened ≡ []
    pub counted : HasCounted running []
    pub same : later_intervals machine rest ≡ later_intervals (first_machine config) events
    pub starts : first_start machine rest ≡ first_start (first_machine config) events

  -- the first cycle has started, and since the last interval ended these events have come
  pub record HasSome (rest : List Event) (machine : Machine) (start : Option ℕ) (opened : List ℕ) (running : ClassCounts) : Type 0 where
    pub before : List Event
    pub some : IsSome start
    pub at_start : start ≡ free_at_start config events
    pub counted : HasCounted running (flat_map (asked_parts config) before)
    pub rows : opened ++ map (opens_at_most config) (intervals before machine rest) ≡ map (opens_at_most config) (later_intervals (first_machine config) events)

  abbrev pub HasIntervals : List Event → Machine → Option ℕ → List ℕ → ClassCounts → Type 0
  HasIntervals rest machine start opened running = HasNone rest machine start opened running ⊎ HasSome rest machine start opened running

  -- What is noted of an event, and what has to come of it
  pub record NotesCycle (before after : Sample) (old new : Watched) : Type 0 where
    pub cycles : new.cycles ≡ old.cycles + (if ended_between before.stage after.stage then 1 else 0)
    pub quanta : new.quanta ≡ max old.quanta (quanta_between before after)
    pub left : new.left ≡ (if ended_between before.stage after.stage then Some (lesser after.free old.left) else old.left)
    pub start : new.start ≡ old.start
    pub opened : new.opened ≡ old.opened
    pub running : new.running ≡ old.running

  pub record NotesInterval (asked : List Part) (before after : Sample) (old new : Watched) : Type 0 where
    pub counts : HasSameCounts old new
    pub starts : old.start ≡ None → Starts before after old new
    pub goes_on : IsSome old.start → GoesOn asked (nat_lt before.quanta_run after.quanta_run) old new

  -- What is seen of the run so far and what the rest of the events show make what is seen of the run
  pub record HasSeen (rest : List Event) (machine : Machine) (watched : Watched) : Type 0 where
    pub cycles : watched.cycles + length (cycle_ends machine rest) ≡ length (cycle_ends (first_machine config) events)
    pub quanta : max watched.quanta (greatest (counts_of_quanta machine rest)) ≡ most_quanta_of config events
    pub left : joined watched.left (least_of (map free_of (cycle_ends machine rest))) ≡ fewest_left config events
    pub intervals : HasIntervals rest machine watched.start watched.opened.items watched.running
    pub after : machine_after machine rest ≡ machine_after (first_machine config) events

  -- Intervals, event by event --------------------------------------------------------------------

  flat-push : (before : List Event) (event : Event) → flat_map (asked_parts config) (before ++ event ∷ []) ≡ flat_map (asked_parts config) before ++ asked_parts config event
  flat-push [] event = append-nil (asked_parts config event)
  flat-push (first ∷ before) event =
      ap (λ (parts : List Part). asked_parts config first ++ parts) (flat-push before event) ∙ sym (append_assoc (asked_parts config first) (flat_map (asked_parts config) before) (asked_parts config event))

  module _ (machine : Machine) (event : Event) (rest : List Event) where
    abbrev pub next : Machine
    next = (event_step machine event).state

    none-next : (start new_start : Option ℕ) (opened new_opened : List ℕ) (running new_running : ClassCounts) → HasNone (event ∷ rest) machine start opened running
        → new_start ≡ (if has_cycle next then Some (free_of next) else None) → new_opened ≡ opened → new_running ≡ running → HasIntervals rest next new_start new_opened new_running
    none-next start new_start opened new_opened running new_running has starts same_opened same_running = go (has_cycle next) starts has.same has.starts
      where
        counted : HasCounted new_running []
        counted = subst (λ (r : ClassCounts). HasCounted r []) (sym same_running) has.counted

        go : (cycle : Bool) → new_start ≡ (if cycle then Some (free_of next) else None) → (if cycle then intervals [] next rest else later_intervals next rest) ≡ later_intervals (first_machine config) events
            → (if cycle then next ∷ [] else first_start next rest) ≡ first_start (first_machine config) events → HasIntervals rest next new_start new_opened new_running
        go true is same starts = inr (record {
          before = [];
          some = subst IsSome (sym is) refl;
          at_start = is ∙ ap (λ (machines : List Machine). least_of (map free_of machines)) starts;
          counted = counted;
          rows = ap (λ (list : List ℕ). list ++ map (opens_at_most config) (intervals [] next rest)) (same_opened ∙ has.empty) ∙ ap (map (opens_at_most config)) same;
        })
        go false is same starts = inl (record { none = is; empty = same_opened ∙ has.empty; counted = counted; same = same; starts = starts })

    some-next : (old new : Watched) → HasSome (event ∷ rest) machine old.start old.opened.items old.running → GoesOn (asked_parts config event) (has_quantum machine event) old new → HasIntervals rest next new.start new.opened.items new.running
    some-next old new has goes = inr (go (has_quantum machine event) goes has.rows)
      where
        parts : List Part
        parts = flat_map (asked_parts config) has.before

        longer : List Event
        longer = has.before ++ event ∷ []

        some : IsSome new.start
        some = subst IsSome (sym goes.start) has.some

        go : (ends : Bool) → GoesOn (asked_parts config event) ends old new
            → old.opened.items ++ map (opens_at_most config) (if ends then longer ∷ intervals [] next rest else intervals longer next rest) ≡ map (opens_at_most config) (later_intervals (first_machine config) events)
            → HasSome rest next new.start new.opened.items new.running
        go true ended rows = record {
          before = [];
          some = some;
          at_start = ended.start ∙ has.at_start;
          counted = (ended.ended refl).0;
          rows = ap (λ (list : List ℕ). list ++ map (opens_at_most config) (intervals [] next rest)) ((ended.ended refl).1 parts has.counted ∙ ap (λ (p : List Part). old.opened.items ++ pages_of_parts p ∷ []) (sym (flat-push has.before event)))
              ∙ append_assoc old.opened.items (opens_at_most config longer ∷ []) (map (opens_at_most config) (intervals [] next rest)) ∙ rows;
        }
        go false on rows = record {
          before = longer;
          some = some;
          at_start = on.start ∙ has.at_start;
          counted = subst (HasCounted new.running) (sym (flat-push has.before event)) ((on.on refl).1 parts has.counted);
          rows = ap (λ (list : List ℕ). list ++ map (opens_at_most config) (intervals longer next rest)) (on.on refl).0 ∙ rows;
        }

    intervals-next : (old middle new : Watched) → HasIntervals (event ∷ rest) machine old.start old.opened.items old.running → NotesCycle (sample_of machine) (sample_of next) old middle
        → NotesInterval (asked_parts config event) (sample_of machine) (sample_of next) middle new → HasIntervals rest next new.start new.opened.items new.running
    intervals-next old middle new (inl has) cycle interval =
        let starts = interval.starts (cycle.start ∙ has.none) in
        none-next old.start new.start old.opened.items new.opened.items old.running new.running has starts.start (starts.opened ∙ ap (λ v. v.items) cycle.opened) (starts.running ∙ cycle.running)
    intervals-next old middle new (inr has) cycle interval =
        some-next middle new
        (record {
          before = has.before;
          some = subst IsSome (sym cycle.start) has.some;
          at_start = cycle.start ∙ has.at_start;
          counted = subst (λ (r : ClassCounts). HasCounted r (flat_map (asked_parts config) has.before)) (sym cycle.running) has.counted;
          rows = ap (λ v. v.items ++ map (opens_at_most config) (intervals has.before machine (event ∷ rest))) cycle.opened ∙ has.rows;
        })
        (subst (λ (ends : Bool). GoesOn (asked_parts config event) ends middle new) (quanta-count machine event) (interval.goes_on (subst IsSome (sym cycle.start) has.some)))

    -- with one event more
    pub seen-event : (old middle new : Watched) → HasSeen (event ∷ rest) machine old → NotesCycle (sample_of machine) (sample_of next) old middle → NotesInterval (asked_parts config event) (sample_of machine) (sample_of next) middle new → HasSeen rest next new
    seen-event old middle new has cycle interval =
        let ended : Bool = has_ended machine.heap.collector next.heap.collector in
        let ends : List Machine = cycle_ends next rest in
        record {
          cycles = omega (arith, has.cycles, length-if ended next ends, cycle.cycles, interval.counts.cycles);
          quanta = omega (arith, has.quanta, cycle.quanta, interval.counts.quanta);
          left = ap (λ (left : Option ℕ). joined left (least_of (map free_of ends))) (interval.counts.left ∙ cycle.left) ∙ left-if ended old.left next ends ∙ has.left;
          intervals = intervals-next old middle new has.intervals cycle interval;
          after = sym (after-first machine event rest) ∙ has.after;
        }

  -- Runs -----------------------------------------------------------------------------------------

  pub seen-first : (watched : Watched) → watched.cycles ≡ 0 → watched.quanta ≡ 0 → watched.left ≡ None → watched.start ≡ None → watched.opened.items ≡ [] → HasCounted watched.running [] → HasSeen events (first_machine config) watched
  seen-first watched cycles quanta left start opened counted = record {
    cycles = omega (arith, cycles);
    quanta = ap (λ n. max n (most_quanta_of config events)) quanta ∙ zero-max (most_quanta_of config events);
    left = ap (λ (l : Option ℕ). joined l (fewest_left config events)) left;
    intervals = inl (record { none = start; empty = opened; counted = counted; same = refl; starts = refl });
    after = refl;
  }

  pub seen-more : (i : ℕ) (default : Event) (machine next : Machine) (answer : Reply) (old middle new : Watched) → i < length events → event_step machine (get_or events i default) ≡ says answer next
      → HasSeen (drop i events) machine old → NotesCycle (sample_of machine) (sample_of next) old middle → NotesInterval (asked_parts config (get_or events i default)) (sample_of machine) (sample_of next) middle new
      → HasSeen (drop (i + 1) events) next new
  seen-more i default machine next answer old middle new there steps has cycle interval =
      let event : Event = get_or events i default in
      let rest : List Event = drop (i + 1) events in
      let cut : drop i events ≡ event ∷ rest = rw add-one (drop-cons events i default there) in
      let state : (event_step machine event).state ≡ next = ap (λ (a : Answer Machine). a.state) steps in
      subst (λ (m : Machine). NotesCycle (sample_of machine) (sample_of m) old middle → NotesInterval (asked_parts config event) (sample_of machine) (sample_of m) middle new → HasSeen rest m new) state
      (seen-event machine event rest old middle new (subst (λ (list : List Event). HasSeen list machine old) cut has)) cycle interval

  -- the same by samples that were read, and by what was asked for
  pub seen-noted : (i : ℕ) (default : Event) (machine next : Machine) (answer : Reply) (old middle new : Watched) (before after : Sample) (asked : List Part) → i < length events → event_step machine (get_or events i default) ≡ says answer next
      → before ≡ sample_of machine → after ≡ sample_of next → asked ≡ asked_parts config (get_or events i default)
      → HasSeen (drop i events) machine old → NotesCycle before after old middle → NotesInterval asked before after middle new → HasSeen (drop (i + 1) events) next new
  seen-noted i default machine next answer old middle new before after asked there steps first second same has cycle interval =
      let parts : List Part = asked_parts config (get_or events i default) in
      let cycles = subst (λ (b : Sample). NotesCycle b (sample_of next) old middle) first (subst (λ (a : Sample). NotesCycle before a old middle) second cycle) in
      let intervals = subst (λ (p : List Part). NotesInterval p (sample_of machine) (sample_of next) middle new) same
      (subst (λ (b : Sample). NotesInterval asked b (sample_of next) middle new) first (subst (λ (a : Sample). NotesInterval asked before a middle new) second interval)) in
      seen-more i default machine next answer old middle new there steps has cycles intervals

  -- The end of a run -----------------------------------------------------------------------------

  joined-none : (left : Option ℕ) → joined left None ≡ left
  joined-none None = refl
  joined-none (Some number) = refl

  pub record EndsWith (watched : Watched) (facts : Facts) : Type 0 where
    pub counts : (facts.cycles ≡ watched.cycles) × (facts.quanta ≡ watched.quanta) × (facts.left ≡ watched.left) × (facts.start ≡ watched.start)
    pub none : watched.start ≡ None → facts.opened.items ≡ watched.opened.items
    pub some : IsSome watched.start → (parts : List Part) → HasCounted watched.running parts → facts.opened.items ≡ watched.opened.items ++ pages_of_parts parts ∷ []

  ends-intervals : (machine : Machine) (watched : Watched) (facts : Facts) → HasIntervals [] machine watched.start watched.opened.items watched.running → EndsWith watched facts
      → (watched.start ≡ free_at_start config events) × (facts.opened.items ≡ map (opens_at_most config) (later_intervals (first_machine config) events))
  ends-intervals machine watched facts (inl has) ends = (
    has.none ∙ ap (λ (machines : List Machine). least_of (map free_of machines)) has.starts,
    ends.none has.none ∙ has.empty ∙ ap (map (opens_at_most config)) has.same,
  )
  ends-intervals machine watched facts (inr has) ends = (has.at_start, ends.some has.some (flat_map (asked_parts config) has.before) has.counted ∙ has.rows)

  pub seen-all : (i : ℕ) (machine : Machine) (watched : Watched) (facts : Facts) → drop i events ≡ [] → HasSeen (drop i events) machine watched → EndsWith watched facts → HasFacts config events facts
  seen-all i machine watched facts done before ends =
      let has = subst (λ (rest : List Event). HasSeen rest machine watched) done before in
      let (cycles, quanta, left, start) = ends.counts in
      let (at_start, rows) = ends-intervals machine watched facts has.intervals ends in
      record {
        cycles = omega (arith, cycles, has.cycles);
        quanta = omega (arith, quanta, has.quanta);
        left = left ∙ sym (joined-none watched.left) ∙ has.left;
        start = start ∙ at_start;
        opened = rows;
      }

  pub facts-all : {E : Type 0} (i : ℕ) (machine : Machine) (watched : Watched) (r : Result Facts E) → drop i events ≡ [] → HasSeen (drop i events) machine watched
      → IfOk r (λ facts. (facts.cycles ≡ watched.cycles) × (facts.quanta ≡ watched.quanta) × (facts.left ≡ watched.left) × (facts.start ≡ watched.start))
      → IfOk r (λ facts. watched.start ≡ None → facts.opened.items ≡ watched.opened.items)
      → IfOk r (λ facts. IsSome watched.start → (parts : List Part) → HasCounted watched.running parts → facts.opened.items ≡ watched.opened.items ++ pages_of_parts parts ∷ [])
      → IfOk r (HasFacts config events)
  facts-all i machine watched (Err error) done has counts none some = tt
  facts-all i machine watched (Ok facts) done has counts none some = seen-all i machine watched facts done has (record { counts = counts; none = none; some = some })

  pub after-all : (i : ℕ) (machine : Machine) (watched : Watched) → drop i events ≡ [] → HasSeen (drop i events) machine watched → machine ≡ machine_after (first_machine config) events
  unfolding machine_after
  after-all i machine watched done before = (subst (λ (rest : List Event). HasSeen rest machine watched) done before).after
