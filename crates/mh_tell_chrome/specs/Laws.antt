-- The laws of trace events: what a viewer relies on, and what the slices of a run add up to.
use Rattle.std.specs.Prelude.{◌≡◌, ℕ, ◌+◌, ◌-◌, ◌==◌, ◌≤◌, nat_le, Bool, if◌then◌else◌, List, [], ◌∷◌, length}
use Rattle.mh_model.specs.{declared.command.Event.Event, declared.config.Config.Config}
use Rattle.mh_model.specs.Machine.{first_machine, machine_after, report_on}
use Rattle.mh_orders.specs.declared.range.RangeOptions.{RangeOptions}
use Rattle.mh_tell_chrome.specs.{TraceEvents.{TraceEvent, Begin, End, Instant, Counter}, Deeds.{quanta, session_thread}}
use Rattle.mh_tell_chrome.specs.Runs.{chrome_events}

-- Times ------------------------------------------------------------------------------------------

-- the times of events never fall, none is before the first time, and none is after the second
abbrev pub AreWithin : (from to : ℕ) → List TraceEvent → Type 0
AreWithin from to [] = from ≤ to
AreWithin from to (Begin time thread name arguments ∷ events) = (from ≤ time) × AreWithin time to events
AreWithin from to (End time thread ∷ events) = (from ≤ time) × AreWithin time to events
AreWithin from to (Instant time thread name arguments ∷ events) = (from ≤ time) × AreWithin time to events
AreWithin from to (Counter time name series ∷ events) = (from ≤ time) × AreWithin time to events
AreWithin from to (_ ∷ events) = AreWithin from to events

-- Nesting ----------------------------------------------------------------------------------------

-- a slice of a thread counts if the thread is one of these
abbrev pub counted_on : (ℕ → Bool) → ℕ → ℕ
counted_on is_on thread = if is_on thread then 1 else 0

-- of so many slices that are open on these threads so many are left by events, of which none ends a slice where none is open
abbrev pub Nests : (ℕ → Bool) → (before after : ℕ) → List TraceEvent → Type 0
Nests is_on before after [] = before ≡ after
Nests is_on before after (Begin time thread name arguments ∷ events) = Nests is_on (before + counted_on is_on thread) after events
Nests is_on before after (End time thread ∷ events) = (counted_on is_on thread ≤ before) × Nests is_on (before - counted_on is_on thread) after events
Nests is_on before after (_ ∷ events) = Nests is_on before after events

-- Lengths ----------------------------------------------------------------------------------------

-- the times at which slices begin on these threads where none is open, all added up; and those at which the last that is open ends
abbrev pub begin_times : (ℕ → Bool) → ℕ → List TraceEvent → ℕ
begin_times is_on depth [] = 0
begin_times is_on depth (Begin time thread name arguments ∷ events) =
    (if is_on thread then (if depth == 0 then time else 0) else 0) + begin_times is_on (depth + counted_on is_on thread) events
begin_times is_on depth (End time thread ∷ events) = begin_times is_on (depth - counted_on is_on thread) events
begin_times is_on depth (_ ∷ events) = begin_times is_on depth events

abbrev pub end_times : (ℕ → Bool) → ℕ → List TraceEvent → ℕ
end_times is_on depth [] = 0
end_times is_on depth (Begin time thread name arguments ∷ events) = end_times is_on (depth + counted_on is_on thread) events
end_times is_on depth (End time thread ∷ events) =
    (if is_on thread then (if depth == 1 then time else 0) else 0) + end_times is_on (depth - counted_on is_on thread) events
end_times is_on depth (_ ∷ events) = end_times is_on depth events

-- the length of all slices on these threads that are in no other slice there
abbrev pub length_on : (ℕ → Bool) → List TraceEvent → ℕ
length_on is_on events = end_times is_on 0 events - begin_times is_on 0 events

-- the thread of quanta, and those of sessions
abbrev pub is_quanta : ℕ → Bool
is_quanta thread = thread == quanta

abbrev pub is_session : ℕ → Bool
is_session thread = nat_le (session_thread 0) thread

-- The laws ---------------------------------------------------------------------------------------

-- Times never fall, and none is after the last unit of the trace
abbrev pub TimesNeverFall : Type 0
TimesNeverFall = (options : RangeOptions) (config : Config) (events : List Event) → AreWithin 0 (length (machine_after (first_machine config) events).trace.letters) (chrome_events options config events)

-- On each thread a slice ends that is open there, and none is open after the last event
abbrev pub SlicesNest : Type 0
SlicesNest = (options : RangeOptions) (config : Config) (events : List Event) (thread : ℕ) → Nests (λ other. other == thread) 0 0 (chrome_events options config events)

-- Quanta are as long together as a report says of the collector. So are commands and the mutator, if all events are shown
pub record SlicesAddUp : Type 0 where
  pub quanta : (options : RangeOptions) (config : Config) (events : List Event) (window : ℕ) →
      length_on is_quanta (chrome_events options config events) ≡ (report_on config (machine_after (first_machine config) events).trace window).collector
  pub commands : (options : RangeOptions) (config : Config) (events : List Event) (window : ℕ) → options.from ≤ 1 → length events ≤ options.to →
      length_on is_session (chrome_events options config events) ≡ (report_on config (machine_after (first_machine config) events).trace window).mutator
