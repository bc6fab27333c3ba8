-- A quantum as trace events: its slice, the phases that it worked in, and its steps. Deeds are counted as they are done, since no reply says what is in the heap as a phase begins.
use Rattle.std.specs.Prelude.{ℕ, ◌+◌, ◌-◌, ◌==◌, min, Bool, true, false, ◌&&◌, if◌then◌else◌, is_some, Option, Some, None, List, [], ◌∷◌, ◌++◌, codes, decimal}
use Rattle.mh_model.specs.{declared.cycle.Phase.Phase, declared.deed.Deed.Deed, declared.deed.Fate.Fate}
use Rattle.mh_model.specs.{declared.deed.QuantumEnd.QuantumEnd, declared.deed.Tier.Tier, Bytes.Text}
use Rattle.mh_model.specs.{Deeds.{Ran, deed_units}, Replies.phase_word}
use Rattle.mh_tell_steps.specs.{declared.figures.HeapCounts.HeapCounts, Fields.{Number, Word, field}, Lines.place_text}
use Rattle.mh_tell_chrome.specs.{declared.course.Course.Course, declared.course.Slices.Slices}
use Rattle.mh_tell_chrome.specs.TraceEvents.{TraceEvent, Begin, End, Counter}

-- Threads: one of cycles and their phases, one of quanta, and one of controls; a session has one of its own
abbrev pub cycles : ℕ
cycles = 1

abbrev pub quanta : ℕ
quanta = 2

abbrev pub controls : ℕ
controls = 3

abbrev pub session_thread : ℕ → ℕ
session_thread who = 10 + who

-- Counts -----------------------------------------------------------------------------------------

-- how many blocks an edge makes grey, and how many free pages a new part takes
abbrev pub shaded_by : Bool → ℕ
shaded_by is_shaded = if is_shaded then 1 else 0

abbrev pub taken_by : Tier → ℕ
taken_by Tier.Fresh = 1
taken_by _ = 0

-- what the sweep of a slot leaves in the heap
abbrev pub swept : HeapCounts → Fate → HeapCounts
swept counts (Fate.Freed name) = record counts { live = counts.live - 1 }
swept counts (Fate.FreedForwarder target) = record counts { old = counts.old - 1 }
swept counts _ = counts

-- What a deed leaves in the heap
abbrev pub counted : HeapCounts → Deed → HeapCounts
counted counts (Deed.Root slot edge) = record counts { grey = counts.grey + shaded_by edge.is_shaded }
counted counts (Deed.Mark place name) = record counts { grey = counts.grey - 1 }
counted counts (Deed.Reference index edge) = record counts { grey = counts.grey + shaded_by edge.is_shaded }
counted counts (Deed.Sweep place fate) = swept counts fate
counted counts (Deed.FreePage page) = record counts { free = counts.free + 1 }
counted counts (Deed.Move place to name class_size) = record counts { old = counts.old + 1 }
counted counts (Deed.Shade place) = record counts { grey = counts.grey + 1 }
counted counts (Deed.Make place name class_size fields tier) = record counts { free = counts.free - taken_by tier; live = counts.live + 1 }
counted counts _ = counts

-- What deeds in order leave in the heap
abbrev pub counted_all : HeapCounts → List Deed → HeapCounts
counted_all counts [] = counts
counted_all counts (deed ∷ deeds) = counted_all (counted counts deed) deeds

-- Counters that are written whatever they were before: free pages; blocks and forwarders; grey blocks
abbrev pub pages_counter : ℕ → HeapCounts → TraceEvent
pages_counter now counts = Counter now (codes "pages") (field (codes "free") (Number counts.free) ∷ [])

abbrev pub blocks_counter : ℕ → HeapCounts → TraceEvent
blocks_counter now counts = Counter now (codes "blocks") (field (codes "live") (Number counts.live) ∷ field (codes "old") (Number counts.old) ∷ [])

abbrev pub grey_counter : ℕ → HeapCounts → TraceEvent
grey_counter now counts = Counter now (codes "grey") (field (codes "grey") (Number counts.grey) ∷ [])

-- a counter, unless what it shows is the same as before
abbrev pub unless_same : Bool → TraceEvent → List TraceEvent
unless_same is_same counter = if is_same then [] else counter ∷ []

-- The counters of which a number isn't what was shown last
abbrev pub counters : ℕ → HeapCounts → HeapCounts → List TraceEvent
counters now shown counts =
    unless_same (shown.free == counts.free) (pages_counter now counts)
    ++ (unless_same ((shown.live == counts.live) && (shown.old == counts.old)) (blocks_counter now counts) ++ unless_same (shown.grey == counts.grey) (grey_counter now counts))

-- Steps ------------------------------------------------------------------------------------------

-- the name of the step that a deed begins. References are of the step of their mark, and the roots are forwarded in that of a move. Other deeds take no time
abbrev pub step_name : Deed → Option Text
step_name (Deed.Root slot edge) = Some (codes "root " ++ decimal slot)
step_name (Deed.Mark place name) = Some (codes "mark " ++ place_text place)
step_name (Deed.Pass page) = Some (codes "pass " ++ decimal page)
step_name (Deed.Sweep place fate) = Some (codes "sweep " ++ place_text place)
step_name (Deed.Stay place) = Some (codes "stay " ++ place_text place)
step_name (Deed.Move place to name class_size) = Some (codes "move " ++ place_text place)
step_name _ = None

-- a deed is of the step that the one before it began or was of
abbrev pub goes_on : Deed → Bool
goes_on (Deed.Reference index edge) = true
goes_on Deed.ForwardRoots = true
goes_on _ = false

-- the slice of a step, if it is shown and the deed begins one
abbrev pub step_begins : ℕ → Option Text → List TraceEvent
step_begins now None = []
step_begins now (Some name) = Begin now quanta name [] ∷ []

-- the end of a step's slice, if one is open
abbrev pub step_ends : Course → List TraceEvent
step_ends course = if course.in_step then End course.time quanta ∷ [] else []

-- Phases -----------------------------------------------------------------------------------------

-- slices of a phase on the threads of cycles and of quanta, and their ends, if one is open
abbrev pub phase_begins : ℕ → Phase → List TraceEvent
phase_begins now phase = Begin now cycles (phase_word phase) [] ∷ Begin now quanta (phase_word phase) [] ∷ []

abbrev pub phase_ends : ℕ → Option Phase → List TraceEvent
phase_ends now None = []
phase_ends now (Some phase) = End now cycles ∷ End now quanta ∷ []

-- the end of a cycle's slice, if one is open
abbrev pub cycle_end : ℕ → Bool → List TraceEvent
cycle_end now is_open = if is_open then End now cycles ∷ [] else []

-- the ends of a phase and its cycle, where they are open
abbrev pub cycle_ends : ℕ → Slices → List TraceEvent
cycle_ends now slices = phase_ends now slices.phase ++ cycle_end now slices.cycle

-- a cycle begins where none is open
abbrev pub cycle_begins : ℕ → ℕ → List TraceEvent
cycle_begins now number = Begin now cycles (codes "cycle " ++ decimal number) [] ∷ []

-- no cycle is open, and a cycle is that has no phase yet
abbrev pub nothing_open : Slices
nothing_open = record { cycle = false; phase = None }

abbrev pub cycle_open : Slices
cycle_open = record { cycle = true; phase = None }

-- Deeds ------------------------------------------------------------------------------------------

-- what is open after a deed
abbrev pub open_after : Slices → Deed → Slices
open_after slices (Deed.Start number) = cycle_open
open_after slices (Deed.Enter phase) = record slices { phase = Some phase }
open_after slices Deed.End = nothing_open
open_after slices _ = slices

-- what of the counts is shown after a deed: all of them as a phase begins
abbrev pub shown_after : Course → Deed → HeapCounts
shown_after course (Deed.Enter phase) = course.counts
shown_after course _ = course.shown

-- whether a step is open after a deed, if steps are shown
abbrev pub in_step_after : Bool → Bool → Deed → Bool
in_step_after told in_step deed = if goes_on deed then in_step else (told && is_some (step_name deed))

-- The course of a quantum after a deed. A deed takes its units, as far as the quantum has some left
abbrev pub course_after : Bool → Course → Deed → Course
course_after told course deed = record {
  time = course.time + min (deed_units deed) course.left;
  left = course.left - deed_units deed;
  slices = open_after course.slices deed;
  in_step = in_step_after told course.in_step deed;
  counts = counted course.counts deed;
  shown = shown_after course deed;
}

-- what begins with a deed, and what ends for it on the threads of cycles and quanta
abbrev pub deed_begins : Bool → Course → Deed → List TraceEvent
deed_begins told course (Deed.Start number) = cycle_ends course.time course.slices ++ cycle_begins course.time number
deed_begins told course (Deed.Enter phase) = counters course.time course.shown course.counts ++ (phase_ends course.time course.slices.phase ++ phase_begins course.time phase)
deed_begins told course Deed.End = cycle_ends course.time course.slices
deed_begins told course deed = if told then step_begins course.time (step_name deed) else []

-- the end of the step before a deed, unless it is of that step
abbrev pub ended_before : Course → Deed → List TraceEvent
ended_before course deed = if goes_on deed then [] else step_ends course

-- A deed of a quantum, after the end of the step before it
abbrev pub deed_events : Bool → Course → Deed → List TraceEvent
deed_events told course deed = ended_before course deed ++ deed_begins told course deed

-- The deeds of a quantum in order, and its course after them
abbrev pub deeds_events : Bool → Course → List Deed → List TraceEvent
deeds_events told course [] = []
deeds_events told course (deed ∷ deeds) = deed_events told course deed ++ deeds_events told (course_after told course deed) deeds

abbrev pub course_after_all : Bool → Course → List Deed → Course
course_after_all told course [] = course
course_after_all told course (deed ∷ deeds) = course_after_all told (course_after told course deed) deeds

-- Quanta -----------------------------------------------------------------------------------------

-- the slice of a quantum as it begins: that of the quantum of an event, and in it that of the phase that is open
abbrev pub reopened : ℕ → Option Phase → List TraceEvent
reopened now None = []
reopened now (Some phase) = Begin now quanta (phase_word phase) [] ∷ []

abbrev pub spent_slice : (number began spent : ℕ) → Phase → TraceEvent
spent_slice number began spent phase =
    Begin began quanta (codes "quantum") (field (codes "event") (Number number) ∷ field (codes "spent") (Number spent) ∷ field (codes "phase") (Word (phase_word phase)) ∷ [])

abbrev pub quantum_slice : ℕ → ℕ → QuantumEnd → TraceEvent
quantum_slice number began ended = spent_slice number began ended.units ended.phase

abbrev pub quantum_begins : ℕ → ℕ → QuantumEnd → Slices → List TraceEvent
quantum_begins number began ended slices = quantum_slice number began ended ∷ reopened began slices.phase

-- the ends of a quantum's slices, those of the phase and of the quantum as it has spent all its units
abbrev pub closed : ℕ → Option Phase → List TraceEvent
closed now None = []
closed now (Some phase) = End now quanta ∷ []

abbrev pub quantum_ends : Course → List TraceEvent
quantum_ends course = step_ends course ++ (closed (course.time + course.left) course.slices.phase ++ End (course.time + course.left) quanta ∷ [])

-- The quantum of the event of this number that began with this course. One that spent nothing is left out
abbrev pub quantum_events : Bool → ℕ → Course → Ran → List TraceEvent
quantum_events told number course ran = if ran.ended.units == 0 then [] else
    quantum_begins number course.time ran.ended course.slices ++ (deeds_events told course ran.deeds ++ quantum_ends (course_after_all told course ran.deeds))

-- the course of a run after a quantum
abbrev pub quantum_course : Bool → Course → Ran → Course
quantum_course told course ran = if ran.ended.units == 0 then course else course_after_all told course ran.deeds
