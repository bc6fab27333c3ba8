-- The slices of a quantum nest, on whatever threads they are counted.
use Rattle.std.proofs.Common.{◌≡◌, ℕ, ◌+◌, ◌==◌, ◌&&◌, Bool, true, false, if◌then◌else◌, is_some, Option, Some, None, List, [], ◌∷◌, ◌++◌, refl, arith}
use Rattle.mh_model.specs.{declared.cycle.Phase.Phase, declared.deed.Deed.Deed, Bytes.Text}
use Rattle.mh_tell_steps.specs.declared.figures.HeapCounts.{HeapCounts}
use Rattle.mh_tell_chrome.specs.{declared.course.Course.Course, declared.course.Slices.Slices}
use Rattle.mh_tell_chrome.specs.TraceEvents.{End, Counter}
use Rattle.mh_tell_chrome.specs.Deeds.{cycles, quanta, counters, unless_same, pages_counter, blocks_counter, grey_counter, step_name, step_begins, step_ends, phase_begins, phase_ends, cycle_end, cycle_ends, cycle_begins, course_after, course_after_all, deed_events, deeds_events, closed, reopened}
use Rattle.mh_tell_chrome.specs.Laws.{Nests, counted_on}
use Rattle.mh_tell_chrome.proofs.BlockLemmas.{nests-as, nests-then}

-- so many if there is something
abbrev pub if_open : Bool → ℕ → ℕ
if_open is_open n = if is_open then n else 0

abbrev pub if_some : Option Phase → ℕ → ℕ
if_some None n = 0
if_some (Some phase) n = n

module _ (is_on : ℕ → Bool) where
  -- the slices that are open outside of quanta: those of a cycle and of its phase
  abbrev pub outside : Slices → ℕ
  outside slices = if_open slices.cycle (counted_on is_on cycles) + if_some slices.phase (counted_on is_on cycles)

  -- and in a quantum, beside as many as are given
  abbrev pub inside : ℕ → Course → ℕ
  inside base course = base + (outside course.slices + (if_some course.slices.phase (counted_on is_on quanta) + if_open course.in_step (counted_on is_on quanta)))

  nests-counter : (depth : ℕ) (test : Bool) (now : ℕ) (name : Text) (series : List _) → Nests is_on depth depth (unless_same test (Counter now name series))
  nests-counter depth true now name series = refl
  nests-counter depth false now name series = refl

  pub nests-counters : (depth now : ℕ) (shown counts : HeapCounts) → Nests is_on depth depth (counters now shown counts)
  nests-counters depth now shown counts =
      nests-then is_on depth depth depth (unless_same (shown.free == counts.free) (pages_counter now counts))
      (unless_same ((shown.live == counts.live) && (shown.old == counts.old)) (blocks_counter now counts) ++ unless_same (shown.grey == counts.grey) (grey_counter now counts))
      (nests-counter depth (shown.free == counts.free) now _ _)
      (nests-then is_on depth depth depth (unless_same ((shown.live == counts.live) && (shown.old == counts.old)) (blocks_counter now counts)) (unless_same (shown.grey == counts.grey) (grey_counter now counts))
      (nests-counter depth ((shown.live == counts.live) && (shown.old == counts.old)) now _ _) (nests-counter depth (shown.grey == counts.grey) now _ _))

  -- an end, and two ends
  nests-end : (depth now thread : ℕ) → Nests is_on (depth + counted_on is_on thread) depth (End now thread ∷ [])
  nests-end depth now thread = (omega arith, omega arith)

  nests-phase-ends : (depth now : ℕ) (phase : Option Phase) → Nests is_on (depth + (if_some phase (counted_on is_on quanta) + if_some phase (counted_on is_on cycles))) depth (phase_ends now phase)
  nests-phase-ends depth now None = omega arith
  nests-phase-ends depth now (Some phase) = (omega arith, (omega arith, omega arith))

  pub nests-cycle-end : (depth now : ℕ) (is_open : Bool) → Nests is_on (depth + if_open is_open (counted_on is_on cycles)) depth (cycle_end now is_open)
  nests-cycle-end depth now true = nests-end depth now cycles
  nests-cycle-end depth now false = omega arith

  nests-cycle-ends : (depth now : ℕ) (slices : Slices) → Nests is_on (depth + (outside slices + if_some slices.phase (counted_on is_on quanta))) depth (cycle_ends now slices)
  nests-cycle-ends depth now slices =
      let middle : ℕ = depth + if_open slices.cycle (counted_on is_on cycles) in
      nests-then is_on _ middle depth (phase_ends now slices.phase) (cycle_end now slices.cycle)
      (nests-as is_on _ middle _ middle (phase_ends now slices.phase) (omega arith) refl (nests-phase-ends middle now slices.phase)) (nests-cycle-end depth now slices.cycle)

  pub nests-step-ends : (depth : ℕ) (course : Course) → Nests is_on (depth + if_open course.in_step (counted_on is_on quanta)) depth (step_ends course)
  nests-step-ends depth course = by course.in_step where
    by : (is_open : Bool) → Nests is_on (depth + if_open is_open (counted_on is_on quanta)) depth (if is_open then End course.time quanta ∷ [] else [])
    by true = nests-end depth course.time quanta
    by false = omega arith

  nests-step : (depth now : ℕ) (told : Bool) (name : Option Text) → Nests is_on depth (depth + if_open (told && is_some name) (counted_on is_on quanta)) (if told then step_begins now name else [])
  nests-step depth now false name = omega arith
  nests-step depth now true None = omega arith
  nests-step depth now true (Some name) = refl

  no_step : (told : Bool) (n : ℕ) → if_open (told && false) n ≡ 0
  no_step true n = refl
  no_step false n = refl

  module _ (base : ℕ) (told : Bool) (course : Course) where
    -- what is open beside a step
    abbrev besides : ℕ
    besides = base + (outside course.slices + if_some course.slices.phase (counted_on is_on quanta))

    ended : Nests is_on (inside base course) besides (step_ends course)
    ended = nests-as is_on _ besides _ besides (step_ends course) (omega arith) refl (nests-step-ends besides course)

    -- a deed that begins a step, or none
    stepped : (name : Option Text) → Nests is_on (inside base course) (besides + if_open (told && is_some name) (counted_on is_on quanta)) (step_ends course ++ (if told then step_begins course.time name else []))
    stepped name = nests-then is_on (inside base course) besides _ (step_ends course) (if told then step_begins course.time name else []) ended (nests-step besides course.time told name)

    step-as : (name : Option Text) (after : ℕ) → besides + if_open (told && is_some name) (counted_on is_on quanta) ≡ after → Nests is_on (inside base course) after (step_ends course ++ (if told then step_begins course.time name else []))
    step-as name after is = nests-as is_on _ _ _ after (step_ends course ++ (if told then step_begins course.time name else [])) refl is (stepped name)

    -- a deed that goes on with a step
    going : Nests is_on (inside base course) (inside base course) (if told then step_begins course.time None else [])
    going = nests-as is_on _ _ _ _ (if told then step_begins course.time None else []) refl (by told) (nests-step (inside base course) course.time told None) where
      by : (t : Bool) → inside base course + if_open (t && false) (counted_on is_on quanta) ≡ inside base course
      by true = omega arith
      by false = omega arith

    pub nests-deed : (d : Deed) → Nests is_on (inside base course) (inside base (course_after told course d)) (deed_events told course d)
    nests-deed (Deed.Start number) =
        nests-then is_on (inside base course) besides _ (step_ends course) (cycle_ends course.time course.slices ++ cycle_begins course.time number) ended
        (nests-then is_on besides base _ (cycle_ends course.time course.slices) (cycle_begins course.time number) (nests-cycle-ends base course.time course.slices) (omega (arith, no_step told (counted_on is_on quanta))))
    nests-deed (Deed.Enter phase) =
        let rest : ℕ = base + if_open course.slices.cycle (counted_on is_on cycles) in
        nests-then is_on (inside base course) besides _ (step_ends course) (counters course.time course.shown course.counts ++ (phase_ends course.time course.slices.phase ++ phase_begins course.time phase)) ended
        (nests-then is_on besides besides _ (counters course.time course.shown course.counts) (phase_ends course.time course.slices.phase ++ phase_begins course.time phase) (nests-counters besides course.time course.shown course.counts)
        (nests-then is_on besides rest _ (phase_ends course.time course.slices.phase) (phase_begins course.time phase)
        (nests-as is_on _ rest besides rest (phase_ends course.time course.slices.phase) (omega arith) refl (nests-phase-ends rest course.time course.slices.phase)) (omega (arith, no_step told (counted_on is_on quanta)))))
    nests-deed Deed.End =
        nests-then is_on (inside base course) besides _ (step_ends course) (cycle_ends course.time course.slices) ended
        (nests-as is_on _ base _ _ (cycle_ends course.time course.slices) refl (omega (arith, no_step told (counted_on is_on quanta))) (nests-cycle-ends base course.time course.slices))
    nests-deed (Deed.Root slot edge) = step-as (step_name (Deed.Root slot edge)) _ (omega arith)
    nests-deed (Deed.Mark place name) = step-as (step_name (Deed.Mark place name)) _ (omega arith)
    nests-deed (Deed.Reference index edge) = going
    nests-deed (Deed.Pass page) = step-as (step_name (Deed.Pass page)) _ (omega arith)
    nests-deed (Deed.Sweep place fate) = step-as (step_name (Deed.Sweep place fate)) _ (omega arith)
    nests-deed (Deed.Stay place) = step-as (step_name (Deed.Stay place)) _ (omega arith)
    nests-deed (Deed.Move place to name class_size) = step-as (step_name (Deed.Move place to name class_size)) _ (omega arith)
    nests-deed Deed.ForwardRoots = going
    nests-deed other = step-as None _ (omega arith)

  pub nests-deeds : (base : ℕ) (told : Bool) (course : Course) (deeds : List Deed) → Nests is_on (inside base course) (inside base (course_after_all told course deeds)) (deeds_events told course deeds)
  nests-deeds base told course [] = refl
  nests-deeds base told course (d ∷ deeds) =
      nests-then is_on (inside base course) (inside base (course_after told course d)) (inside base (course_after_all told (course_after told course d) deeds)) (deed_events told course d) (deeds_events told (course_after told course d) deeds)
      (nests-deed base told course d) (nests-deeds base told (course_after told course d) deeds)

  -- Quanta ---------------------------------------------------------------------------------------

  -- the slice of the open phase as a quantum begins, and what ends before its own
  pub nests-reopened : (base : ℕ) (course : Course) → course.in_step ≡ false → Nests is_on (base + outside course.slices) (inside base course) (reopened course.time course.slices.phase)
  nests-reopened base course none =
      nests-as is_on _ _ _ _ (reopened course.time course.slices.phase) refl (rw none (omega arith)) (by course.slices.phase) where
        by : (phase : Option Phase) → Nests is_on (base + outside course.slices) ((base + outside course.slices) + if_some phase (counted_on is_on quanta)) (reopened course.time phase)
        by None = omega arith
        by (Some phase) = refl

  pub nests-closed : (depth now : ℕ) (phase : Option Phase) → Nests is_on (depth + if_some phase (counted_on is_on quanta)) depth (closed now phase)
  nests-closed depth now None = omega arith
  nests-closed depth now (Some phase) = nests-end depth now quanta
