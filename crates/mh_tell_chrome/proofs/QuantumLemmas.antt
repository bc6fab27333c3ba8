-- A quantum is a block from its first unit to its last.
use Rattle.std.proofs.Common.{◌≡◌, ◌∙◌, ℕ, ◌+◌, ◌≤◌, ◌==◌, ◌&&◌, Bool, true, false, if◌then◌else◌, Option, Some, None, List, [], ◌∷◌, ◌++◌, refl, subst, arith}
use Rattle.mh_model.specs.{declared.cycle.Phase.Phase, declared.deed.Deed.Deed, Bytes.Text, Deeds.Ran}
use Rattle.mh_tell_steps.specs.declared.figures.HeapCounts.{HeapCounts}
use Rattle.mh_tell_chrome.specs.{declared.course.Course.Course, declared.course.Slices.Slices}
use Rattle.mh_tell_chrome.specs.TraceEvents.{TraceEvent, End}
use Rattle.mh_tell_chrome.specs.Deeds.{quanta, counters, pages_counter, blocks_counter, grey_counter, step_name, step_begins, step_ends, phase_begins, phase_ends, cycle_end, cycle_ends, cycle_begins, ended_before, unless_same, course_after, course_after_all, deed_begins, deed_events, deeds_events, goes_on, closed, reopened, quantum_begins, quantum_ends, quantum_events}
use Rattle.mh_tell_chrome.proofs.BlockLemmas.{IsBlock, block-earlier, block-then}

same : (now : ℕ) → now ≤ now
same now = omega arith

-- Blocks of one moment ---------------------------------------------------------------------------

counter_if : (now : ℕ) (test : Bool) (event : TraceEvent) → IsBlock now now (event ∷ []) → IsBlock now now (unless_same test event)
counter_if now true event h = same now
counter_if now false event h = h

pub block-of-counters : (now : ℕ) (shown counts : HeapCounts) → IsBlock now now (counters now shown counts)
block-of-counters now shown counts =
    let pages = counter_if now (shown.free == counts.free) (pages_counter now counts) (same now, same now) in
    let blocks = counter_if now ((shown.live == counts.live) && (shown.old == counts.old)) (blocks_counter now counts) (same now, same now) in
    let grey = counter_if now (shown.grey == counts.grey) (grey_counter now counts) (same now, same now) in
    block-then now now now (unless_same (shown.free == counts.free) (pages_counter now counts))
    (unless_same ((shown.live == counts.live) && (shown.old == counts.old)) (blocks_counter now counts) ++ unless_same (shown.grey == counts.grey) (grey_counter now counts)) pages
    (block-then now now now (unless_same ((shown.live == counts.live) && (shown.old == counts.old)) (blocks_counter now counts)) (unless_same (shown.grey == counts.grey) (grey_counter now counts)) blocks grey)

block-of-phase-ends : (now : ℕ) (phase : Option Phase) → IsBlock now now (phase_ends now phase)
block-of-phase-ends now None = same now
block-of-phase-ends now (Some phase) = (same now, (omega arith, (same now, (omega arith, same now))))

pub block-of-cycle-end : (now : ℕ) (is_open : Bool) → IsBlock now now (cycle_end now is_open)
block-of-cycle-end now true = (same now, (omega arith, same now))
block-of-cycle-end now false = same now

block-of-cycle-ends : (now : ℕ) (slices : Slices) → IsBlock now now (cycle_ends now slices)
block-of-cycle-ends now slices = block-then now now now (phase_ends now slices.phase) (cycle_end now slices.cycle) (block-of-phase-ends now slices.phase) (block-of-cycle-end now slices.cycle)

block-of-step : (told : Bool) (now : ℕ) (name : Option Text) → IsBlock now now (if told then step_begins now name else [])
block-of-step false now name = same now
block-of-step true now None = same now
block-of-step true now (Some name) = (same now, (omega arith, same now))

block-of-step-ends : (course : Course) → IsBlock course.time course.time (step_ends course)
block-of-step-ends course = by course.in_step where
  by : (is_open : Bool) → IsBlock course.time course.time (if is_open then End course.time quanta ∷ [] else [])
  by true = (same course.time, (omega arith, same course.time))
  by false = same course.time

block-of-begins : (told : Bool) (course : Course) (d : Deed) → IsBlock course.time course.time (deed_begins told course d)
block-of-begins told course (Deed.Start number) =
    block-then course.time course.time course.time (cycle_ends course.time course.slices) (cycle_begins course.time number) (block-of-cycle-ends course.time course.slices) (same course.time, (omega arith, same course.time))
block-of-begins told course (Deed.Enter phase) =
    block-then course.time course.time course.time (counters course.time course.shown course.counts) (phase_ends course.time course.slices.phase ++ phase_begins course.time phase) (block-of-counters course.time course.shown course.counts)
    (block-then course.time course.time course.time (phase_ends course.time course.slices.phase) (phase_begins course.time phase) (block-of-phase-ends course.time course.slices.phase) (same course.time, (omega arith, (same course.time, (omega arith, same course.time)))))
block-of-begins told course Deed.End = block-of-cycle-ends course.time course.slices
block-of-begins told course (Deed.Root slot edge) = block-of-step told course.time (step_name (Deed.Root slot edge))
block-of-begins told course (Deed.Mark place name) = block-of-step told course.time (step_name (Deed.Mark place name))
block-of-begins told course (Deed.Reference index edge) = block-of-step told course.time (step_name (Deed.Reference index edge))
block-of-begins told course (Deed.Pass page) = block-of-step told course.time (step_name (Deed.Pass page))
block-of-begins told course (Deed.Sweep place fate) = block-of-step told course.time (step_name (Deed.Sweep place fate))
block-of-begins told course (Deed.FreePage page) = block-of-step told course.time (step_name (Deed.FreePage page))
block-of-begins told course (Deed.FlagPage page) = block-of-step told course.time (step_name (Deed.FlagPage page))
block-of-begins told course (Deed.UnflagPage page) = block-of-step told course.time (step_name (Deed.UnflagPage page))
block-of-begins told course (Deed.Stay place) = block-of-step told course.time (step_name (Deed.Stay place))
block-of-begins told course (Deed.Move place to name class_size) = block-of-step told course.time (step_name (Deed.Move place to name class_size))
block-of-begins told course Deed.ForwardRoots = block-of-step told course.time (step_name Deed.ForwardRoots)
block-of-begins told course (Deed.Shade place) = block-of-step told course.time (step_name (Deed.Shade place))
block-of-begins told course (Deed.Make place name class_size fields tier) = block-of-step told course.time (step_name (Deed.Make place name class_size fields tier))

block-of-deed : (told : Bool) (course : Course) (d : Deed) → IsBlock course.time course.time (deed_events told course d)
block-of-deed told course d = block-then course.time course.time course.time (ended_before course d) (deed_begins told course d) (ends (goes_on d)) (block-of-begins told course d) where
  ends : (goes : Bool) → IsBlock course.time course.time (if goes then [] else step_ends course)
  ends true = same course.time
  ends false = block-of-step-ends course

-- Deeds ------------------------------------------------------------------------------------------

-- a deed takes none of the time after the quantum
pub end_stays : (told : Bool) (course : Course) (d : Deed) → (course_after told course d).time + (course_after told course d).left ≡ course.time + course.left
end_stays told course d = omega arith

block-of-deeds : (told : Bool) (course : Course) (deeds : List Deed) → IsBlock course.time (course_after_all told course deeds).time (deeds_events told course deeds)
block-of-deeds told course [] = same course.time
block-of-deeds told course (d ∷ deeds) =
    let next = course_after told course d in
    block-then course.time course.time (course_after_all told next deeds).time (deed_events told course d) (deeds_events told next deeds) (block-of-deed told course d)
    (block-earlier course.time next.time (course_after_all told next deeds).time (deeds_events told next deeds) (omega arith) (block-of-deeds told next deeds))

pub end_stays_all : (told : Bool) (course : Course) (deeds : List Deed) → (course_after_all told course deeds).time + (course_after_all told course deeds).left ≡ course.time + course.left
end_stays_all told course [] = refl
end_stays_all told course (d ∷ deeds) = end_stays_all told (course_after told course d) deeds ∙ end_stays told course d

-- Quanta -----------------------------------------------------------------------------------------

block-of-reopened : (now : ℕ) (phase : Option Phase) → IsBlock now now (reopened now phase)
block-of-reopened now None = same now
block-of-reopened now (Some phase) = (same now, (omega arith, same now))

block-of-quantum-ends : (course : Course) → IsBlock course.time (course.time + course.left) (quantum_ends course)
block-of-quantum-ends course = block-then course.time course.time end (step_ends course) (closed end course.slices.phase ++ End end quanta ∷ []) (block-of-step-ends course) (by course.slices.phase) where
  end : ℕ
  end = course.time + course.left

  by : (phase : Option Phase) → IsBlock course.time end (closed end phase ++ End end quanta ∷ [])
  by None = (omega arith, (omega arith, same end))
  by (Some phase) = (omega arith, (omega arith, (same end, (omega arith, same end))))

pub block-of-quantum : (told : Bool) (number : ℕ) (course : Course) (ran : Ran) → IsBlock course.time (course.time + course.left) (quantum_events told number course ran)
block-of-quantum told number course ran = by (ran.ended.units == 0) where
  after : Course
  after = course_after_all told course ran.deeds

  by : (none : Bool) → IsBlock course.time (course.time + course.left) (if none then [] else quantum_begins number course.time ran.ended course.slices ++ (deeds_events told course ran.deeds ++ quantum_ends after))
  by true = omega arith
  by false =
      let begins : IsBlock course.time course.time (quantum_begins number course.time ran.ended course.slices) = (same course.time, (omega arith, block-of-reopened course.time course.slices.phase)) in
      block-then course.time course.time (course.time + course.left) (quantum_begins number course.time ran.ended course.slices) (deeds_events told course ran.deeds ++ quantum_ends after) begins
      (block-then course.time after.time (course.time + course.left) (deeds_events told course ran.deeds) (quantum_ends after) (block-of-deeds told course ran.deeds)
      (subst (λ end. IsBlock after.time end (quantum_ends after)) (end_stays_all told course ran.deeds) (block-of-quantum-ends after)))
