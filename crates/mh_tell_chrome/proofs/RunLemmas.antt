-- An event and a run: their times never fall, and their slices nest.
use Rattle.std.proofs.Common.{◌≡◌, ℕ, ◌+◌, ◌==◌, Bool, true, false, if◌then◌else◌, Option, Some, None, List, [], ◌∷◌, ◌++◌, length, refl, sym, subst, arith}
use Rattle.mh_model.specs.{declared.command.Event.Event, declared.config.Config.Config, declared.cycle.Phase.Phase}
use Rattle.mh_model.specs.{declared.deed.Deed.Deed, declared.reply.Reply.Reply, Deeds.{Ran, account_of}}
use Rattle.mh_model.specs.Machine.{Machine, event_step, first_machine, machine_after}
use Rattle.mh_orders.specs.declared.range.RangeOptions.{RangeOptions}
use Rattle.mh_tell_steps.specs.{declared.figures.EventSpan.EventSpan, Figures.{counts_of, quantum_at}}
use Rattle.mh_tell_chrome.specs.{declared.course.Course.Course, declared.course.Slices.Slices, TraceEvents.End}
use Rattle.mh_tell_chrome.specs.Deeds.{closed, counters, course_after_all, deeds_events, quanta, quantum_begins, quantum_course, quantum_ends, quantum_events, reopened, session_thread, step_ends}
use Rattle.mh_tell_chrome.specs.Laws.{AreWithin, Nests, counted_on}
use Rattle.mh_tell_chrome.specs.Runs.{Scene, chrome_events, command_events, first_scene, is_seen, is_told, last_events, open_ends, ran_course, ran_events, scene_after, scene_after_all, scene_course, scene_course_after, scene_events, scene_moment, scenes_events, session_name, thread_events, told_events}
use Rattle.mh_tell_chrome.proofs.BlockLemmas.{IsBlock, nests-as, nests-then, within-block, within-then}
use Rattle.mh_tell_chrome.proofs.NestLemmas.{if_some, inside, nests-closed, nests-counters, nests-deeds, nests-reopened, nests-step-ends, outside}
use Rattle.mh_tell_chrome.proofs.QuantumLemmas.{block-of-counters, block-of-quantum}
use Rattle.mh_tell_steps.proofs.LetterLemmas.{adds, counts}

-- Times ------------------------------------------------------------------------------------------

within-command : (seen : List ℕ) (moment : EventSpan) (e : Event) (reply : Reply) (deeds : List Deed) → AreWithin moment.at (quantum_at moment) (told_events seen moment e reply deeds)
within-command seen moment (Event.Control control) reply deeds = (omega arith, omega arith)
within-command seen moment (Event.Session who command) reply deeds = by (is_seen seen who) where
  slice : AreWithin moment.at (quantum_at moment) (command_events moment who command reply deeds)
  slice = (omega arith, (omega arith, omega arith))

  by : (is_known : Bool) → AreWithin moment.at (quantum_at moment) ((if is_known then [] else thread_events (session_thread who) (session_name who)) ++ command_events moment who command reply deeds)
  by true = slice
  by false = slice

within-told : (told : Bool) (seen : List ℕ) (moment : EventSpan) (e : Event) (reply : Reply) (deeds : List Deed) → AreWithin moment.at (quantum_at moment) (if told then told_events seen moment e reply deeds else [])
within-told true seen moment e reply deeds = within-command seen moment e reply deeds
within-told false seen moment e reply deeds = omega arith

pub block-of-ran : (told : Bool) (number : ℕ) (course : Course) (ran : Option Ran) → IsBlock course.time (course.time + course.left) (ran_events told number course ran)
block-of-ran told number course None = omega arith
block-of-ran told number course (Some ran) = block-of-quantum told number course ran

within-event : (options : RangeOptions) (scene : Scene) (e : Event) → AreWithin (length scene.machine.trace.letters) (length (event_step scene.machine e).state.trace.letters) (scene_events options scene e)
within-event options scene e =
    let answer = event_step scene.machine e in
    let account = account_of scene.machine e in
    let moment = scene_moment scene e in
    let course = scene_course scene e in
    let told = is_told options scene.number in
    let end : ℕ = length answer.state.trace.letters in
    let last = counters end (scene_course_after options scene e).shown (counts_of answer.state.heap.collector) in
    let ended : course.time + course.left ≡ end = sym (counts _ _ _ (adds scene.machine e)).length_is in
    within-then moment.at (quantum_at moment) end (if told then told_events scene.seen moment e answer.reply account.command else []) (ran_events told scene.number course account.quantum ++ last)
    (within-told told scene.seen moment e answer.reply account.command)
    (within-then (quantum_at moment) end end (ran_events told scene.number course account.quantum) last
    (subst (λ to. AreWithin course.time to (ran_events told scene.number course account.quantum)) ended (within-block course.time (course.time + course.left) _ (block-of-ran told scene.number course account.quantum)))
    (within-block end end last (block-of-counters end (scene_course_after options scene e).shown (counts_of answer.state.heap.collector))))

-- the machine after events is that of the scene
pub scene_machine : (options : RangeOptions) (scene : Scene) (events : List Event) → (scene_after_all options scene events).machine ≡ machine_after scene.machine events
unfolding machine_after
scene_machine options scene [] = refl
scene_machine options scene (e ∷ events) = scene_machine options (scene_after options scene e) events

within-events : (options : RangeOptions) (scene : Scene) (events : List Event)
    → AreWithin (length scene.machine.trace.letters) (length (scene_after_all options scene events).machine.trace.letters) (scenes_events options scene events)
unfolding scenes_events
within-events options scene [] = omega arith
within-events options scene (e ∷ events) =
    within-then _ _ _ (scene_events options scene e) (scenes_events options (scene_after options scene e) events) (within-event options scene e) (within-events options (scene_after options scene e) events)

within-ends : (now : ℕ) (slices : Slices) → AreWithin now now (open_ends now slices)
within-ends now slices = by slices.phase slices.cycle where
  by : (phase : Option Phase) (is_open : Bool) → AreWithin now now (open_ends now (record { cycle = is_open; phase = phase }))
  by None true = (omega arith, omega arith)
  by None false = omega arith
  by (Some phase) true = (omega arith, (omega arith, omega arith))
  by (Some phase) false = (omega arith, omega arith)

pub within-run : (options : RangeOptions) (config : Config) (events : List Event) → AreWithin 0 (length (machine_after (first_machine config) events).trace.letters) (chrome_events options config events)
within-run options config events =
    let after = scene_after_all options (first_scene config) events in
    let run : AreWithin 0 (length after.machine.trace.letters) (scenes_events options (first_scene config) events ++ last_events after) =
    within-then 0 (length after.machine.trace.letters) (length after.machine.trace.letters) (scenes_events options (first_scene config) events) (last_events after) (within-events options (first_scene config) events)
    (within-ends (length after.machine.trace.letters) after.slices) in
    let whole : AreWithin 0 (length after.machine.trace.letters) (chrome_events options config events) = (omega arith, (omega arith, (omega arith, run))) in
    subst (λ (m : Machine). AreWithin 0 (length m.trace.letters) (chrome_events options config events)) (scene_machine options (first_scene config) events) whole

-- Nesting ----------------------------------------------------------------------------------------

module _ (is_on : ℕ → Bool) where
  nests-command : (depth : ℕ) (seen : List ℕ) (moment : EventSpan) (e : Event) (reply : Reply) (deeds : List Deed) → Nests is_on depth depth (told_events seen moment e reply deeds)
  nests-command depth seen moment (Event.Control control) reply deeds = refl
  nests-command depth seen moment (Event.Session who command) reply deeds = by (is_seen seen who) where
    slice : Nests is_on depth depth (command_events moment who command reply deeds)
    slice = (omega arith, omega arith)

    by : (is_known : Bool) → Nests is_on depth depth ((if is_known then [] else thread_events (session_thread who) (session_name who)) ++ command_events moment who command reply deeds)
    by true = slice
    by false = slice

  nests-told : (depth : ℕ) (told : Bool) (seen : List ℕ) (moment : EventSpan) (e : Event) (reply : Reply) (deeds : List Deed) → Nests is_on depth depth (if told then told_events seen moment e reply deeds else [])
  nests-told depth true seen moment e reply deeds = nests-command depth seen moment e reply deeds
  nests-told depth false seen moment e reply deeds = refl

  -- what is open on both threads ends with a quantum, but for the slices on the thread of cycles
  nests-ends : (course : Course) → Nests is_on (inside is_on (counted_on is_on quanta) course) (outside is_on course.slices) (quantum_ends course)
  nests-ends course =
      let end : ℕ = course.time + course.left in
      let last : ℕ = outside is_on course.slices + counted_on is_on quanta in
      let phase : ℕ = last + if_some course.slices.phase (counted_on is_on quanta) in
      nests-then is_on (inside is_on (counted_on is_on quanta) course) phase (outside is_on course.slices) (step_ends course) (closed end course.slices.phase ++ End end quanta ∷ [])
      (nests-as is_on _ phase _ phase (step_ends course) (omega arith) refl (nests-step-ends is_on phase course))
      (nests-then is_on phase last (outside is_on course.slices) (closed end course.slices.phase) (End end quanta ∷ []) (nests-closed is_on last end course.slices.phase) (omega arith, omega arith))

  nests-quantum : (told : Bool) (number : ℕ) (course : Course) (ran : Ran) → course.in_step ≡ false → Nests is_on (outside is_on course.slices) (outside is_on (quantum_course told course ran).slices) (quantum_events told number course ran)
  nests-quantum told number course ran fresh = by (ran.ended.units == 0) where
    after : Course
    after = course_after_all told course ran.deeds

    end : ℕ
    end = after.time + after.left

    base : ℕ
    base = counted_on is_on quanta

    begins : Nests is_on (outside is_on course.slices) (inside is_on base course) (quantum_begins number course.time ran.ended course.slices)
    begins = nests-as is_on (base + outside is_on course.slices) _ (outside is_on course.slices + base) _ (reopened course.time course.slices.phase) (omega arith) refl (nests-reopened is_on base course fresh)

    ends : Nests is_on (inside is_on base after) (outside is_on after.slices) (quantum_ends after)
    ends = nests-ends after

    by : (nothing : Bool) → Nests is_on (outside is_on course.slices) (outside is_on (if nothing then course else after).slices)
        (if nothing then [] else quantum_begins number course.time ran.ended course.slices ++ (deeds_events told course ran.deeds ++ quantum_ends after))
    by true = refl
    by false =
        nests-then is_on _ (inside is_on base course) _ (quantum_begins number course.time ran.ended course.slices) (deeds_events told course ran.deeds ++ quantum_ends after) begins
        (nests-then is_on (inside is_on base course) (inside is_on base after) _ (deeds_events told course ran.deeds) (quantum_ends after) (nests-deeds is_on base told course ran.deeds) ends)

  -- Runs -----------------------------------------------------------------------------------------

  nests-ran : (told : Bool) (number : ℕ) (course : Course) (ran : Option Ran) → course.in_step ≡ false → Nests is_on (outside is_on course.slices) (outside is_on (ran_course told course ran).slices) (ran_events told number course ran)
  nests-ran told number course None fresh = refl
  nests-ran told number course (Some ran) fresh = nests-quantum told number course ran fresh

  nests-event : (options : RangeOptions) (scene : Scene) (e : Event) → Nests is_on (outside is_on scene.slices) (outside is_on (scene_after options scene e).slices) (scene_events options scene e)
  nests-event options scene e =
      let answer = event_step scene.machine e in
      let account = account_of scene.machine e in
      let moment = scene_moment scene e in
      let course = scene_course scene e in
      let told = is_told options scene.number in
      let after : ℕ = outside is_on (scene_after options scene e).slices in
      let last = counters (length answer.state.trace.letters) (scene_course_after options scene e).shown (counts_of answer.state.heap.collector) in
      nests-then is_on (outside is_on scene.slices) (outside is_on scene.slices) after (if told then told_events scene.seen moment e answer.reply account.command else []) (ran_events told scene.number course account.quantum ++ last)
      (nests-told (outside is_on scene.slices) told scene.seen moment e answer.reply account.command)
      (nests-then is_on (outside is_on scene.slices) after after (ran_events told scene.number course account.quantum) last
      (nests-ran told scene.number course account.quantum refl)
      (nests-counters is_on after (length answer.state.trace.letters) (scene_course_after options scene e).shown (counts_of answer.state.heap.collector)))

  nests-events : (options : RangeOptions) (scene : Scene) (events : List Event) → Nests is_on (outside is_on scene.slices) (outside is_on (scene_after_all options scene events).slices) (scenes_events options scene events)
  unfolding scenes_events
  nests-events options scene [] = refl
  nests-events options scene (e ∷ events) =
      nests-then is_on _ _ _ (scene_events options scene e) (scenes_events options (scene_after options scene e) events) (nests-event options scene e) (nests-events options (scene_after options scene e) events)

  nests-last : (now : ℕ) (slices : Slices) → Nests is_on (outside is_on slices) 0 (open_ends now slices)
  nests-last now slices = by slices.phase slices.cycle where
    by : (phase : Option Phase) (is_open : Bool) → Nests is_on (outside is_on (record { cycle = is_open; phase = phase })) 0 (open_ends now (record { cycle = is_open; phase = phase }))
    by None true = (omega arith, omega arith)
    by None false = refl
    by (Some phase) true = (omega arith, (omega arith, omega arith))
    by (Some phase) false = (omega arith, omega arith)

  pub nests-run : (options : RangeOptions) (config : Config) (events : List Event) → Nests is_on 0 0 (chrome_events options config events)
  nests-run options config events =
      let after = scene_after_all options (first_scene config) events in
      nests-then is_on 0 (outside is_on after.slices) 0 (scenes_events options (first_scene config) events) (last_events after) (nests-events options (first_scene config) events) (nests-last (length after.machine.trace.letters) after.slices)
