-- Quanta and commands of a run: how long they are together.
use Rattle.std.proofs.Common.{◌≡◌, ◌∙◌, ℕ, suc, ◌+◌, ◌-◌, ◌≤◌, ◌==◌, ◌&&◌, nat_le, Bool, true, false, if◌then◌else◌, Option, Some, None, List, [], ◌∷◌, ◌++◌, length, refl, sym, ap, subst, arith}
use Rattle.std.proofs.lemmas.Bool.{and_from, eqb-true, le-leb, leb-true, ne_eqb}
use Rattle.mh_model.specs.{declared.command.Event.Event, declared.command.Control.Control}
use Rattle.mh_model.specs.{declared.config.Config.Config, declared.cycle.Phase.Phase, declared.deed.Deed.Deed}
use Rattle.mh_model.specs.{declared.reply.Reply.Reply, Deeds.{Ran, account_of}}
use Rattle.mh_model.specs.Machine.{Machine, event_step, first_machine, machine_after}
use Rattle.mh_model.specs.{Trace.{collector_count, mutator_count}, Bytes.Text}
use Rattle.mh_orders.specs.declared.range.RangeOptions.{RangeOptions}
use Rattle.mh_tell_steps.specs.{declared.figures.HeapCounts.HeapCounts, declared.figures.EventSpan.EventSpan}
use Rattle.mh_tell_steps.specs.{Fields.Field, Figures.{counts_of, moment_of, quantum_at, spent_by}}
use Rattle.mh_tell_chrome.specs.{declared.course.Course.Course, declared.course.Slices.Slices}
use Rattle.mh_tell_chrome.specs.TraceEvents.{TraceEvent, Counter, End}
use Rattle.mh_tell_chrome.specs.Deeds.{blocks_counter, closed, counters, course_after_all, deeds_events, grey_counter, pages_counter, quanta, quantum_begins, quantum_ends, quantum_events, reopened, session_thread, step_ends, unless_same}
use Rattle.mh_tell_chrome.specs.Laws.{Nests, begin_times, end_times, is_quanta, is_session, length_on}
use Rattle.mh_tell_chrome.specs.Runs.{Scene, chrome_events, command_events, first_scene, is_seen, is_told, last_events, open_ends, ran_events, scene_after, scene_after_all, scene_course, scene_course_after, scene_events, scene_moment, scenes_events, session_name, thread_events, told_events}
use Rattle.mh_tell_chrome.proofs.BlockLemmas.{nests-as}
use Rattle.mh_tell_chrome.proofs.LengthLemmas.{Sums, sums-as, sums-after, sums-block, sums-then, sums-within}
use Rattle.mh_tell_chrome.proofs.NestLemmas.{if_open, if_some, inside, nests-closed, nests-deeds, nests-reopened, nests-step-ends, outside}
use Rattle.mh_tell_chrome.proofs.{QuantumLemmas.end_stays_all, RunLemmas.{block-of-ran, scene_machine}}
use Rattle.mh_tell_steps.proofs.LetterLemmas.{adds, counts, quiet_control}

-- Quanta -----------------------------------------------------------------------------------------

-- outside of quanta no slice is open on their thread
outside_none : (slices : Slices) → outside is_quanta slices ≡ 0
outside_none slices = by slices.cycle slices.phase where
  by : (cycle : Bool) (phase : Option Phase) → ◌≡◌ {A = ℕ} (if_open cycle 0 + if_some phase 0) 0
  by true None = refl
  by true (Some phase) = refl
  by false None = refl
  by false (Some phase) = refl

-- the last end of a quantum
last_end : (depth end : ℕ) → depth ≡ 0 → Sums is_quanta (suc depth) depth 0 end (End end quanta ∷ [])
last_end depth end none = subst (λ n. Sums is_quanta (suc n) n 0 end (End end quanta ∷ [])) (sym none) (record { nests = (omega arith, refl); begins_are = refl; ends_are = omega arith })

sums-quantum-ends : (course : Course) → Sums is_quanta (suc (inside is_quanta 0 course)) (outside is_quanta course.slices) 0 (course.time + course.left) (quantum_ends course)
sums-quantum-ends course =
    let end : ℕ = course.time + course.left in
    let out : ℕ = outside is_quanta course.slices in
    let phase : ℕ = out + if_some course.slices.phase 1 in
    sums-after is_quanta (suc (inside is_quanta 0 course)) (suc phase) out 0 end (step_ends course) (closed end course.slices.phase ++ End end quanta ∷ [])
    (sums-within is_quanta (inside is_quanta 0 course) phase (step_ends course) (nests-as is_quanta _ phase _ phase (step_ends course) (omega arith) refl (nests-step-ends is_quanta phase course)))
    (sums-after is_quanta (suc phase) (suc out) out 0 end (closed end course.slices.phase) (End end quanta ∷ []) (sums-within is_quanta phase out (closed end course.slices.phase) (nests-closed is_quanta out end course.slices.phase))
    (last_end out end (outside_none course.slices)))

-- what a quantum adds, that has spent what its course had left
pub record Adds (is_on : ℕ → Bool) (units : ℕ) (events : List TraceEvent) : Type 0 where
  pub nests : Nests is_on 0 0 events
  pub sum : end_times is_on 0 events ≡ begin_times is_on 0 events + units

adds-nothing : (is_on : ℕ → Bool) (events : List TraceEvent) → Sums is_on 0 0 0 0 events → Adds is_on 0 events
adds-nothing is_on events h = record { nests = h.nests; sum = omega (arith, h.begins_are, h.ends_are) }

adds-then : (is_on : ℕ → Bool) (m n : ℕ) (first next : List TraceEvent) → Adds is_on m first → Adds is_on n next → Adds is_on (m + n) (first ++ next)
adds-then is_on m n first next h more =
    let all = sums-then is_on 0 0 0 _ _ _ _ first next (record { nests = h.nests; begins_are = refl; ends_are = refl }) (record { nests = more.nests; begins_are = refl; ends_are = refl }) in
    record { nests = all.nests; sum = omega (arith, all.begins_are, all.ends_are, h.sum, more.sum) }

adds-quantum : (told : Bool) (number : ℕ) (course : Course) (ran : Ran) → course.in_step ≡ false → course.left ≡ ran.ended.units → Adds is_quanta ran.ended.units (quantum_events told number course ran)
adds-quantum told number course ran fresh spends = by (ran.ended.units == 0) refl where
  after : Course
  after = course_after_all told course ran.deeds

  inner : Sums is_quanta (suc (outside is_quanta course.slices)) (outside is_quanta after.slices) 0 (after.time + after.left) (reopened course.time course.slices.phase ++ (deeds_events told course ran.deeds ++ quantum_ends after))
  inner =
      sums-after is_quanta (suc (outside is_quanta course.slices)) (suc (inside is_quanta 0 course)) (outside is_quanta after.slices) 0 (after.time + after.left) (reopened course.time course.slices.phase) (deeds_events told course ran.deeds ++ quantum_ends after)
      (sums-within is_quanta (outside is_quanta course.slices) (inside is_quanta 0 course) (reopened course.time course.slices.phase)
      (nests-as is_quanta (0 + outside is_quanta course.slices) (inside is_quanta 0 course) _ (inside is_quanta 0 course) (reopened course.time course.slices.phase) (omega arith) refl (nests-reopened is_quanta 0 course fresh)))
      (sums-after is_quanta (suc (inside is_quanta 0 course)) (suc (inside is_quanta 0 after)) (outside is_quanta after.slices) 0 (after.time + after.left) (deeds_events told course ran.deeds) (quantum_ends after)
      (sums-within is_quanta (inside is_quanta 0 course) (inside is_quanta 0 after) (deeds_events told course ran.deeds) (nests-deeds is_quanta 0 told course ran.deeds)) (sums-quantum-ends after))

  body : List TraceEvent
  body = reopened course.time course.slices.phase ++ (deeds_events told course ran.deeds ++ quantum_ends after)

  sums : Sums is_quanta 1 0 0 (after.time + after.left) body
  sums = sums-as is_quanta (suc (outside is_quanta course.slices)) (outside is_quanta after.slices) 1 0 0 (after.time + after.left) body (ap suc (outside_none course.slices)) (outside_none after.slices) inner

  by : (nothing : Bool) → (ran.ended.units == 0) ≡ nothing
      → Adds is_quanta ran.ended.units (if nothing then [] else quantum_begins number course.time ran.ended course.slices ++ (deeds_events told course ran.deeds ++ quantum_ends after))
  by true is = record { nests = refl; sum = let none : ran.ended.units ≡ 0 = eqb-true ran.ended.units 0 is in omega (arith, none) }
  by false is = record { nests = sums.nests; sum = omega (arith, sums.begins_are, sums.ends_are, end_stays_all told course ran.deeds, spends) }

adds-ran : (told : Bool) (number : ℕ) (course : Course) (ran : Option Ran) → course.in_step ≡ false → course.left ≡ spent_by ran → Adds is_quanta (spent_by ran) (ran_events told number course ran)
adds-ran told number course None fresh spends = record { nests = refl; sum = refl }
adds-ran told number course (Some ran) fresh spends = adds-quantum told number course ran fresh spends

-- Commands ---------------------------------------------------------------------------------------

is_no_quantum : (who : ℕ) → is_quanta (session_thread who) ≡ false
is_no_quantum who = ne_eqb (10 + who) 2 (λ same. omega arith)

is_of_session : (who : ℕ) → is_session (session_thread who) ≡ true
is_of_session who = le-leb 10 (10 + who) (omega arith)

-- a slice on one thread
slice_off : (on : Bool) → on ≡ false → (from to : ℕ) →
    (((if on then 1 else 0) ≤ 0 + (if on then 1 else 0)) × (◌≡◌ {A = ℕ} (0 + (if on then 1 else 0) - (if on then 1 else 0)) 0))
    × (((if on then (if 0 + (if on then 1 else 0) == 1 then to else 0) else 0) + 0) ≡ ((if on then from else 0) + 0) + 0)
slice_off false off from to = ((omega arith, refl), refl)
slice_off true off from to = let other : true ≡ false = off in cc

slice_on : (on : Bool) → on ≡ true → (from units : ℕ) →
    (((if on then 1 else 0) ≤ 0 + (if on then 1 else 0)) × (◌≡◌ {A = ℕ} (0 + (if on then 1 else 0) - (if on then 1 else 0)) 0))
    × (((if on then (if 0 + (if on then 1 else 0) == 1 then from + units else 0) else 0) + 0) ≡ ((if on then from else 0) + 0) + units)
slice_on true on from units = ((omega arith, refl), omega arith)
slice_on false on from units = let other : false ≡ true = on in cc

adds-command : (is_on : ℕ → Bool) (units : ℕ) (seen : List ℕ) (moment : EventSpan) (who : ℕ) (command : _) (reply : Reply) (deeds : List Deed) → Adds is_on units (command_events moment who command reply deeds)
    → Adds is_on units (told_events seen moment (Event.Session who command) reply deeds)
adds-command is_on units seen moment who command reply deeds h = by (is_seen seen who) where
  by : (is_known : Bool) → Adds is_on units ((if is_known then [] else thread_events (session_thread who) (session_name who)) ++ command_events moment who command reply deeds)
  by true = h
  by false = record { nests = h.nests; sum = h.sum }

no_quantum_told : (told : Bool) (seen : List ℕ) (moment : EventSpan) (e : Event) (reply : Reply) (deeds : List Deed) → Adds is_quanta 0 (if told then told_events seen moment e reply deeds else [])
no_quantum_told false seen moment e reply deeds = record { nests = refl; sum = refl }
no_quantum_told true seen moment (Event.Control control) reply deeds = record { nests = refl; sum = refl }
no_quantum_told true seen moment (Event.Session who command) reply deeds =
    let off = slice_off (is_quanta (session_thread who)) (is_no_quantum who) moment.at (quantum_at moment) in
    adds-command is_quanta 0 seen moment who command reply deeds (record { nests = off.0; sum = off.1 })

no_block : (thread : ℕ) → thread ≤ 2 → is_session thread ≡ false
no_block thread less = by (nat_le 10 thread) refl where
  by : (test : Bool) → nat_le 10 thread ≡ test → test ≡ false
  by false is = refl
  by true is = absurd (omega (arith, leb-true 10 thread is))

-- a control adds no unit of the mutator
control_adds_none : (machine : Machine) (control : Control) → mutator_count (event_step machine (Event.Control control)).state.trace.letters - mutator_count machine.trace.letters ≡ 0
control_adds_none machine control = let none = quiet_control machine control in omega (arith, none)

-- Counters ---------------------------------------------------------------------------------------

module _ (is_on : ℕ → Bool) where
  counter-sums : (now : ℕ) (test : Bool) (name : Text) (series : List Field) → Sums is_on 0 0 0 0 (unless_same test (Counter now name series))
  counter-sums now true name series = record { nests = refl; begins_are = refl; ends_are = refl }
  counter-sums now false name series = record { nests = refl; begins_are = refl; ends_are = refl }

  counters-sums : (now : ℕ) (shown counts : HeapCounts) → Sums is_on 0 0 0 0 (counters now shown counts)
  counters-sums now shown counts =
      sums-then is_on 0 0 0 0 0 0 0 (unless_same (shown.free == counts.free) (pages_counter now counts))
      (unless_same ((shown.live == counts.live) && (shown.old == counts.old)) (blocks_counter now counts) ++ unless_same (shown.grey == counts.grey) (grey_counter now counts))
      (counter-sums now (shown.free == counts.free) _ _)
      (sums-then is_on 0 0 0 0 0 0 0 (unless_same ((shown.live == counts.live) && (shown.old == counts.old)) (blocks_counter now counts)) (unless_same (shown.grey == counts.grey) (grey_counter now counts))
      (counter-sums now ((shown.live == counts.live) && (shown.old == counts.old)) _ _) (counter-sums now (shown.grey == counts.grey) _ _))

-- Events -----------------------------------------------------------------------------------------

quanta_of_event : (options : RangeOptions) (scene : Scene) (e : Event) → Adds is_quanta (spent_by (account_of scene.machine e).quantum) (scene_events options scene e)
quanta_of_event options scene e =
    let answer = event_step scene.machine e in
    let account = account_of scene.machine e in
    let told = is_told options scene.number in
    let end : ℕ = length answer.state.trace.letters in
    let last = counters end (scene_course_after options scene e).shown (counts_of answer.state.heap.collector) in
    let quiet : Adds is_quanta 0 last = adds-nothing is_quanta last (counters-sums is_quanta end (scene_course_after options scene e).shown (counts_of answer.state.heap.collector)) in
    let more = adds-then is_quanta (spent_by account.quantum) 0 (ran_events told scene.number (scene_course scene e) account.quantum) last (adds-ran told scene.number (scene_course scene e) account.quantum refl refl) quiet in
    let whole = adds-then is_quanta 0 (spent_by account.quantum + 0) (if told then told_events scene.seen (scene_moment scene e) e answer.reply account.command else []) _ (no_quantum_told told scene.seen (scene_moment scene e) e answer.reply account.command) more in
    record { nests = whole.nests; sum = omega (arith, whole.sum) }

-- a command that is shown, for as long as its units last. A control adds none
told_command : (seen : List ℕ) (machine : Machine) (number : ℕ) (e : Event) (reply : Reply) (deeds : List Deed)
    → Adds is_session (moment_of number machine (event_step machine e).state).mutator (told_events seen (moment_of number machine (event_step machine e).state) e reply deeds)
told_command seen machine number (Event.Session who command) reply deeds =
    let moment = moment_of number machine (event_step machine (Event.Session who command)).state in
    let on = slice_on (is_session (session_thread who)) (is_of_session who) moment.at moment.mutator in
    adds-command is_session moment.mutator seen moment who command reply deeds (record { nests = on.0; sum = on.1 })
told_command seen machine number (Event.Control control) reply deeds =
    let none = control_adds_none machine control in
    record { nests = refl; sum = omega (arith, none) }

commands_of_event : (options : RangeOptions) (scene : Scene) (e : Event) → is_told options scene.number ≡ true → Adds is_session (scene_moment scene e).mutator (scene_events options scene e)
commands_of_event options scene e tells =
    let answer = event_step scene.machine e in
    let account = account_of scene.machine e in
    let told = is_told options scene.number in
    let moment = scene_moment scene e in
    let end : ℕ = length answer.state.trace.letters in
    let last = counters end (scene_course_after options scene e).shown (counts_of answer.state.heap.collector) in
    let quiet = adds-nothing is_session last (counters-sums is_session end (scene_course_after options scene e).shown (counts_of answer.state.heap.collector)) in
    let course = scene_course scene e in
    let ran = adds-nothing is_session (ran_events told scene.number course account.quantum)
    (sums-block is_session 0 course.time (course.time + course.left) (ran_events told scene.number course account.quantum) no_block (block-of-ran told scene.number course account.quantum)) in
    let more = adds-then is_session 0 0 (ran_events told scene.number course account.quantum) last ran quiet in
    let first : Adds is_session moment.mutator (if told then told_events scene.seen moment e answer.reply account.command else []) = rw tells (told_command scene.seen scene.machine scene.number e answer.reply account.command) in
    let whole = adds-then is_session moment.mutator (0 + 0) (if told then told_events scene.seen moment e answer.reply account.command else []) (ran_events told scene.number course account.quantum ++ last) first more in
    record { nests = whole.nests; sum = omega (arith, whole.sum) }

-- Runs -------------------------------------------------------------------------------------------

quanta_of_events : (options : RangeOptions) (scene : Scene) (events : List Event)
    → (spent : ℕ) × (Adds is_quanta spent (scenes_events options scene events) × (collector_count (scene_after_all options scene events).machine.trace.letters ≡ collector_count scene.machine.trace.letters + spent))
unfolding scenes_events
quanta_of_events options scene [] = (0, (record { nests = refl; sum = refl }, omega arith))
quanta_of_events options scene (e ∷ events) =
    let next = scene_after options scene e in
    let more = quanta_of_events options next events in
    let here = (counts scene.machine.trace.letters next.machine.trace.letters _ (adds scene.machine e)).collector in (
      spent_by (account_of scene.machine e).quantum + more.0,
      (adds-then is_quanta (spent_by (account_of scene.machine e).quantum) more.0 (scene_events options scene e) (scenes_events options next events) (quanta_of_event options scene e) more.1.0, omega (arith, here, more.1.1)),
    )

commands_of_events : (options : RangeOptions) (scene : Scene) (events : List Event) → options.from ≤ scene.number → scene.number + length events ≤ suc options.to
    → (units : ℕ) × (Adds is_session units (scenes_events options scene events) × (mutator_count (scene_after_all options scene events).machine.trace.letters ≡ mutator_count scene.machine.trace.letters + units))
unfolding scenes_events
commands_of_events options scene [] from to = (0, (record { nests = refl; sum = refl }, omega arith))
commands_of_events options scene (e ∷ events) from to =
    let next = scene_after options scene e in
    let tells : is_told options scene.number ≡ true = and_from _ _ (le-leb options.from scene.number from) (le-leb scene.number options.to (omega arith)) in
    let more = commands_of_events options next events (omega arith) (omega arith) in
    let grown = (counts scene.machine.trace.letters next.machine.trace.letters _ (adds scene.machine e)).mutator in
    let units : ℕ = (scene_moment scene e).mutator in (
      units + more.0,
      (adds-then is_session units more.0 (scene_events options scene e) (scenes_events options next events) (commands_of_event options scene e tells) more.1.0, omega (arith, grown, more.1.1)),
    )

last_is_quanta : (now : ℕ) (slices : Slices) → Adds is_quanta 0 (open_ends now slices)
last_is_quanta now slices = by slices.phase slices.cycle where
  by : (phase : Option Phase) (is_open : Bool) → Adds is_quanta 0 (open_ends now (record { cycle = is_open; phase = phase }))
  by None true = record { nests = (omega arith, omega arith); sum = omega arith }
  by None false = record { nests = refl; sum = omega arith }
  by (Some phase) true = record { nests = (omega arith, (omega arith, omega arith)); sum = omega arith }
  by (Some phase) false = record { nests = (omega arith, omega arith); sum = omega arith }

last_is_session : (now : ℕ) (slices : Slices) → Adds is_session 0 (open_ends now slices)
last_is_session now slices = by slices.phase slices.cycle where
  by : (phase : Option Phase) (is_open : Bool) → Adds is_session 0 (open_ends now (record { cycle = is_open; phase = phase }))
  by None true = record { nests = (omega arith, omega arith); sum = omega arith }
  by None false = record { nests = refl; sum = omega arith }
  by (Some phase) true = record { nests = (omega arith, (omega arith, omega arith)); sum = omega arith }
  by (Some phase) false = record { nests = (omega arith, omega arith); sum = omega arith }

pub total_is_quanta : (options : RangeOptions) (config : Config) (events : List Event) → length_on is_quanta (chrome_events options config events) ≡ collector_count (machine_after (first_machine config) events).trace.letters
total_is_quanta options config events =
    let first = first_scene config in
    let after = scene_after_all options first events in
    let run = quanta_of_events options first events in
    let last = last_is_quanta (length after.machine.trace.letters) after.slices in
    let all = adds-then is_quanta run.0 0 (scenes_events options first events) (last_events after) run.1.0 last in
    let long : length_on is_quanta (chrome_events options config events) ≡ run.0 = omega (arith, all.sum) in
    let counted : collector_count after.machine.trace.letters ≡ run.0 = omega (arith, run.1.1) in
    long ∙ (sym counted ∙ ap (λ (m : Machine). collector_count m.trace.letters) (scene_machine options first events))

pub total_is_session : (options : RangeOptions) (config : Config) (events : List Event) → options.from ≤ 1 → length events ≤ options.to → length_on is_session (chrome_events options config events) ≡ mutator_count (machine_after (first_machine config) events).trace.letters
total_is_session options config events from to =
    let first = first_scene config in
    let after = scene_after_all options first events in
    let run = commands_of_events options first events from (omega arith) in
    let last = last_is_session (length after.machine.trace.letters) after.slices in
    let all = adds-then is_session run.0 0 (scenes_events options first events) (last_events after) run.1.0 last in
    let long : length_on is_session (chrome_events options config events) ≡ run.0 = omega (arith, all.sum) in
    let counted : mutator_count after.machine.trace.letters ≡ run.0 = omega (arith, run.1.1) in
    long ∙ (sym counted ∙ ap (λ (m : Machine). mutator_count m.trace.letters) (scene_machine options first events))
