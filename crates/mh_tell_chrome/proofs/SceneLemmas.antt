-- The trace events of events in turn, as text.
use Rattle.std.proofs.Common.{◌≡◌, ◌∙◌, ℕ, Bool, if◌then◌else◌, List, [], ◌∷◌, ◌++◌, refl, ap, sym, append_assoc, codes, length}
use Rattle.mh_model.specs.{declared.command.Event.Event, declared.config.Config.Config, declared.reply.Reply.Reply}
use Rattle.mh_model.specs.{Bytes.Text, Deeds.{Account, account_of}}
use Rattle.mh_model.specs.Machine.{event_step, first_machine, machine_replies}
use Rattle.mh_orders.specs.declared.range.RangeOptions.{RangeOptions}
use Rattle.mh_script.specs.Lines.{lines_from, text_by_lines}
use Rattle.mh_tell_steps.specs.{Figures.counts_of, Steps.AreInTurn, declared.figures.HeapCounts.HeapCounts}
use Rattle.mh_tell_steps.specs.declared.figures.EventSpan.{EventSpan}
use Rattle.mh_tell_chrome.specs.{declared.course.Course.Course, Deeds.counters}
use Rattle.mh_tell_chrome.specs.Runs.{DrawsReplies, IsDrawn, Scene, begun_by, chrome_events, chrome_text, chrome_told, first_scene, head_text, is_told, last_events, named_events, ran_course, ran_events, scene_after, scene_after_all, scene_course, scene_course_after, scene_events, scene_moment, scenes_events, told_events}
use Rattle.mh_tell_chrome.specs.TraceEvents.{TraceEvent, Process, event_text, file_text, next_texts}
use Rattle.mh_tell_chrome.proofs.TextLemmas.{both_written, next_texts_append}

-- The file ---------------------------------------------------------------------------------------

lines_are : (options : RangeOptions) (scene : Scene) (events : List Event) → lines_from (chrome_told options) scene events ≡ next_texts (scenes_events options scene events)
unfolding scenes_events
lines_are options scene [] = refl
lines_are options scene (e ∷ events) =
    let first = scene_events options scene e in
    let next = scene_after options scene e in
    ap (λ (text : Text). next_texts first ++ text) (lines_are options next events) ∙ sym (next_texts_append first (scenes_events options next events))

pieces : (front process named scenes ends tail : Text) → ((front ++ (process ++ named)) ++ scenes) ++ (ends ++ tail) ≡ front ++ ((process ++ (named ++ (scenes ++ ends))) ++ tail)
pieces front process named scenes ends tail = simp append_assoc

pub file_by_lines : (options : RangeOptions) (config : Config) (events : List Event)
    → text_by_lines (chrome_told options) (head_text (counts_of (first_machine config).heap.collector)) (first_scene config) events ≡ file_text (chrome_events options config events)
file_by_lines options config events =
    let counts = counts_of (first_machine config).heap.collector in
    let named : List TraceEvent = named_events counts in
    let scenes : List TraceEvent = scenes_events options (first_scene config) events in
    let ends : List TraceEvent = last_events (scene_after_all options (first_scene config) events) in
    let front : Text = codes "{\"displayTimeUnit\":\"ns\",\"traceEvents\":[\n" in
    let process : Text = event_text (Process (codes "metroheap")) in
    let tail : Text = codes "\n]}\n" in
    ap (λ (text : Text). (head_text counts ++ text) ++ (next_texts ends ++ tail)) (lines_are options (first_scene config) events)
    ∙ pieces front process (next_texts named) (next_texts scenes) (next_texts ends) tail
    ∙ ap (λ (text : Text). front ++ ((process ++ text) ++ tail)) (sym (next_texts_append named (scenes ++ ends) ∙ ap (λ (text : Text). next_texts named ++ text) (next_texts_append scenes ends)))

-- what was added to no text, a front, a first event, three threads and counters
pub head_written : (none a b c d e f front process : Text) (x y z w : List TraceEvent) → none ≡ [] → a ≡ none ++ front → b ≡ a ++ process → c ≡ b ++ next_texts x → d ≡ c ++ next_texts y → e ≡ d ++ next_texts z → f ≡ e ++ next_texts w
    → f ≡ front ++ (process ++ next_texts (x ++ (y ++ (z ++ w))))
head_written none a b c d e f front process x y z w none_is a_is b_is c_is d_is e_is f_is =
    f_is ∙ rw (e_is, d_is, c_is, b_is, a_is, none_is, next_texts_append x (y ++ (z ++ w)), next_texts_append y (z ++ w), next_texts_append z w) (simp append_assoc)

-- An event ---------------------------------------------------------------------------------------

-- what was added of an event: itself if it is shown, its quantum, and the counters that it changed
pub draw_written : (options : RangeOptions) (scene : Scene) (e : Event) (old a b d : Text) (told : Bool) (number at mutator : ℕ) (reply : Reply) (shown counts : HeapCounts) (account : Account) (course : Course) (now : ℕ)
    → told ≡ is_told options scene.number → number ≡ scene.number → at ≡ (scene_moment scene e).at → mutator ≡ (scene_moment scene e).mutator → shown ≡ counts_of scene.machine.heap.collector → reply ≡ (event_step scene.machine e).reply
    → account ≡ account_of scene.machine e → now ≡ length (event_step scene.machine e).state.trace.letters → counts ≡ counts_of (event_step scene.machine e).state.heap.collector
    → course ≡ ran_course told (begun_by (record { number = number; at = at; mutator = mutator }) scene.slices shown account) account.quantum
    → a ≡ old ++ next_texts (if told then told_events scene.seen (record { number = number; at = at; mutator = mutator }) e reply account.command else [])
    → b ≡ a ++ next_texts (ran_events told number (begun_by (record { number = number; at = at; mutator = mutator }) scene.slices shown account) account.quantum) → d ≡ b ++ next_texts (counters now course.shown counts)
    → d ≡ old ++ next_texts (scene_events options scene e)
draw_written options scene e old a b d told number at mutator reply shown counts account course now told_is number_is at_is mutator_is shown_is reply_is account_is now_is counts_is course_is a_is b_is d_is =
    let moment : EventSpan = record { number = number; at = at; mutator = mutator } in
    let begun : Course = begun_by moment scene.slices shown account in
    let first : List TraceEvent = if told then told_events scene.seen moment e reply account.command else [] in
    let ran : List TraceEvent = ran_events told number begun account.quantum in
    let last : List TraceEvent = counters now course.shown counts in
    let same : first ++ (ran ++ last) ≡ scene_events options scene e = rw (course_is, told_is, number_is, at_is, mutator_is, shown_is, reply_is, account_is, now_is, counts_is) refl in
    both_written old a d first (ran ++ last) a_is (both_written a b d ran last b_is d_is) ∙ ap (λ (events : List TraceEvent). old ++ next_texts events) same

-- Replies ----------------------------------------------------------------------------------------

-- a file draws the machine's replies
events_drawn : (options : RangeOptions) (scene : Scene) (events : List Event) → AreInTurn (IsDrawn options) scene.number events (machine_replies scene.machine events) (scenes_events options scene events)
unfolding machine_replies scenes_events
events_drawn options scene [] = refl
events_drawn options scene (e ∷ events) =
    let after = (event_step scene.machine e).state in
    let account = account_of scene.machine e in (
      scene_events options scene e,
      scenes_events options (scene_after options scene e) events,
      record {
        seen = scene.seen;
        moment = scene_moment scene e;
        deeds = account.command;
        course = scene_course scene e;
        ran = account.quantum;
        now = length after.trace.letters;
        shown = (scene_course_after options scene e).shown;
        counts = counts_of after.heap.collector;
        numbered = refl;
        is = refl;
      },
      events_drawn options (scene_after options scene e) events,
      refl,
    )

pub draws_replies : (options : RangeOptions) (script : Text) (config : Config) (events : List Event) → DrawsReplies options config events (machine_replies (first_machine config) events) (chrome_text options script config events)
draws_replies options script config events =
    let last = scene_after_all options (first_scene config) events in
    record { drawn = scenes_events options (first_scene config) events; now = length last.machine.trace.letters; slices = last.slices; each = events_drawn options (first_scene config) events; is = refl }
