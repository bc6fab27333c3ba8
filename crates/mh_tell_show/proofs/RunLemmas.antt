-- Which events of a run a page has, where their run begins, and what is written of them.
use Rattle.std.proofs.Common.{◌≡◌, ◌∙◌, ℕ, zero, suc, ◌+◌, ◌-◌, ◌<◌, ◌≤◌, min, max, nat_le, Bool, true, false, if◌then◌else◌, List, [], ◌∷◌, ◌++◌, length, take, drop, ap, refl, subst, sym, append_assoc, arith, codes}
use Rattle.std.proofs.lemmas.Bool.{leb-false, leb-true}
use Rattle.std.proofs.lemmas.List.{drop-take, drop_all, length-drop, length-take, take_min}
use Rattle.mh_model.specs.{declared.command.Event.Event, declared.config.Config.Config, declared.reply.Reply.Reply}
use Rattle.mh_model.specs.{Bytes.Text, Deeds.account_of, HistoryTexts.machine_record, Limits.most_entries}
use Rattle.mh_model.specs.{Machine.{Machine, event_step, first_machine, machine_after, machine_replies}, Trace.Letter}
use Rattle.mh_window_curve.specs.{Histories.letters_of_entries, Points.points_of}
use Rattle.mh_orders.specs.declared.range.RangeOptions.{RangeOptions}
use Rattle.mh_tell_show.specs.Auxiliary.{HasRun}
use Rattle.mh_tell_show.specs.Page.{IsShown, ShowsReplies, deed_count, event_line, events_asked, events_before, fitting, front_text, most_bytes, page_text, part_text, point_row, run_text, shown_events_text, shown_from, shown_of}
use Rattle.mh_tell_show.specs.Rows.{listed, row_text}
use Rattle.mh_tell_steps.specs.Steps.{AreInTurn}

-- Events -----------------------------------------------------------------------------------------

-- the events from one number to another, cut at the ends of all of them
asked_cut : (from to : ℕ) (events : List Event) →
    take (max (min to (length events)) (min (from - 1) (length events)) - min (from - 1) (length events)) (drop (min (from - 1) (length events)) events) ≡ drop (from - 1) (take to events)
asked_cut from to events = by (from - 1) where
  within : (f : ℕ) → f ≤ length events → f ≤ to → take (max (min to (length events)) f - f) (drop f events) ≡ drop f (take to events)
  within f few before =
      let count : to ≡ f + (to - f) = omega (arith, before) in
      let cut : max (min to (length events)) f - f ≡ min (to - f) (length (drop f events)) = omega (arith, few, before, length-drop f events) in
      ap (λ n. take n (drop f events)) cut ∙ (take_min (to - f) (drop f events) ∙ (sym (drop-take f (to - f) events) ∙ ap (λ n. drop f (take n events)) (sym count)))

  none : (f : ℕ) → to < f → drop f (take to events) ≡ []
  none f past = drop_all f (take to events) (omega (arith, length-take to events, past))

  late : (f : ℕ) → f ≤ length events → to < f → take (max (min to (length events)) f - f) (drop f events) ≡ drop f (take to events)
  late f few past =
      let nothing : max (min to (length events)) f - f ≡ 0 = omega (arith, past) in
      ap (λ n. take n (drop f events)) nothing ∙ sym (none f past)

  beyond : (f : ℕ) → length events < f → take (max (min to (length events)) (length events) - length events) (drop (length events) events) ≡ drop f (take to events)
  beyond f past =
      let nothing : max (min to (length events)) (length events) - length events ≡ 0 = omega arith in
      ap (λ n. take n (drop (length events) events)) nothing ∙ sym (drop_all f (take to events) (omega (arith, length-take to events, past)))

  -- the same with a number in place of the lesser of two
  Asked : ℕ → ℕ → Type 0
  Asked f b = take (max (min to (length events)) b - b) (drop b events) ≡ drop f (take to events)

  split : (f : ℕ) (is_within is_before : Bool) → nat_le f (length events) ≡ is_within → nat_le f to ≡ is_before → Asked f (min f (length events))
  split f true true few before =
      let small : f ≤ length events = leb-true f (length events) few in
      let least : min f (length events) ≡ f = omega (arith, small) in
      subst (Asked f) (sym least) (within f small (leb-true f to before))
  split f true false few past =
      let small : f ≤ length events = leb-true f (length events) few in
      let least : min f (length events) ≡ f = omega (arith, small) in
      subst (Asked f) (sym least) (late f small (leb-false f to past))
  split f false before past same =
      let large : length events < f = leb-false f (length events) past in
      let least : min f (length events) ≡ length events = omega (arith, large) in
      subst (Asked f) (sym least) (beyond f large)

  by : (f : ℕ) → Asked f (min f (length events))
  by f = split f (nat_le f (length events)) (nat_le f to) refl refl

pub asked_is : (from to : ℕ) (events : List Event) (before end : ℕ) → before ≡ min (from - 1) (length events) → end ≡ max (min to (length events)) before → take (end - before) (drop before events) ≡ drop (from - 1) (take to events)
asked_is from to events before end before_of end_of =
    ap (λ n. take (n - before) (drop before events)) end_of ∙ (ap (λ b. take (max (min to (length events)) b - b) (drop b events)) before_of ∙ asked_cut from to events)

-- those before them are the first of all
before_is : (from : ℕ) (events : List Event) → take (length (take (from - 1) events)) events ≡ take (from - 1) events
before_is from events = ap (λ n. take n events) (length-take (from - 1) events) ∙ take_min (from - 1) events

-- a machine after the first events of a history goes on with the next
pub goes_on : (config : Config) (events : List Event) (before end : ℕ) (machine : Machine) → before ≤ end → end ≤ length events → length events ≤ most_entries → machine ≡ machine_after (first_machine config) (take before events)
    → HasRun machine (length (take (end - before) (drop before events)))
goes_on config events before end machine order within few is = record {
  config = config;
  before = take before events;
  few = omega (arith, length-take before events, length-take (end - before) (drop before events), length-drop before events, order, within, few);
  machine_is = is;
}

-- Texts ------------------------------------------------------------------------------------------

-- the numbers of a part of a run: what stands before its events, these, and their curve
pub part_is : (config : Config) (front text first second : Text) (machine : Machine) (asked : List Event) (room : ℕ) (letters : List Letter) → text ≡ [] → first ≡ text ++ front → room ≡ most_bytes - length first
    → second ≡ first ++ shown_events_text 0 machine (fitting room 0 machine asked) → letters ≡ letters_of_entries (machine_record machine (fitting room 0 machine asked))
    → (third : Text) → third ≡ second ++ (codes "0],\"curve\":" ++ (listed (λ point. row_text (point_row point)) (points_of config letters) ++ codes "}\n")) → third ≡ part_text config front machine asked
part_is config front text first second machine asked room letters empty has_front room_is has_events letters_are third has_rest =
    let curve : List Letter → Text = λ ls. codes "0],\"curve\":" ++ (listed (λ point. row_text (point_row point)) (points_of config ls) ++ codes "}\n") in
    let front_is : first ≡ front = has_front ∙ ap (λ (t : Text). t ++ front) empty in
    let room_of : room ≡ most_bytes - length front = room_is ∙ ap (λ (t : Text). most_bytes - length t) front_is in
    let whole : ℕ → Text = λ n. front ++ (shown_events_text 0 machine (fitting n 0 machine asked) ++ curve (letters_of_entries (machine_record machine (fitting n 0 machine asked)))) in
    has_rest ∙ (ap (λ (t : Text). t ++ curve letters) (has_events ∙ ap (λ (t : Text). t ++ shown_events_text 0 machine (fitting room 0 machine asked)) front_is)
    ∙ (append_assoc front (shown_events_text 0 machine (fitting room 0 machine asked)) (curve letters)
    ∙ (ap (λ ls. front ++ (shown_events_text 0 machine (fitting room 0 machine asked) ++ curve ls)) letters_are ∙ ap whole room_of)))

-- and these are those of the run
pub run_is : (options : RangeOptions) (config : Config) (events : List Event) (before : ℕ) (asked : List Event) (machine : Machine) → before ≡ length (events_before options events) → asked ≡ events_asked options events
    → machine ≡ machine_after (first_machine config) (take before events) → part_text config (front_text config (length events) before machine) machine asked ≡ run_text options config events
run_is options config events before asked machine before_of asked_of machine_of =
    let same : take before events ≡ events_before options events = ap (λ n. take n events) before_of ∙ before_is options.from events in
    let part : ℕ → Machine → List Event → Text = λ n m es. part_text config (front_text config (length events) n m) m es in
    ap (λ m. part before m asked) (machine_of ∙ ap (machine_after (first_machine config)) same)
    ∙ (ap (λ n. part n (machine_after (first_machine config) (events_before options events)) asked) before_of
    ∙ ap (part (length (events_before options events)) (machine_after (first_machine config) (events_before options events))) asked_of)

-- Replies ----------------------------------------------------------------------------------------

-- the replies to the first events, and to those from one number to another
replies_taken : (to : ℕ) (machine : Machine) (events : List Event) → take to (machine_replies machine events) ≡ machine_replies machine (take to events)
unfolding machine_replies
replies_taken zero machine events = refl
replies_taken (suc to) machine [] = refl
replies_taken (suc to) machine (event ∷ events) = ap (λ replies. (event_step machine event).reply ∷ replies) (replies_taken to (event_step machine event).state events)

replies_asked : (from to : ℕ) (machine : Machine) (events : List Event) → machine_replies (machine_after machine (take from events)) (drop from (take to events)) ≡ drop from (take to (machine_replies machine events))
unfolding machine_replies machine_after
replies_asked zero to machine events = sym (replies_taken to machine events)
replies_asked (suc from) zero machine events = refl
replies_asked (suc from) (suc to) machine [] = refl
replies_asked (suc from) (suc to) machine (event ∷ events) = replies_asked from to (event_step machine event).state events

-- of these events so many are shown, each with the machine's reply
abbrev IsShownOf : ℕ → List Event → List Reply → Text → Type 0
IsShownOf number events replies lines = (count : ℕ) × AreInTurn (λ _. IsShown) number (take count events) (take count replies) lines

lines_shown : (room count number : ℕ) (machine : Machine) (events : List Event) → IsShownOf number events (machine_replies machine events) (shown_events_text count machine (fitting room count machine events))
unfolding machine_replies fitting
lines_shown room count number machine [] = (0, refl)
lines_shown room count number machine (event ∷ events) = by (nat_le (length line) room) (lines_shown (room - length line) later (suc number) after events) where
  line : Text
  line = event_line count machine event

  after : Machine
  after = (event_step machine event).state

  later : ℕ
  later = count + deed_count (account_of machine event)

  by : (fits : Bool) → IsShownOf (suc number) events (machine_replies after events) (shown_events_text later after (fitting (room - length line) later after events)) → IsShownOf number (event ∷ events) ((event_step machine event).reply ∷ machine_replies after events)
      (shown_events_text count machine (if fits then event ∷ fitting (room - length line) later after events else []))
  by true (more, each) =
      (suc more, (line, shown_events_text later after (fitting (room - length line) later after events), record { is_whole = _; shown = shown_of machine event; entry_is = refl; is = refl }, each, refl))
  by false more = (0, refl)

-- a page shows the machine's replies
pub shows_replies : (options : RangeOptions) (script : Text) (config : Config) (events : List Event) → ShowsReplies options config events (machine_replies (first_machine config) events) (page_text options script config events)
shows_replies options script config events =
    let before = events_before options events in
    let machine = machine_after (first_machine config) before in
    let asked = events_asked options events in
    let front = front_text config (length events) (length before) machine in
    let (count, each) = lines_shown (most_bytes - length front) 0 (suc (options.from - 1)) machine asked in
    record {
      script = script;
      machine = machine;
      count = count;
      lines = shown_events_text 0 machine (shown_from front machine asked);
      entries = machine_record machine (shown_from front machine asked);
      each = rw (replies_asked (options.from - 1) options.to (first_machine config) events) at each;
      is = refl;
    }
