-- The events of a page in turn, with how many deeds were written before each, and how many bytes are left.
use Rattle.std.proofs.Common.{◌≡◌, ◌∙◌, ℕ, ◌+◌, ◌-◌, ◌<◌, ◌≤◌, Bool, true, false, if◌then◌else◌, List, [], ◌∷◌, ◌++◌, length, take, drop, get_or, replicate, refl, ap, sym, subst, append-nil, append_assoc, arith, codes, nat_lt, nat_le}
use Rattle.std.proofs.lemmas.List.{drop_all, drop_more, length-append, length-take, take_more}
use Rattle.mh_model.specs.{declared.birth.TheConstants.LIFE, declared.command.Event.Event}
use Rattle.mh_model.specs.{declared.history.Measured.Measured, Bytes.Text, Deeds.account_of}
use Rattle.mh_model.specs.HistoryTexts.{machine_record, measured_step}
use Rattle.mh_model.specs.Machine.{Machine, event_step, first_machine, machine_after}
use Rattle.mh_model.specs.Trace.{Letter, M, C, TraceState}
use Rattle.mh_window_curve.proofs.{RunLemmas.short_run, TallyLemmas.{letters_of-more, units_of-length}}
use Rattle.mh_window_curve.specs.Histories.{Extends, letters_of_entries, letters_of_entry}
use Rattle.mh_machine.specs.Rules.{record-more}
use Rattle.mh_run_laws.proofs.runs.RunsByEvents.{after_more}
use Rattle.mh_run_laws.specs.Bounds.{RunsStayWithinTheirEvents}
use Rattle.mh_tell_steps.proofs.LetterLemmas.{adds, counts}
use Rattle.mh_script.proofs.LineLemmas.{lines_append, state_append}
use Rattle.mh_script.specs.Lines.{state_after}
use Rattle.mh_tell_show.specs.Auxiliary.{HasRun}
use Rattle.mh_tell_show.specs.Page.{Stage, deed_count, event_line, events_told, fitting, most_deeds, shown_events_text, shown_of, shown_text, stage}

-- Stages -----------------------------------------------------------------------------------------

abbrev pub stage_next : Stage → Event → Stage
stage_next = events_told.next

abbrev pub stage_after : Stage → List Event → Stage
stage_after = state_after events_told

-- the text of an event at a stage
abbrev pub line_at : Stage → Event → Text
line_at at event = event_line at.count at.machine event

-- the machine of a stage is that after its events
pub stage_machine : (at : Stage) (events : List Event) → (stage_after at events).machine ≡ machine_after at.machine events
unfolding machine_after
stage_machine at [] = refl
stage_machine at (event ∷ events) = stage_machine (stage_next at event) events

-- What fits --------------------------------------------------------------------------------------

-- those of events that fit at a stage
abbrev pub fitting_at : ℕ → Stage → List Event → List Event
fitting_at room at events = fitting room at.count at.machine events

fits_one : (room : ℕ) (at : Stage) (event : Event) (later : List Event) → length (line_at at event) ≤ room
    → fitting_at room at (event ∷ later) ≡ event ∷ fitting_at (room - length (line_at at event)) (stage_next at event) later
unfolding fitting
fits_one room at event later fits =
    let is : nat_le (length (line_at at event)) room ≡ true = grind (arith, fits) in
    ap (λ (b : Bool). if b then event ∷ fitting_at (room - length (line_at at event)) (stage_next at event) later else []) is

fits_none : (room : ℕ) (at : Stage) (event : Event) (later : List Event) → room < length (line_at at event) → fitting_at room at (event ∷ later) ≡ []
unfolding fitting
fits_none room at event later long =
    let is : nat_le (length (line_at at event)) room ≡ false = grind (arith, long) in
    ap (λ (b : Bool). if b then event ∷ fitting_at (room - length (line_at at event)) (stage_next at event) later else []) is

fits_end : (room : ℕ) (at : Stage) → fitting_at room at [] ≡ []
unfolding fitting
fits_end room at = refl

-- Events that were written -----------------------------------------------------------------------

-- a machine that runs is at a stage, with so many deeds left before some are left out
pub record IsAt (at : Stage) (machine : Machine) (left : ℕ) : Type 0 where
  pub machine_is : machine ≡ at.machine
  pub left_is : left ≡ most_deeds - at.count

-- an event more
is_next : (at : Stage) (event : Event) (machine machine' : Machine) (left left' : ℕ) → IsAt at machine left → machine' ≡ (event_step machine event).state → left' ≡ left - deed_count (account_of machine event)
    → IsAt (stage_next at event) machine' left'
is_next at event machine machine' left left' is steps counts = record {
  machine_is = steps ∙ ap (λ (m : Machine). (event_step m event).state) is.machine_is;
  left_is =
      let same : left' ≡ left - deed_count (account_of at.machine event) = counts ∙ ap (λ (m : Machine). left - deed_count (account_of m event)) is.machine_is in
      omega (arith, same, is.left_is);
}

-- deeds are left exactly if fewer than the most were written
some_left : (left count : ℕ) → left ≡ most_deeds - count → nat_lt 0 left ≡ nat_lt count most_deeds
some_left left count is = grind arith

-- what is written of an event at a stage
line_is : (at : Stage) (event : Event) (machine : Machine) (left : ℕ) → IsAt at machine left → shown_text (nat_lt 0 left) (shown_of machine event) ++ codes ",\n" ≡ line_at at event
line_is at event machine left is =
    ap (λ (m : Machine). shown_text (nat_lt 0 left) (shown_of m event) ++ codes ",\n") is.machine_is
    ∙ ap (λ (b : Bool). shown_text b (shown_of at.machine event) ++ codes ",\n") (some_left left at.count is.left_is)

-- the first i events fit, and were written; so many deeds and bytes are left, and this is the trace of their units
pub record HasShown (start : Machine) (events : List Event) (i : ℕ) (all : ℕ) (machine : Machine) (left room : ℕ) (old new : Text) (trace : TraceState) : Type 0 where
  pub at : IsAt (stage_after (stage start 0) (take i events)) machine left
  pub text : new ≡ old ++ shown_events_text 0 start (take i events)
  pub fits : fitting all 0 start events ≡ take i events ++ fitting_at room (stage_after (stage start 0) (take i events)) (drop i events)
  pub letters : trace.letters ≡ letters_of_entries (machine_record start (take i events))
  pub units : length trace.letters + length start.trace.letters ≡ length machine.trace.letters

-- what is written of all that fits, and its trace
pub record HasAll (start : Machine) (events : List Event) (all : ℕ) (old new : Text) (trace : TraceState) : Type 0 where
  pub text : new ≡ old ++ shown_events_text 0 start (fitting all 0 start events)
  pub letters : trace.letters ≡ letters_of_entries (machine_record start (fitting all 0 start events))

pub shown_none : (start : Machine) (events : List Event) (all : ℕ) (old : Text) (trace : TraceState) → trace.letters ≡ [] → HasShown start events 0 all start most_deeds all old old trace
unfolding machine_record
shown_none start events all old trace empty = record {
  at = record { machine_is = refl; left_is = refl };
  text = sym (append-nil old);
  fits = refl;
  letters = empty;
  units = omega (arith, ap length empty);
}

-- what a step adds to the trace
step_units : (machine : Machine) (event : Event) →
    length (event_step machine event).state.trace.letters ≡ length machine.trace.letters + ((measured_step machine event (event_step machine event)).mutator + (measured_step machine event (event_step machine event)).collector)
step_units machine event = let c = counts _ _ _ (adds machine event) in omega (arith, c.mutator, c.collector, c.length_is)

module _ {start : Machine} {events : List Event} {i all : ℕ} {machine : Machine} {left room : ℕ} {old new : Text} {trace : TraceState} (has : HasShown start events i all machine left room old new trace) where
  abbrev here : Stage
  here = stage_after (stage start 0) (take i events)

  -- the line of the next event
  pub line_here : (event : Event) (line : Text) → line ≡ shown_text (nat_lt 0 left) (shown_of machine event) ++ codes ",\n" → line ≡ line_at here event
  line_here event line is = is ∙ line_is here event machine left has.at

  -- its units leave the trace short
  pub short_with : RunsStayWithinTheirEvents → (default : Event) (mutator collector : ℕ) → i < length events → HasRun start (length events) → mutator ≡ (measured_step machine (get_or events i default) (event_step machine (get_or events i default))).mutator
      → collector ≡ (measured_step machine (get_or events i default) (event_step machine (get_or events i default))).collector → length trace.letters + (mutator + collector) < LIFE
  short_with law default mutator collector there run is also =
      let event : Event = get_or events i default in
      let after : Machine = (event_step machine event).state in
      let shown : List Event = take (i + 1) events in
      let cut = take_more events i default there in
      let reached : after ≡ machine_after start shown =
      ap (λ (m : Machine). (event_step m event).state) (has.at.machine_is ∙ stage_machine (stage start 0) (take i events)) ∙ (sym (after_more.event start (take i events) event) ∙ ap (machine_after start) (sym cut)) in
      let from_first : after ≡ machine_after (first_machine run.config) (run.before ++ shown) =
      reached ∙ (ap (λ (m : Machine). machine_after m shown) run.machine_is ∙ sym (after_more.events (first_machine run.config) run.before shown)) in
      let few : length (run.before ++ shown) ≤ length run.before + length events = omega (arith, length-append run.before shown, length-take (i + 1) events) in
      let short : length after.trace.letters < LIFE = subst (λ (m : Machine). length m.trace.letters < LIFE) (sym from_first) (short_run law run.config (run.before ++ shown) (omega (arith, few, run.few))) in
      omega (arith, short, is, also, has.units, step_units machine event)

  -- an event more
  pub shown_more : (default : Event) (machine' : Machine) (left' room' : ℕ) (line longer : Text) (trace' : TraceState) (mutator collector : ℕ) → i < length events
      → machine' ≡ (event_step machine (get_or events i default)).state → left' ≡ left - deed_count (account_of machine (get_or events i default))
      → line ≡ shown_text (nat_lt 0 left) (shown_of machine (get_or events i default)) ++ codes ",\n" → length line ≤ room → room' ≡ room - length line → longer ≡ new ++ line
      → mutator ≡ (measured_step machine (get_or events i default) (event_step machine (get_or events i default))).mutator
      → collector ≡ (measured_step machine (get_or events i default) (event_step machine (get_or events i default))).collector
      → Extends trace mutator collector trace' → HasShown start events (i + 1) all machine' left' room' old longer trace'
  shown_more default machine' left' room' line longer trace' mutator collector there steps counts text_is fits room_is longer_is mutator_is collector_is extends =
      let event : Event = get_or events i default in
      let cut = take_more events i default there in
      let line_is : line ≡ line_at here event = line_here event line text_is in
      let next : stage_after (stage start 0) (take (i + 1) events) ≡ stage_next here event = ap (stage_after (stage start 0)) cut ∙ state_append events_told (stage start 0) (take i events) (event ∷ []) in
      let entry : Measured = measured_step machine event (event_step machine event) in
      let before : Machine = machine_after start (take i events) in
      let same_entry : entry ≡ measured_step before event (event_step before event) = ap (λ (m : Machine). measured_step m event (event_step m event)) (has.at.machine_is ∙ stage_machine (stage start 0) (take i events)) in
      record {
        at = rw next (is_next here event machine machine' left left' has.at steps counts);
        text =
            longer_is ∙ (ap (λ (text : Text). text ++ line) has.text ∙ (append_assoc old (shown_events_text 0 start (take i events)) line
            ∙ ap (λ (text : Text). old ++ text) (ap (λ (text : Text). shown_events_text 0 start (take i events) ++ text) (line_is ∙ sym (append-nil (line_at here event))) ∙ (sym (lines_append events_told (stage start 0) (take i events) (event ∷ [])) ∙ ap (shown_events_text 0 start) (sym cut)))));
        fits =
            has.fits ∙ (ap (λ (later : List Event). take i events ++ fitting_at room here later) (drop_more events i default there)
            ∙ (ap (λ (later : List Event). take i events ++ later) (fits_one room here event (drop (i + 1) events) (subst (λ (text : Text). length text ≤ room) line_is fits))
            ∙ (sym (append_assoc (take i events) (event ∷ []) (fitting_at (room - length (line_at here event)) (stage_next here event) (drop (i + 1) events)))
            ∙ (ap (λ (shown : List Event). shown ++ fitting_at (room - length (line_at here event)) (stage_next here event) (drop (i + 1) events)) (sym cut)
            ∙ (ap (λ (n : ℕ). take (i + 1) events ++ fitting_at n (stage_next here event) (drop (i + 1) events)) (ap (λ (text : Text). room - length text) (sym line_is) ∙ sym room_is)
            ∙ ap (λ (at : Stage). take (i + 1) events ++ fitting_at room' at (drop (i + 1) events)) (sym next))))));
        letters =
            extends.letters ∙ (ap (λ (ls : List Letter). ls ++ (replicate mutator M ++ replicate collector C)) has.letters
            ∙ (ap (λ (n : ℕ). letters_of_entries (machine_record start (take i events)) ++ (replicate n M ++ replicate collector C)) mutator_is
            ∙ (ap (λ (n : ℕ). letters_of_entries (machine_record start (take i events)) ++ (replicate entry.mutator M ++ replicate n C)) collector_is
            ∙ (sym (letters_of-more (machine_record start (take i events)) entry)
            ∙ ap letters_of_entries (ap (λ (m : Measured). machine_record start (take i events) ++ m ∷ []) same_entry ∙ (sym (record-more start (take i events) event) ∙ ap (machine_record start) (sym cut)))))));
        units = omega (arith, ap length extends.letters, length-append trace.letters (letters_of_entry (record { entry = entry.entry; mutator = mutator; collector = collector })), units_of-length (record { entry = entry.entry; mutator = mutator; collector = collector }), has.units, step_units machine event, mutator_is, collector_is, ap (λ (m : Machine). length m.trace.letters) steps);
      }

  -- an event that doesn't fit ends it
  pub shown_full : (default : Event) (line : Text) → i < length events → line ≡ shown_text (nat_lt 0 left) (shown_of machine (get_or events i default)) ++ codes ",\n" → room < length line
      → HasAll start events all old new trace
  shown_full default line there text_is long =
      let event : Event = get_or events i default in
      let line_is : line ≡ line_at here event = line_here event line text_is in
      let none : fitting_at room here (drop i events) ≡ [] =
      ap (fitting_at room here) (drop_more events i default there) ∙ fits_none room here event (drop (i + 1) events) (subst (λ (text : Text). room < length text) line_is long) in
      let is : fitting all 0 start events ≡ take i events = has.fits ∙ (ap (λ (later : List Event). take i events ++ later) none ∙ append-nil (take i events)) in record {
        text = has.text ∙ ap (λ (shown : List Event). old ++ shown_events_text 0 start shown) (sym is);
        letters = has.letters ∙ ap (λ (shown : List Event). letters_of_entries (machine_record start shown)) (sym is);
      }

  -- and so does the last
  pub shown_all : length events ≤ i → HasAll start events all old new trace
  shown_all end =
      let none : fitting_at room here (drop i events) ≡ [] = ap (fitting_at room here) (drop_all i events end) ∙ fits_end room here in
      let is : fitting all 0 start events ≡ take i events = has.fits ∙ (ap (λ (later : List Event). take i events ++ later) none ∙ append-nil (take i events)) in record {
        text = has.text ∙ ap (λ (shown : List Event). old ++ shown_events_text 0 start shown) (sym is);
        letters = has.letters ∙ ap (λ (shown : List Event). letters_of_entries (machine_record start shown)) (sym is);
      }
