-- A script that is written event by event.
use Rattle.std.proofs.Common.{◌≡◌, ◌∙◌, ℕ, zero, suc, ◌+◌, ◌-◌, ◌<◌, ◌≤◌, ◌%◌, ◌==◌, if◌then◌else◌, true, false, Bool, List, [], ◌∷◌, ◌++◌, length, map, Option, ap, sym, subst, refl, append-nil, length-append, arith}
use Rattle.std.proofs.{lemmas.Bool.{and_parts, and_from, le-leb, lt-ltb}, lemmas.Grind.flat_map-append}
use Rattle.std.proofs.lemmas.List.{map-append}
use Rattle.std.specs.{List.list_all, Prelude.{Result, Ok, IsErrAnd}}
use Rattle.mh_model.specs.{declared.command.Event.Event, declared.config.Config.Config, declared.config.Rules.Rules}
use Rattle.mh_model.specs.{declared.config.Rules.TheVariants.{First, Second}, declared.history.Version.TheVariants.Two}
use Rattle.mh_model.specs.{Bytes.{Text, line_text, lines_text}, Configs.with_rules, HistoryTexts.is_event}
use Rattle.mh_model.specs.{World.{World, first_world}, declared.command.Control.Control}
use Rattle.mh_text.specs.Devices.{Device, FailsAt, Takes}
use Rattle.mh_text_laws.proofs.ListLemmas.{all-append, all_weaker}
use Rattle.mh_script.specs.{Texts.TakesIn, declared.fault.WriteError.WriteError}
use Rattle.mh_script.proofs.TakenLemmas.{in-all, in-fails, in-more, in-some, in-trans, in-waiting, writing-fails, writing-stops}
use Rattle.mh_orders.specs.declared.generate_options.Controls.{Controls}
use Rattle.mh_orders.specs.declared.generate_options.Controls.TheVariants.{ByChance, Each, Never}
use Rattle.mh_orders.specs.declared.{generate_options.Options.Options, profile.Profile.Profile}
use Rattle.mh_orders.specs.declared.profile.Profile.TheVariants.{Refusals, Mixed}
use Rattle.mh_generate.specs.Asked.{all_numbered, is_command, is_quantum, is_timed, version_under, writes_its_number}
use Rattle.mh_generate.specs.{Generated.{IsAsked, WritesAsked}, Profiles.{has_acts, named_by}}
use Rattle.mh_generate.specs.Auxiliary.{are_in_order, config_line, event_line, is_next, named_after, named_after_all, script_text, is_first_here}
use Rattle.mh_generate.specs.{Scripts.is_below, Taken.{are_taken, is_taken, world_then}}
use Rattle.mh_generate.proofs.{ReadBack.reading-script, SaidLemmas.writes-others, ScriptLength.script_length}
use Rattle.mh_generate.proofs.TakenLemmas.{nothing, nothing_taken, nothing_unchanged, taken-append, world_after, world_after-append}

-- Events -----------------------------------------------------------------------------------------

order-append : (named : ℕ) (events more : List Event) → are_in_order named events ≡ true → are_in_order (named_after_all named events) more ≡ true → are_in_order named (events ++ more) ≡ true
order-append named [] more order later = later
order-append named (e ∷ events) more order later =
    let both = and_parts (is_next named e) (are_in_order (named_after named e) events) order in
    and_from _ _ both.0 (order-append (named_after named e) events more both.1 later)

named-append : (named : ℕ) (events more : List Event) → named_after_all named (events ++ more) ≡ named_after_all (named_after_all named events) more
named-append named [] more = refl
named-append named (e ∷ events) more = named-append (named_after named e) events more

script_text-append : (c : Config) (events more : List Event) → script_text c (events ++ more) ≡ script_text c events ++ lines_text (map event_line more)
script_text-append c events more =
    ap (λ (lines : List Text). lines_text (config_line c ∷ lines)) (map-append event_line events more)
    ∙ flat_map-append line_text (config_line c ∷ map event_line events) (map event_line more)

-- a test of each numbered event of two lists
numbered-append : (p : ℕ → Event → Bool) (i n : ℕ) (events more : List Event) → n ≡ i + length events → all_numbered p i events ≡ true → all_numbered p n more ≡ true → all_numbered p i (events ++ more) ≡ true
numbered-append p i n [] more is h k = let same : n ≡ i = omega (arith, is) in subst (λ (m : ℕ). all_numbered p m more ≡ true) same k
numbered-append p i n (e ∷ events) more is h k =
    let both = and_parts (p i e) (all_numbered p (suc i) events) h in
    and_from _ _ both.0 (numbered-append p (suc i) n events more (omega (arith, is)) both.1 k)

abbrev pub most_of : Options → ℕ
most_of options = named_by options.profile options.sessions

-- the world that runs along at first
abbrev pub world_of_options : Options → World
world_of_options options = first_world (with_rules options.rules options.config)

-- events that are such as those of a script that is asked for
pub record AreFit (options : Options) (events : List Event) : Type 0 where
  pub known : list_all (is_event (version_under options.rules)) events ≡ true
  pub order : are_in_order 0 events ≡ true
  pub below : list_all (is_below (most_of options)) events ≡ true
  pub timed : all_numbered (is_timed options.controls) 1 events ≡ true
  pub writes : all_numbered (writes_its_number options.profile) 1 events ≡ true
  pub taken : has_acts options.profile ≡ true → are_taken (world_of_options options) events ≡ true

pub none_fit : (options : Options) → AreFit options []
none_fit options = record { known = refl; order = refl; below = refl; timed = refl; writes = refl; taken = λ acts. refl }

known_two : (rules : Rules) (e : Event) → is_event (version_under rules) e ≡ true → is_event Two e ≡ true
known_two Second e h = h
known_two First (Event.Session who c) h = h
known_two First (Event.Control Control.Left) h = refl
known_two First (Event.Control other) h = h

asked_of : (options : Options) (events : List Event) → AreFit options events → length events ≡ options.events → IsAsked options (script_text options.config events)
asked_of options events fit count =
    let known : list_all (is_event Two) events ≡ true = all_weaker (is_event (version_under options.rules)) (is_event Two) events (known_two options.rules) fit.known in
    record {
      script = record { config = options.config; events = events };
      reads = reading-script options.config events options.second known fit.order (script_length options.config events known (omega (arith, count, options.few_events)));
      config = refl;
      count = count;
      sessions = fit.below;
      controls = fit.timed;
      rules = fit.known;
      writes = fit.writes;
      taken = fit.taken;
    }

-- Events that complete a script ------------------------------------------------------------------

-- the event with this number is a quantum if one is asked for there, and else nothing
filler : Controls → ℕ → Event
filler ByChance number = nothing
filler (Each events) number = if number % events == 0 then Event.Control Control.Quantum else nothing
filler Never number = nothing

fillers : Controls → ℕ → ℕ → List Event
fillers controls number zero = []
fillers controls number (suc n) = filler controls number ∷ fillers controls (suc number) n

length-fillers : (controls : Controls) (number n : ℕ) → length (fillers controls number n) ≡ n
unfolding fillers
length-fillers controls number zero = refl
length-fillers controls number (suc n) = omega (arith, length-fillers controls (suc number) n)

-- what holds of a quantum and of nothing holds of each
filler-is : (P : Event → Type 0) (controls : Controls) (number : ℕ) → P (Event.Control Control.Quantum) → P nothing → P (filler controls number)
unfolding filler
filler-is P ByChance number quantum none = none
filler-is P Never number quantum none = none
filler-is P (Each events) number quantum none = go (number % events == 0) where
  go : (test : Bool) → P (if test then Event.Control Control.Quantum else nothing)
  go true = quantum
  go false = none

filler-timed : (controls : Controls) (number : ℕ) → is_timed controls number (filler controls number) ≡ true
unfolding filler
filler-timed ByChance number = refl
filler-timed Never number = refl
filler-timed (Each events) number = go (number % events == 0) where
  go : (test : Bool) → (if test then is_quantum (if test then Event.Control Control.Quantum else nothing) else is_command (if test then Event.Control Control.Quantum else nothing)) ≡ true
  go true = refl
  go false = refl

module _ (controls : Controls) where
  all-fillers : (p : Event → Bool) (number n : ℕ) → p (Event.Control Control.Quantum) ≡ true → p nothing ≡ true → list_all p (fillers controls number n) ≡ true
  unfolding fillers
  all-fillers p number zero quantum none = refl
  all-fillers p number (suc n) quantum none = and_from _ _ (filler-is (λ e. p e ≡ true) controls number quantum none) (all-fillers p (suc number) n quantum none)

  numbered-fillers : (p : ℕ → Event → Bool) (number n : ℕ) → ((m : ℕ) → p m (filler controls m) ≡ true) → all_numbered p number (fillers controls number n) ≡ true
  unfolding fillers
  numbered-fillers p number zero h = refl
  numbered-fillers p number (suc n) h = and_from _ _ (h number) (numbered-fillers p (suc number) n h)

  order-fillers : (named number n : ℕ) → are_in_order named (fillers controls number n) ≡ true
  unfolding fillers
  order-fillers named number zero = refl
  order-fillers named number (suc n) =
      and_from _ _ (filler-is (λ e. is_next named e ≡ true) controls number refl (le-leb 0 named (omega arith))) (order-fillers (named_after named (filler controls number)) (suc number) n)

  taken-fillers : (world : World) (number n : ℕ) → is_first_here world ≡ true → are_taken world (fillers controls number n) ≡ true
  unfolding fillers
  taken-fillers world number zero here = refl
  taken-fillers world number (suc n) here =
      let same : world_then world (filler controls number) ≡ world = filler-is (λ e. world_then world e ≡ world) controls number refl (nothing_unchanged world here) in
      and_from _ _ (filler-is (λ e. is_taken world e ≡ true) controls number refl (nothing_taken world here))
      (subst (λ (w : World). are_taken w (fillers controls (suc number) n) ≡ true) (sym same) (taken-fillers world (suc number) n here))

-- the first session hasn't ended in the world that runs along
abbrev pub IsHere : Options → List Event → Type 0
IsHere options events = has_acts options.profile ≡ true → is_first_here (world_after (world_of_options options) events) ≡ true

below-most : (options : Options) → is_below (most_of options) nothing ≡ true
below-most options = lt-ltb 0 (most_of options) (some_named options.profile options.sessions options.some_sessions) where
  some_named : (profile : Profile) (sessions : ℕ) → 0 < sessions → 0 < named_by profile sessions
  some_named Refusals sessions some = omega arith
  some_named Mixed sessions some = omega arith
  some_named other sessions some = some

known-fillers : (rules : Rules) → (is_event (version_under rules) (Event.Control Control.Quantum) ≡ true) × (is_event (version_under rules) nothing ≡ true)
known-fillers First = (refl, refl)
known-fillers Second = (refl, refl)

-- events that are as many as are asked for at most begin some script that is asked for
begins_asked : (options : Options) (events : List Event) → AreFit options events → IsHere options events → length events ≤ options.events
    → (rest : Text) × IsAsked options (script_text options.config events ++ rest)
begins_asked options events fit here few =
    let n : ℕ = options.events - length events in
    let number : ℕ = 1 + length events in
    let more : List Event = fillers options.controls (1 + length events) (options.events - length events) in
    let known = known-fillers options.rules in
    let fit_all : AreFit options (events ++ fillers options.controls (1 + length events) (options.events - length events)) = record {
      known = all-append (is_event (version_under options.rules)) events more fit.known (all-fillers options.controls (is_event (version_under options.rules)) number n known.0 known.1);
      order = order-append 0 events more fit.order (order-fillers options.controls (named_after_all 0 events) number n);
      below = all-append (is_below (most_of options)) events more fit.below (all-fillers options.controls (is_below (most_of options)) number n refl (below-most options));
      timed = numbered-append (is_timed options.controls) 1 number events more refl fit.timed (numbered-fillers options.controls (is_timed options.controls) number n (filler-timed options.controls));
      writes = numbered-append (writes_its_number options.profile) 1 number events more refl fit.writes
          (numbered-fillers options.controls (writes_its_number options.profile) number n
          (λ m. filler-is (λ e. writes_its_number options.profile m e ≡ true) options.controls m (writes-others options.profile m).0 (writes-others options.profile m).1));
      taken = λ acts. taken-append (world_of_options options) events more (fit.taken acts) (taken-fillers options.controls (world_after (world_of_options options) events) number n (here acts));
    } in
    let count : length (events ++ fillers options.controls (1 + length events) (options.events - length events)) ≡ options.events = omega (arith, few, length-append events more, length-fillers options.controls number n) in
    (lines_text (map event_line more), subst (IsAsked options) (script_text-append options.config events more) (asked_of options _ fit_all count))

-- Written ----------------------------------------------------------------------------------------

-- so many events were chosen, in which so many sessions are named, and their script was written or waits
pub record HasWritten (options : Options) (count named : ℕ) (world : World) (old new : Device) (buffer : Text) : Type 0 where
  pub events : List Event
  pub fit : AreFit options events
  pub here : is_first_here world ≡ true
  pub world_is : has_acts options.profile ≡ true → world ≡ world_after (world_of_options options) events
  pub counted : length events ≡ count
  pub named_is : named ≡ named_after_all 0 events
  pub taken : TakesIn old new buffer (script_text options.config events)

-- nothing was written
pub nothing_asked : (options : Options) (old : Device) (ended : Result Unit WriteError) → IsErrAnd ended (λ e. e ≡ WriteError.NoMemory) → WritesAsked options old old ended
nothing_asked options old ended is =
    let begins = begins_asked options [] (none_fit options) (λ acts. refl) (omega arith) in
    let waits : TakesIn old old [] [] = in-waiting old refl in
    (_, begins.1, writing-stops ended is (in-some waits (script_text options.config [] ++ begins.0) refl))

pub none_written : (options : Options) (named : ℕ) (world : World) (old : Device) (buffer : Text) → named ≡ 0 → world ≡ world_of_options options → buffer ≡ [] ++ line_text (config_line options.config)
    → HasWritten options 0 named world old old buffer
none_written options named world old buffer none first is = record {
  events = [];
  fit = none_fit options;
  here = ap is_first_here first;
  world_is = λ acts. first;
  counted = refl;
  named_is = none;
  taken = in-waiting old (is ∙ sym (append-nil (line_text (config_line options.config))));
}

module _ {options : Options} {count named : ℕ} {world : World} {old new : Device} {buffer : Text} (has : HasWritten options count named world old new buffer) where
  -- an event more
  pub more_written : (e : Event) (number most named' : ℕ) (world' : World) (longer : Text) → number ≡ count + 1 → is_event (version_under options.rules) e ≡ true → is_next named e ≡ true → most ≡ most_of options
      → is_below most e ≡ true → is_timed options.controls number e ≡ true → writes_its_number options.profile number e ≡ true → (has_acts options.profile ≡ true → is_taken world e ≡ true)
      → named' ≡ named_after named e → (has_acts options.profile ≡ true → world' ≡ world_then world e) → is_first_here world' ≡ true → longer ≡ buffer ++ line_text (event_line e)
      → HasWritten options (count + 1) named' world' old new longer
  more_written e number most named' world' longer number_is known next most_is below timed writes taken named_is step here is =
      let at : number ≡ 1 + length has.events = omega (arith, number_is, has.counted) in
      record {
        events = has.events ++ e ∷ [];
        fit = record {
          known = all-append (is_event (version_under options.rules)) has.events (e ∷ []) has.fit.known (and_from _ _ known refl);
          order = order-append 0 has.events (e ∷ []) has.fit.order (and_from _ _ (subst (λ (n : ℕ). is_next n e ≡ true) has.named_is next) refl);
          below = all-append (is_below (most_of options)) has.events (e ∷ []) has.fit.below (and_from _ _ (subst (λ (n : ℕ). is_below n e ≡ true) most_is below) refl);
          timed = numbered-append (is_timed options.controls) 1 number has.events (e ∷ []) at has.fit.timed (and_from _ _ timed refl);
          writes = numbered-append (writes_its_number options.profile) 1 number has.events (e ∷ []) at has.fit.writes (and_from _ _ writes refl);
          taken = λ acts. taken-append (world_of_options options) has.events (e ∷ []) (has.fit.taken acts)
              (and_from _ _ (subst (λ (w : World). is_taken w e ≡ true) (has.world_is acts) (taken acts)) refl);
        };
        here = here;
        world_is = λ acts. step acts ∙ (ap (λ (w : World). world_then w e) (has.world_is acts) ∙ sym (world_after-append (world_of_options options) has.events (e ∷ [])));
        counted = omega (arith, has.counted, length-append has.events (e ∷ []));
        named_is = named_is ∙ ap (λ (n : ℕ). named_after n e) has.named_is ∙ sym (named-append 0 has.events (e ∷ []));
        taken = in-more has.taken (line_text (event_line e)) is
            (script_text-append options.config has.events (e ∷ []) ∙ ap (λ (t : Text). script_text options.config has.events ++ t) (append-nil (line_text (event_line e))));
      }

  pub written_on : (now : Device) (rest : Text) → TakesIn new now rest buffer → HasWritten options count named world old now rest
  written_on now rest wrote = record {
    events = has.events;
    fit = has.fit;
    here = has.here;
    world_is = has.world_is;
    counted = has.counted;
    named_is = has.named_is;
    taken = in-trans has.taken wrote;
  }

  -- all was written
  pub all_written : (now : Device) → count ≡ options.events → Takes new now buffer → WritesAsked options old now (Ok tt)
  all_written now all wrote = (_, asked_of options has.events has.fit (has.counted ∙ all), in-all has.taken wrote)

  is_here : IsHere options has.events
  is_here = λ acts. subst (λ (w : World). is_first_here w ≡ true) (has.world_is acts) has.here

  module _ (few : count ≤ options.events) where
    -- no more was written
    pub begun_written : (ended : Result Unit WriteError) → IsErrAnd ended (λ e. e ≡ WriteError.NoMemory) → WritesAsked options old new ended
    begun_written ended is =
        let begins = begins_asked options has.events has.fit is_here (omega (arith, has.counted)) in
        (_, begins.1, writing-stops ended is (in-some has.taken begins.0 refl))

    -- a prefix of what waits was
    pub fails_written : (now : Device) (ended : Result Unit WriteError) → IsErrAnd ended (λ e. e ≡ WriteError.Device) → FailsAt new now buffer → WritesAsked options old now ended
    fails_written now ended is failed =
        let begins = begins_asked options has.events has.fit is_here (omega (arith, has.counted)) in
        (_, begins.1, writing-fails ended is (in-fails has.taken begins.0 refl failed))
