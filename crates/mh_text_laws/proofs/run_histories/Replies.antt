-- Replies to controls are well formed, and so are the units of each event.
use Rattle.std.specs.{Prelude.{◌-◌, nat_lt}, List.list_all}
use Rattle.std.proofs.Common.{◌≡◌, ◌∙◌, ℕ, suc, ◌+◌, ◌-◌, ◌*◌, ◌/◌, ◌%◌, ◌==◌, ◌<◌, ◌≤◌, ◌^◌, min, nat_lt, Bool, true, false, if◌then◌else◌, List, [], ◌∷◌, ◌++◌, length, map, take, Option, Some, option_to_list, refl, subst, arith, length-append}
use Rattle.std.proofs.{Math.Nat.{div-add-mod, mul-le-mul_left}, lemmas.Bool.{and_from, and_parts, lt-ltb, ltb-true}}
use Rattle.std.proofs.{lemmas.List.length-take, lemmas.Option.{none-some, same_Some}}
use Rattle.mh_model.specs.{declared.command.Control.Control, declared.command.Event.Event}
use Rattle.mh_model.specs.{declared.config.Config.Config, declared.history.Version.TheVariants.Two}
use Rattle.mh_model.specs.{declared.reply.Reply.Reply, Bound.most_quanta, Collector.Collector}
use Rattle.mh_model.specs.Forms.{control_phrase, is_sayable, knows_control, u64}
use Rattle.mh_model.specs.HistoryTexts.{is_event, is_measured, measured_step}
use Rattle.mh_model.specs.Machine.{Machine, control_step, event_step, first_machine, floor_of, machine_after, quanta_left, quantum_run, report_on}
use Rattle.mh_model.specs.Replies.{are_u64, is_reply}
use Rattle.mh_model.specs.Trace.{C, Letter, M, collector_count, floor, least_mutator, least_of, lesser, mutator_count, stretches}
use Rattle.mh_laws.proofs.costs.Quanta.{units-quantum}
use Rattle.mh_run_laws.proofs.{bounds.WithinEvents.runs_within_events, forwarders.RunForwarders.{after-more, after-one}}
use Rattle.mh_run_laws.proofs.trace.RunTraces.{quanta_within}
use Rattle.mh_text_laws.proofs.round_trips.HeaderRoundTrips.{config_limits}
use Rattle.mh_text_laws.proofs.run_histories.Dumps.{dump-in_range, stat-in_range}
use Rattle.mh_text_laws.proofs.run_histories.Worlds.{command-in_range}

-- Letters ----------------------------------------------------------------------------------------

mutator-few : (letters : List Letter) → mutator_count letters ≤ length letters
mutator-few [] = omega arith
mutator-few (M ∷ letters) = omega (arith, mutator-few letters)
mutator-few (C ∷ letters) = omega (arith, mutator-few letters)

collector-few : (letters : List Letter) → collector_count letters ≤ length letters
collector-few [] = omega arith
collector-few (M ∷ letters) = omega (arith, collector-few letters)
collector-few (C ∷ letters) = omega (arith, collector-few letters)

lesser-first : (n : ℕ) (other : Option ℕ) → lesser n other ≤ n
lesser-first n other = grind arith

-- the least of the stretches is at most what the first of them has
least-few : (window : ℕ) (letters : List Letter) (n : ℕ) → least_mutator window letters ≡ Some n → n ≤ length letters
least-few window [] n e = go (window == 0) e
  where
    go : (test : Bool) → least_of (map mutator_count (if test then [] ∷ [] else [])) ≡ Some n → n ≤ 0
    go true h = omega (arith, same_Some 0 n h)
    go false h = absurd (none-some n h)
least-few window (letter ∷ letters) n e = go (nat_lt (suc (length letters)) window) e
  where
    first : List Letter
    first = take window (letter ∷ letters)

    go : (test : Bool) → least_of (map mutator_count (if test then [] else first ∷ stretches window letters)) ≡ Some n → n ≤ length (letter ∷ letters)
    go true h = absurd (none-some n h)
    go false h = grind (arith, same_Some, first, lesser-first, mutator-few, length-take)

floor-parts : (m k q r window : ℕ) → (m + k) * q + r ≡ window → m * q + (r - k) ≤ window
floor-parts m k q r window is = omega arith

floor-few : (m k window : ℕ) → floor m k window ≤ window
floor-few m k window = floor-parts m k (window / (m + k)) (window % (m + k)) window (div-add-mod window (m + k))

optional_in_range : (found : Option ℕ) → ((n : ℕ) → found ≡ Some n → n < 2 ^ 64) → are_u64 (option_to_list found) ≡ true
optional_in_range found small = grind (arith, and_from, lt-ltb)

floor_in_range : (config : Config) (window : ℕ) → window < 2 ^ 64 → are_u64 (option_to_list (floor_of config window)) ≡ true
floor_in_range config window below = grind (arith, and_from, lt-ltb, floor-few)

-- Quanta -----------------------------------------------------------------------------------------

min-first : (a b : ℕ) → min a b ≤ a
min-first a b = omega arith

quanta-few : (config : Config) → most_quanta config ≤ 1000000
quanta-few config = grind (arith, min-first, config_limits)

left-few : (config : Config) (collector : Collector) → quanta_left config collector ≤ 1000000
left-few config collector = grind (arith, quanta-few)

spent_in_range : (machine : Machine) → is_reply Two (quantum_run machine).reply ≡ true
unfolding quantum_run
spent_in_range machine = grind (arith, and_from, lt-ltb, units-quantum, config_limits)

-- Runs -------------------------------------------------------------------------------------------

letters-few : (config : Config) (events : List Event) → length (machine_after (first_machine config) events).trace.letters ≤ length events * 1003661
letters-few config events = grind (arith, runs_within_events, mul-le-mul_left)

report_in_range : (config : Config) (before : List Event) (window : ℕ) → length before < 1000000 → window < 2 ^ 64
    → let machine : Machine = machine_after (first_machine config) before in is_reply Two (Reply.Report (report_on machine.heap.config machine.trace window)) ≡ true
report_in_range config before window few below =
    let machine : Machine = machine_after (first_machine config) before in
    let report = report_on machine.heap.config machine.trace window in
    let letters = letters-few config before in
    let within = runs_within_events.after_events config before in
    and_from _ _
    (
    and_from _ _ (lt-ltb report.mutator u64 (omega (arith, mutator-few machine.trace.letters, letters)))
    (and_from _ _ (lt-ltb report.collector u64 (omega (arith, collector-few machine.trace.letters, letters)))
    (and_from _ _ (lt-ltb report.quanta u64 (omega (arith, within.quanta)))
    (and_from _ _ (lt-ltb report.greatest u64 (omega (arith, quanta_within.greatest config before, (config_limits config).quantum_most)))
    (and_from _ _ (lt-ltb window u64 below) refl))))
    )
    (
    and_from _ _ (optional_in_range report.least (λ n e. omega (arith, least-few window machine.trace.letters n e, letters)))
    (floor_in_range machine.heap.config window below)
    )

control-in_range : (config : Config) (before : List Event) (c : Control) → length before < 1000000 → is_sayable (control_phrase c) ≡ true
    → is_reply Two (control_step (machine_after (first_machine config) before) c).reply ≡ true
unfolding control_step
control-in_range config before Control.Quantum few said = grind (arith, spent_in_range)
control-in_range config before Control.Start few said = refl
control-in_range config before Control.Stat few said = stat-in_range config before few
control-in_range config before Control.Dump few said = dump-in_range config before few
control-in_range config before Control.Left few said = grind (arith, and_from, lt-ltb, left-few)
control-in_range config before (Control.Report window) few said = report_in_range config before window few (ltb-true window u64 (and_parts _ _ said).0)

reply-in_range : (config : Config) (before : List Event) (e : Event) → list_all (is_event Two) before ≡ true → is_event Two e ≡ true → length before < 1000000
    → is_reply Two (event_step (machine_after (first_machine config) before) e).reply ≡ true
unfolding event_step
reply-in_range config before (Event.Session who c) known here few = command-in_range config before who c known
reply-in_range config before (Event.Control c) known here few = control-in_range config before c few (and_parts (knows_control Two c) (is_sayable (control_phrase c)) here).1

-- the machine after one event more
pub step-after : (config : Config) (before : List Event) (e : Event) → machine_after (first_machine config) (before ++ e ∷ []) ≡ (event_step (machine_after (first_machine config) before) e).state
step-after config before e = after-more (first_machine config) before (e ∷ []) ∙ after-one (machine_after (first_machine config) before) e

units-in_range : (config : Config) (before : List Event) (e : Event) → length before < 1000000
    → let machine : Machine = machine_after (first_machine config) before in
    are_u64 ((measured_step machine e (event_step machine e)).mutator ∷ (measured_step machine e (event_step machine e)).collector ∷ []) ≡ true
units-in_range config before e few =
    let machine : Machine = machine_after (first_machine config) before in
    let after : Machine = (event_step machine e).state in
    let letters : length after.trace.letters ≤ length (before ++ e ∷ []) * 1003661 = subst (λ (m : Machine). length m.trace.letters ≤ length (before ++ e ∷ []) * 1003661) (step-after config before e) (letters-few config (before ++ e ∷ [])) in
    grind (arith, length-append, and_from, lt-ltb, mutator-few, collector-few)

-- an entry of the record of a run
pub measured-in_range : (config : Config) (before : List Event) (e : Event) → list_all (is_event Two) before ≡ true → is_event Two e ≡ true → length before < 1000000
    → let machine : Machine = machine_after (first_machine config) before in is_measured (measured_step machine e (event_step machine e)) ≡ true
measured-in_range config before e known here few = and_from _ _ (and_from _ _ here (reply-in_range config before e known here few)) (units-in_range config before e few)
