-- What is kept of a cycle is what its events say: at its start, with each event, and as its line.
use Rattle.std.proofs.Common.{◌≡◌, ℕ, suc, ◌+◌, ◌-◌, ◌*◌, ◌^◌, ◌≤◌, ◌<◌, max, nat_le, true, inl, inr, Option, Some, None, IfSome, List, [], ◌∷◌, ◌++◌, length, filter_map, flat_map, refl, sym, ap, ◌∙◌, subst, arith, append-nil}
use Rattle.std.proofs.{lemmas.Bool.{cases_Bool, and_parts, leb-true, false≢true}, lemmas.Grind.flat_map-append}
use Rattle.std.proofs.{lemmas.List.length-append, lemmas.List.Elements.filter_map-append, lemmas.List.Sums.sum_by-cons}
use Rattle.std.specs.List.{AllByRecursion, sum_by}
use Rattle.mh_model.specs.{declared.command.Event.Event, declared.config.Config.Config, declared.deed.Deed.Deed}
use Rattle.mh_model.specs.{declared.stat.Stat.Stat, Collector.{is_start_due, quantum}}
use Rattle.mh_model.specs.Deeds.{Ran, Account, units_of, ran_by, ran_if, account_of}
use Rattle.mh_model.specs.Limits.{least_quantum, most_entries}
use Rattle.mh_model.specs.Machine.{Machine, first_machine, quantum_run, half_step, event_step, machine_after, stat_on}
use Rattle.mh_model.specs.{Pages.free_pages, Snapshot.has_quantum}
use Rattle.mh_model.specs.Trace.{TraceState, mutator_count, collector_count, with_spent}
use Rattle.mh_model.specs.declared.command.Control.{Control}
use Rattle.mh_model.proofs.LetterLemmas.{mutator-C, collector-C}
use Rattle.mh_laws.proofs.{costs.Quanta.units-quantum, rooms.QuietEvents.quantum-event}
use Rattle.mh_tell_laws.specs.Cycles.{Cycle, starts_cycle, cycle_begun, cycle_with, ran_deeds, account_deeds, deeds_in_cycle, quanta_in_cycle, makes, opens, frees, drops, empties, moves, cycle_number, was_asked, greatest_spent, stat_before}
use Rattle.mh_tell_laws.proofs.cycles.EventLemmas.{IsSafe, safe-first, safe-event, half-tells, quantum-tells, event-tells, account-quantum}
use Rattle.mh_tell_laws.proofs.cycles.UnitLemmas.{is_of_command, command-deeds, command-spent}
use Rattle.mh_tell_cycles.specs.{declared.underway.Underway.Underway, declared.watch.Watch.Watch}
use Rattle.mh_tell_cycles.specs.Tallies.{first_tally, tally_all, HasRoom, IsOfRun, IsWithin, blocks_of_stat, blocks_after, spent_by, underway_from, with_quantum, with_account}
use Rattle.mh_tell_cycles.specs.{Auxiliary.underway_of, Lines.{line_after, line_of}}
use Rattle.mh_tell_cycles.proofs.StartLemmas.{half-kept}
use Rattle.mh_tell_cycles.proofs.TallyLemmas.{counts-are, units-are, longest-is, room-all, room-less, tally_all-append}

-- Machines of a run ------------------------------------------------------------------------------

safe-after : (config : Config) (events : List Event) (machine : Machine) → IsSafe config machine → IsSafe config (machine_after machine events)
unfolding machine_after
safe-after config [] machine safe = safe
safe-after config (event ∷ events) machine safe = safe-after config events (event_step machine event).state (safe-event config machine event safe)

pub run-safe : (machine : Machine) → IsOfRun machine → (config : Config) × IsSafe config machine
run-safe machine (config, events, is) = (config, subst (IsSafe config) (sym is) (safe-after config events (first_machine config) (safe-first config)))

after-more : (events : List Event) (event : Event) (machine : Machine) → machine_after machine (events ++ event ∷ []) ≡ (event_step (machine_after machine events) event).state
unfolding machine_after
after-more [] event machine = refl
after-more (first ∷ events) event machine = after-more events event (event_step machine first).state

pub run-more : (machine : Machine) (event : Event) → IsOfRun machine → IsOfRun (event_step machine event).state
run-more machine event (config, events, is) = (config, events ++ event ∷ [], ap (λ m. (event_step m event).state) is ∙ sym (after-more events event (first_machine config)))

-- Commands ---------------------------------------------------------------------------------------

commands-are : (machine : Machine) (event : Event) → AllByRecursion (λ d. is_of_command d ≡ true) (account_of machine event).command
unfolding account_of
commands-are machine (Event.Session who command) = command-deeds machine.heap who command
commands-are machine (Event.Control Control.Quantum) = tt
commands-are machine (Event.Control asked) = tt

command-none : (weight : Deed → ℕ) → ((d : Deed) → is_of_command d ≡ true → weight d ≡ 0) → (deeds : List Deed) → AllByRecursion (λ d. is_of_command d ≡ true) deeds → sum_by weight deeds ≡ 0
command-none weight none [] all = refl
command-none weight none (d ∷ deeds) (here, after) = omega (arith, sum_by-cons weight d deeds, none d here, command-none weight none deeds after)

none-freed : (d : Deed) → is_of_command d ≡ true → frees d ≡ 0
none-freed (Deed.Sweep place fate) e = absurd (false≢true e)
none-freed d e = refl

none-dropped : (d : Deed) → is_of_command d ≡ true → drops d ≡ 0
none-dropped (Deed.Sweep place fate) e = absurd (false≢true e)
none-dropped d e = refl

none-emptied : (d : Deed) → is_of_command d ≡ true → empties d ≡ 0
none-emptied (Deed.FreePage page) e = absurd (false≢true e)
none-emptied d e = refl

none-moved : (d : Deed) → is_of_command d ≡ true → moves d ≡ 0
none-moved (Deed.Move place to name class_size) e = absurd (false≢true e)
none-moved d e = refl

-- What the account of an event of a run says in numbers
pub record IsAccount (machine : Machine) (event : Event) : Type 0 where
  pub commands : units_of (account_of machine event).command ≡ 0
  pub opened : sum_by opens (account_of machine event).command ≤ (stat_on machine.heap.collector).free
  pub half : blocks_of_stat (stat_on (half_step machine event).heap.collector) ≡ blocks_after (stat_on machine.heap.collector) (account_of machine event).command
  pub spent : spent_by (account_of machine event).quantum ≤ collector_count (event_step machine event).state.trace.letters
  pub few : units_of (ran_deeds (account_of machine event).quantum) < 2 ^ 64
  pub mutator : mutator_count machine.trace.letters ≤ mutator_count (event_step machine event).state.trace.letters
  pub collector : collector_count machine.trace.letters ≤ collector_count (event_step machine event).state.trace.letters

-- what a quantum of an event leaves of the trace
record IsRun (machine : Machine) (event : Event) : Type 0 where
  pub ran : (account_of machine event).quantum ≡ Some (ran_by (half_step machine event).heap)
  pub mutator : mutator_count (event_step machine event).state.trace.letters ≡ mutator_count (half_step machine event).trace.letters
  pub collector : collector_count (event_step machine event).state.trace.letters ≡ collector_count (half_step machine event).trace.letters + spent_by (account_of machine event).quantum

event-run : (machine : Machine) (event : Event) → has_quantum machine event ≡ true → IsRun machine event
unfolding quantum_run
event-run machine event runs =
    let half : Machine = half_step machine event in
    let units : ℕ = (quantum half.heap.config half.heap.collector).units in
    let ran : (account_of machine event).quantum ≡ Some (ran_by half.heap) = account-quantum machine event ∙ ap (λ b. ran_if b half.heap) runs in
    let trace : (event_step machine event).state.trace ≡ with_spent half.trace units = ap (λ (m : Machine). m.trace) (quantum-event machine event runs) in
    record {
      ran = ran;
      mutator = ap (λ (t : TraceState). mutator_count t.letters) trace ∙ mutator-C half.trace.letters units;
      collector = ap (λ (t : TraceState). collector_count t.letters) trace ∙ collector-C half.trace.letters units ∙ ap (λ q. collector_count half.trace.letters + spent_by q) (sym ran);
    }

config-few : (config : Config) → config.quantum ≤ 1000000
config-few config =
    let rest = (and_parts (nat_le 1 config.pages) _ config.in_limits).1 in
    let rest' = (and_parts (nat_le config.pages 4096) _ rest).1 in
    let rest'' = (and_parts (nat_le least_quantum config.quantum) _ rest').1 in
    leb-true config.quantum 1000000 (and_parts (nat_le config.quantum 1000000) _ rest'').0

spent-few : (config : Config) (machine : Machine) (event : Event) → IsSafe config machine → (spent_by (account_of machine event).quantum ≤ collector_count (event_step machine event).state.trace.letters) × (units_of (ran_deeds (account_of machine event).quantum) < 2 ^ 64)
spent-few config machine event safe = elim (cases_Bool (has_quantum machine event)) [
  | inl runs ↦
      let is = event-run machine event runs in
      let half : Machine = half_step machine event in
      let tell = quantum-tells config machine event safe in
      let few = units-quantum half.heap.config half.heap.collector in
      (omega (arith, is.collector), omega (arith, (tell.spent).units, tell.collector, is.collector, ap spent_by is.ran, few, config-few half.heap.config))
  | inr none ↦
      let nothing : (account_of machine event).quantum ≡ None = account-quantum machine event ∙ ap (λ b. ran_if b (half_step machine event).heap) none in
      (omega (arith, ap spent_by nothing), omega (arith, ap (λ q. units_of (ran_deeds q)) nothing))
]

pub account-is : (config : Config) (machine : Machine) (event : Event) → IsSafe config machine → IsAccount machine event
account-is config machine event safe =
    let deeds : List Deed = (account_of machine event).command in
    let half : Machine = half_step machine event in
    let all = commands-are machine event in
    let tell = half-tells config machine event safe in
    let whole = event-tells config machine event safe in
    let spent = spent-few config machine event safe in
    let free : free_pages half.heap.collector.table ≡ (stat_on machine.heap.collector).free - sum_by opens deeds = omega (arith, tell.free, command-none empties none-emptied deeds all) in
    let live : (stat_on half.heap.collector).live ≡ (stat_on machine.heap.collector).live + sum_by makes deeds = omega (arith, tell.live, command-none frees none-freed deeds all) in
    let old : (stat_on half.heap.collector).old ≡ (stat_on machine.heap.collector).old = omega (arith, tell.forwarders, command-none drops none-dropped deeds all, command-none moves none-moved deeds all) in
    record {
      commands = (command-spent machine.heap.collector.phase deeds all).units;
      opened = omega (arith, tell.free, command-none empties none-emptied deeds all);
      half = λ i. record { free = free i; live = live i; old = old i };
      spent = spent.0;
      few = spent.1;
      mutator = whole.mutator;
      collector = omega (arith, whole.collector);
    }

-- The start --------------------------------------------------------------------------------------

abbrev quantum_of : Account → Option Ran
quantum_of account = account.quantum

-- a cycle that begins so, with its first quantum
started-with : (base : Underway) (number : ℕ) (cycle : Cycle) (q : Option Ran) (ran : Ran) → cycle.accounts ≡ record { command = []; quantum = q } ∷ [] → q ≡ Some ran
    → base.number ≡ cycle_number cycle → base.first ≡ cycle.first → base.is_asked ≡ was_asked cycle → base.mutator ≡ mutator_count cycle.start.trace.letters → base.collector ≡ collector_count cycle.start.trace.letters
    → base.before ≡ blocks_of_stat (stat_before cycle) → base.quanta ≡ 0 → base.greatest ≡ 0 → base.tally ≡ first_tally → with_quantum base q ≡ underway_of cycle
started-with base number cycle q ran accounts is number_is first asked mutator collector before quanta greatest tally =
    ap (with_quantum base) is ∙ (λ i. record {
      number = number_is i;
      first = first i;
      is_asked = asked i;
      mutator = mutator i;
      collector = collector i;
      before = before i;
      quanta = count i;
      greatest = most i;
      tally = (ap (λ t. tally_all t ran.deeds) tally ∙ ap (tally_all first_tally) (sym (append-nil ran.deeds)) ∙ ap (λ list. tally_all first_tally (flat_map account_deeds list)) (sym known)) i;
    })
  where
    known : cycle.accounts ≡ record { command = []; quantum = Some ran } ∷ []
    known = accounts ∙ ap (λ o. record { command = []; quantum = o } ∷ []) is

    count : base.quanta + 1 ≡ length (quanta_in_cycle cycle)
    count = ap (λ n. n + 1) quanta ∙ ap (λ list. length (filter_map quantum_of list)) (sym known)

    most : max base.greatest ran.ended.units ≡ greatest_spent (quanta_in_cycle cycle)
    most =
        let e : max base.greatest ran.ended.units ≡ max ran.ended.units 0 = omega (arith, greatest) in
        e ∙ ap (λ list. greatest_spent (filter_map quantum_of list)) (sym known)

-- What is kept of a cycle as it starts
pub begun-is : (config : Config) (number : ℕ) (watch : Watch) (machine : Machine) (event : Event) → IsSafe config machine → watch.stat ≡ stat_on machine.heap.collector → watch.is_asked ≡ machine.heap.collector.is_asked → starts_cycle machine event ≡ true
    → underway_from number watch (event_step machine event).state (account_of machine event) ≡ underway_of (cycle_begun number machine event)
begun-is config number watch machine event safe stat asked starts =
    let half : Machine = half_step machine event in
    let runs = (and_parts (has_quantum machine event) (is_start_due half.heap.config half.heap.collector) starts).0 in
    let is = event-run machine event runs in
    let kept = half-kept machine event in
    let account = account-is config machine event safe in
    let number_is : watch.stat.cycle + 1 ≡ half.heap.collector.cycle + 1 = omega (arith, ap (λ (s : Stat). s.cycle) stat, kept.cycle) in
    let collector_is : collector_count (event_step machine event).state.trace.letters - spent_by (account_of machine event).quantum ≡ collector_count half.trace.letters = omega (arith, is.collector) in
    started-with _ number (cycle_begun number machine event) (account_of machine event).quantum (ran_by half.heap) refl is.ran number_is refl (asked ∙ sym kept.asked) is.mutator collector_is
    (ap (λ s. blocks_after s (account_of machine event).command) stat ∙ sym account.half) refl refl refl

-- An event more ----------------------------------------------------------------------------------

greatest-append : (quanta : List Ran) (ran : Ran) → greatest_spent (quanta ++ ran ∷ []) ≡ max (greatest_spent quanta) ran.ended.units
greatest-append [] ran = omega arith
greatest-append (first ∷ quanta) ran = omega (arith, greatest-append quanta ran)

abbrev ran_list : Option Ran → List Ran
ran_list None = []
ran_list (Some ran) = ran ∷ []

one-list : (account : Account) → filter_map quantum_of (account ∷ []) ≡ ran_list account.quantum
one-list account = go account.quantum
  where
    go : (q : Option Ran) → filter_map quantum_of (record { command = account.command; quantum = q } ∷ []) ≡ ran_list q
    go None = refl
    go (Some ran) = refl

-- What is kept of a cycle with an event more
pub more-is : (cycle : Cycle) (event : Event) → with_account (underway_of cycle) (account_of cycle.now event) ≡ underway_of (cycle_with cycle event)
more-is cycle event = go account.quantum ∙ (λ i. record (underway_of cycle) { quanta = length (quanta i); greatest = greatest_spent (quanta i); tally = tally_all first_tally (deeds i) })
  where
    account : Account
    account = account_of cycle.now event

    before : List Deed
    before = deeds_in_cycle cycle

    had : List Ran
    had = quanta_in_cycle cycle

    quanta : had ++ ran_list account.quantum ≡ quanta_in_cycle (cycle_with cycle event)
    quanta = sym (filter_map-append quantum_of cycle.accounts (account ∷ []) ∙ ap (λ list. had ++ list) (one-list account))

    deeds : before ++ (account.command ++ ran_deeds account.quantum) ≡ deeds_in_cycle (cycle_with cycle event)
    deeds = sym (flat_map-append account_deeds cycle.accounts (account ∷ []) ∙ ap (λ list. before ++ list) (append-nil (account_deeds account)))

    tallied : (more : List Deed) → tally_all (tally_all (tally_all first_tally before) account.command) more ≡ tally_all first_tally (before ++ (account.command ++ more))
    tallied more = sym (tally_all-append before (account.command ++ more) first_tally ∙ tally_all-append account.command more (tally_all first_tally before))

    go : (q : Option Ran) → with_quantum (record (underway_of cycle) { tally = tally_all (tally_all first_tally before) account.command }) q
        ≡ record (underway_of cycle) { quanta = length (had ++ ran_list q); greatest = greatest_spent (had ++ ran_list q); tally = tally_all first_tally (before ++ (account.command ++ ran_deeds q)) }
    go None = λ i. record (underway_of cycle) { quanta = length (sym (append-nil had) i); greatest = greatest_spent (sym (append-nil had) i); tally = tallied [] i }
    go (Some ran) = λ i. record (underway_of cycle) { quanta = sym (length-append had (ran ∷ [])) i; greatest = sym (greatest-append had ran) i; tally = tallied ran.deeds i }

-- Lines ------------------------------------------------------------------------------------------

-- The line of what is kept of a cycle is that of the cycle
pub line-is : (cycle : Cycle) → line_after (underway_of cycle) cycle.last cycle.now ≡ line_of cycle
line-is cycle =
    let deeds : List Deed = deeds_in_cycle cycle in
    let units = units-are deeds in
    let counts = counts-are deeds in
    let longest = longest-is deeds in
    λ i. record (line_of cycle) { units = units i; counts = counts i; grey = longest i }

-- Room -------------------------------------------------------------------------------------------

-- a cycle within its events before one that leaves this machine, and with it
pub within-later : (count : ℕ) (machine : Machine) (event : Event) (cycle : Underway) → IsAccount machine event → IsWithin count machine cycle → IsWithin count (event_step machine event).state cycle
within-later count machine event cycle is within = record { room = within.room; quanta = within.quanta; mutator = omega (arith, within.mutator, is.mutator); collector = omega (arith, within.collector, is.collector) }

quantum-within : (count : ℕ) (machine : Machine) (cycle : Underway) (q : Option Ran) (limit : ℕ) → HasRoom limit cycle.tally → limit + (4 * length (ran_deeds q) + 2 * units_of (ran_deeds q)) ≤ suc count * 2 ^ 70 → cycle.quanta ≤ count
    → cycle.mutator ≤ mutator_count machine.trace.letters → cycle.collector ≤ collector_count machine.trace.letters → IsWithin (suc count) machine (with_quantum cycle q)
quantum-within count machine cycle None limit room few quanta mutator collector = record { room = room-less limit (suc count * 2 ^ 70) cycle.tally (omega arith) room; quanta = omega arith; mutator = mutator; collector = collector }
quantum-within count machine cycle (Some ran) limit room few quanta mutator collector = record {
  room = room-less (limit + (4 * length ran.deeds + 2 * units_of ran.deeds)) (suc count * 2 ^ 70) (tally_all cycle.tally ran.deeds) few (room-all ran.deeds limit cycle.tally room);
  quanta = omega arith;
  mutator = mutator;
  collector = collector;
}

pub account-within : (count : ℕ) (machine : Machine) (cycle : Underway) (account : Account) → IsWithin count machine cycle → units_of account.command ≡ 0 → units_of (ran_deeds account.quantum) < 2 ^ 64 → length account.command + length (ran_deeds account.quantum) < 2 ^ 65
    → IsWithin (suc count) machine (with_account cycle account)
account-within count machine cycle account within commands units short =
    quantum-within count machine (record cycle { tally = tally_all cycle.tally account.command }) account.quantum (count * 2 ^ 70 + (4 * length account.command + 2 * units_of account.command))
    (room-all account.command (count * 2 ^ 70) cycle.tally within.room) (omega (arith, commands, units, short)) within.quanta within.mutator within.collector

pub begun-within : (count : ℕ) (number : ℕ) (watch : Watch) (machine : Machine) (account : Account) → units_of (ran_deeds account.quantum) < 2 ^ 64 → length (ran_deeds account.quantum) < 2 ^ 64 → IsWithin (suc count) machine (underway_from number watch machine account)
begun-within count number watch machine account units short =
    quantum-within count machine _ account.quantum 0 (record { grey = omega arith; longest = omega arith; units = omega arith; counts = omega arith }) (omega (arith, units, short)) (omega arith) (omega arith) (omega arith)

-- a cycle that takes in an event has room for it
pub take-room : (number : ℕ) (machine : Machine) (kept : Option Underway) (cycle : Underway) → number ≤ most_entries → kept ≡ Some cycle → IfSome kept (IsWithin (number - 1) machine) → HasRoom (2 ^ 120) cycle.tally × (cycle.quanta < 2 ^ 62)
unfolding most_entries
take-room number machine kept cycle few is within =
    let here : IsWithin (number - 1) machine cycle = subst (λ o. IfSome o (IsWithin (number - 1) machine)) is within in
    (room-less ((number - 1) * 2 ^ 70) (2 ^ 120) cycle.tally (omega (arith, few)) here.room, omega (arith, few, here.quanta))

pub noted-some : (number : ℕ) (machine : Machine) (kept : Option Underway) (cycle new : Underway) (account : Account) → 0 < number → kept ≡ Some cycle → IfSome kept (IsWithin (number - 1) machine)
    → units_of account.command ≡ 0 → units_of (ran_deeds account.quantum) < 2 ^ 64 → length account.command + length (ran_deeds account.quantum) < 2 ^ 65 → new ≡ with_account cycle account → IsWithin number machine new
noted-some number machine kept cycle new account later is within commands units few new_is =
    let here : IsWithin (number - 1) machine cycle = subst (λ o. IfSome o (IsWithin (number - 1) machine)) is within in
    let e : suc (number - 1) ≡ number = omega (arith, later) in
    subst (λ n. IsWithin n machine new) e (subst (IsWithin (suc (number - 1)) machine) (sym new_is) (account-within (number - 1) machine cycle account here commands units few))

pub noted-none : (number : ℕ) (watch : Watch) (machine : Machine) (new : Underway) (account : Account) → 0 < number → units_of (ran_deeds account.quantum) < 2 ^ 64 → length (ran_deeds account.quantum) < 2 ^ 64 → new ≡ underway_from number watch machine account → IsWithin number machine new
noted-none number watch machine new account later units few new_is =
    let e : suc (number - 1) ≡ number = omega (arith, later) in
    subst (λ n. IsWithin n machine new) e (subst (IsWithin (suc (number - 1)) machine) (sym new_is) (begun-within (number - 1) number watch machine account units few))
