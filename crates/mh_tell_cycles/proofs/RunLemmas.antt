-- The lines that events write one by one are those of the cycles of the run.
use Rattle.std.proofs.Common.{◌≡◌, ℕ, suc, ◌==◌, Bool, true, false, not, if◌then◌else◌, Option, Some, None, option_map, List, [], ◌∷◌, ◌++◌, flat_map, refl, sym, ap, ◌∙◌, append-nil, append_assoc}
use Rattle.std.proofs.lemmas.Option.{none-some, same_Some}
use Rattle.mh_model.specs.{declared.command.Event.Event, declared.config.Config.Config, declared.stat.Stat.Stat}
use Rattle.mh_model.specs.{Bytes.Text, Collector.is_idle, Deeds.account_of, Machine.{Machine, event_step, stat_on}}
use Rattle.mh_script.specs.Lines.{lines_from, state_after, text_by_lines}
use Rattle.mh_tell_laws.specs.Cycles.{Cycle, starts_cycle, cycle_begun, cycle_with, has_ended, cycle_through, cycles_from}
use Rattle.mh_tell_laws.proofs.cycles.EventLemmas.{IsSafe, safe-first, safe-event}
use Rattle.mh_tell_cycles.specs.{declared.underway.Underway.Underway, declared.watch.Watch.Watch}
use Rattle.mh_tell_cycles.specs.Lines.{Stage, cycles_text, cycles_told, first_stage, kept_text, line_after, line_of, line_text, stage_after}
use Rattle.mh_tell_cycles.specs.Tallies.{asked_after, cycle_after, underway_from, with_account, watch_noted, watch_closed}
use Rattle.mh_tell_cycles.specs.Auxiliary.{underway_of}
use Rattle.mh_tell_cycles.proofs.StartLemmas.{event-asked, running-starts_none, starts-told}
use Rattle.mh_tell_cycles.proofs.UnderwayLemmas.{begun-is, line-is, more-is}

-- Cycles -----------------------------------------------------------------------------------------

abbrev text_of : Cycle → Text
text_of cycle = line_text (line_of cycle)

abbrev text_from : ℕ → Machine → List Event → Text
text_from number machine events = flat_map text_of (cycles_from number machine events)

-- the line of a cycle that goes on through events, if one runs
abbrev text_through : Option Cycle → List Event → Text
text_through None events = []
text_through (Some cycle) events = text_of (cycle_through cycle events)

-- a cycle that runs up to a machine after so many events, if one does
abbrev IsKept : ℕ → Machine → Option Cycle → Type 0
IsKept done machine None = Unit {0}
IsKept done machine (Some cycle) = (cycle.now ≡ machine) × (cycle.last ≡ done) × (has_ended cycle ≡ false)

-- the cycle with an event, or the one that it starts
abbrev kept_begun : Bool → ℕ → Machine → Event → Option Cycle
kept_begun true number machine event = Some (cycle_begun number machine event)
kept_begun false number machine event = None

abbrev kept_with : Option Cycle → ℕ → Machine → Event → Option Cycle
kept_with None number machine event = kept_begun (starts_cycle machine event) number machine event
kept_with (Some cycle) number machine event = Some (cycle_with cycle event)

from-cons : (number : ℕ) (machine : Machine) (event : Event) (events : List Event) (starts : Bool) → starts_cycle machine event ≡ starts
    → text_from number machine (event ∷ events) ≡ text_through (kept_begun starts number machine event) events ++ text_from (suc number) (event_step machine event).state events
unfolding cycles_from
from-cons number machine event events true e = ap (λ b. flat_map text_of (if b then cycle_through (cycle_begun number machine event) events ∷ cycles_from (suc number) (event_step machine event).state events else cycles_from (suc number) (event_step machine event).state events)) e
from-cons number machine event events false e = ap (λ b. flat_map text_of (if b then cycle_through (cycle_begun number machine event) events ∷ cycles_from (suc number) (event_step machine event).state events else cycles_from (suc number) (event_step machine event).state events)) e

-- what is written from an event on is written from the next on, by the cycle with it
through-with : (kept : Option Cycle) (done : ℕ) (machine : Machine) (event : Event) (events : List Event) → IsKept done machine kept
    → text_through kept (event ∷ events) ++ text_from (suc done) machine (event ∷ events) ≡ text_through (kept_with kept (suc done) machine event) events ++ text_from (suc (suc done)) (event_step machine event).state events
through-with None done machine event events is = from-cons (suc done) machine event events (starts_cycle machine event) refl
through-with (Some cycle) done machine event events (now, last, runs) =
    let none : starts_cycle machine event ≡ false = running-starts_none machine event (ap (λ (m : Machine). is_idle m.heap.collector.phase) (sym now) ∙ runs) in
    ap (λ b. text_of (if b then cycle else cycle_through (cycle_with cycle event) events) ++ text_from (suc done) machine (event ∷ events)) runs
    ∙ ap (λ rest. text_of (cycle_through (cycle_with cycle event) events) ++ rest) (from-cons (suc done) machine event events false none)

-- what is kept of it
noted-cycle : (config : Config) (kept : Option Cycle) (done : ℕ) (watch : Watch) (machine : Machine) (event : Event) → IsSafe config machine → watch.stat ≡ stat_on machine.heap.collector → watch.is_asked ≡ machine.heap.collector.is_asked → watch.cycle ≡ option_map underway_of kept → IsKept done machine kept
    → (watch_noted (suc done) watch event (event_step machine event).state (account_of machine event)).cycle ≡ option_map underway_of (kept_with kept (suc done) machine event)
noted-cycle config kept done watch machine event safe stat asked cycle is =
    ap (λ o. cycle_after o starts begun (account_of machine event)) cycle ∙ ap (λ b. cycle_after (option_map underway_of kept) b begun (account_of machine event)) told ∙ go kept is
  where
    starts : Bool
    starts = not ((event_step machine event).state.heap.collector.cycle == watch.stat.cycle)

    begun : Underway
    begun = underway_from (suc done) watch (event_step machine event).state (account_of machine event)

    told : starts ≡ starts_cycle machine event
    told = ap (λ (s : Stat). not ((event_step machine event).state.heap.collector.cycle == s.cycle)) stat ∙ starts-told machine event

    by_start : (b : Bool) → starts_cycle machine event ≡ b → cycle_after None b begun (account_of machine event) ≡ option_map underway_of (kept_begun b (suc done) machine event)
    by_start true e = ap Some (begun-is config (suc done) watch machine event safe stat asked e)
    by_start false e = refl

    go : (o : Option Cycle) → IsKept done machine o → cycle_after (option_map underway_of o) (starts_cycle machine event) begun (account_of machine event) ≡ option_map underway_of (kept_with o (suc done) machine event)
    go None h = by_start (starts_cycle machine event) refl
    go (Some cycle) (now, last, runs) = ap Some (ap (λ m. with_account (underway_of cycle) (account_of m event)) (sym now) ∙ more-is cycle event)

-- and where it stands
with-now : (kept : Option Cycle) (done : ℕ) (machine : Machine) (event : Event) → IsKept done machine kept → (cycle : Cycle) → kept_with kept (suc done) machine event ≡ Some cycle → (cycle.now ≡ (event_step machine event).state) × (cycle.last ≡ suc done)
with-now None done machine event is cycle e = go (starts_cycle machine event) e
  where
    go : (b : Bool) → kept_begun b (suc done) machine event ≡ Some cycle → (cycle.now ≡ (event_step machine event).state) × (cycle.last ≡ suc done)
    go true h = let same = same_Some (cycle_begun (suc done) machine event) cycle h in (sym (ap (λ (c : Cycle). c.now) same), sym (ap (λ (c : Cycle). c.last) same))
    go false h = absurd (none-some cycle h)
with-now (Some before) done machine event (now, last, runs) cycle e =
    let same = same_Some (cycle_with before event) cycle e in
    (sym (ap (λ (c : Cycle). c.now) same) ∙ ap (λ m. (event_step m event).state) now, sym (ap (λ (c : Cycle). c.last) same) ∙ ap suc last)

-- the line of what is kept of a cycle
kept-line : (cycle : Cycle) (number : ℕ) (machine : Machine) → cycle.now ≡ machine → cycle.last ≡ number → kept_text (Some (underway_of cycle)) number machine ≡ text_of cycle
kept-line cycle number machine now last = ap (λ n. line_text (line_after (underway_of cycle) n machine)) (sym last) ∙ ap (λ m. line_text (line_after (underway_of cycle) cycle.last m)) (sym now) ∙ ap line_text (line-is cycle)

through-ended : (cycle : Cycle) (events : List Event) → has_ended cycle ≡ true → cycle_through cycle events ≡ cycle
through-ended cycle [] ended = refl
through-ended cycle (event ∷ events) ended = ap (λ b. if b then cycle else cycle_through (cycle_with cycle event) events) ended

-- Runs -------------------------------------------------------------------------------------------

-- what events write, and then the line of the cycle that still runs
abbrev whole_from : Stage → List Event → Text
whole_from at events = lines_from cycles_told at events ++ cycles_told.last (state_after cycles_told at events)

whole-is : (config : Config) (events : List Event) (at : Stage) (kept : Option Cycle) → IsSafe config at.machine → at.watch.stat ≡ stat_on at.machine.heap.collector → at.watch.is_asked ≡ at.machine.heap.collector.is_asked → at.watch.cycle ≡ option_map underway_of kept → IsKept at.done at.machine kept
    → whole_from at events ≡ text_through kept events ++ text_from (suc at.done) at.machine events
unfolding cycles_from
whole-is config [] at kept safe stat asked cycle is = ap (λ o. kept_text o at.done at.machine) cycle ∙ go kept is
  where
    go : (o : Option Cycle) → IsKept at.done at.machine o → kept_text (option_map underway_of o) at.done at.machine ≡ text_through o [] ++ []
    go None h = refl
    go (Some c) (now, last, runs) = kept-line c at.done at.machine now last ∙ sym (append-nil (text_of c))
whole-is config (event ∷ events) at kept safe stat asked cycle is =
    append_assoc line (lines_from cycles_told next events) (cycles_told.last (state_after cycles_told next events))
    ∙ go (is_idle left.heap.collector.phase) refl (λ o watch_cycle h. whole-is config events next o (safe-event config at.machine event safe) next-stat next-asked watch_cycle h)
    ∙ sym (through-with kept at.done at.machine event events is)
  where
    left : Machine
    left = (event_step at.machine event).state

    next : Stage
    next = stage_after at event

    line : Text
    line = cycles_told.line at event

    noted : Watch
    noted = watch_noted (suc at.done) at.watch event left (account_of at.machine event)

    kept' : Option Cycle
    kept' = kept_with kept (suc at.done) at.machine event

    rest : Text
    rest = text_from (suc (suc at.done)) left events

    known : noted.cycle ≡ option_map underway_of kept'
    known = noted-cycle config kept at.done at.watch at.machine event safe stat asked cycle is

    closed : (b : Bool) → is_idle left.heap.collector.phase ≡ b → watch_closed noted ≡ (if b then record noted { cycle = None } else noted)
    closed b e = ap (λ t. if t then record noted { cycle = None } else noted) e

    asked_is : noted.is_asked ≡ left.heap.collector.is_asked
    asked_is =
        ap (λ (s : Stat). asked_after at.watch.is_asked event (not (left.heap.collector.cycle == s.cycle))) stat
        ∙ ap (asked_after at.watch.is_asked event) (starts-told at.machine event)
        ∙ ap (λ b. asked_after b event (starts_cycle at.machine event)) asked
        ∙ sym (event-asked at.machine event)

    either-stat : (b : Bool) → (if b then record noted { cycle = None } else noted).stat ≡ stat_on left.heap.collector
    either-stat true = refl
    either-stat false = refl

    either-asked : (b : Bool) → (if b then record noted { cycle = None } else noted).is_asked ≡ left.heap.collector.is_asked
    either-asked true = asked_is
    either-asked false = asked_is

    next-stat : next.watch.stat ≡ stat_on left.heap.collector
    next-stat = either-stat (is_idle left.heap.collector.phase)

    next-asked : next.watch.is_asked ≡ left.heap.collector.is_asked
    next-asked = either-asked (is_idle left.heap.collector.phase)

    told-is : (b : Bool) → is_idle left.heap.collector.phase ≡ b → line ≡ (if b then kept_text noted.cycle (suc at.done) left else [])
    told-is b e = ap (λ t. if t then kept_text noted.cycle (suc at.done) left else []) e

    ended : (o : Option Cycle) → kept' ≡ o → is_idle left.heap.collector.phase ≡ true → kept_text (option_map underway_of o) (suc at.done) left ≡ text_through o events
    ended None k e = refl
    ended (Some c) k e =
        let (now, last) = with-now kept at.done at.machine event is c k in
        kept-line c (suc at.done) left now last ∙ ap text_of (sym (through-ended c events (ap (λ (m : Machine). is_idle m.heap.collector.phase) now ∙ e)))

    runs-on : (o : Option Cycle) → kept' ≡ o → is_idle left.heap.collector.phase ≡ false → IsKept (suc at.done) left o
    runs-on None k e = tt
    runs-on (Some c) k e = let (now, last) = with-now kept at.done at.machine event is c k in (now, last, ap (λ (m : Machine). is_idle m.heap.collector.phase) now ∙ e)

    go : (b : Bool) → is_idle left.heap.collector.phase ≡ b → ((o : Option Cycle) → next.watch.cycle ≡ option_map underway_of o → IsKept (suc at.done) left o → whole_from next events ≡ text_through o events ++ rest)
        → line ++ whole_from next events ≡ text_through kept' events ++ rest
    go true e more =
        let none : next.watch.cycle ≡ None = ap (λ (w : Watch). w.cycle) (closed true e) in
        ap (λ text. text ++ whole_from next events) (told-is true e ∙ ap (λ o. kept_text o (suc at.done) left) known ∙ ended kept' refl e) ∙ ap (λ text. text_through kept' events ++ text) (more None none tt)
    go false e more =
        let some : next.watch.cycle ≡ option_map underway_of kept' = ap (λ (w : Watch). w.cycle) (closed false e) ∙ known in
        ap (λ text. text ++ whole_from next events) (told-is false e) ∙ more kept' some (runs-on kept' refl e)

-- What a run writes
pub run-is : (config : Config) (events : List Event) → text_by_lines cycles_told [] (first_stage config) events ≡ cycles_text config events
run-is config events = whole-is config events (first_stage config) None (safe-first config) refl refl refl tt
