-- What is known between two events is known after the next one, and is enough for it.
use Rattle.std.proofs.Common.{◌≡◌, ℕ, suc, ◌-◌, ◌^◌, ◌≤◌, ◌<◌, Bool, true, false, if◌then◌else◌, Option, Some, None, IfSome, [], refl, sym, ap, subst, arith}
use Rattle.std.specs.{List.sum_by, Prelude.{Result, Ok, Err, OnOk}}
use Rattle.mh_model.specs.{declared.command.Event.Event, declared.config.Config.Config, declared.stat.Stat.Stat}
use Rattle.mh_model.specs.{Collector.is_idle, Deeds.{Account, units_of, account_of}}
use Rattle.mh_model.specs.{Machine.{Machine, event_step, first_machine, machine_after, stat_on}, Trace.collector_count}
use Rattle.mh_tell_laws.specs.Cycles.{opens, ran_deeds}
use Rattle.mh_tell_cycles.specs.{declared.underway.Underway.Underway, declared.watch.Watch.Watch}
use Rattle.mh_tell_cycles.specs.Tallies.{IsOfRun, IsWithin, Watches, first_watch, spent_by, watch_closed}
use Rattle.mh_tell_cycles.proofs.UnderwayLemmas.{IsAccount, account-is, run-more, run-safe, within-later}

pub ok-then : {T E P Q : Type 0} (r : Result T E) → (P → Q) → OnOk r P → OnOk r Q
ok-then (Ok value) f h = f h
ok-then (Err error) f h = tt

-- an event can be noted
pub record CanNote (number : ℕ) (machine : Machine) (watch : Watch) (account : Account) : Type 0 where
  pub within : IfSome watch.cycle (IsWithin (number - 1) machine)
  pub spent : spent_by account.quantum ≤ collector_count machine.trace.letters
  pub opened : sum_by opens account.command ≤ watch.stat.free
  pub commands : units_of account.command ≡ 0
  pub units : units_of (ran_deeds account.quantum) < 2 ^ 64

can-note : (count : ℕ) (machine : Machine) (event : Event) (watch : Watch) → Watches count machine watch → CanNote (suc count) (event_step machine event).state watch (account_of machine event)
can-note count machine event watch watches =
    let (config, safe) = run-safe machine watches.of_run in
    let is = account-is config machine event safe in
    let e : count ≡ suc count - 1 = omega arith in
    record {
      within = subst (λ n. IfSome watch.cycle (IsWithin n (event_step machine event).state)) e (go is watch.cycle watches.cycle);
      spent = is.spent;
      opened = omega (arith, is.opened, ap (λ (s : Stat). s.free) watches.stat);
      commands = is.commands;
      units = is.few;
    }
  where
    go : IsAccount machine event → (o : Option Underway) → IfSome o (IsWithin count machine) → IfSome o (IsWithin count (event_step machine event).state)
    go is None h = tt
    go is (Some cycle) h = within-later count machine event cycle is h

-- by the machine after it, its number and its account
pub note-by : (count number : ℕ) (machine after : Machine) (event : Event) (watch : Watch) (account : Account) → Watches count machine watch → (event_step machine event).state ≡ after → account ≡ account_of machine event → number ≡ suc count → CanNote number after watch account
note-by count number machine after event watch account watches step told is =
    subst (λ n. CanNote n after watch account) (sym is) (subst (λ m. CanNote (suc count) m watch account) step (subst (CanNote (suc count) (event_step machine event).state watch) (sym told) (can-note count machine event watch watches)))

-- What is known after it
pub watched : (count number done : ℕ) (machine after : Machine) (event : Event) (watch noted new : Watch) → Watches count machine watch → (event_step machine event).state ≡ after → number ≡ done → noted.stat ≡ stat_on after.heap.collector → IfSome noted.cycle (IsWithin number after) → new ≡ watch_closed noted → Watches done after new
watched count number done machine after event watch noted new watches step is stat within closed =
    subst (Watches done after) (sym closed) (go (is_idle noted.stat.phase))
  where
    go : (b : Bool) → Watches done after (if b then record noted { cycle = None } else noted)
    go true = record { of_run = subst IsOfRun step (run-more machine event watches.of_run); stat = stat; cycle = tt }
    go false = record { of_run = subst IsOfRun step (run-more machine event watches.of_run); stat = stat; cycle = subst (λ n. IfSome noted.cycle (IsWithin n after)) is within }

-- What is known before the first event
pub first-watches : (config : Config) → Watches 0 (first_machine config) (first_watch (stat_on (first_machine config).heap.collector))
unfolding machine_after
first-watches config = record { of_run = (config, [], refl); stat = refl; cycle = tt }
