-- What the stretches of a whole trace have, those of its end have.
use Rattle.std.proofs.Common.{◌≡◌, ◌≢◌, ℕ, suc, ◌+◌, ◌≤◌, ◌==◌, Bool, true, false, Some, None, if◌then◌else◌, List, [], ◌∷◌, ◌++◌, drop, length, refl, ap, ◌∙◌, subst, arith}
use Rattle.std.proofs.{lemmas.Bool.eqb-false, lemmas.List.length-append, lemmas.Option.{none-some, same_Some}}
use Rattle.mh_model.specs.{declared.command.Event.Event, declared.config.Config.Config}
use Rattle.mh_model.specs.Machine.{floor_of, report_on, first_machine, machine_after}
use Rattle.mh_model.specs.Trace.{Letter, TraceState, floor, least_mutator}
use Rattle.mh_run_laws.proofs.trace.RunTraces.{mutator_share, quanta_within}
use Rattle.mh_run_laws.proofs.windows.StretchLemmas.{HasLeast, has_least, least_at, no_longer}
use Rattle.mh_run_laws.specs.{Windows.{IsLeast, KeepsFloor}, Forgetting.{IsEndOf, KeepsPromise}}
use Rattle.mh_run_laws.specs.ForgettingLaws.{ForgottenTracesKeepTheirPromise}

-- a stretch of the end is one of the whole
drop-before : (before end : List Letter) (start : ℕ) → drop (length before + start) (before ++ end) ≡ drop start end
drop-before [] end start = grind arith
drop-before (letter ∷ before) end start =
    let one : length (letter ∷ before) + start ≡ suc (length before + start) = omega arith in
    ap (λ n. drop n ((letter ∷ before) ++ end)) one ∙ drop-before before end start

-- of a window that the end has, it has no fewer units of the mutator than the whole
ends_least : (window : ℕ) (before end : List Letter) (least : ℕ) → least_mutator window end ≡ Some least → (lower : ℕ) × (least_mutator window (before ++ end) ≡ Some lower) × (lower ≤ least)
ends_least window before end least some =
    let long : window ≤ length end = no_longer end window least some in
    let is : IsLeast end window least = least_at end window least some in
    let whole : HasLeast (before ++ end) window = has_least (before ++ end) window (omega (arith, long, length-append before end)) in
    grind (arith, drop-before, length-append)

-- so an end keeps each floor that the whole keeps
end-keeps : (m k : ℕ) (before end : List Letter) → KeepsFloor m k (before ++ end) → KeepsFloor m k end
end-keeps m k before end keeps = λ window least some.
    let lower = ends_least window before end least some in
    let share : floor m k window ≤ lower.0 = keeps window lower.0 lower.1 in
    omega (arith, share, lower.2)

module _ (config : Config) (events : List Event) (end : TraceState) (is : IsEndOf (machine_after (first_machine config) events).trace end) (window : ℕ) where
  floor-kept : (lowest least : ℕ) → floor_of config window ≡ Some lowest → least_mutator window end.letters ≡ Some least → lowest ≤ least
  floor-kept lowest least known some = go (config.every == 0) refl known
    where
      go : (none : Bool) → (config.every == 0) ≡ none → (if none then None else Some (floor config.every config.quantum window)) ≡ Some lowest → lowest ≤ least
      go true e h = absurd (none-some lowest h)
      go false e h =
          let every : config.every ≢ 0 = eqb-false config.every 0 e in
          let whole : KeepsFloor config.every config.quantum (machine_after (first_machine config) events).trace.letters = mutator_share.after_events config events (omega (arith, every)) in
          let kept : KeepsFloor config.every config.quantum end.letters = end-keeps config.every config.quantum is.before end.letters (subst (KeepsFloor config.every config.quantum) is.letters whole) in
          rw (← same_Some (floor config.every config.quantum window) lowest h) (kept window least some)

  report-keeps : KeepsPromise config (report_on config end window)
  report-keeps = record { least = floor-kept; greatest = omega (arith, is.greatest, quanta_within.greatest config events) }

-- Reports keep the promise
pub reports_keep : ForgottenTracesKeepTheirPromise
reports_keep config events machine window is = report-keeps config events machine.trace is.trace window
