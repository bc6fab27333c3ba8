-- The ends of a search for a quantum that keeps a share, or for what lies between two.
use Rattle.std.proofs.Common.{◌≡◌, ℕ, suc, ◌<◌, ◌≤◌, Option, Some, None, MatchOption, refl, subst, inl, inr, arith}
use Rattle.std.proofs.lemmas.Bool.{cases_lt}
use Rattle.mh_model.specs.{declared.config.Config.Config, declared.config.Rules.TheVariants.Second}
use Rattle.mh_model.specs.Limits.{least_quantum}
use Rattle.mh_orders.specs.declared.target_options.Target.{Target}
use Rattle.mh_size_counts.specs.Choices.{HasNone, IsGreatestQuantum, IsLeastEvery}
use Rattle.mh_size_counts.specs.Targets.{IsMetBy, Meets, MeetsAfter, MeetsWith}
use Rattle.mh_size_counts.proofs.{FloorLemmas.{floor_falls, floor_grows}, LimitLemmas.{limits, within}}

-- a greater quantum misses what a lesser one misses
misses_greater : (target : Target) (every quantum other : ℕ) → 1 ≤ every → quantum ≤ other → IsMetBy target every other → IsMetBy target every quantum
misses_greater target every quantum other some more met = record { each = λ window longer. omega (arith, met.each window longer, floor_falls every quantum other window some more) }

-- and quanta that come more often miss what those miss that come more rarely
misses_sooner : (target : Target) (every other quantum : ℕ) → 1 ≤ quantum → other ≤ every → IsMetBy target other quantum → IsMetBy target every quantum
misses_sooner target every other quantum some more met = record { each = λ window longer. omega (arith, met.each window longer, floor_grows other every quantum window some more) }

pub no_quantum : (target : Target) (every : ℕ) → 1 ≤ every → (IsMetBy target every least_quantum → ⊥) → HasNone (MeetsAfter target every)
no_quantum target every some unmet config has =
    let limit = within config in
    let met : IsMetBy target every config.quantum = rw (← has.of_every) has.share in
    unmet (misses_greater target every least_quantum config.quantum some limit.least met)

pub greatest_found : (target : Target) (every met unmet : ℕ) → 1 ≤ every → every ≤ 1000000 → least_quantum ≤ met → met < unmet → unmet ≤ suc met → unmet ≤ 1000001
    → IsMetBy target every met → (unmet ≤ 1000000 → IsMetBy target every unmet → ⊥) → IsGreatestQuantum (MeetsAfter target every) met
greatest_found target every met unmet some few least order next most is not =
    let config : Config = record { pages = 1; quantum = met; trigger = 0; every = every; rules = Second; in_limits = limits 1 met 0 every (omega arith) (omega arith) least (omega arith) (omega arith) few } in
    record {
      has = (config, refl, record { of_every = refl; scheduled = some; share = is });
      greatest = λ other has. elim (cases_lt met other.quantum) [
        | inl past ↦
            let limit = within other in
            let share : IsMetBy target every other.quantum = subst (λ (n : ℕ). IsMetBy target n other.quantum) has.of_every has.share in
            absurd (not (omega (arith, limit)) (misses_greater target every unmet other.quantum some (omega arith) share))
        | inr within_it ↦ within_it
      ];
    }

-- what meets a target does so too if its quanta are run as rarely as they may be
widened : (target : Target) (config : Config) → Meets target config → (other : Config) × (other.quantum ≡ config.quantum) × MeetsAfter target 1000000 other
widened target config has =
    let limit = within config in
    let other : Config = record {
      pages = 1;
      quantum = config.quantum;
      trigger = 0;
      every = 1000000;
      rules = Second;
      in_limits = limits 1 config.quantum 0 1000000 (omega arith) (omega arith) limit.least limit.most (omega arith) (omega arith);
    } in
    (other, refl, record { of_every = refl; scheduled = omega arith; share = misses_sooner target 1000000 config.every config.quantum (omega (arith, limit.least)) limit.every has.share })

pub greatest_of_any : (target : Target) (found : Option ℕ) → MatchOption found (HasNone (MeetsAfter target 1000000)) (IsGreatestQuantum (MeetsAfter target 1000000)) → MatchOption found (HasNone (Meets target)) (IsGreatestQuantum (Meets target))
greatest_of_any target None none = λ config has. let (other, same, meets) = widened target config has in none other meets
greatest_of_any target (Some quantum) greatest =
    let (config, same, has) = greatest.has in
    record {
      has = (config, same, record { scheduled = has.scheduled; share = has.share });
      greatest = λ other meets. let (rare, as_long, so) = widened target other meets in subst (λ (n : ℕ). n ≤ quantum) as_long (greatest.greatest rare so);
    }

pub no_every : (target : Target) (quantum : ℕ) → 1 ≤ quantum → (IsMetBy target 1000000 quantum → ⊥) → HasNone (MeetsWith target quantum)
no_every target quantum some unmet config has =
    let limit = within config in
    let met : IsMetBy target config.every quantum = subst (λ (n : ℕ). IsMetBy target config.every n) has.of_quantum has.share in
    unmet (misses_sooner target 1000000 config.every quantum some limit.every met)

pub least_found : (target : Target) (quantum unmet met : ℕ) → least_quantum ≤ quantum → quantum ≤ 1000000 → unmet < met → met ≤ suc unmet → met ≤ 1000000
    → IsMetBy target met quantum → (1 ≤ unmet → IsMetBy target unmet quantum → ⊥) → IsLeastEvery (MeetsWith target quantum) met
least_found target quantum unmet met least few order next most is not =
    let config : Config = record { pages = 1; quantum = quantum; trigger = 0; every = met; rules = Second; in_limits = limits 1 quantum 0 met (omega arith) (omega arith) least few (omega arith) most } in
    record {
      has = (config, refl, record { of_quantum = refl; scheduled = omega arith; share = is });
      least = λ other has. elim (cases_lt other.every met) [
        | inl before ↦
            let share : IsMetBy target other.every quantum = subst (λ (n : ℕ). IsMetBy target other.every n) has.of_quantum has.share in
            let scheduled = has.scheduled in
            absurd (not (omega arith) (misses_sooner target unmet other.every quantum (omega arith) (omega arith) share))
        | inr after ↦ after
      ];
    }
