-- The trace of a run: no quantum spends more than is configured, and one is run after each so many units of the mutator.
use Rattle.std.proofs.Common.{◌≡◌, ℕ, ◌<◌, ◌≤◌, nat_le, true, if◌then◌else◌, List, [], ◌∷◌, ◌++◌, replicate, refl, sym, ap, ◌∙◌, subst, arith, append_assoc}
use Rattle.std.proofs.{Math.Nat.max-le, lemmas.Bool.{leb-true, eqb-true, and_parts}, lemmas.Grind.flat_map-append}
use Rattle.std.proofs.lemmas.List.{append-nil, replicate-append-replicate}
use Rattle.std.specs.List.{AllByRecursion}
use Rattle.mh_model.specs.{declared.command.Command.Command, declared.command.Control.Control}
use Rattle.mh_model.specs.{declared.command.Event.Event, declared.config.Config.Config, Trace.{M, C}, Collector.quantum}
use Rattle.mh_model.specs.Mutator.{mutator_step}
use Rattle.mh_model.specs.Machine.{Machine, command_units, first_machine, with_collector, is_quantum_due, quantum_run, command_step, control_step, half_step, event_step, machine_after}
use Rattle.mh_run_laws.specs.Utilisation.{QuantaStayWithinTheirBound, HasShare, MutatorHasItsShare}
use Rattle.mh_laws.proofs.{costs.Quanta.units-quantum, runs.EveryMoment.{config-mutator_step, machine_after-keeps}}
use Rattle.mh_laws.proofs.bounds.CyclesInTime.{quantum-in_bounds, run-stays, half-stays}
use Rattle.mh_table_laws.proofs.marking.GreyList.{all-snoc}
use Rattle.mh_run_laws.proofs.trace.MutatorShares.{Round, letters_of, rounds, IsRound, rounds-share}

-- Quanta within their bound ----------------------------------------------------------------------

record IsLimited (config : Config) (machine : Machine) : Type 0 where
  pub config_is : machine.heap.config ≡ config
  pub greatest : machine.trace.greatest ≤ config.quantum

module _ (config : Config) where
  command-limited : (machine : Machine) (who : ℕ) (command : Command) → IsLimited config machine → IsLimited config (command_step machine who command).state
  unfolding command_step
  command-limited machine who command limited = grind (arith, config-mutator_step)

  quantum-limited : (machine : Machine) → IsLimited config machine → IsLimited config (quantum_run machine).state
  unfolding quantum_run
  quantum-limited machine limited = grind (arith, max-le, units-quantum)

  asking-limited : (machine : Machine) → IsLimited config machine → IsLimited config (with_collector machine (record (machine.heap.collector) { is_asked = true }))
  asking-limited machine limited = record { config_is = limited.config_is; greatest = limited.greatest }

  run-limited : (events : List Event) → IsLimited config (machine_after (first_machine config) events)
  run-limited events = machine_after-keeps (IsLimited config) command-limited quantum-limited asking-limited events (first_machine config) (record { config_is = refl; greatest = omega arith })

-- No quantum of a run spends more than is configured, and one that leaves its cycle running leaves little
pub quanta_within : QuantaStayWithinTheirBound
quanta_within = record {
  greatest = λ config events. (run-limited config events).greatest;
  after_events = λ config events. (quantum-in_bounds config _ (run-stays config events).bounds).rest;
  after_commands = λ config events event. (quantum-in_bounds config _ (half-stays config events event).bounds).rest;
}

-- Rounds -----------------------------------------------------------------------------------------

-- the letters are rounds of at least m units of the mutator and a quantum each, and the units since the last quantum
record HasRounds (config : Config) (machine : Machine) : Type 0 where
  pub config_is : machine.heap.config ≡ config
  pub turns : List Round
  pub all : AllByRecursion (IsRound config.every config.quantum) turns
  pub letters : machine.trace.letters ≡ rounds turns ++ replicate machine.units M

module _ (config : Config) (some : 0 < config.every) where
  command-rounds : (machine : Machine) (who : ℕ) (command : Command) → HasRounds config machine → HasRounds config (command_step machine who command).state
  unfolding command_step
  command-rounds machine who command has =
      let units : ℕ = command_units machine.heap.config command (mutator_step machine.heap who command).reply in
      record {
        config_is = config-mutator_step machine.heap who command ∙ has.config_is;
        turns = has.turns;
        all = has.all;
        letters = ap (λ letters. letters ++ replicate units M) has.letters ∙ append_assoc (rounds has.turns) (replicate machine.units M) (replicate units M)
            ∙ ap (λ letters. rounds has.turns ++ letters) (replicate-append-replicate machine.units units M);
      }

  -- a quantum that is due ends a round
  quantum-rounds : (machine : Machine) → config.every ≤ machine.units → HasRounds config machine → HasRounds config (quantum_run machine).state
  unfolding quantum_run
  quantum-rounds machine due has =
      let spent : ℕ = (quantum machine.heap.config machine.heap.collector).units in
      let turn : Round = record { units = machine.units; spent = spent } in
      let small : spent ≤ config.quantum = subst (λ c. (quantum c machine.heap.collector).units ≤ config.quantum) (sym has.config_is) (units-quantum config machine.heap.collector) in
      let more : rounds (has.turns ++ turn ∷ []) ≡ rounds has.turns ++ (letters_of turn ++ []) = flat_map-append letters_of has.turns (turn ∷ []) in
      record {
        config_is = has.config_is;
        turns = has.turns ++ turn ∷ [];
        all = all-snoc (IsRound config.every config.quantum) has.turns turn has.all (due, small);
        letters = ap (λ letters. letters ++ replicate spent C) has.letters ∙ append_assoc (rounds has.turns) (replicate machine.units M) (replicate spent C)
            ∙ sym (append-nil (rounds (has.turns ++ turn ∷ [])) ∙ more ∙ ap (λ letters. rounds has.turns ++ letters) (append-nil (letters_of turn)));
      }

  due-rounds : (machine : Machine) → HasRounds config machine → HasRounds config (if is_quantum_due machine then (quantum_run machine).state else machine)
  due-rounds machine has = search (arith, leb-true, and_parts, nat_le, quantum-rounds)

  control-rounds : (machine : Machine) (control : Control) → HasRounds config machine → HasRounds config (control_step machine control).state
  unfolding control_step
  control-rounds machine asked has = grind (arith, eqb-true)

  event-rounds : (machine : Machine) (event : Event) → HasRounds config machine → HasRounds config (event_step machine event).state
  unfolding event_step
  event-rounds machine (Event.Session who command) has = due-rounds (command_step machine who command).state (command-rounds machine who command has)
  event-rounds machine (Event.Control control) has = control-rounds machine control has

  half-rounds : (machine : Machine) (event : Event) → HasRounds config machine → HasRounds config (half_step machine event)
  half-rounds machine event has = grind (arith, command-rounds)

  run-rounds : (events : List Event) (machine : Machine) → HasRounds config machine → HasRounds config (machine_after machine events)
  unfolding machine_after
  run-rounds [] machine has = has
  run-rounds (event ∷ events) machine has = run-rounds events (event_step machine event).state (event-rounds machine event has)

  first-rounds : HasRounds config (first_machine config)
  first-rounds = record { config_is = refl; turns = []; all = tt; letters = refl }

  rounds-has_share : (machine : Machine) → HasRounds config machine → HasShare config machine.trace
  rounds-has_share machine has = grind (arith, rounds-share)

-- The mutator has its share
pub mutator_share : MutatorHasItsShare
mutator_share = record {
  after_events = λ config events some. rounds-has_share config some (machine_after (first_machine config) events) (run-rounds config some events (first_machine config) (first-rounds config some));
  after_commands = λ config events event some. rounds-has_share config some (half_step (machine_after (first_machine config) events) event) (half-rounds config some (machine_after (first_machine config) events) event (run-rounds config some events (first_machine config) (first-rounds config some)));
}
