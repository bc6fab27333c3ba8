-- The letters that an event adds to the trace: those of its command, and then what its quantum spent.
use Rattle.std.proofs.Common.{◌≡◌, ◌∙◌, ℕ, ◌+◌, ◌-◌, ◌≤◌, ◌==◌, Bool, true, false, if◌then◌else◌, List, [], ◌++◌, length, replicate, refl, sym, ap, append-nil, arith}
use Rattle.mh_model.specs.{declared.command.Command.Command, declared.command.Control.Control}
use Rattle.mh_model.specs.{declared.command.Event.Event, Deeds.{account_of, ran_if}}
use Rattle.mh_model.specs.Machine.{Machine, quantum_run, is_quantum_due, command_step, command_units, control_step, event_step}
use Rattle.mh_model.specs.{Mutator.mutator_step, Trace.{Letter, M, C, mutator_count, collector_count}, World.says}
use Rattle.mh_model.specs.declared.reply.Reply.{Reply}
use Rattle.mh_model.proofs.LetterLemmas.{mutator-M, mutator-C, collector-M, collector-C}
use Rattle.mh_tell_steps.proofs.FigureLemmas.{letters_counted}
use Rattle.mh_tell_steps.specs.Figures.{spent_by}

-- these letters follow those
pub record Adds (before after : List Letter) (spent : ℕ) : Type 0 where
  pub mutator : ℕ
  pub letters : after ≡ (before ++ replicate mutator M) ++ replicate spent C

none : (letters : List Letter) → letters ≡ (letters ++ replicate 0 M) ++ replicate 0 C
none letters = sym (append-nil (letters ++ []) ∙ append-nil letters)

ran : (machine : Machine) (runs : Bool) → (if runs then (quantum_run machine).state else machine).trace.letters ≡ machine.trace.letters ++ replicate (spent_by (ran_if runs machine.heap)) C
unfolding quantum_run
ran machine true = refl
ran machine false = sym (append-nil machine.trace.letters)

commanded : (machine : Machine) (who : ℕ) (command : Command) → Adds machine.trace.letters (event_step machine (Event.Session who command)).state.trace.letters (spent_by (account_of machine (Event.Session who command)).quantum)
unfolding event_step account_of command_step
commanded machine who command = record {
  mutator = command_units machine.heap.config command (mutator_step machine.heap who command).reply;
  letters = ran (command_step machine who command).state (is_quantum_due (command_step machine who command).state);
}

on_request : (machine : Machine) (none_scheduled : Bool) → (if none_scheduled then quantum_run machine else says (Reply.Spent 0 machine.heap.collector.phase) machine).state.trace.letters
    ≡ (machine.trace.letters ++ replicate 0 M) ++ replicate (spent_by (ran_if none_scheduled machine.heap)) C
on_request machine true = ran machine true ∙ ap (λ letters. letters ++ replicate (spent_by (ran_if true machine.heap)) C) (sym (append-nil machine.trace.letters))
on_request machine false = none machine.trace.letters

pub adds : (machine : Machine) (e : Event) → Adds machine.trace.letters (event_step machine e).state.trace.letters (spent_by (account_of machine e).quantum)
unfolding event_step account_of control_step
adds machine (Event.Session who command) = commanded machine who command
adds machine (Event.Control Control.Quantum) = record { mutator = 0; letters = on_request machine (machine.heap.config.every == 0) }
adds machine (Event.Control asked) = record { mutator = 0; letters = none machine.trace.letters }

-- what an event adds to the counts and to the length of the trace
pub record Counts (before after : List Letter) (spent : ℕ) : Type 0 where
  pub mutator : mutator_count before ≤ mutator_count after
  pub collector : collector_count after ≡ collector_count before + spent
  pub length_is : length after ≡ length before + (mutator_count after - mutator_count before) + spent

pub counts : (before after : List Letter) (spent : ℕ) → Adds before after spent → Counts before after spent
counts before after spent h =
    let mutator : mutator_count after ≡ mutator_count before + h.mutator = ap mutator_count h.letters ∙ mutator-C (before ++ replicate h.mutator M) spent ∙ mutator-M before h.mutator in
    let collector : collector_count after ≡ collector_count before + spent = ap collector_count h.letters ∙ collector-C (before ++ replicate h.mutator M) spent ∙ ap (λ n. n + spent) (collector-M before h.mutator) in
    record {
      mutator = omega (arith, mutator);
      collector = collector;
      length_is = omega (arith, mutator, collector, letters_counted before, letters_counted after);
    }

-- a control adds no unit of the mutator
pub quiet_control : (machine : Machine) (control : Control) → mutator_count (event_step machine (Event.Control control)).state.trace.letters ≡ mutator_count machine.trace.letters
unfolding event_step control_step
quiet_control machine Control.Quantum = by (machine.heap.config.every == 0) where
  by : (none_scheduled : Bool) → mutator_count (if none_scheduled then quantum_run machine else says (Reply.Spent 0 machine.heap.collector.phase) machine).state.trace.letters ≡ mutator_count machine.trace.letters
  by true = ap mutator_count (ran machine true) ∙ mutator-C machine.trace.letters (spent_by (ran_if true machine.heap))
  by false = refl
quiet_control machine asked = refl
