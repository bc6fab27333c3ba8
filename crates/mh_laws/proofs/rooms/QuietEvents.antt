-- What an event does after its half step: it runs a quantum, or leaves the table, the course and the count of quanta.
use Rattle.std.proofs.{Common.{◌≡◌, true, false, refl, arith}, lemmas.Bool.{true≢false, false≢true}}
use Rattle.mh_model.specs.declared.command.Event.{Event}
use Rattle.mh_model.specs.{Machine.{Machine, quantum_run, control_step, half_step, event_step}, Snapshot.has_quantum}

-- a machine with the table, the course and the count of quanta of another
pub record IsLikewise (old new : Machine) : Type 0 where
  pub config : new.heap.config ≡ old.heap.config
  pub table : new.heap.collector.table ≡ old.heap.collector.table
  pub phase : new.heap.collector.phase ≡ old.heap.collector.phase
  pub cycle : new.heap.collector.cycle ≡ old.heap.collector.cycle
  pub quanta : new.heap.collector.quanta ≡ old.heap.collector.quanta
  pub count : new.trace.quanta ≡ old.trace.quanta

likewise : (machine : Machine) → IsLikewise machine machine
likewise machine = record { config = refl; table = refl; phase = refl; cycle = refl; quanta = refl; count = refl }

-- what an event does after its half step: a quantum, or nothing that matters here
pub quiet-event : (machine : Machine) (event : Event) → has_quantum machine event ≡ false → IsLikewise (half_step machine event) (event_step machine event).state
unfolding event_step control_step
quiet-event machine event quiet = grind (arith, true≢false, likewise)

pub quantum-event : (machine : Machine) (event : Event) → has_quantum machine event ≡ true → (event_step machine event).state ≡ (quantum_run (half_step machine event)).state
unfolding event_step control_step
quantum-event machine event runs = grind (arith, false≢true)
