use Rattle.std.proofs.Common.{rules}
use Rattle.mh_model.specs.Deeds.{Adds, quantum_deeds}
use Rattle.mh_deeds.proofs.LogLemmas.{told-adds}
use Rattle.mh_machine.proofs.executor.AccountExecutor.quantum.Goals as goal

pub returns-clause-told : goal.returns-clause-told
returns-clause-told c =
    let told : Adds c.args.self.now.ran (quantum_deeds c.args.heap.now.kept.config c.args.heap.now.kept.collector) c.quantum_with_log-units.new.log = told-adds c.args.self.now.ran c.quantum_with_log-units.new.log _ c.quantum_with_log-units.ensures.told in
    search rules
