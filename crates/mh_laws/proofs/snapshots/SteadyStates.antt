-- A state that keeps some snapshot keeps one after each start, step, quantum, asking and command: the form in which code calls the laws.
use Rattle.std.proofs.{Common.{◌+◌, inl, inr, true, false, [], sym, ap, subst}, lemmas.Bool.cases_Bool}
use Rattle.mh_model.specs.declared.config.Config.{Config}
use Rattle.mh_model.specs.Collector.{Collector, is_idle, cycle_start, quantum_start, quantum, collector_step}
use Rattle.mh_model.specs.{Mutator.HeapState, View.{in_sweep, heap_view}, Invariant.IsSteady}
use Rattle.mh_laws.specs.Snapshots.{CollectorsStaySteady, HeapsStayKept}
use Rattle.mh_laws.proofs.{bounds.StepsOfACycle.step-idle, snapshots.CycleStarts.snapshot-started}
use Rattle.mh_laws.proofs.snapshots.CycleSteps.{continues-collector_step, snapshot-counted}
use Rattle.mh_laws.proofs.snapshots.SessionCommands.{snapshot-mutator_step}
use Rattle.mh_laws.proofs.{snapshots.RunningCycles.{keeping-quantum, keeping-first, linked}, costs.QuantumStarts.begins}

start-steady : (config : Config) (c : Collector) → IsSteady c → IsSteady (quantum_start config c)
start-steady config c (snapshot, n, keeps) = elim (begins config c).case [
  | inl starts ↦
      let heap : HeapState = record { config = config; collector = c; next_birth = n; ended = [] } in
      subst IsSteady (sym starts.2) (heap_view heap, n, snapshot-counted (heap_view heap) n (cycle_start c) false 1 (snapshot-started heap (ap in_sweep starts.1) keeps.sound))
  | inr other ↦ elim other [ inl runs ↦ subst IsSteady (sym runs.1) (snapshot, n, snapshot-counted snapshot n c c.is_asked (c.quanta + 1) keeps) | inr rests ↦ subst IsSteady (sym rests.2) (snapshot, n, keeps) ]
]

quantum-steady : (config : Config) (c : Collector) → IsSteady c → IsSteady (quantum config c).collector
quantum-steady config c (snapshot, n, keeps) =
    let heap : HeapState = record { config = config; collector = c; next_birth = n; ended = [] } in
    let (after, kept) = keeping-quantum heap (snapshot, keeps) in
    (after, n, kept)

step-steady : (c : Collector) → IsSteady c → IsSteady (collector_step c)
step-steady c (snapshot, n, keeps) = elim (cases_Bool (is_idle c.phase)) [
  | inl idle ↦ subst IsSteady (sym (step-idle c idle).0) (snapshot, n, keeps)
  | inr runs ↦ (snapshot, n, (continues-collector_step snapshot n c runs keeps).keeps)
]

pub collectors-steady : CollectorsStaySteady
collectors-steady = record {
  starts = start-steady;
  quanta = quantum-steady;
  steps = step-steady;
  of_heaps = λ heap (snapshot, keeps). (snapshot, heap.next_birth, keeps);
  linked = λ c (snapshot, n, keeps). linked n c keeps.sound;
}

pub heaps-kept : HeapsStayKept
heaps-kept = record {
  first = keeping-first;
  commands = λ heap (snapshot, keeps) who command. (snapshot, snapshot-mutator_step snapshot heap keeps who command);
  asking = λ heap (snapshot, keeps). (snapshot, snapshot-counted snapshot heap.next_birth heap.collector true heap.collector.quanta keeps);
  quanta = keeping-quantum;
}
