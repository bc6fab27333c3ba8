use Rattle.std.proofs.Common.{◌-◌, ◌∙◌, ap}
use Rattle.mh_cycle.specs.State.{CycleState}
use Rattle.mh_cycle.proofs.{SnapshotLemmas.starts-from, TellingLemmas.quantum-is_told}
use Rattle.mh_cycle.proofs.{StrideLemmas.{IsQuantum, quantum-made}, cycle.Cycle.quantum.Given.Over}
use Rattle.mh_cycle.proofs.cycle.Cycle.quantum.Goals as goal

pub scan_roots-left-requires : goal.scan_roots-left-requires
scan_roots-left-requires g c = record { steady = rw c.begin_told.ensures.begun (c.collectors_stay_steady.ensures.starts c.args.self.now.config c.args.self.now.collector c.requires.steady) }

-- what was done is the quantum
is-quantum : (g : Over) (c : goal.After-defragment-left g) → IsQuantum c.args.self.now (c.from-most.result - (c.from-most.result - c.scan_roots-left.result - c.mark-left.result - c.sweep-left.result - c.defragment-left.result)) c.defragment-left.new.self
is-quantum g c =
    quantum-made _ _ _ _ _ _ _ _ _ _ _ (c.from-most.ensures ∙ ap (λ (s : CycleState). s.config.quantum) (c.self.view_is ∙ c.begin_told.ensures.begun)) c.begin_told.ensures.begun
    c.scan_roots-left.ensures.advance c.mark-left.ensures.advance c.sweep-left.ensures.advance c.defragment-left.ensures.rest

pub returns-clause-spent : goal.returns-clause-spent
returns-clause-spent g c = (is-quantum g c).spent

pub returns-clause-after : goal.returns-clause-after
returns-clause-after g c = (is-quantum g c).after

pub returns-clause-steady : goal.returns-clause-steady
returns-clause-steady g c = rw (is-quantum g c).after (c.collectors_stay_steady.ensures.quanta c.args.self.now.config c.args.self.now.collector c.requires.steady)

pub returns-clause-keeps : goal.returns-clause-keeps
returns-clause-keeps g c snapshot n runs keeps = rw (is-quantum g c).after (c.quanta_keep_the_snapshot.ensures c.args.self.now.config snapshot n c.args.self.now.collector runs keeps)

pub returns-clause-starts : goal.returns-clause-starts
returns-clause-starts g c heap config collector idle due sound = rw (is-quantum g c).after (starts-from c.cycles_start_from_the_view.ensures c.args.self.now heap config collector idle due sound)

pub returns-clause-forwarders : goal.returns-clause-forwarders
returns-clause-forwarders g c = rw (is-quantum g c).after (c.quanta_make_their_forwarders.ensures c.args.self.now.config c.args.self.now.collector c.requires.steady)

pub returns-clause-told : goal.returns-clause-told
returns-clause-told g c =
    let end = c.defragment-left.new.log in
    quantum-is_told g.L.Log.has _ _ _ _ _ _ (c.from-most.ensures ∙ ap (λ (s : CycleState). s.config.quantum) (c.self.view_is ∙ c.begin_told.ensures.begun)) c.begin_told.ensures.begun c.begin_told.ensures.told
    (c.scan_roots-left.ensures.told end (c.mark-left.ensures.told end (c.sweep-left.ensures.told end c.defragment-left.ensures.told)))
