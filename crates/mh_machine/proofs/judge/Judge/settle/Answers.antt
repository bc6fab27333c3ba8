use Rattle.std.proofs.Common.{sym, subst, arith}
use Rattle.mh_machine.specs.Judging.{HasSeen}
use Rattle.mh_machine.proofs.JudgeLemmas.{found_first, found_none, shown_all, shown_more}
use Rattle.mh_machine.proofs.judge.Judge.settle.Goals.{in-Some, in-None}
use Rattle.mh_machine.proofs.judge.Judge.settle.Goals as goal

pub loop-entry-init : goal.loop-entry-init
loop-entry-init g c = λ config first. first

pub loop-entry-preserved : goal.loop-entry-preserved
loop-entry-preserved g c = λ config first.
    shown_more config g.E.JudgedEntry.event_of (g.E.JudgedEntry.lawful config) c.args.history.now c.loop-entry.entry-index c.entry-item.result c.loop-entry.self _ (omega arith) c.entry-item.is (c.in_ok-entry.ensures.seen config)
    (c.loop-entry.invariant config first)

pub returns-clause-legal : goal.returns-clause-legal
returns-clause-legal g c = elim c.match-self.branch [
  | in-Some w ↦ rw w.result-is tt
  | in-None w ↦ rw w.result-is (λ config first.
      found_none config g.E.JudgedEntry.event_of (g.E.JudgedEntry.lawful config) c.args.history.now c.self.inside.machine c.self.inside.first_bad w.in-None.is
      (subst (HasSeen config g.E.JudgedEntry.event_of (g.E.JudgedEntry.lawful config) c.args.history.now) (sym c.self.view_is)
      (shown_all config g.E.JudgedEntry.event_of (g.E.JudgedEntry.lawful config) c.args.history.now c.loop-entry.entry-index c.loop-entry.self (omega arith) (c.loop-entry.invariant config first))))
]

pub returns-clause-bad : goal.returns-clause-bad
returns-clause-bad g c = elim c.match-self.branch [
  | in-Some w ↦ rw w.result-is (λ config first.
      found_first config g.E.JudgedEntry.event_of (g.E.JudgedEntry.lawful config) c.args.history.now c.self.inside.machine c.self.inside.first_bad w.in-Some.number w.in-Some.is
      (subst (HasSeen config g.E.JudgedEntry.event_of (g.E.JudgedEntry.lawful config) c.args.history.now) (sym c.self.view_is)
      (shown_all config g.E.JudgedEntry.event_of (g.E.JudgedEntry.lawful config) c.args.history.now c.loop-entry.entry-index c.loop-entry.self (omega arith) (c.loop-entry.invariant config first))))
  | in-None w ↦ rw w.result-is tt
]
