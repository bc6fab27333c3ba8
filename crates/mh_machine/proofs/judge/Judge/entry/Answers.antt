use Rattle.mh_machine.proofs.JudgeLemmas.{seen_right, seen_settled, seen_wrong}
use Rattle.mh_machine.proofs.judge.Judge.entry.Goals.{else-is_none-via-then-is_none+in_ok-try_on+else-not-branch, else-is_none-via-else-is_none}
use Rattle.mh_machine.proofs.judge.Judge.entry.Goals as goal

pub returns-then-not-branch-clause-seen : goal.returns-then-not-branch-clause-seen
returns-then-not-branch-clause-seen g c = rw (← c.self.view_is) (λ config seen has.
    seen_wrong config g.E.JudgedEntry.event_of (g.E.JudgedEntry.lawful config) seen c.args.entry.now g.E.JudgedEntry.fits (g.met.E.JudgedEntry.rule config) c.self.inside.machine c.try_on.new.machine c.self.inside.first_bad
    c.done-number.result c.if-is_none.ensures has c.done-number.ensures.done (rw c.if-not-branch.true at c.in_ok-try_on.ensures.tried))

pub returns-else-is_none-clause-seen : goal.returns-else-is_none-clause-seen
returns-else-is_none-clause-seen g c = elim c.else-is_none.branch [
  | else-is_none-via-then-is_none+in_ok-try_on+else-not-branch w ↦ rw (w.self-is, ← c.self.view_is) (λ config seen has.
      seen_right config g.E.JudgedEntry.event_of (g.E.JudgedEntry.lawful config) seen c.args.entry.now g.E.JudgedEntry.fits (g.met.E.JudgedEntry.rule config) c.self.inside.machine w.try_on.new.machine c.self.inside.first_bad
      w.if-is_none.ensures has (rw w.if-not-branch.false at w.in_ok-try_on.ensures.tried))
  | else-is_none-via-else-is_none w ↦ rw (w.self-is, ← c.self.view_is) (λ config seen has.
      seen_settled config g.E.JudgedEntry.event_of (g.E.JudgedEntry.lawful config) seen c.args.entry.now c.self.inside.machine c.self.inside.first_bad w.if-is_none.ensures has)
]
