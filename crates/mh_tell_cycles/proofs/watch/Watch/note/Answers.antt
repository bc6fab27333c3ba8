use Rattle.std.proofs.Common.{IfSome, sym, subst}
use Rattle.mh_deeds.specs.Accounts.{account_in}
use Rattle.mh_tell_cycles.specs.Tallies.{IsWithin}
use Rattle.mh_tell_cycles.proofs.UnderwayLemmas.{noted-none, noted-some, take-room}
use Rattle.mh_tell_cycles.proofs.watch.Watch.note.Goals.{in-Some, in-None, in-None-2}
use Rattle.mh_tell_cycles.proofs.watch.Watch.note.Goals as goal

pub take-requires-clause-room : goal.take-requires-clause-room
take-requires-clause-room c = (take-room _ _ _ _ c.requires.few c.in-Some.is c.requires.within).0

pub take-requires-clause-quanta : goal.take-requires-clause-quanta
take-requires-clause-quanta c = (take-room _ _ _ _ c.requires.few c.in-Some.is c.requires.within).1

pub returns-clause-within : goal.returns-clause-within
returns-clause-within c = elim c.match-self.branch [
  | in-Some w ↦
      subst (λ o. IfSome o (IsWithin c.args.number c.args.machine.now.machine)) (sym w.cycle-is)
      (noted-some _ _ _ _ _ _ c.requires.later w.in-Some.is c.requires.within c.requires.commands c.requires.units w.take.ensures.few w.take.ensures.value)
  | in-None w ↦ subst (λ o. IfSome o (IsWithin c.args.number c.args.machine.now.machine)) (sym w.cycle-is) (noted-none _ c.args.self.now _ _ (account_in c.args.account.now) c.requires.later c.requires.units w.begun.ensures.few w.begun.ensures.value)
  | in-None-2 w ↦ subst (λ o. IfSome o (IsWithin c.args.number c.args.machine.now.machine)) (sym w.cycle-is) tt
]
