use Rattle.std.proofs.Common.{Some}
use Rattle.mh_lock.proofs.lock.Lock.call.Given as goal

abbrev pub ghosts-take : goal.ghosts-take
ghosts-take g a = record { about = Some (a.self.now.seats, a.self.now.origin) }
