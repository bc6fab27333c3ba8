use Rattle.mh_claims.proofs.claims.Claims.draw.Given as goal

abbrev pub ghosts-take_number : goal.ghosts-take_number
ghosts-take_number a = record { about = (a.self.now.bound, a.self.now.seats) }
