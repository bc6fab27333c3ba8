use Rattle.std.proofs.Common.{arith, ◌<◌}
use Rattle.mh_scan.proofs.crew.scan.Goals as goal

pub merge-requires-clause-whole : goal.merge-requires-clause-whole
merge-requires-clause-whole g c = λ number inside.
    let below : number < c.in_ok-claims.claims.bound = omega (arith, c.in_ok-claims.ensures.claims.0, c.pieces_in-pieces.ensures, inside) in
    omega (arith, c.finish.ensures number below, c.in_ok-seats.ensures.times number below)
