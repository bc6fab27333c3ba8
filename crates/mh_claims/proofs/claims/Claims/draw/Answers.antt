use Rattle.std.proofs.Common.{arith}
use Rattle.mh_claims.proofs.ClaimSteps.{next-append}
use Rattle.mh_claims.proofs.claims.Claims.draw.Goals as goal

pub returns-then-found-self-clause-rising : goal.returns-then-found-self-clause-rising
returns-then-found-self-clause-rising c = grind (arith, next-append)
