use Rattle.std.proofs.Common.{subst, arith}
use Rattle.mh_defrag.specs.Auxiliary.{AreUnflagged}
use Rattle.mh_defrag.proofs.StillLemmas.{pages-still}
use Rattle.mh_defrag.proofs.defrag.still_run.Goals as goal

pub returns-clause-still : goal.returns-clause-still
returns-clause-still c =
    let unflagged = subst (λ n. AreUnflagged c.args.blocks.now n c.unflagged_run-count.result) c.page-page.ensures c.unflagged_run-count.ensures.unflagged in
    rw c.page-page.ensures (pages-still c.args.blocks.now c.args.place c.unflagged_run-count.result unflagged c.if-count-eq0.false (omega (arith, c.page-page.ensures, c.unflagged_run-count.ensures.inside)))
