use Rattle.std.proofs.Common.{◌≡◌, ◌+◌, ◌*◌, arith}
use Rattle.mh_model.specs.Trace.{floor}
use Rattle.mh_size_counts.proofs.ShareLemmas.{met_by_two, next_window, rounds_before, two_are_met}
use Rattle.mh_size_counts.proofs.targets.is_met.Goals as goal

pub returns-then-is_share : goal.returns-then-is_share
returns-then-is_share c =
    let target = c.args.target.now in
    let m = c.args.every in
    let k = c.args.quantum in
    let rounds : c.div_ceil-rounds.result ≡ rounds_before m k target.window = cc in
    let next : c.from.result * c.from-2.result + c.from-3.result ≡ next_window m k target.window = cc in
    let units : c.from-then-is_share.result * c.from-then-is_share-2.result ≡ rounds_before m k target.window * m = cc in
    let window : c.from-4.result ≡ target.window = cc in
    let least : c.from-5.result ≡ floor m k target.window = cc in
    let one = rw (window, least) at c.is_share.ensures in
    let two = rw (next, units) at c.is_share-then-is_share.ensures in (
      λ yes. met_by_two target m k c.requires.some (omega arith) (record { first = one.0 c.if-is_share.true; next = two.0 yes }),
      λ met. two.1 (two_are_met target m k c.requires.some (omega arith) met).next,
    )
