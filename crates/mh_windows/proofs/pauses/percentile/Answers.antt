use Rattle.std.proofs.Common.{◌≡◌, ◌∙◌, ◌+◌, ◌-◌, ◌/◌, ◌*◌, ◌<◌, ℕ, false, nat_le, length, ap, sym, arith}
use Rattle.mh_windows.specs.Lengths.{pauses_of, within}
use Rattle.mh_windows.proofs.LengthLemmas.{covers_less, percentile_found}
use Rattle.mh_windows.proofs.pauses.percentile.Goals as goal

pub loop-low-preserved : goal.loop-low-preserved
loop-low-preserved c =
    let lengths = pauses_of c.args.trace.now.trace.letters in
    let middle : ℕ = c.loop-low.low + (c.loop-low.high - c.loop-low.low) / 2 in
    let test : nat_le (c.args.part * length lengths) (100 * within middle lengths) ≡ false =
    ap (λ n. nat_le (c.args.part * n) (100 * within middle lengths)) (sym c.tally_of.ensures.pauses)
    ∙ ap (λ n. nat_le (c.args.part * c.tally_of.result.pauses) (100 * n)) (sym c.tally_of.ensures.within)
    ∙ sym c.covers.ensures
    ∙ c.if-covers.false in (
      omega (arith, c.loop-low-test.true),
      c.loop-low.invariant.1,
      c.loop-low.invariant.2,
      covers_less c.args.part middle lengths test,
    )

pub returns : goal.returns
returns c =
    let lengths = pauses_of c.args.trace.now.trace.letters in
    let some : 0 < length lengths = omega (arith, c.requires.pauses, c.if-pauses-eq0.false) in
    percentile_found c.args.part c.args.trace.now.trace.letters c.loop-low.high c.requires.some some c.loop-low.invariant.2 (λ fewer less. c.loop-low.invariant.3 fewer (omega (arith, less, c.loop-low-test.false)))
