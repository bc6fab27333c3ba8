use Rattle.std.proofs.Common.{◌≡◌, ◌+◌, ◌<◌, length, get_or, ap, ap₂, sym, ◌∙◌, arith}
use Rattle.std.specs.Int.{div_ceil}
use Rattle.mh_model.specs.{Classes.class_sizes, Openings.pages_for}
use Rattle.mh_size_runs.proofs.ClassLemmas.{pages-few, pages-fit, pages-more, sum_below-more}
use Rattle.mh_size_runs.proofs.class_counts.ClassCounts.pages.Goals as goal

pub overflow_add-pages : goal.overflow_add-pages
overflow_add-pages c =
    let counts = c.args.self.now.counts in
    let inside : c.loop-number.number < length counts = omega arith in
    let more : c.div_ceil-pages.result ≡ pages_for c.class_at.result (get_or counts c.loop-number.number 0) = c.div_ceil-pages.ensures ∙ ap (div_ceil (get_or counts c.loop-number.number 0)) c.slots-slots.ensures.value in
    let few = pages-few (get_or counts c.loop-number.number 0) c.class_at.result (omega (arith, c.slots-slots.ensures)) in
    omega (arith, pages-fit counts c.loop-number.number c.loop-number.pages c.div_ceil-pages.result c.args.self.now.total inside c.loop-number.invariant.1 (omega (arith, more, few)) c.args.self.now.summed)

pub loop-number-preserved : goal.loop-number-preserved
loop-number-preserved c =
    let counts = c.args.self.now.counts in
    let number = c.loop-number.number in
    let inside : number < length counts = omega arith in
    let more : c.div_ceil-pages.result ≡ pages_for c.class_at.result (get_or counts number 0) = c.div_ceil-pages.ensures ∙ ap (div_ceil (get_or counts number 0)) c.slots-slots.ensures.value in
    let few = pages-few (get_or counts number 0) c.class_at.result (omega (arith, c.slots-slots.ensures)) in
    let here = more ∙ ap (λ size. pages_for size (get_or counts number 0)) c.class_at.ensures in (
      ap₂ (λ a b. a + b) c.loop-number.invariant.0 here ∙ sym (sum_below-more (λ k. pages_for (get_or class_sizes k 0) (get_or counts k 0)) number),
      pages-more counts number c.loop-number.pages c.div_ceil-pages.result inside c.loop-number.invariant.1 (omega (arith, more, few)),
    )
