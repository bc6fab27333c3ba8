use Rattle.std.proofs.Common.{arith, ◌+◌, ◌*◌, ◌<◌, ◌^◌, subst}
use Rattle.mh_bits.specs.Sets.{IsLeastMember}
use Rattle.mh_pages.proofs.LeastLemmas.{sparse_found, sparse_free, sparse_none}
use Rattle.mh_pages.proofs.pages.Pages.least_sparse.Goals as goal

pub returns-in-Some-clause-place : goal.returns-in-Some-clause-place
returns-in-Some-clause-place c = grind (arith, sparse_found)

pub returns-in-None-clause-place : goal.returns-in-None-clause-place
returns-in-None-clause-place c = grind (arith, sparse_none)

pub returns-in-Some-clause-free : goal.returns-in-Some-clause-free
returns-in-Some-clause-free c =
    let is = subst (λ n. IsLeastMember c.self.inside.sets (3 * n + 2) c.in-Some.page) c.number.ensures.value c.in-Some.ensures.least in
    rw (← c.self.view_is, c.read.ensures.value)
    (sparse_free _ _ c.self.inside.words _ c.self.invariant.sized.few_pages c.self.invariant.pages c.self.invariant.indexed _ _ c.number.ensures.class is (subst (λ w. w < 2 ^ 64) c.read.ensures.value c.read.type_inv))
