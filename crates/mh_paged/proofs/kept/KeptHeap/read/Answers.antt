use Rattle.std.proofs.Common.{◌+◌, arith}
use Rattle.mh_paged.proofs.KeptLemmas.{found-field}
use Rattle.mh_paged.proofs.kept.KeptHeap.read.Goals as goal

pub number-requires-clause-findable : goal.number-requires-clause-findable
number-requires-clause-findable c =
    let found = rw (← c.self.view_is) at c.in_ok-found.ensures in
    (found-field c.collectors_stay_steady.ensures c.fields_are_found.ensures _ _ _ c.self.invariant _ _ found.2 (c.in_ok-found.found.shape.references + c.in_ok-index.index) (omega (arith, c.in_ok-index.ensures.within))).findable

pub number-requires-clause-after : goal.number-requires-clause-after
number-requires-clause-after c =
    let found = rw (← c.self.view_is) at c.in_ok-found.ensures in
    let has = (found-field c.collectors_stay_steady.ensures c.fields_are_found.ensures _ _ _ c.self.invariant _ _ found.2 (c.in_ok-found.found.shape.references + c.in_ok-index.index) (omega (arith, c.in_ok-index.ensures.within))).has in
    has.after (omega arith)

pub number-requires-clause-within : goal.number-requires-clause-within
number-requires-clause-within c =
    let found = rw (← c.self.view_is) at c.in_ok-found.ensures in
    let has = (found-field c.collectors_stay_steady.ensures c.fields_are_found.ensures _ _ _ c.self.invariant _ _ found.2 (c.in_ok-found.found.shape.references + c.in_ok-index.index) (omega (arith, c.in_ok-index.ensures.within))).has in
    has.number (omega arith)
