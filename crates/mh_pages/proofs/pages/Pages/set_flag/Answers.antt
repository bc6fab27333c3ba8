use Rattle.std.proofs.Common.{arith, get_or}
use Rattle.mh_pages.proofs.KeptLemmas.{used_of, class_used, size_used, room, marked, flagged_shown, kept-flagged}
use Rattle.mh_pages.proofs.pages.Pages.set_flag.Goals as goal

pub read-head-requires-clause-within : goal.read-head-requires-clause-within
read-head-requires-clause-within c = (used_of _ _ _ _ _ c.self.invariant _ _ c.self.view_is c.requires).inside

pub read-free-requires-clause-within : goal.read-free-requires-clause-within
read-free-requires-clause-within c = omega (arith, (used_of _ _ _ _ _ c.self.invariant _ _ c.self.view_is c.requires).inside, c.self.invariant.sized.as_many_frees)

pub class_of_head-class-requires : goal.class_of_head-class-requires
class_of_head-class-requires c = rw c.read-head.ensures.value (class_used _ _ _ _ _ c.self.invariant _ (used_of _ _ _ _ _ c.self.invariant _ _ c.self.view_is c.requires).used)

pub change-requires : goal.change-requires
change-requires c = room _ _ _ _ _ c.self.invariant _ (used_of _ _ _ _ _ c.self.invariant _ _ c.self.view_is c.requires).inside

pub invariant_of-self : goal.invariant_of-self
invariant_of-self c =
    let is = used_of _ _ _ _ _ c.self.invariant _ _ c.self.view_is c.requires in
    let mark = marked (get_or c.self.inside.heads c.args.page 0) c.args.is_flagged (size_used _ _ _ _ _ c.self.invariant _ is.used).least in
    rw (c.change.ensures.heads, c.change.ensures.frees, c.change.ensures.sets, c.class_of_head-class.ensures, c.from.ensures, c.read-free.ensures.value, c.read-head.ensures.value)
    (kept-flagged _ _ _ _ _ c.self.invariant _ _ is mark.some mark.same)

pub returns : goal.returns
returns c =
    let is = used_of _ _ _ _ _ c.self.invariant _ _ c.self.view_is c.requires in
    let mark = marked (get_or c.self.inside.heads c.args.page 0) c.args.is_flagged (size_used _ _ _ _ _ c.self.invariant _ is.used).least in
    rw (c.change.ensures.heads, c.change.ensures.frees, c.from.ensures, c.read-free.ensures.value, c.read-head.ensures.value, ← c.self.view_is)
    (flagged_shown _ _ _ _ _ c.self.invariant _ _ c.args.is_flagged is mark.some mark.same mark.is_flag)
