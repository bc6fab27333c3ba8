use Rattle.std.proofs.Common.{◌∙◌, refl, sym}
use Rattle.mh_embed.specs.Endings.{Found, NoDeed, NotKept, OfWorld}
use Rattle.mh_embed.proofs.EndingLemmas.{is_world, none_of, some_of}
use Rattle.mh_embed.proofs.embedded.Embedded.deed.Goals as goal

pub returns-in_default : goal.returns-in_default
returns-in_default c = rw (← c.self.view_is) (OfWorld (is_world c.self.inside.driver c.in_default.field-0 c.in_default.is) refl)

pub returns-then-not-has_deeds : goal.returns-then-not-has_deeds
returns-then-not-has_deeds c = rw (← c.self.view_is) (NotKept c.in-Collects.machine c.in-Collects.is (none_of c.in-Collects.machine.deeds (sym c.has_deeds.ensures ∙ c.if-not-has_deeds.true)) refl)

pub returns-in-Some : goal.returns-in-Some
returns-in-Some c =
    let kept = some_of c.in-Collects.machine.deeds (sym c.has_deeds.ensures ∙ c.if-not-has_deeds.false) in
    rw (← c.self.view_is) (Found c.in-Collects.machine kept.0 c.in-Some.deed.now c.in-Collects.is kept.1 (c.in-Some.ensures kept.0 kept.1) c.deed_numbers.ensures)

pub returns-in-None : goal.returns-in-None
returns-in-None c =
    let kept = some_of c.in-Collects.machine.deeds (sym c.has_deeds.ensures ∙ c.if-not-has_deeds.false) in
    rw (← c.self.view_is) (NoDeed c.in-Collects.machine kept.0 c.in-Collects.is kept.1 (c.in-None.ensures kept.0 kept.1) refl)
