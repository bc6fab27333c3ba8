use Rattle.std.proofs.Common.{◌∙◌, refl, sym}
use Rattle.mh_embed.specs.Endings.{Added, NoTrace, NoneAdded}
use Rattle.mh_embed.proofs.EndingLemmas.{is_world, none_of, some_of}
use Rattle.mh_embed.proofs.embedded.Embedded.units.Goals as goal

pub returns-in_default : goal.returns-in_default
returns-in_default c = rw (← c.self.view_is) (NoTrace (is_world c.self.inside.driver c.in_default.field-0 c.in_default.is) refl)

pub returns-then-not-is_some : goal.returns-then-not-is_some
returns-then-not-is_some c = rw (← c.self.view_is) (NoneAdded c.in-Collects.machine c.in-Collects.is (none_of c.self.inside.replied (sym c.is_some.ensures ∙ c.if-not-is_some.true)) refl)

pub returns : goal.returns
returns c =
    let some = some_of c.self.inside.replied (sym c.is_some.ensures ∙ c.if-not-is_some.false) in
    rw (← c.self.view_is) (Added c.in-Collects.machine some.0 c.in-Collects.is some.1 c.units.ensures)
