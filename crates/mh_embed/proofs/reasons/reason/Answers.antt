use Rattle.std.proofs.Common.{rules, refl, ◌≡◌, ◌∙◌}
use Rattle.mh_reasons.specs.Texts.{line_reason_text}
use Rattle.mh_embed.specs.Endings.{BlankLine, IsEvent, NoReason, Reasoned}
use Rattle.mh_embed.proofs.reasons.reason.Goals as goal

pub returns-in_default : goal.returns-in_default
returns-in_default c = NoReason (search rules) refl refl

pub returns-in-Blank : goal.returns-in-Blank
returns-in-Blank c = BlankLine (search rules) refl refl

pub returns-in-Asks : goal.returns-in-Asks
returns-in-Asks c = IsEvent (search rules) (search rules) refl refl

pub returns-in-Ok : goal.returns-in-Ok
returns-in-Ok c =
    let text : c.as_bytes.result.now ≡ line_reason_text c.line_reason-reason.result = c.as_bytes.ensures.value ∙ c.in-Ok.ensures in
    Reasoned c.line_reason-reason.result c.give.result (search rules) c.line_reason-reason.ensures (rw (← text) c.give.ensures)
