use Rattle.std.proofs.Common.{sym, ◌∙◌}
use Rattle.mh_live.proofs.LineTurns.{config_right, opened_waits, refused_waits, starved_waits}
use Rattle.mh_live.proofs.live.Live.configure.Goals as goal

pub returns-in_default-clause-turn : goal.returns-in_default-clause-turn
returns-in_default-clause-turn c = rw c.requires.waits (refused_waits c.args.number c.args.line.now _ c.requires.some (sym c.config_line.ensures ∙ c.in_default.is) c.in_ok-refused.ensures)

pub returns-in-Ok-clause-turn : goal.returns-in-Ok-clause-turn
returns-in-Ok-clause-turn c =
    rw (c.requires.waits, c.new-names.ensures) (opened_waits c.args.number c.args.line.now _ c.in-Some.config c.in-Ok.machine c.requires.some (sym c.config_line.ensures ∙ c.in-Some.is) c.requires.empty c.in-Ok.ensures)

pub returns-in-Ok-clause-why : goal.returns-in-Ok-clause-why
returns-in-Ok-clause-why c = config_right c.args.line.now c.in-Some.config (sym c.config_line.ensures ∙ c.in-Some.is)

pub returns-in_ok-starved-in-Err-clause-turn : goal.returns-in_ok-starved-in-Err-clause-turn
returns-in_ok-starved-in-Err-clause-turn c = rw c.requires.waits (starved_waits c.args.number c.args.line.now _ c.in-Some.config c.requires.some (sym c.config_line.ensures ∙ c.in-Some.is) c.in_ok-starved-in-Err.ensures)

pub returns-in_ok-starved-in-Err-clause-why : goal.returns-in_ok-starved-in-Err-clause-why
returns-in_ok-starved-in-Err-clause-why c = config_right c.args.line.now c.in-Some.config (sym c.config_line.ensures ∙ c.in-Some.is)
