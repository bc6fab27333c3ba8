use Rattle.std.proofs.Common.{rules, refl, sym}
use Rattle.mh_live.proofs.LineTurns.{line-name}
use Rattle.mh_embed.specs.Endings.{Blank, Wrong}
use Rattle.mh_embed.proofs.EndingLemmas.{asks_ends, calls_done, calls_undone}
use Rattle.mh_embed.proofs.embedded.Embedded.line.Goals as goal

pub see-requires : goal.see-requires
see-requires c = line-name c.args.line.now c.in-Calls.name.now c.in-Calls.command (sym c.in-Calls.ensures)

pub returns-in-Blank : goal.returns-in-Blank
returns-in-Blank c = Blank (search rules) refl

pub returns-in-Wrong : goal.returns-in-Wrong
returns-in-Wrong c = Wrong (search rules) refl

pub returns-in-Asks : goal.returns-in-Asks
returns-in-Asks c = asks_ends c.args.self.now _ c.in-Asks.control c.event.new.self c.event.result (sym c.in-Asks.ensures) c.event.ensures

pub returns-in-Done : goal.returns-in-Done
returns-in-Done c =
    calls_done c.args.self.now _ c.in-Calls.name.now c.in-Calls.command (sym c.in-Calls.ensures) c.number.result (search rules) c.event-in-Calls.new.self c.event-in-Calls.result _ c.in-Done.is
    (search rules) (search rules) (search rules) c.event-in-Calls.ensures

pub returns-in_default : goal.returns-in_default
returns-in_default c =
    calls_undone c.args.self.now _ c.in-Calls.name.now c.in-Calls.command (sym c.in-Calls.ensures) c.number.result (search rules) c.event-in-Calls.new.self c.event-in-Calls.result c.in_default.not-Done c.event-in-Calls.ensures
