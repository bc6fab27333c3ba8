use Rattle.std.proofs.Common.{rules, sym, refl}
use Rattle.mh_live.proofs.LineTurns.{asks_runs, asks_says, blank_runs, blank_says, calls_runs, calls_says, line-name, wrong_runs}
use Rattle.mh_live.proofs.live.AttendedMachine.line.Goals.{then-branch, else-branch}
use Rattle.mh_live.proofs.live.AttendedMachine.line.Goals as goal

pub see-requires : goal.see-requires
see-requires g c = line-name c.args.line.now c.in-Calls.name.now c.in-Calls.command (search rules)

pub returns-in-Blank-clause-turn : goal.returns-in-Blank-clause-turn
returns-in-Blank-clause-turn g c = blank_runs c.args.number c.args.self.now.machine c.args.self.now.names c.args.line.now _ (search rules) c.requires

pub returns-in-Blank-clause-why : goal.returns-in-Blank-clause-why
returns-in-Blank-clause-why g c = blank_says c.args.line.now (search rules)

pub returns-in_ok-refused-in-Wrong-clause-turn : goal.returns-in_ok-refused-in-Wrong-clause-turn
returns-in_ok-refused-in-Wrong-clause-turn g c = wrong_runs c.args.number c.args.self.now.machine c.args.self.now.names c.args.line.now _ (sym c.in-Wrong.ensures) c.in_ok-refused-in-Wrong.ensures

pub returns-in_ok-answer-in-Asks-clause-turn : goal.returns-in_ok-answer-in-Asks-clause-turn
returns-in_ok-answer-in-Asks-clause-turn g c =
    asks_runs c.args.number c.args.self.now.machine c.args.self.now.names c.args.line.now c.in-Asks.control c.answer.new.machine _ c.in_ok-answer-in-Asks.field-0 (sym c.in-Asks.ensures) c.in_ok-answer-in-Asks.ensures

pub returns-in_ok-answer-in-Asks-clause-why : goal.returns-in_ok-answer-in-Asks-clause-why
returns-in_ok-answer-in-Asks-clause-why g c = asks_says c.args.line.now c.in-Asks.control (sym c.in-Asks.ensures)

pub returns-after-branch-clause-turn : goal.returns-after-branch-clause-turn
returns-after-branch-clause-turn g c =
    let turn = calls_runs c.args.number c.args.self.now.machine c.args.self.now.names c.args.line.now c.in-Calls.name.now c.in-Calls.command c.answer-in-Calls.new.machine _ c.in_ok-answer-in-Calls.field-0 in
    let answered = rw c.number.ensures at c.in_ok-answer-in-Calls.ensures in
    elim c.if-branch.branch [
      | then-branch w ↦ rw w.self-is (turn w.see.new.self (sym c.in-Calls.ensures) answered (rw w.if-branch.true w.see.ensures))
      | else-branch w ↦ rw w.self-is (turn c.args.self.now.names (sym c.in-Calls.ensures) answered (rw w.if-branch.false refl))
    ]

pub returns-after-branch-clause-why : goal.returns-after-branch-clause-why
returns-after-branch-clause-why g c = calls_says c.args.line.now c.in-Calls.name.now c.in-Calls.command (sym c.in-Calls.ensures)
