use Rattle.std.proofs.Common.{rules, sym, refl}
use Rattle.mh_live.proofs.LineTurns.{asks_grows, blank_grows, blank_says, calls_grows, line-name, wrong_grows}
use Rattle.mh_live.proofs.live.AttendedWorld.line.Goals.{then-branch, else-branch}
use Rattle.mh_live.proofs.live.AttendedWorld.line.Goals as goal

pub see-requires : goal.see-requires
see-requires c = line-name c.args.line.now c.in-Calls.name.now c.in-Calls.command (search rules)

pub returns-in-Blank-clause-turn : goal.returns-in-Blank-clause-turn
returns-in-Blank-clause-turn c = blank_grows c.args.number c.args.self.now.world c.args.self.now.names c.args.line.now _ (search rules) c.requires

pub returns-in-Blank-clause-why : goal.returns-in-Blank-clause-why
returns-in-Blank-clause-why c = blank_says c.args.line.now (search rules)

pub returns-in_ok-refused-in-Wrong-clause-turn : goal.returns-in_ok-refused-in-Wrong-clause-turn
returns-in_ok-refused-in-Wrong-clause-turn c = wrong_grows c.args.number c.args.self.now.world c.args.self.now.names c.args.line.now _ (sym c.in-Wrong.ensures) c.in_ok-refused-in-Wrong.ensures

pub returns-in_ok-uncollected-in-Asks-clause-turn : goal.returns-in_ok-uncollected-in-Asks-clause-turn
returns-in_ok-uncollected-in-Asks-clause-turn c =
    asks_grows c.args.number c.args.self.now.world c.args.self.now.names c.args.line.now c.in-Asks.field-0 _ (sym c.in-Asks.ensures) c.in_ok-uncollected-in-Asks.ensures

pub returns-after-branch-clause-turn : goal.returns-after-branch-clause-turn
returns-after-branch-clause-turn c =
    let turn = calls_grows c.args.number c.args.self.now.world c.args.self.now.names c.args.line.now c.in-Calls.name.now c.in-Calls.command c.answer_in_world.new.world _ c.in_ok-answer_in_world-in-Calls.field-0 in
    let answered = rw c.number-who.ensures at c.in_ok-answer_in_world-in-Calls.ensures in
    elim c.if-branch.branch [
      | then-branch w ↦ rw w.self-is (turn w.see.new.self (sym c.in-Calls.ensures) answered (rw w.if-branch.true w.see.ensures))
      | else-branch w ↦ rw w.self-is (turn c.args.self.now.names (sym c.in-Calls.ensures) answered (rw w.if-branch.false refl))
    ]
