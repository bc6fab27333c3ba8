use Rattle.mh_state.proofs.PlainReplies.{session-plain, control-plain}
use Rattle.mh_state.proofs.copies.dumps_for.Goals as goal

pub returns-in-Session-clause-dumps : goal.returns-in-Session-clause-dumps
returns-in-Session-clause-dumps c = rw c.in-Session.is (session-plain c.args.machine.now.machine c.in-Session.field-0 c.in-Session.field-1)

pub returns-in_default-clause-dumps : goal.returns-in_default-clause-dumps
returns-in_default-clause-dumps c = rw c.in-Control.is (control-plain c.args.machine.now.machine c.in-Control.control c.in_default.not-Dump)
