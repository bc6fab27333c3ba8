use Rattle.std.proofs.Common.{arith}
use Rattle.mh_generate.specs.Asked.{version_under}
use Rattle.mh_generate.proofs.SaidLemmas.{said_known, said_writes}
use Rattle.mh_generate.proofs.chooser.Chooser.next.Goals as goal

pub returns-clause-known : goal.returns-clause-known
returns-clause-known c =
    let said = c.in_ok-who.ensures in
    said_known (version_under c.args.options.now.rules) c.nearest-who.result c.numbered-command.result (c.in_ok-who.who, c.in_ok-who.command) said.said (omega (arith, c.nearest-who.ensures.below, c.args.self.now.names.few)) said.sayable

pub returns-clause-writes : goal.returns-clause-writes
returns-clause-writes c =
    said_writes c.args.options.now.profile c.args.number c.nearest-who.result c.numbered-command.result (c.in_ok-who.who, c.in_ok-who.command) c.in_ok-who.ensures.said c.numbered-command.ensures
