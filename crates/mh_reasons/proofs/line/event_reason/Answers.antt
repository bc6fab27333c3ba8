use Rattle.std.proofs.Common.{sym}
use Rattle.mh_model.specs.declared.history.Version.TheVariants.{Two}
use Rattle.mh_reasons.proofs.WordLemmas.{command_wrong}
use Rattle.mh_reasons.proofs.line.event_reason.Goals as goal

pub command_reason-requires-clause-wrong : goal.command_reason-requires-clause-wrong
command_reason-requires-clause-wrong c = command_wrong c.args.first.now c.args.words c.requires (sym c.if-is_word.ensures) (sym c.if-not-is_name.ensures)

pub returns-else-not-is_name : goal.returns-else-not-is_name
returns-else-not-is_name c = c.command_reason.ensures Two
