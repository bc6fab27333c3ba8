use Rattle.std.proofs.Common.{IsSome, sym, ap, ◌∙◌}
use Rattle.std.specs.Prelude.{is_some}
use Rattle.mh_model.specs.HistoryTexts.{session_of}
use Rattle.mh_reasons.proofs.EntryLemmas.{session_name, is_caller-session}
use Rattle.mh_reasons.proofs.entry.event_fault.Goals as goal

pub command_reason-requires-clause-named : goal.command_reason-requires-clause-named
command_reason-requires-clause-named c = session_name c.in-Some.word.now (ap is_some (sym c.session_of.ensures) ∙ c.if-is_none.ensures)

pub returns-in-None-command_of-clause-some : goal.returns-in-None-command_of-clause-some
returns-in-None-command_of-clause-some c =
    let some : IsSome (session_of c.in-Some.word.now) = ap is_some (sym c.session_of.ensures) ∙ c.if-is_none.ensures in
    rw c.in-Some.ensures.next (is_caller-session c.in-Some.word.now some, c.command_reason.ensures c.args.version)
