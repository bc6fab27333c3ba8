use Rattle.mh_model.specs.{History.IsLegal, HistoryTexts.IsLegalRecord}
use Rattle.mh_run_laws.proofs.runs.RunsByEvents.{replies_more}
use Rattle.mh_machine.specs.{Judging.{HasItsReply, IsMeasured}, Rules.{legal_rule, record_rule}}
use Rattle.mh_machine.specs.Auxiliary.{event_of, measured_event}
use Rattle.mh_machine.proofs.JudgeLemmas.{none_judged}
use Rattle.mh_machine.proofs.judge.Judge.open.Goals as goal

pub returns-clause-entries : goal.returns-clause-entries
returns-clause-entries c = rw c.in_ok-open.ensures (none_judged c.args.config event_of HasItsReply (IsLegal c.args.config) (legal_rule replies_more c.args.config))

pub returns-clause-measured : goal.returns-clause-measured
returns-clause-measured c = rw c.in_ok-open.ensures (none_judged c.args.config measured_event IsMeasured (IsLegalRecord c.args.config) (record_rule c.args.config))
