use Rattle.std.proofs.Common.{[], refl}
use Rattle.mh_judge.proofs.PerformedLemmas.{performed-fault, takes-none}
use Rattle.mh_judge_log.proofs.texts.OrderJudgingTask.perform.Goals as goal

pub returns-in_err-found : goal.returns-in_err-found
returns-in_err-found g c = performed-fault _ c.from_residual.ensures.1 (record { written = []; does = (c.in_err-found.ensures.memory, refl); wrote = takes-none _ [] })
