-- Legal logs have a linearization.
use Rattle.std.proofs.Common.{◌≡◌, List, refl}
use Rattle.mh_model.specs.{declared.history.Verdict.TheVariants.Legal, Script.{Reading, BadLine, Means}}
use Rattle.mh_judge_sessions.specs.Full.{lawful_by}
use Rattle.mh_judge_log.specs.{declared.timed.Timed.Timed, Laws.{LegalLogsAreLinearizable, OrdersAreOfTheirLog}}
use Rattle.mh_judge_log.specs.{Linearizations.{HasLog, IsLinearization}, Logs.ordered_reading}
use Rattle.mh_judge_log.specs.Orders.{IsVerdictOn, entries_of}
use Rattle.mh_judge_log.proofs.LinearLemmas.{keeps_order}

pub linearizable : OrdersAreOfTheirLog → LegalLogsAreLinearizable
linearizable of_log may_be_full rules text count judged = by (ordered_reading text) refl judged where
  by : (read : Reading (List Timed)) → ordered_reading text ≡ read → IsVerdictOn may_be_full rules read (Legal count)
      → (log : List Timed) × HasLog text log × ((order : List Timed) × IsLinearization log order × lawful_by may_be_full rules (entries_of order))
  by (BadLine line) is other = cc
  by (Means order) is found =
      let legal = found.0 in
      let of = of_log text order is in
      (of.0, of.1, (order, record { order_of = of.2; time = keeps_order order legal.time }, legal.seen))
