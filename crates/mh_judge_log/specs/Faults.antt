-- What is wrong with the first bad entry of an order.
use Rattle.std.specs.Prelude.{◌≡◌, ℕ, suc, Bool, List}
use Rattle.mh_model.specs.declared.config.Rules.{Rules}
use Rattle.mh_judge.specs.Faults.{HasFault}
use Rattle.mh_judge_sessions.specs.Full.{wrong_by}
use Rattle.mh_judge_log.specs.declared.fault.OrderFault.{OrderFault}
use Rattle.mh_judge_log.specs.{declared.fault.OrderFault.TheVariants.{Late, Unseen}, declared.timed.Timed.Timed}
use Rattle.mh_judge_log.specs.{Orders.entries_of, Times.IsLateAfter}

-- the command with a number, from 1, had ended before the one with another number began, which comes before it
pub record IsLate (order : List Timed) (number earlier : ℕ) : Type 0 where
  pub place : ℕ
  pub before : ℕ
  pub numbered : number ≡ suc place
  pub earlier_is : earlier ≡ suc before
  pub late : IsLateAfter order before place

-- what a fault says of the entry of an order with this number, by whether a heap may be full
abbrev pub IsOrderFault : Bool → Rules → List Timed → ℕ → OrderFault → Type 0
IsOrderFault may_be_full rules order number (Late earlier) = IsLate order number earlier
IsOrderFault may_be_full rules order number (Unseen fault) = HasFault (wrong_by may_be_full rules) (entries_of order) number fault
