-- What it is for an order that it is one of a log, and that it keeps the times.
use Rattle.std.specs.{Prelude.{◌≡◌, ◌<◌, ℕ, Some, List, ◌∷◌, ◌++◌, map, filter, codes}, List.Sorted.IsPermutation}
use Rattle.mh_model.specs.Bytes.{Text, cut_after, words}
use Rattle.mh_judge_log.specs.{declared.timed.Timed.Timed, Logs.{is_of, timed_of}}

-- the lines of a text are `log 1`, those of these commands, `order 1`, and those of an order
pub record HasLog (text : Text) (log : List Timed) : Type 0 where
  pub commands : List Text
  pub names : List Text
  pub lines : (cut_after 10 text).pieces ≡ codes "log 1" ∷ (commands ++ codes "order 1" ∷ names)
  pub are : map (λ line. timed_of (words line)) commands ≡ map Some log

-- an order has each command of a log just once, and those of each session in their order
pub record IsOrderOf (log order : List Timed) : Type 0 where
  pub each_once : IsPermutation log order
  pub sessions : (who : ℕ) → filter (is_of who) order ≡ filter (is_of who) log

-- a command comes before another in an order
pub record ComesBefore (order : List Timed) (earlier later : Timed) : Type 0 where
  pub before : List Timed
  pub between : List Timed
  pub after : List Timed
  pub split : order ≡ before ++ earlier ∷ (between ++ later ∷ after)

-- an order of a log in which a command that had ended before another began doesn't come after it
pub record IsLinearization (log order : List Timed) : Type 0 where
  pub order_of : IsOrderOf log order
  pub time : (first second : Timed) → first.end < second.begin → ¬ ComesBefore order second first
