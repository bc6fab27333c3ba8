-- Auxiliary definitions: what loops, private functions and the insides of types keep. No public contract depends on them.
use Rattle.std.specs.Prelude.{◌≡◌, ℕ, Option, Some, None, IsSome, Bool, false, List, [], ◌∷◌}
use Rattle.mh_model.specs.{Bytes.{Text, words}, Script.{Reading, reading_map}, declared.config.Rules.Rules}
use Rattle.mh_text.specs.Pieces.{Lines}
use Rattle.mh_judge_log.specs.{declared.timed.Timed.Timed, Logs.{is_of, log_from, order_from, timed_of}}
use Rattle.mh_judge_log.specs.{Faults.IsOrderFault, Judgements.LogJudgement}
use Rattle.mh_judge.specs.Judgements.{IsExplained}

-- the lines of a log that are left, after these commands, and those of an order, of these
abbrev pub log_left : List Timed → Lines → Reading (List Timed)
log_left log lines = log_from log lines.number lines.lines lines.rest

abbrev pub order_left : List Timed → Lines → Reading (List Timed)
order_left left lines = order_from left lines.number lines.lines lines.rest

-- a command, and those that an order takes after it
abbrev pub command_before : Timed → Reading (List Timed) → Reading (List Timed)
command_before timed = reading_map (λ order. timed ∷ order)

-- the first of these lines is a command
pub record HasCommand (lines : Lines) : Type 0 where
  pub line : Text
  pub more : List Text
  pub first : lines.lines ≡ line ∷ more
  pub command : IsSome (timed_of (words line))

-- the commands that are left in slots
abbrev pub left_in : List (Option Timed) → List Timed
left_in [] = []
left_in (None ∷ slots) = left_in slots
left_in (Some timed ∷ slots) = timed ∷ left_in slots

-- a slot has a command of the session with a number
abbrev pub has_of : ℕ → Option Timed → Bool
has_of who None = false
has_of who (Some timed) = is_of who timed

-- what a judgement says of an order beside the verdict is true
abbrev pub IsOrderExplained : Bool → Rules → List Timed → LogJudgement → Type 0
IsOrderExplained may_be_full rules order = IsExplained (λ line reason. ⊥) (IsOrderFault may_be_full rules order)
