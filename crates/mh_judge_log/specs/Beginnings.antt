-- Logs and orders from a line on, and the command that a log begins with.
use Rattle.std.specs.Prelude.{◌≡◌, ℕ, ◌≤◌, Some, IsSome, Bool, false, List, [], ◌∷◌, length, codes}
use Rattle.mh_model.specs.Bytes.{Text, cut_after, is_text, number, words}
use Rattle.mh_judge_log.specs.Logs.{timed_of}

-- the words of a line are two times and these
pub record HasTimes (line : List Text) (begin end : ℕ) (rest : List Text) : Type 0 where
  pub first : Text
  pub second : Text
  pub is : line ≡ first ∷ second ∷ rest
  pub begins : number first ≡ Some begin
  pub ends : number second ≡ Some end

-- the first of words is `*`
abbrev pub begins_with_star : List Text → Bool
begins_with_star [] = false
begins_with_star (word ∷ words) = is_text word (codes "*")

-- A text that isn't too long, and is the first line of a log with a command after it
pub record BeginsWithCommand (text : Text) : Type 0 where
  pub short : length text ≤ 2147483648
  pub line : Text
  pub more : List Text
  pub lines : (cut_after 10 text).pieces ≡ codes "log 1" ∷ line ∷ more
  pub command : IsSome (timed_of (words line))
