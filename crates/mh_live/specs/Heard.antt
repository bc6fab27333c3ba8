-- Which lines are outside the grammar, why, and what a listener hears of them.
use Rattle.std.specs.Prelude.{◌≡◌, ℕ, suc, Bool, true, false, Option, Some, None, List, [], ◌∷◌, ◌++◌, length}
use Rattle.std.specs.Option.{option_to_list}
use Rattle.mh_model.specs.{Bytes.{Text, cut_after}, Live.{Live, Turn, Waits, Runs, Grows, IsTurn, unended_text}}
use Rattle.mh_reasons.specs.declared.reason.LineReason.{LineReason}
use Rattle.mh_reasons.specs.declared.reason.ScriptReason.TheVariants.{Line, NoNewline}
use Rattle.mh_reasons.specs.Reasons.{IsLineReason, IsWorldReason, IsWrong}
use Rattle.mh_script.specs.declared.end.LineRefusal.{LineRefusal}

-- whether the configuration has come; a world waits for none
abbrev pub is_configured : Live → Bool
is_configured Waits = false
is_configured (Runs machine names count) = true
is_configured (Grows world names count) = true

-- what a reason says of a line before or after the configuration, or in a world
abbrev pub IsReasonIn : Live → Text → LineReason → Type 0
IsReasonIn Waits line reason = IsLineReason false line reason
IsReasonIn (Runs machine names count) line reason = IsLineReason true line reason
IsReasonIn (Grows world names count) line reason = IsWorldReason line reason

-- what is wrong with a line; none if it isn't outside the grammar
abbrev pub IsWhy : Live → Text → Option LineReason → Type 0
IsWhy live line None = ¬ IsWrong (is_configured live) line
IsWhy live line (Some reason) = IsWrong (is_configured live) line × IsReasonIn live line reason

-- what is heard of line n: nothing if it isn't outside the grammar, and else its number and why
abbrev pub IsHeard : ℕ → Live → Text → Option LineRefusal → Type 0
IsHeard n live line None = ¬ IsWrong (is_configured live) line
IsHeard n live line (Some refusal) =
    (refusal.line ≡ n) × ((reason : LineReason) × (refusal.reason ≡ Line reason) × IsWrong (is_configured live) line × IsReasonIn live line reason)

-- what the lines from line n on may be answered one after another, what is heard of them, and what is then
pub data AreHeard : ℕ → Live → List Text → List LineRefusal → Text → Live → Type 0 where
  Ended : (n : ℕ) (live : Live) → AreHeard n live [] [] [] live
  Turned : (n : ℕ) (live : Live) (line : Text) (lines : List Text) (first : Turn) (heard : Option LineRefusal) (refusals : List LineRefusal) (text : Text) (after : Live)
      → IsTurn n live line first → IsHeard n live line heard → AreHeard (suc n) first.live lines refusals text after
      → AreHeard n live (line ∷ lines) (option_to_list heard ++ refusals) (first.text ++ text) after

-- what is heard of a last line without its end, which is line n
abbrev pub unended_refusal : ℕ → Text → Option LineRefusal
unended_refusal n [] = None
unended_refusal n (byte ∷ bytes) = Some (record { line = n; reason = NoNewline })

-- The answers to a text of lines, to its end, and all that is heard of them
pub record IsLiveHeard (opened : Live) (text written : Text) (refusals : List LineRefusal) : Type 0 where
  pub answers : Text
  pub heard : List LineRefusal
  pub after : Live
  pub turns : AreHeard 1 opened (cut_after 10 text).pieces heard answers after
  pub whole : written ≡ answers ++ unended_text (suc (length (cut_after 10 text).pieces)) (cut_after 10 text).rest
  pub all : refusals ≡ heard ++ option_to_list (unended_refusal (suc (length (cut_after 10 text).pieces)) (cut_after 10 text).rest)
