-- Reasons: why the first bad line of a log with an order is outside the grammar.
use Rattle.std.specs.Prelude.{◌≡◌, ◌≢◌, ◌⊎◌, ℕ, suc, ◌<◌, ◌≤◌, Bool, true, false, None, IsSome, List, [], ◌∷◌, ◌++◌, length, drop, slice_index, codes}
use Rattle.std.specs.List.{list_any}
use Rattle.mh_model.specs.{declared.history.Version.Version, declared.history.Version.TheVariants.One}
use Rattle.mh_model.specs.{Bytes.{Text, cut_after, is_text, number, words}, Forms.u64, HistoryTexts.session_of}
use Rattle.mh_reasons.specs.{HistoryReasons.{IsEntryWordsReason, IsFirstLine}, Lines.{HasByteFault, IsPlain}}
use Rattle.mh_reasons.specs.{Numbers.HasNumberFault, Quotes.Quotes, Reasons.{IsHistory, word_at}}
use Rattle.mh_judge_log.specs.{declared.reason.CommandReason.CommandReason, declared.reason.FirstReason.FirstReason}
use Rattle.mh_judge_log.specs.{declared.reason.LogLineReason.LogLineReason, declared.reason.LogReason.LogReason}
use Rattle.mh_judge_log.specs.Beginnings.{HasTimes, begins_with_star}

-- First lines ------------------------------------------------------------------------------------

-- words that begin neither a script nor a history
pub record AreUnknown (words : List Text) : Type 0 where
  pub script : word_at words 0 ≢ codes "config"
  pub history : (version : Version) → ¬ IsHistory words version

-- What a reason says of a first line that isn't `log 1`. Bytes come before words
abbrev pub IsFirstReason : Text → FirstReason → Type 0
IsFirstReason line (FirstReason.Bytes fault) = HasByteFault line fault
IsFirstReason line (FirstReason.History version) = IsPlain line × IsHistory (words line) version
IsFirstReason line FirstReason.Script = IsPlain line × (word_at (words line) 0 ≡ codes "config")
IsFirstReason line FirstReason.NotLog = IsPlain line × (is_text line (codes "log 1") ≡ false) × AreUnknown (words line)

-- Commands ---------------------------------------------------------------------------------------

-- What a reason says of a word that is no time
abbrev pub IsTimeReason : Text → CommandReason → Type 0
IsTimeReason word (CommandReason.Time quoted fault) = Quotes word quoted × HasNumberFault u64 word fault
IsTimeReason word _ = ⊥

-- words are two times and these after them, one or more
abbrev pub HasTimed : List Text → (ℕ → ℕ → List Text → Type 0) → Type 0
HasTimed words P = (begin : ℕ) × (end : ℕ) × (called : List Text) × HasTimes words begin end called × (called ≢ []) × P begin end called

-- What a reason says of the words of a line that is no command. How many they are comes first, and then they come from left to right
abbrev pub IsCommandReason : List Text → CommandReason → Type 0
IsCommandReason words CommandReason.FewWords = length words < 3
IsCommandReason words (CommandReason.Time quoted fault) =
    (2 < length words)
    × (IsTimeReason (word_at words 0) (CommandReason.Time quoted fault) ⊎ (IsSome (number (word_at words 0)) × IsTimeReason (word_at words 1) (CommandReason.Time quoted fault)))
IsCommandReason words CommandReason.Backwards = HasTimed words (λ begin end called. end < begin)
IsCommandReason words CommandReason.Control = HasTimed words (λ begin end called. (begin ≤ end) × (begins_with_star called ≡ true))
IsCommandReason words (CommandReason.Entry r) = HasTimed words (λ begin end called. (begin ≤ end) × (begins_with_star called ≡ false) × IsEntryWordsReason One called r)

-- What a reason says of a line of an order, which takes no command
abbrev pub IsOrderReason : Text → LogLineReason → Type 0
IsOrderReason line (LogLineReason.NoSession quoted) = (session_of line ≡ None) × Quotes line quoted
IsOrderReason line (LogLineReason.NoneLeft quoted) = IsSome (session_of line) × Quotes line quoted
IsOrderReason line _ = ⊥

-- What a reason says of a line after the first, before the order or in it. An empty line and a comment come first, and bytes come before words
abbrev pub IsLineReason : Bool → Text → LogLineReason → Type 0
IsLineReason in_order line LogLineReason.Blank = line ≡ []
IsLineReason in_order line LogLineReason.Comment = slice_index line 0 ≡ 35
IsLineReason in_order line (LogLineReason.Bytes fault) = (line ≢ []) × (slice_index line 0 ≢ 35) × HasByteFault line fault
IsLineReason in_order line (LogLineReason.Command r) = (line ≢ []) × (slice_index line 0 ≢ 35) × IsPlain line × (in_order ≡ false) × IsCommandReason (words line) r
IsLineReason in_order line r = (line ≢ []) × (slice_index line 0 ≢ 35) × IsPlain line × (in_order ≡ true) × IsOrderReason line r

-- Texts ------------------------------------------------------------------------------------------

-- one of these lines begins an order
abbrev pub begins_order : List Text → Bool
begins_order lines = list_any (λ line. is_text line (codes "order 1")) lines

-- line n of a text, after its first, and the lines between these
pub record IsLaterLine (text : Text) (n : ℕ) (between : List Text) (line : Text) : Type 0 where
  pub first : Text
  pub after : List Text
  pub lines : (cut_after 10 text).pieces ≡ first ∷ (between ++ line ∷ after)
  pub numbered : n ≡ suc (suc (length between))

-- a text ends with a line, after which line n would be the next
pub record EndsBefore (text : Text) (n : ℕ) : Type 0 where
  pub numbered : n ≡ suc (length (cut_after 10 text).pieces)
  pub whole : (cut_after 10 text).rest ≡ []

-- What a reason says of a text and a line of it, counted from 1
abbrev pub IsLogReason : Text → ℕ → LogReason → Type 0
IsLogReason text n LogReason.TooLong = (n ≡ 0) × (2147483648 < length text)
IsLogReason text n LogReason.Empty = (n ≡ 1) × (text ≡ [])
IsLogReason text n LogReason.NoNewline = (n ≡ suc (length (cut_after 10 text).pieces)) × ((cut_after 10 text).rest ≢ [])
IsLogReason text n (LogReason.First r) = (line : Text) × IsFirstLine text n line × IsFirstReason line r
IsLogReason text n LogReason.NoOrder = EndsBefore text n × (begins_order (drop 1 (cut_after 10 text).pieces) ≡ false)
IsLogReason text n LogReason.CommandsLeft = EndsBefore text n × (begins_order (drop 1 (cut_after 10 text).pieces) ≡ true)
IsLogReason text n (LogReason.Line r) = (between : List Text) × (line : Text) × IsLaterLine text n between line × IsLineReason (begins_order between) line r
