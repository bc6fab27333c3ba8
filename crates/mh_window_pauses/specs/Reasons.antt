-- Reasons: why the first bad line of a log of pauses is outside the grammar.
use Rattle.std.specs.Prelude.{◌≡◌, ◌≢◌, ℕ, suc, ◌<◌, ◌≤◌, ◌^◌, Bool, true, false, ◌||◌, List, [], ◌++◌, length, drop, codes}
use Rattle.mh_model.specs.{declared.birth.TheConstants.LIFE, declared.history.Version.Version}
use Rattle.mh_model.specs.{declared.history.Version.TheVariants.{One, Two}, Bytes.{Text, cut_after, is_text, words}}
use Rattle.mh_model.specs.Script.{Means}
use Rattle.mh_history.specs.Beginnings.{entries_left}
use Rattle.mh_reasons.specs.{Lines.{HasByteFault, HasPair, IsPlain}, Numbers.HasNumberFault, Quotes.Quotes}
use Rattle.mh_reasons.specs.Reasons.{IsHistory, StandsAtLine, word_at}
use Rattle.mh_reasons.specs.Texts.{byte_fault_text, number_fault_text, quoted_text}
use Rattle.mh_text.specs.Pieces.{lines_from}
use Rattle.mh_window_pauses.specs.{declared.line.PauseLine.PauseLine, declared.reason.PauseReason.PauseReason}
use Rattle.mh_window_pauses.specs.Logs.{letters_of_lines, line_as_pause}

-- Lines ------------------------------------------------------------------------------------------

-- a word that a run begins with
abbrev pub is_unit : Text → Bool
is_unit word = is_text word (codes "mutator") || is_text word (codes "collector")

-- What a reason says of the words after that
abbrev pub IsCountReason : List Text → PauseReason → Type 0
IsCountReason given PauseReason.NotRun = length given ≢ 1
IsCountReason given (PauseReason.Number fault) = (length given ≡ 1) × HasNumberFault (2 ^ 64) (word_at given 0) fault
IsCountReason given _ = ⊥

-- the words of line n, if a history begins with it, and if a script does: then all lines before it are blank
abbrev pub BeginsHistory : ℕ → List Text → Version → Type 0
BeginsHistory n words version = (n ≡ 1) × IsHistory words version

abbrev pub BeginsScript : Bool → List Text → Type 0
BeginsScript begun words = (begun ≡ false) × (word_at words 0 ≡ codes "config")

-- the words of neither of these, and of no run
pub record AreUnknown (n : ℕ) (begun : Bool) (words : List Text) : Type 0 where
  pub unit : is_unit (word_at words 0) ≡ false
  pub history : (version : Version) → ¬ BeginsHistory n words version
  pub script : ¬ BeginsScript begun words

-- What a reason says of the words of line n
abbrev pub IsWordsReason : ℕ → Bool → List Text → PauseReason → Type 0
IsWordsReason n begun words (PauseReason.History version) = BeginsHistory n words version
IsWordsReason n begun words PauseReason.Script = BeginsScript begun words
IsWordsReason n begun words (PauseReason.UnknownWord quoted) = AreUnknown n begun words × Quotes (word_at words 0) quoted
IsWordsReason n begun words r = (is_unit (word_at words 0) ≡ true) × IsCountReason (drop 1 words) r

-- What a reason says of line n. A comment comes first, and bytes come before words
abbrev pub IsLineReason : ℕ → Bool → Text → PauseReason → Type 0
IsLineReason n begun line PauseReason.Comment = HasPair line 32 35
IsLineReason n begun line (PauseReason.Bytes fault) = (¬ HasPair line 32 35) × HasByteFault line fault
IsLineReason n begun line r = (¬ HasPair line 32 35) × IsPlain line × IsWordsReason n begun (words line) r

-- Texts ------------------------------------------------------------------------------------------

-- a text isn't too long, each line of it is a line of a log, and all of them have too many letters
pub record HasTooMany (text : Text) : Type 0 where
  pub short : length text ≤ 2147483648
  pub lines : List PauseLine
  pub read : entries_left line_as_pause (lines_from 1 text) ≡ Means lines
  pub many : LIFE ≤ length (letters_of_lines lines)

-- What a reason says of a text and a line of it, counted from 1
abbrev pub IsPauseReason : Text → ℕ → PauseReason → Type 0
IsPauseReason text n PauseReason.TooLong = (n ≡ 0) × (2147483648 < length text)
IsPauseReason text n PauseReason.TooManyUnits = (n ≡ 0) × HasTooMany text
IsPauseReason text n PauseReason.Empty = (n ≡ 1) × (text ≡ [])
IsPauseReason text n PauseReason.NoNewline = (n ≡ suc (length (cut_after 10 text).pieces)) × ((cut_after 10 text).rest ≢ [])
IsPauseReason text n r = (begun : Bool) × (line : Text) × StandsAtLine text n begun line × IsLineReason n begun line r

-- what a reason is written as
abbrev pub reason_text : PauseReason → Text
reason_text PauseReason.TooLong = codes "a log has at most 2147483648 bytes"
reason_text PauseReason.TooManyUnits = codes "the log has 4611686018427387904 units or more"
reason_text PauseReason.Empty = codes "the log has no bytes"
reason_text PauseReason.NoNewline = codes "the last line has no newline"
reason_text PauseReason.Comment = codes "a comment is a line of its own"
reason_text (PauseReason.Bytes fault) = byte_fault_text fault
reason_text (PauseReason.History One) = codes "a history of version 1: check reads it"
reason_text (PauseReason.History Two) = codes "a history: curve --history reads it"
reason_text PauseReason.Script = codes "a script: curve reads it"
reason_text (PauseReason.UnknownWord word) = quoted_text word ++ codes " is no word of a log"
reason_text PauseReason.NotRun = codes "a line is mutator N or collector N"
reason_text (PauseReason.Number fault) = number_fault_text fault
