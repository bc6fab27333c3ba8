-- Reasons: why the first bad line of a script is outside the grammar.
use Rattle.std.specs.Prelude.{◌≡◌, ◌≢◌, ℕ, suc, ◌<◌, ◌≤◌, nat_le, Bool, true, false, not, ◌&&◌, ◌||◌, Some, None, List, [], ◌∷◌, ◌++◌, length, slice_index_or, codes}
use Rattle.std.specs.List.{list_all}
use Rattle.mh_model.specs.{declared.history.Version.Version, declared.history.Version.TheVariants.{One, Two}}
use Rattle.mh_model.specs.Bytes.{Text, cut_after, words, is_text, is_letter, is_digit, is_name, numbers}
use Rattle.mh_model.specs.{Forms.{command_rows, control_rows}, Script.{is_blank, line_of, config_words, Wrong}}
use Rattle.mh_model.specs.Limits.{least_quantum}
use Rattle.mh_reasons.specs.declared.reason.ConfigNumber.{ConfigNumber}
use Rattle.mh_reasons.specs.declared.reason.ConfigNumber.TheVariants.{Pages, Quantum, Trigger, Every}
use Rattle.mh_reasons.specs.{declared.reason.LineReason.LineReason, declared.reason.ScriptReason.ScriptReason}
use Rattle.mh_reasons.specs.{Quotes.Quotes, Lines.{HasPair, HasByteFault, IsPlain}}
use Rattle.mh_reasons.specs.{Verbs.{verb_text, bounds_of, Usage, usage_of}, Operands.HasOperandFault}

-- Lines ------------------------------------------------------------------------------------------

-- a line that isn't blank and is outside the grammar, before and after the configuration
abbrev pub IsWrong : Bool → Text → Type 0
IsWrong false line = (is_blank line ≡ false) × (config_words (words line) ≡ None)
IsWrong true line = line_of line ≡ Wrong

-- the word after `history`
abbrev pub version_word : Version → Text
version_word One = codes "1"
version_word Two = codes "2"

-- letters and digits, a letter first
abbrev pub is_alphanumeric : Text → Bool
is_alphanumeric [] = false
is_alphanumeric (byte ∷ bytes) = is_letter byte && list_all (λ c. is_letter c || is_digit c) bytes

-- whether a number of a configuration is within its limits
abbrev pub is_in_limits : ConfigNumber → (pages quantum trigger every : ℕ) → Bool
is_in_limits Pages pages quantum trigger every = nat_le 1 pages && nat_le pages 4096
is_in_limits Quantum pages quantum trigger every = nat_le least_quantum quantum && nat_le quantum 1000000
is_in_limits Trigger pages quantum trigger every = nat_le trigger pages
is_in_limits Every pages quantum trigger every = nat_le every 1000000

-- whether those before it are
abbrev pub are_in_limits_before : ConfigNumber → (pages quantum trigger every : ℕ) → Bool
are_in_limits_before Pages pages quantum trigger every = true
are_in_limits_before Quantum pages quantum trigger every = is_in_limits Pages pages quantum trigger every
are_in_limits_before Trigger pages quantum trigger every = is_in_limits Pages pages quantum trigger every && is_in_limits Quantum pages quantum trigger every
are_in_limits_before Every pages quantum trigger every =
    is_in_limits Pages pages quantum trigger every && (is_in_limits Quantum pages quantum trigger every && is_in_limits Trigger pages quantum trigger every)

-- words after `config` that are four numbers, of which this one is the first outside its limits
pub record IsFirstOutside (which : ConfigNumber) (given : List Text) : Type 0 where
  pub pages : ℕ
  pub quantum : ℕ
  pub trigger : ℕ
  pub every : ℕ
  pub read : numbers given ≡ Some (pages ∷ quantum ∷ trigger ∷ every ∷ [])
  pub outside : is_in_limits which pages quantum trigger every ≡ false
  pub earlier : are_in_limits_before which pages quantum trigger every ≡ true

-- word i, counted from 0
abbrev pub word_at : List Text → ℕ → Text
word_at words i = slice_index_or words i []

-- the words of the first line of a history, as far as they tell its version
abbrev pub IsHistory : List Text → Version → Type 0
IsHistory words version = (word_at words 0 ≡ codes "history") × (word_at words 1 ≡ version_word version)

-- the words of the first line of a log of threads, as far as they tell it
abbrev pub is_log : List Text → Bool
is_log words = is_text (word_at words 0) (codes "log") && is_text (word_at words 1) (codes "1")

-- words that begin with a verb of the grammar: which, what it takes, and what it is given
abbrev pub IsUsage : Version → Bool → List Text → (Usage → Type 0) → Type 0
IsUsage version configured words P = (usage : Usage) × (usage_of version configured words ≡ Some usage) × P usage

-- the words of an event that is no control, those under a name, and those of a control
abbrev pub AreOfSession : Bool → List Text → Type 0
AreOfSession configured words = (configured ≡ true) × (is_text (word_at words 0) (codes "*") ≡ false)

abbrev pub IsNamedWord : Bool → List Text → Type 0
IsNamedWord configured words = AreOfSession configured words × (is_name (word_at words 0) ≡ true)

-- those under another name than `config`, and those that no word of a command follows under that name
abbrev pub IsOtherNamedWord : Bool → List Text → Type 0
IsOtherNamedWord configured words = IsNamedWord configured words × (is_text (word_at words 0) (codes "config") ≡ false)

abbrev pub IsSecondConfig : Bool → List Text → Type 0
IsSecondConfig configured words = (configured ≡ true) × (word_at words 0 ≡ codes "config") × (bounds_of command_rows (word_at words 1) ≡ None)

abbrev pub IsOfControl : Bool → List Text → Type 0
IsOfControl configured words = (configured ≡ true) × (is_text (word_at words 0) (codes "*") ≡ true)

-- What a reason says of the words of a line, before and after the configuration, with the controls of a version
abbrev pub IsWordsReason : Version → Bool → List Text → LineReason → Type 0
IsWordsReason version configured words (LineReason.History of) = (configured ≡ false) × IsHistory words of
IsWordsReason version configured words LineReason.Log = (configured ≡ false) × (is_log words ≡ true)
IsWordsReason version configured words (LineReason.NotConfig quoted) =
    (configured ≡ false) × (is_text (word_at words 0) (codes "config") ≡ false) × ((of : Version) → ¬ IsHistory words of) × (is_log words ≡ false) × Quotes (word_at words 0) quoted
IsWordsReason version configured words (LineReason.Limit which) = (configured ≡ false) × IsUsage version configured words (λ usage. IsFirstOutside which usage.given)
IsWordsReason version configured words LineReason.SecondConfig = IsSecondConfig configured words
IsWordsReason version configured words (LineReason.LongName quoted) = AreOfSession configured words × (16 < length (word_at words 0)) × Quotes (word_at words 0) quoted
IsWordsReason version configured words (LineReason.BadName quoted) = AreOfSession configured words × (length (word_at words 0) ≤ 16) × (is_alphanumeric (word_at words 0) ≡ false) × Quotes (word_at words 0) quoted
IsWordsReason version configured words (LineReason.NoCommand quoted) = IsOtherNamedWord configured words × (length words ≡ 1) × Quotes (word_at words 0) quoted
IsWordsReason version configured words (LineReason.UnknownCommand quoted) =
    IsOtherNamedWord configured words × (1 < length words) × (bounds_of command_rows (word_at words 1) ≡ None) × Quotes (word_at words 1) quoted
IsWordsReason version configured words LineReason.NoControl = IsOfControl configured words × (length words ≡ 1)
IsWordsReason version configured words (LineReason.UnknownControl quoted) =
    IsOfControl configured words × (1 < length words) × (bounds_of (control_rows version) (word_at words 1) ≡ None) × Quotes (word_at words 1) quoted
IsWordsReason version configured words (LineReason.Operands verb) =
    IsUsage version configured words (λ usage. (usage.verb ≡ verb_text verb) × (length usage.given ≢ length usage.bounds))
IsWordsReason version configured words (LineReason.Operand quoted fault) = IsUsage version configured words (λ usage. HasOperandFault usage.bounds usage.given quoted fault)
IsWordsReason version configured words _ = ⊥

-- What a reason says of a line, before and after the configuration. A comment comes first, and bytes come before words
abbrev pub IsLineReason : Bool → Text → LineReason → Type 0
IsLineReason configured line LineReason.Comment = HasPair line 32 35
IsLineReason configured line (LineReason.Bytes fault) = (¬ HasPair line 32 35) × HasByteFault line fault
IsLineReason configured line reason = (¬ HasPair line 32 35) × IsPlain line × IsWordsReason Two configured (words line) reason

-- What a reason says of a line in a world: a world has no configuration, so each that comes has a reason of its own
abbrev pub IsWorldReason : Text → LineReason → Type 0
IsWorldReason line LineReason.WorldConfig = IsLineReason true line LineReason.SecondConfig
IsWorldReason line LineReason.SecondConfig = ⊥
IsWorldReason line reason = IsLineReason true line reason

-- Scripts ----------------------------------------------------------------------------------------

-- Line n of a text, which isn't blank. It stands after the configuration if a line before it isn't blank either, and else before it
pub record StandsAtLine (text : Text) (n : ℕ) (configured : Bool) (line : Text) : Type 0 where
  pub before : List Text
  pub after : List Text
  pub lines : (cut_after 10 text).pieces ≡ before ++ line ∷ after
  pub numbered : n ≡ suc (length before)
  pub first : list_all is_blank before ≡ not configured
  pub full : is_blank line ≡ false

-- What a reason says of a script and a line of it, counted from 1
abbrev pub IsReason : Text → ℕ → ScriptReason → Type 0
IsReason text n ScriptReason.TooLong = (n ≡ 0) × (67108864 < length text)
IsReason text n ScriptReason.NoConfiguration =
    (n ≡ suc (length (cut_after 10 text).pieces)) × (list_all is_blank (cut_after 10 text).pieces ≡ true) × ((cut_after 10 text).rest ≡ [])
IsReason text n ScriptReason.NoNewline = (n ≡ suc (length (cut_after 10 text).pieces)) × ((cut_after 10 text).rest ≢ [])
IsReason text n (ScriptReason.Line reason) = (configured : Bool) × (line : Text) × StandsAtLine text n configured line × IsLineReason configured line reason
