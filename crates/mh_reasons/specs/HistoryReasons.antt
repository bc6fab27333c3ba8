-- Reasons: why the first bad line of a history is outside the grammar.
use Rattle.std.specs.Prelude.{◌≡◌, ◌≢◌, ◌⊎◌, ℕ, suc, ◌<◌, Bool, true, false, Some, None, List, [], ◌∷◌, ◌++◌, length, slice_index, ◌||◌, is_some, IsSome, codes}
use Rattle.mh_model.specs.{declared.history.Version.Version, declared.history.Version.TheVariants.{One, Two}}
use Rattle.mh_model.specs.{Bytes.{Text, cut_after, words, is_text, numbers}, Script.BadLine}
use Rattle.mh_model.specs.HistoryTexts.{Halves, halves_at, session_of, event_of, entry_of, measured_of, rules_of, header_of, history_reading, recorded_reading}
use Rattle.mh_model.specs.Replies.{reply_of}
use Rattle.mh_reasons.specs.declared.history_reason.HistoryReason.{HistoryReason}
use Rattle.mh_reasons.specs.declared.history_reason.HistoryLineReason.{HistoryLineReason}
use Rattle.mh_reasons.specs.{declared.reason.ConfigNumber.ConfigNumber, Quotes.Quotes, Lines.{HasByteFault, IsPlain}}
use Rattle.mh_reasons.specs.{Verbs.verb_bounds, Operands.{fit, IsOperandReason}}
use Rattle.mh_reasons.specs.Reasons.{word_at, IsHistory, is_log, is_in_limits, are_in_limits_before, IsWordsReason}
use Rattle.mh_reasons.specs.declared.verb.Verb.{Verb}

-- First lines ------------------------------------------------------------------------------------

-- a line that is no first line of this version
abbrev pub IsFirstWrong : Version → Text → Type 0
IsFirstWrong One line = is_text line (codes "history 1") ≡ false
IsFirstWrong Two line = header_of (words line) ≡ None

-- the words of a first line of version 2, with these after `rules`
abbrev pub headed : List Text → List Text
headed given = codes "history" ∷ codes "2" ∷ codes "rules" ∷ given

-- words after `rules` that are five numbers, of which the first isn't that of any rules
pub record HasNoRules (given : List Text) : Type 0 where
  pub rules : ℕ
  pub config : List ℕ
  pub read : numbers given ≡ Some (rules ∷ config)
  pub count : length config ≡ 4
  pub unknown : rules_of rules ≡ None

-- words after `rules` that are five numbers, of which this number of the configuration is the first outside its limits
pub record IsGivenOutside (which : ConfigNumber) (given : List Text) : Type 0 where
  pub rules : ℕ
  pub pages : ℕ
  pub quantum : ℕ
  pub trigger : ℕ
  pub every : ℕ
  pub known : IsSome (rules_of rules)
  pub read : numbers given ≡ Some (rules ∷ pages ∷ quantum ∷ trigger ∷ every ∷ [])
  pub outside : is_in_limits which pages quantum trigger every ≡ false
  pub earlier : are_in_limits_before which pages quantum trigger every ≡ true

-- What a reason says of the words after `rules`
abbrev pub IsGivenReason : List Text → HistoryLineReason → Type 0
IsGivenReason given HistoryLineReason.Rules = HasNoRules given
IsGivenReason given (HistoryLineReason.Limit which) = IsGivenOutside which given
IsGivenReason given (HistoryLineReason.Words r) = IsOperandReason Verb.Rules (verb_bounds Verb.Rules) given r
IsGivenReason given _ = ⊥

-- a first line that is neither that of version 1 nor begins as that of version 2
abbrev pub IsOtherFirst : Version → Text → Type 0
IsOtherFirst One line = is_text line (codes "history 1") ≡ false
IsOtherFirst Two line = (given : List Text) → words line ≢ headed given

-- a first line that begins neither the configuration of a script nor a history of another version nor a log of threads
pub record IsUnknownFirst (version : Version) (words : List Text) : Type 0 where
  pub script : word_at words 0 ≢ codes "config"
  pub other : (of : Version) → of ≢ version → ¬ IsHistory words of
  pub log : is_log words ≡ false

-- What a reason says of the words of a first line
abbrev pub IsFirstWordsReason : Version → Text → HistoryLineReason → Type 0
IsFirstWordsReason version line (HistoryLineReason.OtherVersion of) = (of ≢ version) × IsHistory (words line) of
IsFirstWordsReason version line HistoryLineReason.Script = word_at (words line) 0 ≡ codes "config"
IsFirstWordsReason version line HistoryLineReason.Log = is_log (words line) ≡ true
IsFirstWordsReason version line (HistoryLineReason.NotHistory of) = (of ≡ version) × IsOtherFirst version line × IsUnknownFirst version (words line)
IsFirstWordsReason version line r = (version ≡ Two) × ((given : List Text) × (words line ≡ headed given) × IsGivenReason given r)

-- What a reason says of a first line. Bytes come before words
abbrev pub IsFirstLineReason : Version → Text → HistoryLineReason → Type 0
IsFirstLineReason version line (HistoryLineReason.Bytes fault) = HasByteFault line fault
IsFirstLineReason version line r = IsPlain line × IsFirstWordsReason version line r

-- Entries ----------------------------------------------------------------------------------------

-- a line that is no entry of this version
abbrev pub IsEntryWrong : Version → Text → Type 0
IsEntryWrong One line = entry_of One (words line) ≡ None
IsEntryWrong Two line = measured_of (words line) ≡ None

-- `*`, or a session of a history
abbrev pub is_caller : Text → Bool
is_caller word = is_text word (codes "*") || is_some (session_of word)

-- What a reason says of the words of an event
abbrev pub IsEventReason : Version → List Text → HistoryLineReason → Type 0
IsEventReason version event HistoryLineReason.NoEvent = event ≡ []
IsEventReason version event (HistoryLineReason.Session quoted) =
    (event ≢ []) × (is_caller (word_at event 0) ≡ false) × Quotes (word_at event 0) quoted
IsEventReason version event (HistoryLineReason.Words r) = (is_caller (word_at event 0) ≡ true) × IsWordsReason version true event r
IsEventReason version event _ = ⊥

-- What a reason says of the words of a reply
abbrev pub IsReplyReason : Version → List Text → HistoryLineReason → Type 0
IsReplyReason version reply HistoryLineReason.EmptyReply = reply ≡ []
IsReplyReason version reply (HistoryLineReason.Reply quoted) = (reply ≢ []) × (reply_of version reply ≡ None) × Quotes (word_at reply 0) quoted
IsReplyReason version reply _ = ⊥

-- What a reason says of the words of an entry, without its units
abbrev pub IsEntryWordsReason : Version → List Text → HistoryLineReason → Type 0
IsEntryWordsReason version entry HistoryLineReason.NoReply = halves_at (codes "=") entry ≡ None
IsEntryWordsReason version entry r =
    (halves : Halves) × (halves_at (codes "=") entry ≡ Some halves) × (IsEventReason version halves.before r ⊎ (IsSome (event_of version halves.before) × IsReplyReason version halves.after r))

-- What a reason says of the words after `units`
abbrev pub IsUnitsReason : List Text → HistoryLineReason → Type 0
IsUnitsReason units (HistoryLineReason.Words r) = IsOperandReason Verb.Units (verb_bounds Verb.Units) units r
IsUnitsReason units _ = ⊥

-- What a reason says of the words of an entry with its units
abbrev pub IsMeasuredReason : List Text → HistoryLineReason → Type 0
IsMeasuredReason measured HistoryLineReason.NoUnits = halves_at (codes "units") measured ≡ None
IsMeasuredReason measured r =
    (halves : Halves) × (halves_at (codes "units") measured ≡ Some halves) × (IsUnitsReason halves.after r ⊎ ((fit (verb_bounds Verb.Units) halves.after ≡ true) × IsEntryWordsReason Two halves.before r))

-- What a reason says of the words of an entry of this version
abbrev pub IsVersionReason : Version → List Text → HistoryLineReason → Type 0
IsVersionReason One words r = IsEntryWordsReason One words r
IsVersionReason Two words r = IsMeasuredReason words r

-- What a reason says of a line after the first. An empty line and a comment come first, and bytes come before words
abbrev pub IsEntryReason : Version → Text → HistoryLineReason → Type 0
IsEntryReason version line HistoryLineReason.Blank = line ≡ []
IsEntryReason version line HistoryLineReason.Comment = slice_index line 0 ≡ 35
IsEntryReason version line (HistoryLineReason.Bytes fault) = (line ≢ []) × (slice_index line 0 ≢ 35) × HasByteFault line fault
IsEntryReason version line r = (line ≢ []) × (slice_index line 0 ≢ 35) × IsPlain line × IsVersionReason version (words line) r

-- Histories --------------------------------------------------------------------------------------

-- a text is refused as a history of this version at line n
abbrev pub IsRefusedAt : Version → Text → ℕ → Type 0
IsRefusedAt One text n = history_reading text ≡ BadLine n
IsRefusedAt Two text n = recorded_reading text ≡ BadLine n

-- the most bytes that a history has
abbrev pub most_bytes : Version → ℕ
most_bytes One = 1073741824
most_bytes Two = 2147483648

-- the first line of a text, and line n of it after the first
abbrev pub IsFirstLine : Text → ℕ → Text → Type 0
IsFirstLine text n line = (n ≡ 1) × ((more : List Text) × ((cut_after 10 text).pieces ≡ line ∷ more))

abbrev pub IsLaterLine : Text → ℕ → Text → Type 0
IsLaterLine text n line =
    (first : Text) × (before : List Text) × (after : List Text) × ((cut_after 10 text).pieces ≡ first ∷ (before ++ line ∷ after)) × (n ≡ suc (suc (length before)))

-- What a reason says of a history of a version and a line of it, counted from 1
abbrev pub IsHistoryReason : Version → Text → ℕ → HistoryReason → Type 0
IsHistoryReason version text n (HistoryReason.TooLong of) = (of ≡ version) × (n ≡ 0) × (most_bytes version < length text)
IsHistoryReason version text n HistoryReason.Empty = (n ≡ 1) × (text ≡ [])
IsHistoryReason version text n HistoryReason.NoNewline = (n ≡ suc (length (cut_after 10 text).pieces)) × ((cut_after 10 text).rest ≢ [])
IsHistoryReason version text n (HistoryReason.Line r) =
    (line : Text) × ((IsFirstLine text n line × IsFirstLineReason version line r) ⊎ (IsLaterLine text n line × IsEntryReason version line r))
