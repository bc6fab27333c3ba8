-- Lines with reasons are outside the grammar.
use Rattle.std.specs.Prelude.{◌≡◌, Bool, false}
use Rattle.mh_model.specs.{declared.history.Version.Version, Bytes.Text, Script.is_blank}
use Rattle.mh_reasons.specs.declared.history_reason.HistoryLineReason.{HistoryLineReason}
use Rattle.mh_reasons.specs.declared.reason.LineReason.{LineReason}
use Rattle.mh_reasons.specs.HistoryReasons.{IsEntryReason, IsEntryWrong, IsFirstLineReason, IsFirstWrong}
use Rattle.mh_reasons.specs.Reasons.{IsLineReason, IsWrong}

-- a line that isn't blank and has a reason is wrong
abbrev pub LinesWithReasonsAreWrong : Type 0
LinesWithReasonsAreWrong = (configured : Bool) (line : Text) (r : LineReason) → is_blank line ≡ false → IsLineReason configured line r → IsWrong configured line

-- a first line with a reason is none
abbrev pub FirstLinesWithReasonsAreWrong : Type 0
FirstLinesWithReasonsAreWrong = (version : Version) (line : Text) (r : HistoryLineReason) → IsFirstLineReason version line r → IsFirstWrong version line

-- a line after the first with a reason is no entry: an empty one, a comment and one with bytes out of place too
abbrev pub EntriesWithReasonsAreWrong : Type 0
EntriesWithReasonsAreWrong = (version : Version) (line : Text) (r : HistoryLineReason) → IsEntryReason version line r → IsEntryWrong version line
