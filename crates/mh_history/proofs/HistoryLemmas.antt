-- Whole texts by their first line and the lines after it.
use Rattle.std.proofs.Common.{◌≡◌, ℕ, suc, ◌<◌, ◌≤◌, nat_lt, Bool, true, false, if◌then◌else◌, Option, Some, None, List, [], ◌∷◌, length, take, ap, sym, refl, ◌∙◌, arith}
use Rattle.std.proofs.lemmas.Bool.Decides.{nat_tests}
use Rattle.std.specs.Prelude.{codes}
use Rattle.mh_model.specs.{declared.config.Config.Config, Bytes.{Text, cut_after, words, is_text}, Script.BadLine}
use Rattle.mh_model.specs.HistoryTexts.{header_of, entries_from, history_of, history_reading, recorded_by, recorded_of, recorded_reading}
use Rattle.mh_model.proofs.ScriptLemmas.{history_reading-short, recorded_reading-short}
use Rattle.mh_text.specs.{Pieces.{Lines, TakesLine, lines_from}, Reading.first_lines}
use Rattle.mh_history.specs.Beginnings.{line_as_entry, line_as_measured, entries_left, after_header, HasEntry, BeginsWithEntry, BeginsWithMeasured}

-- the pieces of a cut that is one line and what a reader of lines has left
taken : (text : Text) (new : Lines) (n : ℕ) (line : Text) → TakesLine (lines_from 1 text) new n line → cut_after 10 text ≡ record { pieces = line ∷ new.lines; rest = new.rest }
taken text new n line takes = grind arith

-- Version 1 --------------------------------------------------------------------------------------

history_by : (is : Bool) (text : Text) → nat_lt 1073741824 (length text) ≡ is → history_reading text ≡ (if is then BadLine 0 else history_of (cut_after 10 text))
unfolding history_reading
history_by is text same = rw same refl

pub history_long : (text : Text) → 1073741824 < length text → history_reading text ≡ BadLine 0
history_long text long = history_by true text (grind (arith, nat_tests))

none_of_pieces : (pieces : List Text) (rest : Text) → pieces ≡ [] → history_of (record { pieces = pieces; rest = rest }) ≡ BadLine 1
none_of_pieces pieces rest none = ap (λ (pieces : List Text). history_of (record { pieces = pieces; rest = rest })) none

pub history_empty : (text : Text) → length text ≤ 1073741824 → (lines_from 1 text).lines ≡ [] → history_reading text ≡ BadLine 1
history_empty text short none = history_reading-short text short ∙ none_of_pieces (cut_after 10 text).pieces (cut_after 10 text).rest none

wrong_first : (line : Text) (lines : List Text) (rest : Text) → is_text line (codes "history 1") ≡ false → history_of (record { pieces = line ∷ lines; rest = rest }) ≡ BadLine 1
wrong_first line lines rest other = rw other refl

pub history_wrong : (text : Text) (new : Lines) (n : ℕ) (line : Text) → length text ≤ 1073741824 → TakesLine (lines_from 1 text) new n line → is_text line (codes "history 1") ≡ false → history_reading text ≡ BadLine 1
history_wrong text new n line short takes other = history_reading-short text short ∙ (ap history_of (taken text new n line takes) ∙ wrong_first line new.lines new.rest other)

right_first : (line : Text) (lines : List Text) (rest : Text) → is_text line (codes "history 1") ≡ true → history_of (record { pieces = line ∷ lines; rest = rest }) ≡ entries_from line_as_entry 2 lines rest
right_first line lines rest is = rw is refl

counted : (text : Text) (new : Lines) (n : ℕ) (line : Text) → TakesLine (lines_from 1 text) new n line → 2 ≡ new.number
counted text new n line takes = sym takes.counted

pub history_first : (text : Text) (new : Lines) (n : ℕ) (line : Text) → length text ≤ 1073741824 → TakesLine (lines_from 1 text) new n line → is_text line (codes "history 1") ≡ true → history_reading text ≡ entries_left line_as_entry new
history_first text new n line short takes is = grind (arith, history_reading-short, taken, right_first, counted)

front_lines : (text : Text) (new : Lines) (n : ℕ) (line : Text) (count : ℕ) → TakesLine (lines_from 1 text) new n line → first_lines (suc count) (cut_after 10 text) ≡ record { pieces = line ∷ take count new.lines; rest = [] }
front_lines text new n line count takes = ap (first_lines (suc count)) (taken text new n line takes)

pub begins_with_entry : (text : Text) (new : Lines) (n : ℕ) (line : Text) → length text ≤ 1073741824 → TakesLine (lines_from 1 text) new n line → is_text line (codes "history 1") ≡ true → HasEntry line_as_entry new → BeginsWithEntry text
begins_with_entry text new n line short takes is has = record {
  short = short;
  count = suc has.count;
  entries = has.entries;
  reads =
      ap history_of (front_lines text new n line has.count takes)
      ∙ (right_first line (take has.count new.lines) [] is ∙ (ap (λ (n : ℕ). entries_from line_as_entry n (take has.count new.lines) []) (counted text new n line takes) ∙ has.reads));
  some = has.some;
}

-- Version 2 --------------------------------------------------------------------------------------

record_by : (is : Bool) (text : Text) → nat_lt 2147483648 (length text) ≡ is → recorded_reading text ≡ (if is then BadLine 0 else recorded_of (cut_after 10 text))
unfolding recorded_reading
record_by is text same = rw same refl

pub record_long : (text : Text) → 2147483648 < length text → recorded_reading text ≡ BadLine 0
record_long text long = record_by true text (grind (arith, nat_tests))

no_header : (pieces : List Text) (rest : Text) → pieces ≡ [] → recorded_of (record { pieces = pieces; rest = rest }) ≡ BadLine 1
no_header pieces rest none = ap (λ (pieces : List Text). recorded_of (record { pieces = pieces; rest = rest })) none

pub record_empty : (text : Text) → length text ≤ 2147483648 → (lines_from 1 text).lines ≡ [] → recorded_reading text ≡ BadLine 1
record_empty text short none = recorded_reading-short text short ∙ no_header (cut_after 10 text).pieces (cut_after 10 text).rest none

header_line : (line : Text) (lines : List Text) (rest : Text) (config : Option Config) → header_of (words line) ≡ config → recorded_of (record { pieces = line ∷ lines; rest = rest }) ≡ recorded_by config lines rest
header_line line lines rest config is = ap (λ (config : Option Config). recorded_by config lines rest) is

record_lines : (text : Text) (new : Lines) (n : ℕ) (line : Text) (config : Option Config) → length text ≤ 2147483648 → TakesLine (lines_from 1 text) new n line → header_of (words line) ≡ config
    → recorded_reading text ≡ recorded_by config new.lines new.rest
record_lines text new n line config short takes is = grind (arith, recorded_reading-short, taken, header_line)

pub record_wrong : (text : Text) (new : Lines) (n : ℕ) (line : Text) → length text ≤ 2147483648 → TakesLine (lines_from 1 text) new n line → header_of (words line) ≡ None → recorded_reading text ≡ BadLine 1
record_wrong text new n line short takes is = record_lines text new n line None short takes is

pub record_first : (text : Text) (new : Lines) (n : ℕ) (line : Text) (config : Config) → length text ≤ 2147483648 → TakesLine (lines_from 1 text) new n line → header_of (words line) ≡ Some config
    → recorded_reading text ≡ after_header config (entries_left line_as_measured new)
record_first text new n line config short takes is =
    record_lines text new n line (Some config) short takes is ∙ ap (λ (n : ℕ). after_header config (entries_from line_as_measured n new.lines new.rest)) (counted text new n line takes)

pub begins_with_measured : (text : Text) (new : Lines) (n : ℕ) (line : Text) (config : Config) → length text ≤ 2147483648 → TakesLine (lines_from 1 text) new n line → header_of (words line) ≡ Some config → HasEntry line_as_measured new
    → BeginsWithMeasured text
begins_with_measured text new n line config short takes is has = record {
  short = short;
  count = suc has.count;
  recorded = record { config = config; entries = has.entries };
  reads =
      ap recorded_of (front_lines text new n line has.count takes)
      ∙ (header_line line (take has.count new.lines) [] (Some config) is
      ∙ (ap (λ (n : ℕ). after_header config (entries_from line_as_measured n (take has.count new.lines) [])) (counted text new n line takes) ∙ ap (after_header config) has.reads));
  some = has.some;
}
