-- Histories from a line on, and the entries that one begins with.
use Rattle.std.specs.Prelude.{◌≡◌, ℕ, ◌<◌, ◌≤◌, Option, Some, List, [], ◌∷◌, length, take}
use Rattle.mh_model.specs.{declared.config.Config.Config, declared.history.Entry.Entry}
use Rattle.mh_model.specs.{declared.history.Measured.Measured, declared.history.Version.TheVariants.One}
use Rattle.mh_model.specs.{Bytes.{Text, cut_after, words}, Script.{Reading, Means, reading_map}}
use Rattle.mh_model.specs.HistoryTexts.{Recorded, entry_of, measured_of, entries_from, history_of, recorded_of}
use Rattle.mh_text.specs.{Pieces.{Lines, TakesLine}, Reading.first_lines}

-- what a line of a history of version 1 is read as, and one of version 2
abbrev pub line_as_entry : Text → Option Entry
line_as_entry line = entry_of One (words line)

abbrev pub line_as_measured : Text → Option Measured
line_as_measured line = measured_of (words line)

-- the lines that are left, each one entry
abbrev pub entries_left : {X : Type 0} → (Text → Option X) → Lines → Reading (List X)
entries_left read left = entries_from read left.number left.lines left.rest

-- an entry, and the entries that are read after it
abbrev pub entry_before : {X : Type 0} → X → Reading (List X) → Reading (List X)
entry_before entry = reading_map (λ entries. entry ∷ entries)

-- what the entries after a first line of version 2 make of a history
abbrev pub after_header : Config → Reading (List Measured) → Reading Recorded
after_header config = reading_map (λ entries. record { config = config; entries = entries })

-- reading one entry takes its line
pub record TakesEntry {X : Type 0} (read : Text → Option X) (old new : Lines) (entry : X) : Type 0 where
  pub line : Text
  pub takes : TakesLine old new old.number line
  pub reads : read line ≡ Some entry

-- some of these lines, from the first on, are entries, and there is one at least
pub record HasEntry {X : Type 0} (read : Text → Option X) (left : Lines) : Type 0 where
  pub count : ℕ
  pub entries : List X
  pub reads : entries_from read left.number (take count left.lines) [] ≡ Means entries
  pub some : 0 < length entries

-- A text that isn't too long, of which some lines, from the first on, are a history of version 1 with an entry
pub record BeginsWithEntry (text : Text) : Type 0 where
  pub short : length text ≤ 1073741824
  pub count : ℕ
  pub entries : List Entry
  pub reads : history_of (first_lines count (cut_after 10 text)) ≡ Means entries
  pub some : 0 < length entries

-- A text that isn't too long, of which some lines, from the first on, are a history of version 2 with an entry
pub record BeginsWithMeasured (text : Text) : Type 0 where
  pub short : length text ≤ 2147483648
  pub count : ℕ
  pub recorded : Recorded
  pub reads : recorded_of (first_lines count (cut_after 10 text)) ≡ Means recorded
  pub some : 0 < length recorded.entries
