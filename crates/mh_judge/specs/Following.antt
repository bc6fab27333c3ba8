-- Entries of a history that are followed one after another, up to the first bad one.
use Rattle.std.specs.Prelude.{◌≡◌, Option, MatchOption, List, [], take}
use Rattle.mh_model.specs.{Bytes.Text, History.IsFirstBadOf, Script.{Means, at_end}}
use Rattle.mh_text.specs.Pieces.{Lines}
use Rattle.mh_history.specs.Beginnings.{entries_left}
use Rattle.mh_judge.specs.{declared.bad_entry.BadEntry.BadEntry, declared.entry_fault.EntryFault.EntryFault}
use Rattle.mh_judge.specs.Faults.{HasFault}

-- the lines that are left, without what stands after the last that has an end
abbrev pub whole : Lines → Lines
whole left = record { number = left.number; lines = left.lines; rest = [] }

-- these lines, up to the last that has an end, are these entries; another line is left, or nothing is
pub record AreRead {X : Type 0} (read : Text → Option X) (old new : Lines) (entries : List X) : Type 0 where
  pub whole : entries_left read (whole old) ≡ Means entries
  pub left : entries_left read old ≡ at_end entries new.number new.rest
  pub all : new.lines ≡ []

-- an entry is the first bad one by a rule for lists, and this is wrong with it by what is wrong with one after others
pub record IsBadEntry {X : Type 0} (Lawful : List X → Type 0) (Wrong : List X → X → EntryFault → Type 0) (entries : List X) (bad : BadEntry) : Type 0 where
  pub first : IsFirstBadOf Lawful entries bad.number
  pub fault : HasFault Wrong entries bad.number bad.fault

-- what was found of entries: all were followed, or one is the first bad one, and those up to it were looked at
abbrev pub IsFound : {X S : Type 0} → (List X → S → Type 0) → (List X → S → Type 0) → (List X → Type 0) → (List X → X → EntryFault → Type 0) → List X → S → Option BadEntry → Type 0
IsFound Follows Looks Lawful Wrong entries state found = MatchOption found (Follows entries state) (λ bad. IsBadEntry Lawful Wrong entries bad × Looks (take bad.number entries) state)
