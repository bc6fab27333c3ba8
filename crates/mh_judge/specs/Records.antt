-- Lines that are read as entries.
use Rattle.std.specs.Prelude.{List, []}
use Rattle.mh_model.specs.Script.{Reading, BadLine, Means}

-- no line is bad
abbrev pub IsRead : {X : Type 0} → Reading X → Type 0
IsRead (BadLine line) = ⊥
IsRead (Means x) = Unit {0}

-- the entries that are read, or none
abbrev pub entries_in : {X : Type 0} → Reading (List X) → List X
entries_in (BadLine line) = []
entries_in (Means entries) = entries
