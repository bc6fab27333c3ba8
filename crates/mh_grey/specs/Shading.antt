-- What shading works on and what it asks for.
use Rattle.std.specs.Prelude.{◌≡◌, ◌≢◌, ℕ, true, false, Option, Some, List}
use Rattle.mh_model.specs.{Pages.Table, Table.{Block, target_of, stamp_at}, Collector.Marking}
use Rattle.mh_grey.specs.Queue.{is_in}

-- a table, a grey list and a cycle's number, as marking works on them
abbrev pub marking : Table Block → List ℕ → ℕ → Marking
marking table grey cycle = record { table = table; grey = grey; cycle = cycle }

-- a place whose block isn't marked, which shading would append, isn't grey
abbrev pub IsApartAt : Table Block → ℕ → List ℕ → ℕ → Type 0
IsApartAt table cycle grey place = stamp_at table place ≢ cycle → is_in place grey ≡ false

-- the place that a reference leads to is so
abbrev pub IsApart : Table Block → ℕ → List ℕ → Option ℕ → Type 0
IsApart table cycle grey reference = (place : ℕ) → target_of table reference ≡ Some place → IsApartAt table cycle grey place

-- the places of a list have marked blocks
abbrev pub AreMarked : Table Block → ℕ → List ℕ → Type 0
AreMarked table cycle grey = (place : ℕ) → is_in place grey ≡ true → stamp_at table place ≡ cycle
