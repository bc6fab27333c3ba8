-- A part and its header, and the parts of one object.
use Rattle.std.specs.Prelude.{◌≡◌, ℕ, ◌+◌, ◌<◌, ◌≤◌, ◌^◌, List}
use Rattle.mh_model.specs.Classes.{Part, parts}
use Rattle.mh_classes.specs.Counts.{reference_count, number_count}

-- a part has the references and numbers that its header states, and each count in the header has 20 bits
pub record FitsItsHeader (part : Part) : Type 0 where
  pub references : part.references ≡ reference_count part.header
  pub numbers : part.numbers ≡ number_count part.header
  pub few_references : part.header.references < 2 ^ 20
  pub few_numbers : part.header.numbers < 2 ^ 20

-- a list holds the parts of some object of at most 216,000 fields
abbrev pub AreParts : List Part → Type 0
AreParts list = (references : ℕ) × (numbers : ℕ) × (references + numbers ≤ 216000) × (list ≡ parts references numbers)
