-- Laws of the parts of an object of at most 216,000 fields.
use Rattle.std.specs.Prelude.{◌≡◌, ◌<◌, ◌≤◌, ◌+◌, ◌^◌, ℕ, Some, IsSome, length, slice_get}
use Rattle.mh_model.specs.Classes.{Part, class_of, part_words, parts}
use Rattle.mh_classes.specs.Fits.{FitsItsHeader}

-- each part has a class
abbrev pub PartsHaveClasses : Type 0
PartsHaveClasses = (references numbers i : ℕ) (part : Part) → references + numbers ≤ 216000 → slice_get (parts references numbers) i ≡ Some part → IsSome (class_of (part_words part))

-- each part has the references and numbers that its header states, and each count in the header has 20 bits
abbrev pub PartsFitTheirHeaders : Type 0
PartsFitTheirHeaders = (references numbers i : ℕ) (part : Part) → references + numbers ≤ 216000 → slice_get (parts references numbers) i ≡ Some part → FitsItsHeader part

-- there are 3,661 parts at most, and so the number of a part has 24 bits
abbrev pub PartsAreFew : Type 0
PartsAreFew = (references numbers : ℕ) → references + numbers ≤ 216000 → (length (parts references numbers) ≤ 3661) × ((i : ℕ) → i < length (parts references numbers) → i < 2 ^ 24)
