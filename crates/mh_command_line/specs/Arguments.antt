-- The words of a command line, and what is read of them.
use Rattle.std.specs.Prelude.{◌≡◌, ℕ, ◌<◌, ◌≤◌, Option, Some, None, List, ◌∷◌, Result, Ok, Err, IsUtf8, codes, drop, length, slice_get, take}
use Rattle.std.specs.{declared.env.FillError.FillError, declared.env.FillError.TheVariants.{NotPresent, TooLong}}
use Rattle.mh_model.specs.Bytes.{Text}

-- what is answered if a word is asked for, counted from 0, with a buffer: it stands at the start, there is none, or it is longer
abbrev pub IsAnswered : Option (List Text) → ℕ → Text → Result ℕ FillError → Type 0
IsAnswered None index buffer answer = Unit {0}
IsAnswered (Some words) index buffer (Ok count) = slice_get words index ≡ Some (take count buffer)
IsAnswered (Some words) index buffer (Err NotPresent) = length words ≤ index
IsAnswered (Some words) index buffer (Err TooLong) = (word : Text) × (slice_get words index ≡ Some word) × (length buffer < length word)

-- the words of a command line as they are read: all of them, but for the program's own name
abbrev pub AreWords : Option (List Text) → List Text → Type 0
AreWords None words = Unit {0}
AreWords (Some known) words = words ≡ codes "metroheap" ∷ drop 1 known

-- one of the words after the program's own name isn't text, if the words are known
abbrev pub HasNoText : Option (List Text) → Type 0
HasNoText None = Unit {0}
HasNoText (Some known) = (index : ℕ) × (word : Text) × (0 < index) × (slice_get known index ≡ Some word) × ¬ IsUtf8 word
