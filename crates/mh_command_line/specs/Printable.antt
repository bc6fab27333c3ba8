-- What can be printed on standard error.
use Rattle.std.specs.{Prelude.{◌≡◌, ◌≤◌, ◌⊎◌, ℕ, List}, List.All}

abbrev pub IsSign : ℕ → Type 0
IsSign byte = (32 ≤ byte) × (byte ≤ 126)

-- the byte ends a line, or can be printed
abbrev pub IsPrintableByte : ℕ → Type 0
IsPrintableByte byte = (byte ≡ 10) ⊎ IsSign byte

-- a text in which nothing but the ends of lines can't be printed
abbrev pub IsPrintable : List ℕ → Type 0
IsPrintable text = All IsPrintableByte text
