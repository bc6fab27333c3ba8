-- Bytes of a line that are out of place.
use Rattle.std.specs.Prelude.{◌≡◌, ℕ, suc, ◌-◌, ◌<◌, nat_lt, Bool, ◌||◌, Some, None, length, slice_index, find}
use Rattle.mh_model.specs.Bytes.{Text}
use Rattle.mh_reasons.specs.declared.byte_fault.{ByteFault.ByteFault, ByteFault.TheVariants.{Stray, Space}}
use Rattle.mh_reasons.specs.declared.byte_fault.{SpacePlace.SpacePlace, SpacePlace.TheVariants.{Start, End, Twice}}

-- no printable ASCII
abbrev pub is_stray : ℕ → Bool
is_stray byte = nat_lt byte 32 || nat_lt 126 byte

-- two bytes stand side by side
pub record HasPair (line : Text) (first second : ℕ) : Type 0 where
  pub place : ℕ
  pub within : suc place < length line
  pub left : slice_index line place ≡ first
  pub right : slice_index line (suc place) ≡ second

-- a space that doesn't stand between two words: at the start, at the end, or after another
abbrev pub HasSpace : Text → SpacePlace → Type 0
HasSpace line Start = slice_index line 0 ≡ 32
HasSpace line End = slice_index line (length line - 1) ≡ 32
HasSpace line Twice = HasPair line 32 32

-- no space before these places
abbrev pub HasNoneBefore : Text → SpacePlace → Type 0
HasNoneBefore line Start = Unit {0}
HasNoneBefore line End = ¬ HasSpace line Start
HasNoneBefore line Twice = (¬ HasSpace line Start) × (¬ HasSpace line End)

-- each space stands between two words
pub record IsSpaced (line : Text) : Type 0 where
  pub start : ¬ HasSpace line Start
  pub end : ¬ HasSpace line End
  pub once : ¬ HasSpace line Twice

-- each byte is printable, and each space between two words
pub record IsPlain (line : Text) : Type 0 where
  pub printable : find is_stray line ≡ None
  pub spaced : IsSpaced line

-- The first byte that is no printable ASCII; if there is none, the first space that is out of place
abbrev pub HasByteFault : Text → ByteFault → Type 0
HasByteFault line (Stray byte) = find is_stray line ≡ Some byte
HasByteFault line (Space place) = (find is_stray line ≡ None) × HasSpace line place × HasNoneBefore line place
