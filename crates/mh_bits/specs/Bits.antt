-- The bits of words.
use Rattle.std.specs.{Prelude.{◌≡◌, ◌<◌, ◌≤◌, ℕ, ◌==◌, Bool, List, length, get_or}, Int.bit_at}

-- whether a bit of a word is set
abbrev pub has_bit : ℕ → ℕ → Bool
has_bit word i = bit_at word i == 1

-- the words from one on to before another are 0, and the others are as they were
pub record IsZeroed (old new : List ℕ) (first end : ℕ) : Type 0 where
  pub lengths : length new ≡ length old
  pub zeros : (i : ℕ) → first ≤ i → i < end → get_or new i 0 ≡ 0
  pub before : (i : ℕ) → i < first → get_or new i 0 ≡ get_or old i 0
  pub after : (i : ℕ) → end ≤ i → get_or new i 0 ≡ get_or old i 0
