-- Auxiliary definitions: what loops, private functions and the insides of types keep. No public contract depends on them.
use Rattle.std.specs.Prelude.{◌≡◌, ◌<◌, ◌≤◌, ℕ, ◌*◌, ◌/◌, ◌%◌, ◌==◌, Bool, List, length, get_or, not}
use Rattle.mh_model.specs.Classes.{tabulate}
use Rattle.mh_bits.specs.Bits.{has_bit}

-- whether a bit of words is set, of which each has 64, the lowest first
abbrev pub has_bit_among : List ℕ → ℕ → Bool
has_bit_among words i = has_bit (get_or words (i / 64) 0) (i % 64)

-- the bits of words in order
unfoldable pub bits_of : List ℕ → List Bool
bits_of words = tabulate (has_bit_among words) 0 (64 * length words)

-- each set has 64 words and a summary, in which a bit is set for each word that isn't 0
pub record IsSummed (words summaries : List ℕ) : Type 0 where
  pub counts : length words ≡ 64 * length summaries
  pub few : length summaries ≤ 4096
  pub sums : (k : ℕ) → k < length words → has_bit_among summaries k ≡ not (get_or words k 0 == 0)
