-- Words that are numbers.
use Rattle.std.specs.Prelude.{ℕ, nat_le, if◌then◌else◌, Option, None, List, length}
use Rattle.mh_model.specs.Bytes.{Text, numbers}

-- the numbers of words that are four at most
abbrev pub few_numbers : List Text → Option (List ℕ)
few_numbers words = if nat_le (length words) 4 then numbers words else None
