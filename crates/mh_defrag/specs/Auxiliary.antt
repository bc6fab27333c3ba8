-- Auxiliary definitions: what loops, private functions and the insides of types keep. No public contract depends on them.
use Rattle.std.specs.Prelude.{◌≡◌, ℕ, ◌+◌, ◌<◌, false}
use Rattle.mh_model.specs.{Pages.{Table, flag_at}, Table.Block}

-- so many pages from one on are free or not flagged
abbrev pub AreUnflagged : Table Block → ℕ → ℕ → Type 0
AreUnflagged table first count = (k : ℕ) → k < count → flag_at table (first + k) ≡ false
