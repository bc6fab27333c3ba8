-- What is asked of a block without a look at its words: whether it is marked, and whether it is a forwarder.
use Rattle.std.specs.Prelude.{ℕ, Bool, false, not, ◌||◌, Option, Some, None}
use Rattle.mh_model.specs.{Table.{Block, is_forwarder}, Collector.is_marked}

-- whether a sweep frees what is at a place: a forwarder, or a block that isn't marked
abbrev pub is_dead : ℕ → Option Block → Bool
is_dead cycle None = false
is_dead cycle (Some block) = is_forwarder block || not (is_marked cycle block)
