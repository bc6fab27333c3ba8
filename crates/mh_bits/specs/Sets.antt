-- Sets of page numbers, which are below 4,096, one after another in a list of bits.
use Rattle.std.specs.Prelude.{◌≡◌, ◌<◌, ℕ, ◌+◌, ◌*◌, Bool, true, false, List, get_or, replicate}

-- whether a set has a number
abbrev pub has_member : List Bool → ℕ → ℕ → Bool
has_member sets set member = get_or sets (4096 * set + member) false

-- so many sets without a number
unfoldable pub empty_sets : ℕ → List Bool
empty_sets count = replicate (4096 * count) false

-- a set has no number
abbrev pub IsEmptySet : List Bool → ℕ → Type 0
IsEmptySet sets set = (member : ℕ) → member < 4096 → has_member sets set member ≡ false

-- the least number of a set
pub record IsLeastMember (sets : List Bool) (set : ℕ) (member : ℕ) : Type 0 where
  pub within : member < 4096
  pub is_member : has_member sets set member ≡ true
  pub none_below : (other : ℕ) → other < member → has_member sets set other ≡ false

-- a set has a number below this one
abbrev pub HasLower : List Bool → ℕ → ℕ → Type 0
HasLower sets set below = (member : ℕ) × (member < 4096) × (member < below) × (has_member sets set member ≡ true)

-- a set has no number below this one
abbrev pub HasNoLower : List Bool → ℕ → ℕ → Type 0
HasNoLower sets set below = (member : ℕ) → member < 4096 → member < below → has_member sets set member ≡ false
