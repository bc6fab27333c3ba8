-- Paths of references through a world, and when what a heap shows agrees with the ever-growing world.
use Rattle.std.specs.Prelude.{◌≡◌, IsSome, ℕ, Some, List, [], ◌∷◌}
use Rattle.mh_model.specs.World.{Object, World, births, object_at, slot_at, reference_of}

-- the object of a birth has a reference to another
-- from: textbook
abbrev pub Refers : World → ℕ → ℕ → Type 0
Refers world birth target = (field : ℕ) × (reference_of (object_at world birth) field ≡ Some target)

-- some slot names this birth
-- from: textbook
abbrev pub IsNamed : World → ℕ → Type 0
IsNamed world birth = (slot : ℕ) × (slot_at world slot ≡ Some birth)

-- a path to a birth: the births before it on the path, from the nearest back to the first, which a slot names; each has a reference to the next
-- from: textbook
abbrev pub IsPath : World → ℕ → List ℕ → Type 0
IsPath world birth [] = IsNamed world birth
IsPath world birth (nearest ∷ path) = Refers world nearest birth × IsPath world nearest path

-- some path ends at this birth
-- from: textbook
abbrev pub Reachable : World → ℕ → Type 0
Reachable world birth = (path : List ℕ) × IsPath world birth path

-- what a heap shows agrees with the world: configuration, next birth, slots and ended sessions are the same;
-- what it holds is the world's, and it holds what a path of the world reaches. The same relation says what a quantum does to a view: the view after
-- it agrees with the view before it
pub record Agrees (view world : World) : Type 0 where
  pub config : view.config ≡ world.config
  pub next_birth : births view ≡ births world
  pub slots : view.slots ≡ world.slots
  pub ended : view.ended ≡ world.ended
  pub objects : (birth : ℕ) (object : Object) → object_at view birth ≡ Some object → object_at world birth ≡ Some object
  pub reached : (birth : ℕ) → Reachable world birth → IsSome (object_at view birth)
