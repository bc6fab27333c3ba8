-- What a heap that never collects shows, and that a quantum of it which changes nothing shows what it should.
use Rattle.std.proofs.{Common.{◌≡◌, IsSome, ℕ, ◌≤◌, List, [], ◌∷◌, refl, sym, subst}, Math.Nat.{le_refl, le-suc}}
use Rattle.mh_model.specs.{World.{World, IsClosed, never_full, object_at}, Paths.{Agrees, IsPath}}
use Rattle.mh_heap.specs.Shown.{Showing, ShowsQuantum}

-- what such a heap shows: there is always a place, no cycle begins, and a quantum spends nothing
abbrev pub plain_showing : World → Showing
plain_showing world = record { view = world; is_full = never_full; number = 0; limit = 0 }

-- where a path leads in a closed world there is an object
reached_there : (world : World) → IsClosed world → (birth : ℕ) (path : List ℕ) → IsPath world birth path → IsSome (object_at world birth)
reached_there world closed birth [] named = closed.slots named.0 birth named.1
reached_there world closed birth (nearest ∷ path) (refers, before) = closed.references nearest refers.0 birth refers.1

-- a closed world agrees with itself
pub agrees_itself : (world : World) → IsClosed world → Agrees world world
agrees_itself world closed = record {
  config = refl;
  next_birth = refl;
  slots = refl;
  ended = refl;
  objects = λ birth object is. is;
  reached = λ birth reachable. reached_there world closed birth reachable.0 reachable.1;
}

-- a quantum that spends nothing and leaves a closed world as it was
pub unchanged_shows : (old new : World) (units : ℕ) → IsClosed old → units ≡ 0 → new ≡ old → ShowsQuantum (plain_showing old) units (plain_showing new)
unchanged_shows old new units closed none same = record {
  view = subst (λ world. Agrees world old) (sym same) (agrees_itself old closed);
  spent = subst (λ n. n ≤ 0) (sym none) (le_refl 0);
  number = le_refl 0;
  one = le-suc 0;
  limit = refl;
}
