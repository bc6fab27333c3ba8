-- Auxiliary definitions: what loops, private functions and the insides of types keep. No public contract depends on them.
use Rattle.std.specs.Prelude.{◌≡◌, ℕ, ◌*◌, ◌<◌, ◌≤◌, true, List}
use Rattle.mh_model.specs.Batches.{NoneTwice}
use Rattle.mh_grey.specs.Queue.{is_in}

-- no place stands twice; each is one of the pages, of which there are at most 4,096; and there is room for one entry a place
pub record IsQueue (items : List ℕ) (capacity pages : ℕ) : Type 0 where
  pub once : NoneTwice items
  pub below : (place : ℕ) → is_in place items ≡ true → place < 64 * pages
  pub room : capacity ≡ 64 * pages
  pub few : pages ≤ 4096
