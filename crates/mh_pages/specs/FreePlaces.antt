-- How many places are free for a class.
use Rattle.std.specs.Prelude.{ℕ, suc, ◌+◌, ◌==◌, if◌then◌else◌, Option, Some, None, List, [], ◌∷◌}
use Rattle.mh_model.specs.{Classes.slots_in, Pages.{Page, Table}}

module _ {X : Type 0} where
  -- how many of these slots have no block
  abbrev pub empty_count : List (Option X) → ℕ
  empty_count [] = 0
  empty_count (None ∷ slots) = suc (empty_count slots)
  empty_count (Some block ∷ slots) = empty_count slots

  -- how many places of a page are free for a class: all slots of a free page, and those without a block of a page of the class
  abbrev pub free_in : ℕ → Option (Page X) → ℕ
  free_in size None = slots_in size
  free_in size (Some page) = if page.class_size == size then empty_count page.slots else 0

  -- how many places of all pages are free for a class
  abbrev pub free_places : Table X → ℕ → ℕ
  free_places [] size = 0
  free_places (page ∷ pages) size = free_in size page + free_places pages size
