-- The classes by their numbers.
use Rattle.std.specs.Prelude.{ℕ, suc, ◌==◌, List, [], ◌∷◌, if◌then◌else◌}
use Rattle.mh_model.specs.Classes.{class_sizes}

-- how many of these sizes stand before this one
abbrev pub index_in : List ℕ → ℕ → ℕ
index_in [] size = 0
index_in (other ∷ sizes) size = if other == size then 0 else suc (index_in sizes size)

-- the number of the class of this size: how many classes are smaller
unfoldable pub class_number : ℕ → ℕ
class_number size = index_in class_sizes size
