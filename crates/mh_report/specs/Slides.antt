-- A stretch of one length that slides on over a trace: at each step a letter leaves it at its start, and one enters it at its end.
use Rattle.std.specs.Prelude.{ℕ, List, [], ◌∷◌, drop, replicate}
use Rattle.mh_model.specs.Trace.{Letter}

pub record Passing : Type 0 where
  pub leaves : Letter
  pub enters : Letter

-- what passes until the stretch is at the end, by the letters from its start on and those after its end
abbrev pub passings : List Letter → List Letter → List Passing
passings leaving [] = []
passings [] (enters ∷ entering) = []
passings (leaves ∷ leaving) (enters ∷ entering) = record { leaves = leaves; enters = enters } ∷ passings leaving entering

-- what passes from the first stretch of a length to the last
abbrev pub passings_of : ℕ → List Letter → List Passing
passings_of window letters = passings letters (drop window letters)

-- so many steps alike
abbrev pub alike : ℕ → Letter → Letter → List Passing
alike count leaves enters = replicate count (record { leaves = leaves; enters = enters })
