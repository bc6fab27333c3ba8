-- What a heap that lets no object go shows, from what it holds.
use Rattle.std.specs.Prelude.{ℕ, Bool, Option, Some, List, map}
use Rattle.mh_model.specs.{World.{Object, World}, declared.config.Config.Config}

-- the world of a configuration, objects of which none is let go, slots, and whether sessions have ended
abbrev pub plain_world : Config → List Object → List (Option ℕ) → List Bool → World
plain_world config objects slots ended = record { config = config; objects = map Some objects; slots = slots; ended = ended }
