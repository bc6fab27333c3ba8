-- The fewest pages that a search found in which a run has no full heap.
use Rattle.std.specs.Prelude.{◌≡◌, ◌-◌, MatchOption, List}
use Rattle.mh_model.specs.declared.{command.Event.Event, config.Config.Config}
use Rattle.mh_size_runs.specs.{declared.edge.Edge.Edge, declared.edge.Fewest.Fewest}
use Rattle.mh_size_runs.specs.{declared.edge.Fewest.TheVariants.{Found, Nowhere}, Tried.{IsFitting, IsFull}}

-- So many pages suffice with a trigger, and one page less does with none of five, or is none. Pages that suffice needn't go on to do so as they grow, so
-- fewer may suffice farther down, and so may fewer with another trigger
pub record IsEdge (config : Config) (events : List Event) (edge : Edge) : Type 0 where
  pub fits : IsFitting config events edge.pages edge.trigger
  pub below : MatchOption edge.below (edge.pages ≡ 1) (IsFull config events (edge.pages - 1))

-- What the search came to: such pages, or the most pages don't suffice
abbrev pub IsFewest : Config → List Event → Fewest → Type 0
IsFewest config events (Found edge) = IsEdge config events edge
IsFewest config events (Nowhere event) = IsFull config events 4096 event
