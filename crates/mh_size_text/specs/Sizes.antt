-- The sizes of a script.
use Rattle.std.specs.{Prelude.{ℕ, ◌*◌, min, List}, Int.div_ceil}
use Rattle.mh_model.specs.declared.{command.Event.Event, config.Config.Config}
use Rattle.mh_size_runs.specs.{Fewest.IsFewest, Live.IsLive, Rows.IsOutcome, declared.edge.Fewest.Fewest}
use Rattle.mh_size_text.specs.declared.sizes.{Heaps.Heaps, Heaps.TheVariants.{Found, Nowhere}, Rows.Rows, Sizes.Sizes}
use Rattle.mh_size_text.specs.declared.sizes.Times.{Times}
use Rattle.mh_size_text.specs.declared.sizes.Times.TheVariants.{One, OneAndAQuarter, OneAndAHalf, Two, Three}

-- how many times the fewest pages, in quarters
abbrev pub quarters_of : Times → ℕ
quarters_of One = 4
quarters_of OneAndAQuarter = 5
quarters_of OneAndAHalf = 6
quarters_of Two = 8
quarters_of Three = 12

-- so many times the fewest pages, rounded up, and 4,096 at most
abbrev pub pages_in : ℕ → Times → ℕ
pages_in pages times = min (div_ceil (pages * quarters_of times) 4) 4096

-- what looking at the run in so many times the fewest pages came to
pub record AreRows (config : Config) (events : List Event) (window pages : ℕ) (rows : Rows) : Type 0 where
  pub one : IsOutcome config events (pages_in pages One) window rows.one
  pub one_and_a_quarter : IsOutcome config events (pages_in pages OneAndAQuarter) window rows.one_and_a_quarter
  pub one_and_a_half : IsOutcome config events (pages_in pages OneAndAHalf) window rows.one_and_a_half
  pub two : IsOutcome config events (pages_in pages Two) window rows.two
  pub three : IsOutcome config events (pages_in pages Three) window rows.three

-- the fewest pages that the search found, with the rows; or the most don't suffice
abbrev pub AreHeaps : Config → List Event → ℕ → Heaps → Type 0
AreHeaps config events window (Found edge rows) = IsFewest config events (Fewest.Found edge) × AreRows config events window edge.pages rows
AreHeaps config events window (Nowhere event) = IsFewest config events (Fewest.Nowhere event)

-- What is live in a run of these events, and its heaps, with what is seen in windows of this length
pub record AreSizes (config : Config) (events : List Event) (window : ℕ) (sizes : Sizes) : Type 0 where
  pub live : IsLive config events sizes.live
  pub heaps : AreHeaps config events window sizes.heaps
