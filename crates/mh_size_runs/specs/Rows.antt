-- A run in so many pages, with the first of five triggers that gives it room.
use Rattle.std.specs.{Prelude.{◌≡◌, ◌⊎◌, ℕ, IsSome, IsSomeAnd, List, ◌∷◌, ◌++◌}, List.AllByRecursion}
use Rattle.mh_model.specs.declared.{command.Event.Event, config.Config.Config}
use Rattle.mh_size_runs.specs.{declared.rows.PagesOutcome.PagesOutcome, declared.seen.HasRoom.HasRoom}
use Rattle.mh_size_runs.specs.{declared.seen.HasRoom.TheVariants.{Yes, No}, declared.seen.Seen.Seen, Full.first_full}
use Rattle.mh_size_runs.specs.Seen.{MeetsTheLaw, seen_in}
use Rattle.mh_size_runs.specs.Tried.{FitsWith, IsFull, IsFullWith, heap_with, triggers_of}

-- with this trigger some reply is a full heap, or the run has no room
abbrev pub IsPassed : Config → List Event → ℕ → ℕ → ℕ → Type 0
IsPassed config events pages window trigger = IsSomeAnd (heap_with config pages trigger) (λ heap. IsSome (first_full heap events) ⊎ ((seen_in heap events window).room ≡ No))

-- why the triggers before the chosen one were passed over: with none was the run never full and had room. If the chosen one has no room either, it is the
-- first with which the run is never full
abbrev pub WhyPassed : HasRoom → Config → List Event → ℕ → ℕ → ℕ → Type 0
WhyPassed No config events pages window trigger = IsFullWith config events pages trigger
WhyPassed _ config events pages window trigger = IsPassed config events pages window trigger

-- A run in so many pages was looked at with this trigger: it is the first of the five with which the run is never full and has room, or no cycle; or else
-- the first with which it is never full. What was seen is that of the run. If it has room, the premises of the law of room are met
pub record IsChosen (config : Config) (events : List Event) (pages window trigger : ℕ) (seen : Seen) : Type 0 where
  pub before : List ℕ
  pub after : List ℕ
  pub stands : before ++ trigger ∷ after ≡ triggers_of pages
  pub fits : FitsWith config events pages trigger
  pub seen_is : IsSomeAnd (heap_with config pages trigger) (λ heap. seen ≡ seen_in heap events window)
  pub law : seen.room ≡ Yes → IsSomeAnd (heap_with config pages trigger) (λ heap. MeetsTheLaw heap events seen.quanta)
  pub passed : AllByRecursion (WhyPassed seen.room config events pages window) before
  pub later : seen.room ≡ No → AllByRecursion (IsPassed config events pages window) after

-- What looking at a run in so many pages came to
abbrev pub IsOutcome : Config → List Event → ℕ → ℕ → PagesOutcome → Type 0
IsOutcome config events pages window (PagesOutcome.Fits trigger seen) = IsChosen config events pages window trigger seen
IsOutcome config events pages window (PagesOutcome.Full event) = IsFull config events pages event
