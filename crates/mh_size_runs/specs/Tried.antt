-- Runs of the same events in a heap of so many pages, with each of five triggers.
use Rattle.std.specs.Prelude.{◌≡◌, ℕ, ◌/◌, ◌≤◌, Option, None, IsSome, IsSomeAnd, List, [], ◌∷◌, ◌++◌}
use Rattle.std.specs.List.{AllByRecursion}
use Rattle.mh_model.specs.{declared.command.Event.Event, declared.config.Config.Config, Configs.configured_under}
use Rattle.mh_size_runs.specs.{declared.tried.Tried.Tried, declared.tried.Tried.TheVariants.{Fits, Full}}
use Rattle.mh_size_runs.specs.Full.{first_full}

-- the heap of so many pages with this trigger, and with what a configuration has besides; none outside the limits
abbrev pub heap_with : Config → ℕ → ℕ → Option Config
heap_with config pages trigger = configured_under config.rules pages config.quantum trigger config.every

-- the five triggers of a heap of so many pages, in the order in which they are tried: an eighth, a quarter, a half and all of the pages, and 0, with which
-- the fewest cycles run
abbrev pub triggers_of : ℕ → List ℕ
triggers_of pages = pages / 8 ∷ pages / 4 ∷ pages / 2 ∷ pages ∷ 0 ∷ []

-- no reply to these events is a full heap with this trigger
abbrev pub FitsWith : Config → List Event → ℕ → ℕ → Type 0
FitsWith config events pages trigger = IsSomeAnd (heap_with config pages trigger) (λ heap. first_full heap events ≡ None)

-- some reply is with this trigger, to the event of this number or an earlier one
abbrev pub IsFullBy : Config → List Event → ℕ → ℕ → ℕ → Type 0
IsFullBy config events pages event trigger = IsSomeAnd (heap_with config pages trigger) (λ heap. IsSomeAnd (first_full heap events) (λ first. first ≤ event))

-- some reply is with this trigger
abbrev pub IsFullWith : Config → List Event → ℕ → ℕ → Type 0
IsFullWith config events pages trigger = IsSomeAnd (heap_with config pages trigger) (λ heap. IsSome (first_full heap events))

-- With this trigger so many pages suffice. It is one of the five, and with those that are tried before it they don't
pub record IsFitting (config : Config) (events : List Event) (pages trigger : ℕ) : Type 0 where
  pub before : List ℕ
  pub after : List ℕ
  pub stands : before ++ trigger ∷ after ≡ triggers_of pages
  pub passed : AllByRecursion (IsFullWith config events pages) before
  pub fits : FitsWith config events pages trigger

-- With none of the five they suffice: with each some reply is a full heap, to the event of this number at the latest
pub record IsFull (config : Config) (events : List Event) (pages event : ℕ) : Type 0 where
  pub each : AllByRecursion (IsFullBy config events pages event) (triggers_of pages)
  pub latest : (trigger : ℕ) × IsSomeAnd (heap_with config pages trigger) (λ heap. IsSomeAnd (first_full heap events) (λ first. first ≡ event))

-- What trying the five came to
abbrev pub IsTried : Config → List Event → ℕ → Tried → Type 0
IsTried config events pages (Fits trigger) = IsFitting config events pages trigger
IsTried config events pages (Full event) = IsFull config events pages event
