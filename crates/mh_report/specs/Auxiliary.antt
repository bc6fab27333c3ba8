-- Auxiliary definitions: what loops, private functions and the insides of types keep. No public contract depends on them.
use Rattle.std.specs.{Prelude.{ℕ, zero, suc, ◌-◌, ◌≤◌, List, [], ◌∷◌, ◌++◌, ◌+◌, ◌≡◌, min, Some, length}, List.Any}
use Rattle.std.specs.List.Sorted.{IsNonDecreasingBy}
use Rattle.mh_model.specs.Trace.{Letter, least_mutator}
use Rattle.mh_report.specs.{declared.segment.Segment.Segment, declared.point.Point.Point, Walk.mutator_units}
use Rattle.mh_report.specs.{declared.walk.Walk.Walk, Segments.letters_of, Points.after}

-- a segment has that number, and as many letters are before a point in it as it has, or fewer
abbrev pub IsInside : List Segment → ℕ → ℕ → Type 0
IsInside [] number passed = ⊥
IsInside (segment ∷ segments) zero passed = passed ≤ segment.count
IsInside (segment ∷ segments) (suc number) passed = IsInside segments number passed

-- a point in these segments
abbrev pub IsPoint : List Segment → Point → Type 0
IsPoint segments point = IsInside segments point.segment point.passed

-- The least in a stretch and in all that follow it: how many it has itself, the letters from its start on, and the letters after its end
abbrev pub least_of_stretch : ℕ → List Letter → List Letter → ℕ
least_of_stretch count leaving [] = count
least_of_stretch count [] (enters ∷ entering) = count
least_of_stretch count (leaves ∷ leaving) (enters ∷ entering) = min count (least_of_stretch (count + mutator_units enters 1 - mutator_units leaves 1) leaving entering)

-- A stretch that has slid on over these letters, and may go on as they grow: how many it has, the least so far, the letters from its start on, and those after its end
pub record HasSlid (window : ℕ) (letters : List Letter) (count least : ℕ) (leaving entering : List Letter) : Type 0 where
  pub below : least ≤ count
  pub is : (more : List Letter) → least_mutator window (letters ++ more) ≡ Some (min least (least_of_stretch count (leaving ++ more) (entering ++ more)))

-- A stretch that slid on over a trace.

-- a walk over these segments
pub record IsWalk (segments : List Segment) (walk : Walk) : Type 0 where
  pub leaving : IsPoint segments walk.leaving
  pub entering : IsPoint segments walk.entering
  pub slid : HasSlid walk.window (letters_of segments) walk.count walk.least (after segments walk.leaving) (after segments walk.entering)
  pub left : walk.end + length (after segments walk.entering) ≡ length (letters_of segments)
  pub long : length (after segments walk.entering) ≤ length (after segments walk.leaving)
  pub count : walk.count ≤ walk.end

-- points keep their letters, and these are added
abbrev pub KeepsPoints : List Segment → List Segment → List Letter → Type 0
KeepsPoints old new letters = (point : Point) → IsPoint old point → IsPoint new point × (after new point ≡ after old point ++ letters)

-- no walk is of a shorter window than one before it
abbrev pub AreInOrder : List Walk → Type 0
AreInOrder walks = IsNonDecreasingBy (λ walk. walk.window) walks

-- one of these walks is of this window
abbrev pub HasWalk : List Walk → ℕ → Type 0
HasWalk walks window = Any (λ walk. walk.window ≡ window) walks
