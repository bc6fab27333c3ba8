-- The windows of a trace, and the points of them one after another.
use Rattle.std.proofs.Common.{◌≡◌, ◌≢◌, ◌∙◌, ◌==◌, ℕ, zero, suc, ◌+◌, ◌<◌, ◌≤◌, Bool, true, false, nat_lt, if◌then◌else◌, List, [], ◌∷◌, ◌++◌, length, map, ap, sym, refl, append_assoc, arith}
use Rattle.std.proofs.lemmas.Bool.Decides.{nat_tests}
use Rattle.std.specs.{Prelude.{Option, Some, None, IsSome, unwrap_or}, List.All}
use Rattle.mh_model.specs.declared.config.Config.{Config}
use Rattle.mh_model.specs.Trace.{Letter, M, C, mutator_count, collector_count, least_mutator}
use Rattle.mh_report.specs.Windows.{next_window}
use Rattle.mh_window_curve.specs.declared.point.CurvePoint.{CurvePoint}
use Rattle.mh_window_curve.specs.Points.{HasLeast, point_at, points_of, windows, windows_from}

-- the units of the mutator and of the quanta are all letters
pub counts_length : (letters : List Letter) → mutator_count letters + collector_count letters ≡ length letters
counts_length [] = refl
counts_length (M ∷ letters) = omega (arith, counts_length letters)
counts_length (C ∷ letters) = omega (arith, counts_length letters)

pub windows-none : (letters : ℕ) → letters ≡ 0 → windows letters ≡ []
windows-none letters none = rw none refl

pub windows-some : (letters : ℕ) → letters ≢ 0 → windows letters ≡ windows_from letters 1 letters
windows-some letters some =
    let is : (letters == 0) ≡ false = grind (arith, nat_tests) in
    ap (λ (b : Bool). if b then [] else windows_from letters 1 letters) is

pub windows-more : (most window letters : ℕ) → window < letters → windows_from (suc most) window letters ≡ window ∷ windows_from most (next_window window) letters
windows-more most window letters short =
    let is : nat_lt window letters ≡ true = grind (arith, nat_tests) in
    ap (λ (b : Bool). if b then window ∷ windows_from most (next_window window) letters else letters ∷ []) is

pub windows-last : (most window letters : ℕ) → letters ≤ window → windows_from most window letters ≡ letters ∷ []
windows-last zero window letters long = refl
windows-last (suc most) window letters long =
    let is : nat_lt window letters ≡ false = grind (arith, nat_tests) in
    ap (λ (b : Bool). if b then window ∷ windows_from most (next_window window) letters else letters ∷ []) is

-- these are the first points, and with those of the windows from one on they are all
pub record HasPoints (point_of : ℕ → CurvePoint) (letters window : ℕ) (points all : List CurvePoint) : Type 0 where
  pub most : ℕ
  pub enough : letters ≤ window + most
  pub whole : points ++ map point_of (windows_from most window letters) ≡ all

module _ (point_of : ℕ → CurvePoint) (letters : ℕ) where
  pub points_none : HasPoints point_of letters 1 [] (map point_of (windows_from letters 1 letters))
  points_none = record { most = letters; enough = omega arith; whole = refl }

  pub points_more : (window : ℕ) (points points' all : List CurvePoint) → HasPoints point_of letters window points all → window < letters → points' ≡ points ++ point_of window ∷ [] → HasPoints point_of letters (next_window window) points' all
  points_more window points points' all has short pushed = by has.most has.enough has.whole where
    by : (most : ℕ) → letters ≤ window + most → points ++ map point_of (windows_from most window letters) ≡ all → HasPoints point_of letters (next_window window) points' all
    by zero enough whole = absurd (omega (arith, enough, short))
    by (suc most) enough whole = record {
      most = most;
      enough = omega (arith, enough);
      whole = ap (λ (ps : List CurvePoint). ps ++ map point_of (windows_from most (next_window window) letters)) pushed
          ∙ (append_assoc points (point_of window ∷ []) (map point_of (windows_from most (next_window window) letters))
          ∙ (ap (λ (ws : List ℕ). points ++ map point_of ws) (sym (windows-more most window letters short)) ∙ whole));
    }

  pub points_all : (window : ℕ) (points points' all : List CurvePoint) → HasPoints point_of letters window points all → letters ≤ window → points' ≡ points ++ point_of letters ∷ [] → points' ≡ all
  points_all window points points' all has long pushed = pushed ∙ (ap (λ (ws : List ℕ). points ++ map point_of ws) (sym (windows-last has.most window letters long)) ∙ has.whole)

-- Least shares -----------------------------------------------------------------------------------

least_some : (window : ℕ) (letters : List Letter) → window ≤ length letters → IsSome (least_mutator window letters)
least_some window [] short = let zero : window ≡ 0 = omega arith in rw zero refl
least_some window (letter ∷ letters) short =
    let is : nat_lt (suc (length letters)) window ≡ false = grind (arith, nat_tests) in
    rw is refl

some-is : (found : Option ℕ) → IsSome found → found ≡ Some (unwrap_or found 0)
some-is None some = cc
some-is (Some number) some = refl

all_cons : {X : Type 0} (P : X → Type 0) (x : X) (xs : List X) → P x → All P xs → All P (x ∷ xs)
all_cons P x xs first rest zero d below = first
all_cons P x xs first rest (suc k) d below = rest k d (omega (arith, below))

all_none : {X : Type 0} (P : X → Type 0) → All P []
all_none P k d below = absurd (omega (arith, below))

-- the window of each point is no longer than the trace, which has a least number of units of the mutator in it
module _ (config : Config) (letters : List Letter) where
  met : (window : ℕ) → window ≤ length letters → HasLeast letters (point_at config letters window)
  met window short = some-is (least_mutator window letters) (least_some window letters short)

  met_from : (most window : ℕ) → All (HasLeast letters) (map (point_at config letters) (windows_from most window (length letters)))
  met_from zero window = all_cons (HasLeast letters) (point_at config letters (length letters)) [] (met (length letters) (omega arith)) (all_none (HasLeast letters))
  met_from (suc most) window = by (nat_lt window (length letters)) refl (met_from most (next_window window)) where
    by : (b : Bool) → nat_lt window (length letters) ≡ b → All (HasLeast letters) (map (point_at config letters) (windows_from most (next_window window) (length letters)))
        → All (HasLeast letters) (map (point_at config letters) (if b then window ∷ windows_from most (next_window window) (length letters) else length letters ∷ []))
    by true is more =
        let short : window < length letters = grind (arith, nat_tests) in
        all_cons (HasLeast letters) (point_at config letters window) (map (point_at config letters) (windows_from most (next_window window) (length letters))) (met window (omega (arith, short))) more
    by false is more = all_cons (HasLeast letters) (point_at config letters (length letters)) [] (met (length letters) (omega arith)) (all_none (HasLeast letters))

  pub points_met : All (HasLeast letters) (points_of config letters)
  points_met = by (length letters == 0) where
    by : (b : Bool) → All (HasLeast letters) (map (point_at config letters) (if b then [] else windows_from (length letters) 1 (length letters)))
    by true = all_none (HasLeast letters)
    by false = met_from (length letters) 1
