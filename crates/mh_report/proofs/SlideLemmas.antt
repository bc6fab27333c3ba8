-- What passes as a stretch slides over letters that are alike.
use Rattle.std.proofs.Common.{◌≡◌, ℕ, zero, suc, ◌-◌, ◌<◌, ◌≤◌, List, [], ◌∷◌, ◌++◌, drop, length, replicate, ap, refl, arith}
use Rattle.mh_model.specs.Trace.{Letter}
use Rattle.mh_report.specs.{declared.segment.Segment.Segment, Segments.letters_of}
use Rattle.mh_report.specs.Slides.{Passing, alike, passings, passings_of}
use Rattle.mh_report.proofs.WalkLemmas.{alike-parts}

passings-alike : (n : ℕ) (leaves enters : Letter) (leaving entering : List Letter) → passings (replicate n leaves ++ leaving) (replicate n enters ++ entering) ≡ alike n leaves enters ++ passings leaving entering
passings-alike zero leaves enters leaving entering = refl
passings-alike (suc n) leaves enters leaving entering = ap (λ (ps : List Passing). record { leaves = leaves; enters = enters } ∷ ps) (passings-alike n leaves enters leaving entering)

-- some of the letters alike that enter
pub passings_some : (n many : ℕ) (leaves enters : Letter) (before leaving rest : List Letter) → before ≡ replicate n leaves ++ leaving → n ≤ many
    → passings before (replicate many enters ++ rest) ≡ alike n leaves enters ++ passings leaving (replicate (many - n) enters ++ rest)
passings_some n many leaves enters before leaving rest is small =
    rw (is, alike-parts n many enters rest small) (passings-alike n leaves enters leaving (replicate (many - n) enters ++ rest))

-- nothing passes without letters
pub passings_none : (window : ℕ) (letters : List Letter) → length letters ≤ 0 → passings_of window letters ≡ []
passings_none window [] none = by (drop window []) where
  by : (entering : List Letter) → passings [] entering ≡ []
  by [] = refl
  by (enters ∷ entering) = refl
passings_none window (letter ∷ letters) none = absurd (omega arith)

-- where there are letters there is a segment
pub some_segment : (segments : List Segment) → 0 < length (letters_of segments) → 0 < length segments
some_segment [] some = absurd (omega (arith, some))
some_segment (segment ∷ segments) some = omega arith
