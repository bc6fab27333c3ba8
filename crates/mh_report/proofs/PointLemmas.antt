-- Points in the segments of a trace, as it is gone over and as it grows.
use Rattle.std.proofs.Common.{◌≡◌, ℕ, zero, suc, ◌+◌, ◌-◌, ◌<◌, ◌≤◌, List, [], ◌∷◌, ◌++◌, length, replicate, set, get_or, ap, refl, arith, append_assoc}
use Rattle.std.proofs.lemmas.List.{append-nil, replicate-append-replicate}
use Rattle.mh_report.specs.{declared.segment.Segment.Segment, Segments.{letter_of, letters_of, letters_after}}
use Rattle.mh_report.specs.Auxiliary.{IsInside}
use Rattle.mh_report.proofs.{SegmentLemmas.{letters_of_push, letters_of_longer}, WalkLemmas.{alike-parts, length-alike}}

pub inside_list : (segments : List Segment) (number passed : ℕ) → IsInside segments number passed → number < length segments
inside_list [] number passed is = absurd is
inside_list (s ∷ segments) zero passed is = omega arith
inside_list (s ∷ segments) (suc number) passed is = omega (arith, inside_list segments number passed is)

-- what a segment that is read says of a point in it
pub inside_segment : (segments : List Segment) (number passed : ℕ) (other : Segment) → IsInside segments number passed → passed ≤ (get_or segments number other).count
inside_segment [] number passed other is = absurd is
inside_segment (s ∷ segments) zero passed other is = is
inside_segment (s ∷ segments) (suc number) passed other is = inside_segment segments number passed other is

pub is_inside : (segments : List Segment) (number passed : ℕ) (other : Segment) → number < length segments → passed ≤ (get_or segments number other).count → IsInside segments number passed
is_inside [] number passed other there within = absurd (omega arith)
is_inside (s ∷ segments) zero passed other there within = within
is_inside (s ∷ segments) (suc number) passed other there within = is_inside segments number passed other (omega arith) within

-- Over letters ------------------------------------------------------------------------------------

-- so many letters of a segment are passed
pub after_passed : (segments : List Segment) (number passed many : ℕ) (other : Segment) → number < length segments → passed + many ≤ (get_or segments number other).count
    → letters_after segments number passed ≡ replicate many (letter_of (get_or segments number other).unit) ++ letters_after segments number (passed + many)
after_passed [] number passed many other there within = absurd (omega arith)
after_passed (s ∷ segments) zero passed many other there within =
    let left : s.count - passed - many ≡ s.count - (passed + many) = omega arith in
    rw (← left) (alike-parts many (s.count - passed) (letter_of s.unit) (letters_of segments) (omega arith))
after_passed (s ∷ segments) (suc number) passed many other there within = after_passed segments number passed many other (omega arith) within

-- the first point
pub after_first : (segments : List Segment) → letters_after segments 0 0 ≡ letters_of segments
after_first [] = refl
after_first (s ∷ segments) = let all : s.count - 0 ≡ s.count = omega arith in rw all refl

pub inside_first : (segments : List Segment) → 0 < length segments → IsInside segments 0 0
inside_first [] some = absurd (omega arith)
inside_first (s ∷ segments) some = omega arith

-- the point at the end of a segment is that before the next one
pub after_end : (segments : List Segment) (number passed : ℕ) (other : Segment) → suc number < length segments → passed ≡ (get_or segments number other).count
    → letters_after segments number passed ≡ letters_after segments (suc number) 0
after_end [] number passed other there ends = absurd (omega arith)
after_end (s ∷ segments) zero passed other there ends = grind (arith, after_first)
after_end (s ∷ segments) (suc number) passed other there ends = after_end segments number passed other (omega arith) ends

pub inside_next : (segments : List Segment) (number : ℕ) → suc number < length segments → IsInside segments (suc number) 0
inside_next [] number there = absurd (omega arith)
inside_next (s ∷ segments) zero there = inside_first segments (omega arith)
inside_next (s ∷ segments) (suc number) there = inside_next segments number (omega arith)

-- how many letters are left in the last segment
pub after_last : (segments : List Segment) (number passed : ℕ) (other : Segment) → IsInside segments number passed → length segments ≤ suc number → length (letters_after segments number passed) ≤ (get_or segments number other).count - passed
after_last [] number passed other is last = absurd is
after_last (s ∷ []) zero passed other is last = omega (arith, length-alike (s.count - passed) (letter_of s.unit) [])
after_last (s ∷ t ∷ segments) zero passed other is last = absurd (omega arith)
after_last (s ∷ segments) (suc number) passed other is last = after_last segments number passed other is (omega arith)

-- As the trace grows ------------------------------------------------------------------------------

pub inside_pushed : (segments : List Segment) (number passed : ℕ) (segment : Segment) → IsInside segments number passed → IsInside (segments ++ segment ∷ []) number passed
inside_pushed [] number passed segment is = absurd is
inside_pushed (s ∷ segments) zero passed segment is = is
inside_pushed (s ∷ segments) (suc number) passed segment is = inside_pushed segments number passed segment is

pub after_pushed : (segments : List Segment) (number passed : ℕ) (segment : Segment) → IsInside segments number passed
    → letters_after (segments ++ segment ∷ []) number passed ≡ letters_after segments number passed ++ replicate segment.count (letter_of segment.unit)
after_pushed [] number passed segment is = absurd is
after_pushed (s ∷ segments) zero passed segment is = grind (arith, letters_of_push, append_assoc)
after_pushed (s ∷ segments) (suc number) passed segment is = after_pushed segments number passed segment is

pub inside_longer : (segments : List Segment) (at many number passed : ℕ) (last : Segment) → last ≡ get_or segments at last → IsInside segments number passed
    → IsInside (set segments at (record { unit = last.unit; count = last.count + many })) number passed
inside_longer [] at many number passed last read is = absurd is
inside_longer (s ∷ segments) zero many zero passed last read is = omega (arith, is, ap (λ (segment : Segment). segment.count) read)
inside_longer (s ∷ segments) zero many (suc number) passed last read is = is
inside_longer (s ∷ segments) (suc at) many zero passed last read is = is
inside_longer (s ∷ segments) (suc at) many (suc number) passed last read is = inside_longer segments at many number passed last read is

pub after_longer : (segments : List Segment) (at many number passed : ℕ) (last : Segment) → suc at ≡ length segments → last ≡ get_or segments at last → IsInside segments number passed
    → letters_after (set segments at (record { unit = last.unit; count = last.count + many })) number passed ≡ letters_after segments number passed ++ replicate many (letter_of last.unit)
after_longer [] at many number passed last ends read is = absurd is
after_longer (s ∷ []) zero many zero passed last ends read is = grind (arith, append-nil, replicate-append-replicate)
after_longer (s ∷ []) zero many (suc number) passed last ends read is = absurd is
after_longer (s ∷ t ∷ segments) zero many number passed last ends read is = absurd (omega arith)
after_longer (s ∷ segments) (suc at) many zero passed last ends read is = grind (arith, letters_of_longer, append_assoc)
after_longer (s ∷ segments) (suc at) many (suc number) passed last ends read is = after_longer segments at many number passed last (omega arith) read is
