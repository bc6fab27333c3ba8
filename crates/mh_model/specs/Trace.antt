-- The trace of a run in units of the mutator and the collector; and the least share of the mutator in its windows (Cheng and Blelloch 2001).
use Rattle.std.specs.Prelude.{ℕ, suc, ◌+◌, ◌-◌, ◌*◌, ◌/◌, ◌%◌, ◌==◌, nat_lt, min, max, if◌then◌else◌, Option, Some, None, List, [], ◌∷◌, ◌++◌, length, map, replicate, take}

-- a letter for each unit of the mutator, and for each that a quantum spent
-- from: Cheng and Blelloch, in units
pub data Letter : Type 0 where
  M C : Letter

-- the letters in order, how many quanta were run, and the most units that one of them spent; at first nothing
-- from: Cheng and Blelloch, in units
pub record TraceState : Type 0 where
  pub letters : List Letter
  pub quanta : ℕ
  pub greatest : ℕ

abbrev pub first_trace : TraceState
first_trace = record { letters = []; quanta = 0; greatest = 0 }

-- a trace with so many units of the mutator more
-- from: Cheng and Blelloch, in units
abbrev pub with_mutator : TraceState → ℕ → TraceState
with_mutator trace units = record trace { letters = trace.letters ++ replicate units M }

-- a trace with one quantum more, which spent so many units
-- from: Cheng and Blelloch, in units
abbrev pub with_spent : TraceState → ℕ → TraceState
with_spent trace units = record { letters = trace.letters ++ replicate units C; quanta = trace.quanta + 1; greatest = max trace.greatest units }

-- how many of these letters are units of the mutator, and how many are units that quanta spent
-- from: Cheng and Blelloch, in units
abbrev pub mutator_count : List Letter → ℕ
mutator_count [] = 0
mutator_count (M ∷ letters) = suc (mutator_count letters)
mutator_count (C ∷ letters) = mutator_count letters

abbrev pub collector_count : List Letter → ℕ
collector_count [] = 0
collector_count (M ∷ letters) = collector_count letters
collector_count (C ∷ letters) = suc (collector_count letters)

-- every stretch of a length, in order
-- from: Cheng and Blelloch
abbrev pub stretches : ℕ → List Letter → List (List Letter)
stretches window [] = if window == 0 then [] ∷ [] else []
stretches window (letter ∷ letters) = if nat_lt (suc (length letters)) window then [] else take window (letter ∷ letters) ∷ stretches window letters

-- the lesser of a number and another, if there is another
abbrev pub lesser : ℕ → Option ℕ → ℕ
lesser number None = number
lesser number (Some other) = min number other

-- the least of some numbers, if there are any
abbrev pub least_of : List ℕ → Option ℕ
least_of [] = None
least_of (number ∷ numbers) = Some (lesser number (least_of numbers))

-- the least number of units of the mutator in any stretch of a length; there is none if the trace is shorter
-- from: Cheng and Blelloch
abbrev pub least_mutator : ℕ → List Letter → Option ℕ
least_mutator window letters = least_of (map mutator_count (stretches window letters))

-- what each stretch of a length has at least of the mutator's units under the scheduler: a quantum of at most k units is run after each m of them
abbrev pub floor : ℕ → ℕ → ℕ → ℕ
floor m k window = m * (window / (m + k)) + (window % (m + k) - k)
