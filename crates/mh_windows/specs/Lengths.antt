-- The pauses of a trace by their lengths, and percentiles of these.
use Rattle.std.proofs.{Common.{◌∙◌, ap, append_assoc, sym, refl}, lemmas.List.map-append}
use Rattle.std.specs.Prelude.{◌≡◌, ℕ, zero, suc, ◌+◌, ◌*◌, ◌<◌, ◌≤◌, nat_le, count_by, Option, MatchOption, List, [], ◌∷◌, ◌++◌, length, map, replicate}
use Rattle.std.specs.List.{Contains}
use Rattle.mh_model.specs.Trace.{Letter, M, C}
use Rattle.mh_report.specs.Slides.{Passing}
use Rattle.mh_windows.specs.declared.pauses.{PauseCounts.PauseCounts, PauseCount.PauseCount}

-- so many units of the collector in a row are a pause, if there are any
abbrev pub pause_of : ℕ → List ℕ
pause_of zero = []
pause_of (suc more) = suc more ∷ []

-- the lengths of the pauses, in order, where so many units of the collector stand before these letters
abbrev pub pauses_after : ℕ → List Letter → List ℕ
pauses_after here [] = pause_of here
pauses_after here (M ∷ letters) = pause_of here ++ pauses_after 0 letters
pauses_after here (C ∷ letters) = pauses_after (suc here) letters

-- the lengths of all pauses, in order
abbrev pub pauses_of : List Letter → List ℕ
pauses_of letters = pauses_after 0 letters

-- no unit of the collector stands first
abbrev pub EndsPause : List Letter → Type 0
EndsPause [] = Unit {0}
EndsPause (M ∷ letters) = Unit {0}
EndsPause (C ∷ letters) = ⊥

-- the letters are gaps and pauses of these lengths in turn. A gap is units of the mutator, and one at least between two pauses
abbrev pub AreInTurn : List Letter → List ℕ → Type 0
AreInTurn letters [] = (gap : ℕ) × (letters ≡ replicate gap M)
AreInTurn letters (units ∷ lengths) = (gap : ℕ) × (rest : List Letter) × (letters ≡ replicate gap M ++ (replicate units C ++ rest)) × (0 < units) × EndsPause rest × AreInTurn rest lengths

-- how many pauses have so many units at most
abbrev pub within : ℕ → List ℕ → ℕ
within bound lengths = count_by (λ units. nat_le units bound) lengths

-- so many hundredths of the pauses have so many units at most
abbrev pub CoversPart : ℕ → List ℕ → ℕ → Type 0
CoversPart part lengths bound = part * length lengths ≤ 100 * within bound lengths

-- the least length that so many hundredths of the pauses don't exceed. One of them is so long
pub record IsPercentile (part : ℕ) (lengths : List ℕ) (units : ℕ) : Type 0 where
  pub covers : CoversPart part lengths units
  pub least : (bound : ℕ) → CoversPart part lengths bound → units ≤ bound
  pub is_length : Contains lengths units

-- a percentile of the pauses, and none exactly if there is no pause
abbrev pub IsPercentileIfAny : ℕ → List ℕ → Option ℕ → Type 0
IsPercentileIfAny part lengths percentile = MatchOption percentile (lengths ≡ []) (IsPercentile part lengths)

-- how many pauses there are, and three percentiles of their lengths
pub record AreCounts (letters : List Letter) (counts : PauseCounts) : Type 0 where
  pub pauses : counts.pauses ≡ length (pauses_of letters)
  pub median : IsPercentileIfAny 50 (pauses_of letters) counts.median
  pub p90 : IsPercentileIfAny 90 (pauses_of letters) counts.p90
  pub p99 : IsPercentileIfAny 99 (pauses_of letters) counts.p99

-- the bound; so many of the last letters are the collector's; the pauses that ended before them; and how many letters are to come
pub record CountState : Type 0 where
  pub bound : ℕ
  pub here : ℕ
  pub tally : PauseCount
  pub left : ℕ

-- the letters that leave
abbrev pub letters_left : List Passing → List Letter
letters_left passed = map (λ (p : Passing). p.leaves) passed

-- whatever comes next, the pauses counted and those to come are as many after these letters as before them
pub record CountsOn (old : CountState) (passed : List Passing) (new : CountState) : Type 0 where
  pub bound : new.bound ≡ old.bound
  pub pauses : (rest : List Letter) → new.tally.pauses + length (pauses_after new.here rest) ≡ old.tally.pauses + length (pauses_after old.here (letters_left passed ++ rest))
  pub within : (rest : List Letter) → new.tally.within + within new.bound (pauses_after new.here rest) ≡ old.tally.within + within old.bound (pauses_after old.here (letters_left passed ++ rest))

-- Rules ------------------------------------------------------------------------------------------

pub counts_still : (s : CountState) → CountsOn s [] s
counts_still s = record { bound = refl; pauses = λ rest. refl; within = λ rest. refl }

pub counts_onward : (old mid new : CountState) (before after : List Passing) → CountsOn old before mid → CountsOn mid after new → CountsOn old (before ++ after) new
counts_onward old mid new before after first last = record {
  bound = last.bound ∙ first.bound;
  pauses = λ rest. last.pauses rest ∙ first.pauses (letters_left after ++ rest) ∙ ap (λ letters. old.tally.pauses + length (pauses_after old.here letters)) (joined rest);
  within = λ rest. last.within rest ∙ first.within (letters_left after ++ rest) ∙ ap (λ letters. old.tally.within + within old.bound (pauses_after old.here letters)) (joined rest);
} where
  joined : (rest : List Letter) → letters_left before ++ (letters_left after ++ rest) ≡ letters_left (before ++ after) ++ rest
  joined rest = sym (append_assoc (letters_left before) (letters_left after) rest) ∙ ap (λ letters. letters ++ rest) (sym (map-append (λ (p : Passing). p.leaves) before after))
