-- Pauses are counted as they end, and a percentile of their lengths is one of them.
use Rattle.std.proofs.Common.{◌≡◌, ◌∙◌, ◌⊎◌, inl, inr, ℕ, zero, suc, ◌+◌, ◌-◌, ◌*◌, ◌<◌, ◌≤◌, nat_le, nat_lt, ◌==◌, cond, Bool, true, false, List, [], ◌∷◌, ◌++◌, drop, length, replicate, take, ap, append-nil, drop-drop, drop_at, sym, refl, subst, arith}
use Rattle.std.proofs.{lemmas.Bool.Decides.nat_tests, lemmas.List.{length-append, length-replicate, take_at}}
use Rattle.std.proofs.{lemmas.List.Sums.{sum_by-append, sum_by-cons}, lemmas.Nat.mul-le}
use Rattle.std.specs.List.{Contains}
use Rattle.mh_model.specs.Trace.{Letter, M, C, mutator_count}
use Rattle.mh_report.specs.Slides.{alike, passings, passings_of}
use Rattle.mh_run_laws.specs.Windows.{units_in}
use Rattle.mh_windows.specs.{declared.pause.Pause.Pause, declared.pauses.PauseCount.PauseCount, Pauses.IsLongest}
use Rattle.mh_windows.specs.Lengths.{AreInTurn, CountState, CountsOn, CoversPart, IsPercentile, letters_left, pause_of, pauses_after, pauses_of, within}

-- Counting ---------------------------------------------------------------------------------------

left_alike : (n : ℕ) (leaves enters : Letter) → letters_left (alike n leaves enters) ≡ replicate n leaves
left_alike zero leaves enters = refl
left_alike (suc n) leaves enters = ap (λ letters. leaves ∷ letters) (left_alike n leaves enters)

all_leave : (letters : List Letter) → letters_left (passings letters letters) ≡ letters
all_leave [] = refl
all_leave (letter ∷ letters) = ap (λ later. letter ∷ later) (all_leave letters)

-- more of the collector
more_here : (n here : ℕ) (rest : List Letter) → pauses_after here (replicate n C ++ rest) ≡ pauses_after (here + n) rest
more_here zero here rest = let same : here ≡ here + 0 = omega arith in ap (λ h. pauses_after h rest) same
more_here (suc n) here rest = let same : suc here + n ≡ here + suc n = omega arith in more_here n (suc here) rest ∙ ap (λ h. pauses_after h rest) same

-- or of the mutator
still_none : (n : ℕ) (rest : List Letter) → pauses_after 0 (replicate n M ++ rest) ≡ pauses_after 0 rest
still_none zero rest = refl
still_none (suc n) rest = still_none n rest

within-cons : (bound units : ℕ) (lengths : List ℕ) → within bound (units ∷ lengths) ≡ cond (nat_le units bound) 1 0 + within bound lengths
within-cons bound units lengths = sum_by-cons (λ units. cond (nat_le units bound) 1 0) units lengths

within-append : (bound : ℕ) (some more : List ℕ) → within bound (some ++ more) ≡ within bound some + within bound more
within-append bound some more = sum_by-append (λ units. cond (nat_le units bound) 1 0) some more

pub counts_collector : (s : CountState) (n : ℕ) (enters : Letter) → CountsOn s (alike n C enters) (record s { here = s.here + n; left = s.left - n })
counts_collector s n enters = record {
  bound = refl;
  pauses = λ rest. ap (λ lengths. s.tally.pauses + length lengths) (same rest);
  within = λ rest. ap (λ lengths. s.tally.within + within s.bound lengths) (same rest);
} where
  same : (rest : List Letter) → pauses_after (s.here + n) rest ≡ pauses_after s.here (letters_left (alike n C enters) ++ rest)
  same rest = sym (more_here n s.here rest) ∙ ap (λ letters. pauses_after s.here (letters ++ rest)) (sym (left_alike n C enters))

-- the pause that ends is counted
pub counts_mutator : (s : CountState) (n : ℕ) (enters : Letter) (tally : PauseCount) → 0 < n → tally.pauses ≡ s.tally.pauses + length (pause_of s.here) → tally.within ≡ s.tally.within + within s.bound (pause_of s.here)
    → CountsOn s (alike n M enters) (record { bound = s.bound; here = 0; tally = tally; left = s.left - n })
counts_mutator s zero enters tally some pauses within_bound = absurd (omega (arith, some))
counts_mutator s (suc n) enters tally some pauses within_bound = record {
  bound = refl;
  pauses = λ rest. omega (arith, pauses, length-append (pause_of s.here) (pauses_after 0 rest), ap length (ended rest));
  within = λ rest. omega (arith, within_bound, within-append s.bound (pause_of s.here) (pauses_after 0 rest), ap (within s.bound) (ended rest));
} where
  ended : (rest : List Letter) → pauses_after s.here (letters_left (alike (suc n) M enters) ++ rest) ≡ pause_of s.here ++ pauses_after 0 rest
  ended rest = ap (λ letters. pauses_after s.here (letters ++ rest)) (left_alike (suc n) M enters) ∙ ap (λ lengths. pause_of s.here ++ lengths) (still_none n rest)

-- at the end the last of them is counted
module _ (letters : List Letter) (old new : CountState) (none : old.here ≡ 0) (goes : CountsOn old (passings_of 0 letters) new) where
  whole : pauses_after old.here (letters_left (passings_of 0 letters) ++ []) ≡ pauses_of letters
  whole = ap (λ h. pauses_after h (letters_left (passings_of 0 letters) ++ [])) none ∙ ap pauses_of (append-nil (letters_left (passings letters letters)) ∙ all_leave letters)

  pub pauses_counted : (pauses : ℕ) → old.tally.pauses ≡ 0 → pauses ≡ new.tally.pauses + length (pause_of new.here) → pauses ≡ length (pauses_of letters)
  pauses_counted pauses first last = omega (arith, first, last, goes.pauses [], ap length whole)

  pub within_counted : (count bound : ℕ) → old.tally.within ≡ 0 → old.bound ≡ bound → count ≡ new.tally.within + within bound (pause_of new.here) → count ≡ within bound (pauses_of letters)
  within_counted count bound first is last = grind (arith, whole)

-- In turn ----------------------------------------------------------------------------------------

one_later : (n : ℕ) (letter : Letter) (rest : List Letter) → replicate n letter ++ (letter ∷ rest) ≡ replicate (suc n) letter ++ rest
one_later zero letter rest = refl
one_later (suc n) letter rest = ap (λ letters. letter ∷ letters) (one_later n letter rest)

turns_after : (gap here : ℕ) (rest : List Letter) → AreInTurn (replicate gap M ++ (replicate here C ++ rest)) (pauses_after here rest)
turns_after gap zero [] = (gap, append-nil (replicate gap M))
turns_after gap (suc here) [] = (gap, [], refl, omega arith, tt, (0, refl))
turns_after gap here (C ∷ rest) = subst (λ letters. AreInTurn (replicate gap M ++ letters) (pauses_after (suc here) rest)) (sym (one_later here C rest)) (turns_after gap (suc here) rest)
turns_after gap zero (M ∷ rest) = subst (λ letters. AreInTurn letters (pauses_after 0 rest)) (sym (one_later gap M rest)) (turns_after (suc gap) 0 rest)
turns_after gap (suc here) (M ∷ rest) = (gap, M ∷ rest, refl, omega arith, tt, turns_after 1 0 rest)

pub turns_of : (letters : List Letter) → AreInTurn letters (pauses_of letters)
turns_of letters = turns_after 0 0 letters

-- a pause has a unit
above_nothing : (here : ℕ) (lengths : List ℕ) → within 0 (suc here ∷ lengths) ≡ within 0 lengths
above_nothing here lengths = grind (arith, nat_tests, within-cons, cond)

within_nothing : (here : ℕ) (letters : List Letter) → within 0 (pauses_after here letters) ≡ 0
within_nothing zero [] = refl
within_nothing (suc here) [] = above_nothing here []
within_nothing here (C ∷ letters) = within_nothing (suc here) letters
within_nothing zero (M ∷ letters) = within_nothing 0 letters
within_nothing (suc here) (M ∷ letters) = above_nothing here (pauses_after 0 letters) ∙ within_nothing 0 letters

none_of : (n : ℕ) → mutator_count (replicate n C) ≡ 0
none_of zero = refl
none_of (suc n) = none_of n

-- each pause is a stretch with no unit of the mutator, so it is no longer than the longest
turns_within : (bound : ℕ) (letters : List Letter) (lengths : List ℕ) → AreInTurn letters lengths → ((start units : ℕ) → start + units ≤ length letters → units_in letters start units ≡ 0 → units ≤ bound) → within bound lengths ≡ length lengths
turns_within bound letters [] turn most = refl
turns_within bound letters (units ∷ lengths) turn most =
    let short : units ≤ bound = most gap units (omega (arith, long)) none in
    let test : nat_le units bound ≡ true = grind (arith, nat_tests) in
    let later = turns_within bound rest lengths turn.5 (λ start many room clear. most (gap + units + start) many (omega (arith, long, room)) (ap (λ ls. mutator_count (take many ls)) (beyond start) ∙ clear)) in
    within-cons bound units lengths ∙ ap (λ b. cond b 1 0 + within bound lengths) test ∙ omega (arith, later)
  where
    gap : ℕ
    gap = turn.0

    rest : List Letter
    rest = turn.1

    long : length letters ≡ gap + units + length rest
    long = omega (arith, ap length turn.2, length-append (replicate turn.0 M) (replicate units C ++ turn.1), length-append (replicate units C) turn.1, length-replicate turn.0 M, length-replicate units C)

    pause_next : drop gap letters ≡ replicate units C ++ rest
    pause_next = ap (drop turn.0) turn.2 ∙ drop_at (replicate turn.0 M) (replicate units C ++ turn.1) turn.0 (length-replicate turn.0 M)

    none : units_in letters gap units ≡ 0
    none = ap (λ ls. mutator_count (take units ls)) pause_next ∙ ap mutator_count (take_at (replicate units C) rest units (length-replicate units C)) ∙ none_of units

    beyond : (start : ℕ) → drop (gap + units + start) letters ≡ drop start rest
    beyond start =
        sym (drop-drop start (turn.0 + units) letters)
        ∙ ap (drop start) (sym (drop-drop units turn.0 letters) ∙ ap (drop units) pause_next ∙ drop_at (replicate units C) turn.1 units (length-replicate units C))

pub within_longest : (letters : List Letter) (pause : Pause) → IsLongest letters pause → within pause.units (pauses_of letters) ≡ length (pauses_of letters)
within_longest letters pause longest = turns_within pause.units letters (pauses_of letters) (turns_of letters) longest.longest

-- Percentiles ------------------------------------------------------------------------------------

within_more : (few many : ℕ) (lengths : List ℕ) → few ≤ many → within few lengths ≤ within many lengths
within_more few many [] less = omega arith
within_more few many (units ∷ lengths) less = by (nat_le units few) (nat_le units many) refl refl (within_more few many lengths less) where
  by : (one other : Bool) → nat_le units few ≡ one → nat_le units many ≡ other → within few lengths ≤ within many lengths → within few (units ∷ lengths) ≤ within many (units ∷ lengths)
  by one other is so later =
      let this = within-cons few units lengths in
      let that = within-cons many units lengths in
      grind (arith, nat_tests)

-- a bound that counts one more than the one below it is a length
length_or_same : (bound : ℕ) (lengths : List ℕ) → Contains lengths (suc bound) ⊎ (within (suc bound) lengths ≡ within bound lengths)
length_or_same bound [] = inr refl
length_or_same bound (units ∷ lengths) = by (units == suc bound) refl (length_or_same bound lengths) where
  by : (b : Bool) → (units == suc bound) ≡ b → Contains lengths (suc bound) ⊎ (within (suc bound) lengths ≡ within bound lengths) → Contains (units ∷ lengths) (suc bound) ⊎ (within (suc bound) (units ∷ lengths) ≡ within bound (units ∷ lengths))
  by true is later = let same : units ≡ suc bound = grind (arith, nat_tests) in inl (0, omega arith, same)
  by false is (inl there) = inl (suc there.0, omega (arith, there.1), there.2)
  by false is (inr same) =
      let tests : nat_le units (suc bound) ≡ nat_le units bound = grind (arith, nat_tests) in
      inr (within-cons (suc bound) units lengths ∙ ap (λ b. cond b 1 0 + within (suc bound) lengths) tests ∙ omega (arith, same, within-cons bound units lengths))

pub covers_less : (part bound : ℕ) (lengths : List ℕ) → nat_le (part * length lengths) (100 * within bound lengths) ≡ false → (fewer : ℕ) → fewer < bound + 1 → 100 * within fewer lengths < part * length lengths
covers_less part bound lengths test fewer less =
    let more = within_more fewer bound lengths (omega (arith, less)) in
    grind (arith, nat_tests)

pub percentile_found : (part : ℕ) (letters : List Letter) (units : ℕ) → 0 < part → 0 < length (pauses_of letters) → CoversPart part (pauses_of letters) units → ((fewer : ℕ) → fewer < units → 100 * within fewer (pauses_of letters) < part * length (pauses_of letters)) → IsPercentile part (pauses_of letters) units
percentile_found part letters units some pauses covers below = record {
  covers = covers;
  least = λ bound other. by bound other (nat_lt bound units) refl;
  is_length = there units covers below;
} where
  by : (bound : ℕ) → CoversPart part (pauses_of letters) bound → (b : Bool) → nat_lt bound units ≡ b → units ≤ bound
  by bound other true less = let fewer : bound < units = grind (arith, nat_tests) in absurd (omega (arith, other, below bound fewer))
  by bound other false less = grind (arith, nat_tests)

  there : (units : ℕ) → CoversPart part (pauses_of letters) units → ((fewer : ℕ) → fewer < units → 100 * within fewer (pauses_of letters) < part * length (pauses_of letters)) → Contains (pauses_of letters) units
  there zero covers below = absurd (omega (arith, covers, within_nothing 0 letters, mul-le 1 (length (pauses_of letters)) part (length (pauses_of letters)) some (omega arith), pauses))
  there (suc bound) covers below = elim (length_or_same bound (pauses_of letters)) [
    | inl found ↦ found
    | inr same ↦ absurd (omega (arith, same, covers, below bound (omega arith)))
  ]
