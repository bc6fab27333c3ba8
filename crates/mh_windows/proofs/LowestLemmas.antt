-- A stretch that slides on finds the lowest place of its length.
use Rattle.std.proofs.Common.{◌≡◌, ◌∙◌, ℕ, zero, suc, ◌+◌, ◌-◌, ◌<◌, ◌≤◌, nat_lt, Bool, true, false, if◌then◌else◌, Some, List, [], ◌∷◌, drop, length, ap, sym, refl, subst, arith}
use Rattle.std.proofs.{lemmas.Bool.Decides.nat_tests, lemmas.List.length-drop}
use Rattle.mh_model.specs.Trace.{Letter, M, C, least_mutator}
use Rattle.mh_report.specs.{Slides.{Passing, alike, passings, passings_of}, Walk.mutator_units}
use Rattle.mh_run_laws.specs.Windows.{before, units_in}
use Rattle.mh_run_laws.proofs.windows.StretchLemmas.{stretches_have_least, units_between}
use Rattle.mh_windows.specs.{Lowest.{IsLowest, LowestState, here, slid_on, slid_over}, Auxiliary.first_lowest}

-- Steps alike --------------------------------------------------------------------------------------

-- so many steps alike are one: it falls by one each, if it falls
abbrev pub slid_alike : ℕ → Letter → Letter → LowestState → LowestState
slid_alike n leaves enters s =
    let count : ℕ = s.count + mutator_units enters n - mutator_units leaves n in
    record {
      start = s.start + n;
      count = count;
      least = if nat_lt count s.least then count else s.least;
      at = if nat_lt count s.least then s.start + (s.count - count) else s.at;
      left = s.left - n;
    }

pub same_state : (a b : LowestState) → a.start ≡ b.start → a.count ≡ b.count → a.least ≡ b.least → a.at ≡ b.at → a.left ≡ b.left → a ≡ b
same_state a b start count least at left = λ i. record { start = start i; count = count i; least = least i; at = at i; left = left i }

no_units : (letter : Letter) → mutator_units letter 0 ≡ 0
no_units M = refl
no_units C = refl

-- the lowest of a state is no higher than it stands
on_keeps : (s : LowestState) (passing : Passing) → (slid_on s passing).least ≤ (slid_on s passing).count
on_keeps s passing = by (nat_lt count s.least) refl where
  count : ℕ
  count = s.count + mutator_units passing.enters 1 - mutator_units passing.leaves 1

  by : (b : Bool) → nat_lt count s.least ≡ b → (if nat_lt count s.least then count else s.least) ≤ count
  by true test = rw test (omega arith)
  by false test = let more : s.least ≤ count = grind (arith, nat_tests) in rw test more

abbrev pub step : Letter → Letter → Passing
step leaves enters = record { leaves = leaves; enters = enters }

module _ (s : LowestState) (below : s.least ≤ s.count) where
  alike-none : (leaves enters : Letter) → s ≡ slid_alike 0 leaves enters s
  alike-none leaves enters = grind (arith, no_units, nat_tests, same_state)

  -- where it doesn't fall, one step and then so many find nothing
  alike-stays : (n : ℕ) (leaves enters : Letter) → (one all rest : ℕ) → one ≡ s.count + mutator_units enters 1 - mutator_units leaves 1 → all ≡ s.count + mutator_units enters (suc n) - mutator_units leaves (suc n)
      → rest ≡ one + mutator_units enters n - mutator_units leaves n → s.count ≤ one → s.count ≤ all → rest ≡ all → slid_alike n leaves enters (slid_on s (step leaves enters)) ≡ slid_alike (suc n) leaves enters s
  alike-stays n leaves enters one all rest one_is all_is rest_is no_fall none_falls same = grind (arith, nat_tests, same_state)

  -- it falls as units leave it and none enter
  alike-falls : (n : ℕ) → slid_alike n M C (slid_on s (step M C)) ≡ slid_alike (suc n) M C s
  alike-falls n = by (nat_lt one s.least) refl where
    one : ℕ
    one = s.count + 0 - 1

    all : ℕ
    all = s.count + 0 - suc n

    start : suc s.start + n ≡ s.start + suc n
    start = omega arith

    by : (b : Bool) → nat_lt one s.least ≡ b → slid_alike n M C (slid_on s (step M C)) ≡ slid_alike (suc n) M C s
    by false test =
        let high : s.least ≤ one = grind (arith, nat_tests) in
        let same : one + 0 - n ≡ all = omega arith in
        rw (test, same) (same_state _ _ start refl refl (again (nat_lt all s.least) refl high) (omega arith))
      where
        again : (lower : Bool) → nat_lt all s.least ≡ lower → s.least ≤ one → (if nat_lt all s.least then suc s.start + (one - all) else s.at) ≡ (if nat_lt all s.least then s.start + (s.count - all) else s.at)
        again true whole high = let less : all < s.least = grind (arith, nat_tests) in rw whole (omega (arith, less, high))
        again false whole high = rw whole refl
    by true test =
        let low : one < s.least = grind (arith, nat_tests) in
        let same : one + 0 - n ≡ all = omega arith in
        let whole : nat_lt all s.least ≡ true = grind (arith, nat_tests) in
        rw (test, same, whole) (again (nat_lt all one) refl low)
      where
        again : (lower : Bool) → nat_lt all one ≡ lower → one < s.least
            → ◌≡◌ {A = LowestState}
            (record { start = suc s.start + n; count = all; least = if nat_lt all one then all else one; at = if nat_lt all one then suc s.start + (one - all) else suc s.start; left = s.left - 1 - n })
            (record { start = s.start + suc n; count = all; least = all; at = s.start + (s.count - all); left = s.left - suc n })
        again true lower low = rw lower (same_state _ _ start refl refl (omega (arith, low, below)) (omega arith))
        again false lower low = grind (arith, one, all, nat_tests, same_state, start)

pub slides_alike : (n : ℕ) (leaves enters : Letter) (s : LowestState) → s.least ≤ s.count → slid_over s (alike n leaves enters) ≡ slid_alike n leaves enters s
slides_alike zero leaves enters s below = alike-none s below leaves enters
slides_alike (suc n) leaves enters s below =
    slides_alike n leaves enters (slid_on s (step leaves enters)) (on_keeps s (step leaves enters)) ∙ by leaves enters
  where
    by : (leaves enters : Letter) → slid_alike n leaves enters (slid_on s (step leaves enters)) ≡ slid_alike (suc n) leaves enters s
    by M M = alike-stays s below n M M _ _ _ refl refl refl (omega arith) (omega arith) (omega arith)
    by C C = alike-stays s below n C C _ _ _ refl refl refl (omega arith) (omega arith) (omega arith)
    by C M = alike-stays s below n C M _ _ _ refl refl refl (omega arith) (omega arith) (omega arith)
    by M C = alike-falls s below n

-- what a step alike finds, or doesn't
pub pass_lower : (s : LowestState) (n count : ℕ) (leaves enters : Letter) → count ≡ s.count + mutator_units enters n - mutator_units leaves n → count < s.least
    → ◌≡◌ {A = LowestState} (record { start = s.start + n; count = count; least = count; at = s.start + (s.count - count); left = s.left - n }) (slid_alike n leaves enters s)
pass_lower s n count leaves enters is low = grind (arith, nat_tests, same_state)

pub pass_higher : (s : LowestState) (n count : ℕ) (leaves enters : Letter) → count ≡ s.count + mutator_units enters n - mutator_units leaves n → s.least ≤ count
    → ◌≡◌ {A = LowestState} (record { start = s.start + n; count = count; least = s.least; at = s.at; left = s.left - n }) (slid_alike n leaves enters s)
pass_higher s n count leaves enters is high = grind (arith, nat_tests, same_state)

-- Where it is --------------------------------------------------------------------------------------

-- a stretch that has slid so far stands here, and knows the lowest place up to here
pub record Stands (letters : List Letter) (window : ℕ) (s : LowestState) : Type 0 where
  pub inside : s.start + window ≤ length letters
  pub counts : s.count ≡ units_in letters s.start window
  pub lowest : s.least ≡ units_in letters s.at window
  pub passed : s.at ≤ s.start
  pub below : (start : ℕ) → start ≤ s.start → s.least ≤ units_in letters start window
  pub first : (start : ℕ) → start < s.at → s.least < units_in letters start window

stands_first : (window : ℕ) (letters : List Letter) → window ≤ length letters → Stands letters window (first_lowest window letters)
stands_first window letters room = record {
  inside = omega (arith, room);
  counts = refl;
  lowest = refl;
  passed = omega arith;
  below = λ start none. (let zero_is : start ≡ 0 = omega (arith, none) in subst (λ p. units_in letters 0 window ≤ units_in letters p window) (sym zero_is) (omega arith));
  first = λ start none. absurd (omega (arith, none));
}

-- one letter more is before the next place
before_next : (place : ℕ) (letters : List Letter) (letter : Letter) (rest : List Letter) → drop place letters ≡ letter ∷ rest → before letters (suc place) ≡ before letters place + mutator_units letter 1
before_next zero (M ∷ letters) M rest is = refl
before_next zero (C ∷ letters) C rest is = refl
before_next zero (M ∷ letters) C rest is = cc
before_next zero (C ∷ letters) M rest is = cc
before_next zero [] letter rest is = cc
before_next (suc place) [] letter rest is = cc
before_next (suc place) (M ∷ letters) letter rest is = let next = before_next place letters letter rest is in omega (arith, next)
before_next (suc place) (C ∷ letters) letter rest is = before_next place letters letter rest is

after_next : (place : ℕ) (letters : List Letter) (letter : Letter) (rest : List Letter) → drop place letters ≡ letter ∷ rest → drop (suc place) letters ≡ rest
after_next zero (first ∷ letters) letter rest is = cc
after_next zero [] letter rest is = cc
after_next (suc place) [] letter rest is = cc
after_next (suc place) (first ∷ letters) letter rest is = after_next place letters letter rest is

module _ (letters : List Letter) (window : ℕ) where
  stands_on : (s : LowestState) (leaves enters : Letter) (leaving entering : List Letter) → drop s.start letters ≡ leaves ∷ leaving → drop (s.start + window) letters ≡ enters ∷ entering → Stands letters window s
      → Stands letters window (slid_on s (step leaves enters))
  stands_on s leaves enters leaving entering starts ends stands = by (nat_lt count s.least) refl where
    count : ℕ
    count = s.count + mutator_units enters 1 - mutator_units leaves 1

    next : suc s.start + window ≡ suc (s.start + window)
    next = omega arith

    counted : count ≡ units_in letters (suc s.start) window
    counted = grind (arith, units_between, next, before_next)

    room : suc s.start + window ≤ length letters
    room = let long = ap length ends in omega (arith, long, length-drop (s.start + window) letters)

    all : (bound : ℕ) → bound ≤ s.least → bound ≤ count → (start : ℕ) → start ≤ suc s.start → bound ≤ units_in letters start window
    all bound low here start less = last (nat_lt s.start start) refl where
      last : (b : Bool) → nat_lt s.start start ≡ b → bound ≤ units_in letters start window
      last true test = grind (arith, nat_tests, counted)
      last false test = let no_more : start ≤ s.start = grind (arith, nat_tests) in omega (arith, low, stands.below start no_more)

    by : (b : Bool) → nat_lt count s.least ≡ b → Stands letters window (slid_on s (step leaves enters))
    by true test =
        let low : count < s.least = grind (arith, nat_tests) in
        rw test (record {
          inside = room;
          counts = counted;
          lowest = counted;
          passed = omega arith;
          below = all count (omega (arith, low)) (omega arith);
          first = λ start less. (let no_more : start ≤ s.start = omega (arith, less) in omega (arith, low, stands.below start no_more));
        })
    by false test =
        let high : s.least ≤ count = grind (arith, nat_tests) in
        rw test (record {
          inside = room;
          counts = counted;
          lowest = stands.lowest;
          passed = omega (arith, stands.passed);
          below = all s.least (omega arith) high;
          first = stands.first;
        })

  stands_over : (s : LowestState) (leaving entering : List Letter) → drop s.start letters ≡ leaving → drop (s.start + window) letters ≡ entering → Stands letters window s
      → Stands letters window (slid_over s (passings leaving entering)) × ((slid_over s (passings leaving entering)).start + window ≡ length letters)
  stands_over s leaving [] starts ends stands =
      let none = ap length ends in
      (stands, omega (arith, none, length-drop (s.start + window) letters, stands.inside))
  stands_over s [] (enters ∷ entering) starts ends stands =
      let none = ap length starts in
      grind (arith, length-drop)
  stands_over s (leaves ∷ leaving) (enters ∷ entering) starts ends stands =
      let next : suc s.start + window ≡ suc (s.start + window) = omega arith in
      stands_over (slid_on s (step leaves enters)) leaving entering (after_next s.start letters leaves leaving starts) (ap (λ p. drop p letters) next ∙ after_next (s.start + window) letters enters entering ends)
      (stands_on s leaves enters leaving entering starts ends stands)

-- so it ends with the lowest place of all
pub lowest_found : (window : ℕ) (letters : List Letter) (s : LowestState) → window ≤ length letters → s ≡ slid_over (first_lowest window letters) (passings_of window letters) → IsLowest letters window s.least s.at
lowest_found window letters s room is =
    let none : 0 + window ≡ window = omega arith in
    let over = stands_over letters window (first_lowest window letters) letters (drop window letters) refl (ap (λ p. drop p letters) none) (stands_first window letters room) in
    subst (λ (t : LowestState). IsLowest letters window t.least t.at) (sym is) (record {
      inside = omega (arith, over.1, over.0.passed);
      counts = sym over.0.lowest;
      below = λ start inside. over.0.below start (omega (arith, inside, over.1));
      first = over.0.first;
    })

-- which is the least of the window
pub lowest_is_least : (window : ℕ) (letters : List Letter) (least at : ℕ) → IsLowest letters window least at → least_mutator window letters ≡ Some least
lowest_is_least window letters least at is = (stretches_have_least.least letters window least).1 (record { below = is.below; at = (at, is.inside, is.counts) })
