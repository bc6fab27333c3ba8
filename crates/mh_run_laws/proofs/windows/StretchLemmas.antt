-- The units of stretches, and the least of those of one length.
use Rattle.std.proofs.Common.{◌≡◌, ◌∙◌, ℕ, zero, suc, ◌+◌, ◌<◌, ◌≤◌, min, nat_lt, Bool, true, false, Some, None, List, [], ◌∷◌, drop, length, take, ap, sym, refl, subst, arith}
use Rattle.std.proofs.{lemmas.List.{length-take, take_all}, lemmas.Bool.Decides.nat_tests}
use Rattle.mh_model.specs.Trace.{Letter, M, C, mutator_count, lesser, least_mutator}
use Rattle.mh_run_laws.specs.{WindowLaws.LeastIsOfStretches, Windows.{IsLeast, before, units_in}}

-- Units ------------------------------------------------------------------------------------------

count_few : (letters : List Letter) → mutator_count letters ≤ length letters
count_few [] = omega arith
count_few (M ∷ letters) = let few = count_few letters in omega (arith, few)
count_few (C ∷ letters) = let few = count_few letters in omega (arith, few)

pub units_few : (letters : List Letter) (start window : ℕ) → units_in letters start window ≤ window
units_few letters start window = omega (arith, count_few (take window (drop start letters)), length-take window (drop start letters))

count-nothing : (n : ℕ) → mutator_count (take n []) ≡ 0
count-nothing n = ap mutator_count (take_all n [] (omega arith))

-- what is in a stretch is what is before its end and not before its start
pub units_between : (letters : List Letter) (start window : ℕ) → units_in letters start window + before letters start ≡ before letters (start + window)
units_between letters zero window = let none : zero + window ≡ window = omega arith in omega arith ∙ ap (before letters) (sym none)
units_between [] (suc start) window = omega (arith, count-nothing window, count-nothing (suc start + window), count-nothing (suc start))
units_between (letter ∷ letters) (suc start) window =
    let next : suc start + window ≡ suc (start + window) = omega arith in
    by letter (units_between letters start window) ∙ ap (before (letter ∷ letters)) (sym next)
  where
    by : (letter : Letter) → units_in letters start window + before letters start ≡ before letters (start + window) → units_in letters start window + before (letter ∷ letters) (suc start) ≡ before (letter ∷ letters) (suc (start + window))
    by M is = omega (arith, is)
    by C is = is

-- Stretches --------------------------------------------------------------------------------------

too_long : (window : ℕ) (letters : List Letter) → length letters < window → least_mutator window letters ≡ None
too_long zero letters long = absurd (omega (arith, long))
too_long (suc window) [] long = grind (arith, nat_tests)
too_long (suc window) (letter ∷ letters) long = grind (arith, nat_tests)

first_or_later : (window : ℕ) (letter : Letter) (letters : List Letter) → window ≤ suc (length letters) → least_mutator window (letter ∷ letters) ≡ Some (lesser (mutator_count (take window (letter ∷ letters))) (least_mutator window letters))
first_or_later window letter letters short = grind (arith, nat_tests)

-- a window that isn't longer than the trace has a least
pub record HasLeast (letters : List Letter) (window : ℕ) : Type 0 where
  pub least : ℕ
  pub some : least_mutator window letters ≡ Some least
  pub is : IsLeast letters window least

last_alone : (letter : Letter) (letters : List Letter) (window : ℕ) → window ≡ suc (length letters) → HasLeast (letter ∷ letters) window
last_alone letter letters window long = record {
  least = units_in (letter ∷ letters) 0 window;
  some = first_or_later window letter letters (omega (arith, long)) ∙ ap (λ other. Some (lesser (units_in (letter ∷ letters) 0 window) other)) (too_long window letters (omega (arith, long)));
  is = record {
    below = λ start room. (let first : start ≡ 0 = omega (arith, room, long) in subst (λ s. units_in (letter ∷ letters) 0 window ≤ units_in (letter ∷ letters) s window) (sym first) (omega arith));
    at = (0, omega (arith, long), refl);
  };
}

one_more : (letter : Letter) (letters : List Letter) (window : ℕ) → window ≤ length letters → HasLeast letters window → HasLeast (letter ∷ letters) window
one_more letter letters window room has = record {
  least = min first has.least;
  some = first_or_later window letter letters (omega (arith, room)) ∙ ap (λ other. Some (lesser first other)) has.some;
  is = record {
    below = below;
    at = at (nat_lt has.least first) refl;
  };
} where
  first : ℕ
  first = units_in (letter ∷ letters) 0 window

  below : (start : ℕ) → start + window ≤ suc (length letters) → min first has.least ≤ units_in (letter ∷ letters) start window
  below zero inside = omega arith
  below (suc start) inside = let later = has.is.below start (omega (arith, inside)) in omega (arith, later)

  at : (b : Bool) → nat_lt has.least first ≡ b → (start : ℕ) × (start + window ≤ suc (length letters)) × (units_in (letter ∷ letters) start window ≡ min first has.least)
  at true test =
      let less : has.least < first = grind (arith, nat_tests) in
      let there = has.is.at in
      (suc there.0, omega (arith, there.1), there.2 ∙ omega (arith, less))
  at false test = grind (arith, first, nat_tests)

pub has_least : (letters : List Letter) (window : ℕ) → window ≤ length letters → HasLeast letters window
has_least [] zero room = record { least = 0; some = refl; is = record { below = λ start inside. omega arith; at = (0, omega arith, refl) } }
has_least [] (suc window) room = absurd (omega (arith, room))
has_least (letter ∷ letters) window room = by (nat_lt (length letters) window) refl (has_least letters window) where
  by : (b : Bool) → nat_lt (length letters) window ≡ b → (window ≤ length letters → HasLeast letters window) → HasLeast (letter ∷ letters) window
  by true test later = let long : length letters < window = grind (arith, nat_tests) in last_alone letter letters window (omega (arith, long, room))
  by false test later = let short : window ≤ length letters = grind (arith, nat_tests) in one_more letter letters window short (later short)

pub no_longer : (letters : List Letter) (window least : ℕ) → least_mutator window letters ≡ Some least → window ≤ length letters
no_longer letters window least is = by (nat_lt (length letters) window) refl where
  by : (b : Bool) → nat_lt (length letters) window ≡ b → window ≤ length letters
  by true test = let long : length letters < window = grind (arith, nat_tests) in let none : None ≡ Some least = sym (too_long window letters long) ∙ is in cc
  by false test = grind (arith, nat_tests)

pub least_at : (letters : List Letter) (window least : ℕ) → least_mutator window letters ≡ Some least → IsLeast letters window least
least_at letters window least is =
    let has = has_least letters window (no_longer letters window least is) in
    grind (arith, least, is)

-- there is but one least
only_one : (letters : List Letter) (window a b : ℕ) → IsLeast letters window a → IsLeast letters window b → a ≡ b
only_one letters window a b one other = grind arith

pub stretches_have_least : LeastIsOfStretches
stretches_have_least = record {
  least = λ letters window least. (λ is. least_at letters window least is, λ is. back letters window least is);
  exists = λ letters window room. (let has = has_least letters window room in (has.least, has.some));
} where
  back : (letters : List Letter) (window least : ℕ) → IsLeast letters window least → least_mutator window letters ≡ Some least
  back letters window least is =
      let has = has_least letters window (omega (arith, is.at.1)) in
      has.some ∙ ap Some (only_one letters window has.least least has.is is)
