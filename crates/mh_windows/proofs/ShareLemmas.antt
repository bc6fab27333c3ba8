-- A stretch that slides on finds whether each that is as long or longer has its share.
use Rattle.std.proofs.Common.{◌≡◌, ◌∙◌, ◌⊎◌, inl, inr, ℕ, zero, suc, ◌+◌, ◌-◌, ◌*◌, ◌<◌, ◌≤◌, nat_lt, Bool, true, false, Option, Some, None, List, [], ◌∷◌, ◌++◌, drop, length, take, ap, sym, refl, subst, append-nil, arith}
use Rattle.std.proofs.{lemmas.Bool.Decides.nat_tests, lemmas.List.{length-drop, length-replicate}, lemmas.Nat.mul-le}
use Rattle.std.specs.Prelude.{IfNone, IfSome, MatchOption, IsSome, is_some}
use Rattle.mh_model.specs.Trace.{Letter, M, C, mutator_count}
use Rattle.mh_report.specs.{Slides.{Passing, alike, passings, passings_of}, Walk.mutator_units}
use Rattle.mh_run_laws.specs.Windows.{KeepsShare, before, units_in}
use Rattle.mh_run_laws.proofs.windows.StretchLemmas.{least_at, no_longer, units_between}
use Rattle.mh_windows.specs.{declared.share.Place.Place, declared.share.Stretch.Stretch}
use Rattle.mh_windows.specs.Shares.{HasFound, IsNext, IsPlace, IsShort, KeepsBetween, ShareState, Slides}

-- Letters alike ------------------------------------------------------------------------------------

-- the letters of the first step
abbrev first_leaves : List Passing → Letter
first_leaves [] = M
first_leaves (passing ∷ passings) = passing.leaves

abbrev first_enters : List Passing → Letter
first_enters [] = M
first_enters (passing ∷ passings) = passing.enters

-- where so many steps alike stand next, so many letters alike do at either end
pub leave_alike : (n : ℕ) (leaves enters : Letter) (leaving entering : List Letter) (rest : List Passing) → passings leaving entering ≡ alike n leaves enters ++ rest → (i : ℕ) → i ≤ n → mutator_count (take i leaving) ≡ mutator_units leaves i
leave_alike n M enters leaving entering rest is zero few = refl
leave_alike n C enters leaving entering rest is zero few = refl
leave_alike zero leaves enters leaving entering rest is (suc i) few = absurd (omega (arith, few))
leave_alike (suc n) leaves enters leaving [] rest is (suc i) few = cc
leave_alike (suc n) leaves enters [] (e ∷ entering) rest is (suc i) few = cc
leave_alike (suc n) M enters (M ∷ leaving) (e ∷ entering) rest is (suc i) few =
    let later : passings leaving entering ≡ alike n M enters ++ rest = cc in
    let more = leave_alike n M enters leaving entering rest later i (omega (arith, few)) in
    omega (arith, more)
leave_alike (suc n) C enters (C ∷ leaving) (e ∷ entering) rest is (suc i) few =
    let later : passings leaving entering ≡ alike n C enters ++ rest = cc in
    let more = leave_alike n C enters leaving entering rest later i (omega (arith, few)) in
    omega (arith, more)
leave_alike (suc n) M enters (C ∷ leaving) (e ∷ entering) rest is (suc i) few = let other : C ≡ M = ap first_leaves is in cc
leave_alike (suc n) C enters (M ∷ leaving) (e ∷ entering) rest is (suc i) few = let other : M ≡ C = ap first_leaves is in cc

enter_alike : (n : ℕ) (leaves enters : Letter) (leaving entering : List Letter) (rest : List Passing) → passings leaving entering ≡ alike n leaves enters ++ rest → (i : ℕ) → i ≤ n → mutator_count (take i entering) ≡ mutator_units enters i
enter_alike n leaves M leaving entering rest is zero few = refl
enter_alike n leaves C leaving entering rest is zero few = refl
enter_alike zero leaves enters leaving entering rest is (suc i) few = absurd (omega (arith, few))
enter_alike (suc n) leaves enters leaving [] rest is (suc i) few = cc
enter_alike (suc n) leaves enters [] (e ∷ entering) rest is (suc i) few = cc
enter_alike (suc n) leaves M (l ∷ leaving) (M ∷ entering) rest is (suc i) few =
    let later : passings leaving entering ≡ alike n leaves M ++ rest = cc in
    let more = enter_alike n leaves M leaving entering rest later i (omega (arith, few)) in
    omega (arith, more)
enter_alike (suc n) leaves C (l ∷ leaving) (C ∷ entering) rest is (suc i) few =
    let later : passings leaving entering ≡ alike n leaves C ++ rest = cc in
    let more = enter_alike n leaves C leaving entering rest later i (omega (arith, few)) in
    omega (arith, more)
enter_alike (suc n) leaves M (l ∷ leaving) (C ∷ entering) rest is (suc i) few = let other : C ≡ M = ap first_enters is in cc
enter_alike (suc n) leaves C (l ∷ leaving) (M ∷ entering) rest is (suc i) few = let other : M ≡ C = ap first_enters is in cc

pub enough : (n : ℕ) (leaves enters : Letter) (leaving entering : List Letter) (rest : List Passing) → passings leaving entering ≡ alike n leaves enters ++ rest → n ≤ length entering
enough zero leaves enters leaving entering rest is = omega arith
enough (suc n) leaves enters leaving [] rest is = cc
enough (suc n) leaves enters [] (e ∷ entering) rest is = cc
enough (suc n) leaves enters (l ∷ leaving) (e ∷ entering) rest is =
    let later : passings leaving entering ≡ alike n leaves enters ++ rest = cc in
    let more = enough n leaves enters leaving entering rest later in
    omega (arith, more)

-- A step -------------------------------------------------------------------------------------------

abbrev pub place_after : Place → ℕ → Letter → Place
place_after place n letter = record { place = place.place + n; units = place.units + mutator_units letter n }

-- so it stands after a step, with this place as its peak
abbrev pub moved : ShareState → ℕ → Letter → Letter → Place → Option Stretch → ShareState
moved s n leaves enters peak broken = record { part = s.part; start = place_after s.start n leaves; end = place_after s.end n enters; peak = peak; broken = broken; left = s.left - n }

-- of two places this one is the worse to begin at
pub record IsWorse (s : ShareState) (start peak : Place) : Type 0 where
  pub one : (peak ≡ s.peak) ⊎ (peak ≡ start)
  pub of_peak : 100 * s.peak.units + s.part * peak.place ≤ 100 * peak.units + s.part * s.peak.place
  pub of_start : 100 * start.units + s.part * peak.place ≤ 100 * peak.units + s.part * start.place

module _ (s : ShareState) (few : s.part ≤ 100) (n : ℕ) (leaves enters : Letter) (peak : Place) (worse : IsWorse s (place_after s.start n leaves) peak) where
  module _ (letters : List Letter) (from : ℕ) (next : IsNext letters s (alike n leaves enters)) (found : HasFound letters from s) where
    starts : (i : ℕ) → i ≤ n → before letters (s.start.place + i) ≡ s.start.units + mutator_units leaves i
    starts i less =
        let part : units_in letters s.start.place i ≡ mutator_units leaves i = leave_alike n leaves enters _ _ next.0 next.1 i less in
        omega (arith, units_between letters s.start.place i, part, found.start)

    ends : (i : ℕ) → i ≤ n → before letters (s.end.place + i) ≡ s.end.units + mutator_units enters i
    ends i less =
        let part : units_in letters s.end.place i ≡ mutator_units enters i = enter_alike n leaves enters _ _ next.0 next.1 i less in
        omega (arith, units_between letters s.end.place i, part, found.end)

    room : s.end.place + n ≤ length letters
    room = omega (arith, enough n leaves enters _ _ next.0 next.1, length-drop s.end.place letters, found.inside)

    peak_place : IsPlace letters peak
    peak_place = elim worse.one [ inl old ↦ subst (IsPlace letters) (sym old) found.peak | inr start ↦ subst (IsPlace letters) (sym start) (sym (starts n (omega arith))) ]

    peak_passed : peak.place ≤ s.start.place + n
    peak_passed = elim worse.one [ inl old ↦ (let same = ap (λ (p : Place). p.place) old in omega (arith, same, found.passed)) | inr start ↦ (let same = ap (λ (p : Place). p.place) start in omega (arith, same)) ]

    -- what letters alike that leave it do to its start
    start_falls : (i : ℕ) → i ≤ n → 100 * before letters (s.start.place + i) + s.part * peak.place ≤ 100 * peak.units + s.part * (s.start.place + i)
    start_falls i less = by leaves (starts i less) worse.of_start where
      by : (letter : Letter) → before letters (s.start.place + i) ≡ s.start.units + mutator_units letter i → 100 * (s.start.units + mutator_units letter n) + s.part * peak.place ≤ 100 * peak.units + s.part * (s.start.place + n)
          → 100 * before letters (s.start.place + i) + s.part * peak.place ≤ 100 * peak.units + s.part * (s.start.place + i)
      by M at last =
          let d : ℕ = n - i in
          let split : n ≡ i + d = omega (arith, less) in
          let parts : s.part * n ≡ s.part * (i + d) = ap (λ m. s.part * m) split in
          omega (arith, at, last, split, parts, mul-le s.part d 100 d few (omega arith))
      by C at last = grind arith

    highest : (place : ℕ) → place ≤ s.start.place + n → 100 * before letters place + s.part * peak.place ≤ 100 * peak.units + s.part * place
    highest place less = by (nat_lt s.start.place place) refl where
      by : (b : Bool) → nat_lt s.start.place place ≡ b → 100 * before letters place + s.part * peak.place ≤ 100 * peak.units + s.part * place
      by true test =
          let later : s.start.place < place = grind (arith, nat_tests) in
          let i : ℕ = place - s.start.place in
          let at : s.start.place + i ≡ place = omega (arith, later) in
          subst (λ p. 100 * before letters p + s.part * peak.place ≤ 100 * peak.units + s.part * p) at (start_falls i (omega (arith, less, later)))
      by false test = grind (arith, nat_tests)

    -- it has what it must at its end: so each has that ends at one of these
    module _ (known : (start end : ℕ) → start + from ≤ end → end ≤ s.end.place → KeepsBetween s.part letters start end) (keeps : 100 * peak.units + s.part * (s.end.place + n) ≤ 100 * (s.end.units + mutator_units enters n) + s.part * peak.place) where
      keeps_at : (i start : ℕ) → i ≤ n → start ≤ s.start.place + i → KeepsBetween s.part letters start (s.end.place + i)
      keeps_at i start less early = by enters (ends i less) keeps where
        of_end : start ≤ s.start.place → 100 * before letters start + s.part * s.end.place ≤ 100 * s.end.units + s.part * start
        of_end sooner = omega (arith, known start s.end.place (omega (arith, sooner, found.apart)) (omega arith), found.end)

        of_start : 100 * s.start.units + s.part * s.end.place ≤ 100 * s.end.units + s.part * s.start.place
        of_start = omega (arith, known s.start.place s.end.place (omega (arith, found.apart)) (omega arith), found.end, found.start)

        later : (j : ℕ) → start ≡ s.start.place + j → j ≤ i → (letter : Letter) → before letters (s.start.place + j) ≡ s.start.units + mutator_units letter j → before letters (s.end.place + i) ≡ s.end.units + i → KeepsBetween s.part letters start (s.end.place + i)
        later j at small M there last =
            let d : ℕ = i - j in
            let split : i ≡ j + d = omega (arith, small) in
            let parts : s.part * i ≡ s.part * (j + d) = ap (λ m. s.part * m) split in
            let place : before letters start ≡ before letters (s.start.place + j) = ap (before letters) at in
            let product : s.part * start ≡ s.part * (s.start.place + j) = ap (λ m. s.part * m) at in
            omega (arith, of_start, there, last, place, product, split, parts, mul-le s.part d 100 d few (omega arith))
        later j at small C there last =
            let place : before letters start ≡ before letters (s.start.place + j) = ap (before letters) at in
            let product : s.part * start ≡ s.part * (s.start.place + j) = ap (λ m. s.part * m) at in
            omega (arith, of_start, there, last, place, product, mul-le s.part i 100 i few (omega arith))

        by : (letter : Letter) → before letters (s.end.place + i) ≡ s.end.units + mutator_units letter i → 100 * peak.units + s.part * (s.end.place + n) ≤ 100 * (s.end.units + mutator_units letter n) + s.part * peak.place
            → KeepsBetween s.part letters start (s.end.place + i)
        by C at last =
            omega (arith, at, last, highest start (omega (arith, early, less)), mul-le s.part i s.part n (omega arith) less)
        by M at last = which (nat_lt s.start.place start) refl where
          which : (b : Bool) → nat_lt s.start.place start ≡ b → KeepsBetween s.part letters start (s.end.place + i)
          which true test =
              let after : s.start.place < start = grind (arith, nat_tests) in
              let j : ℕ = start - s.start.place in
              later j (omega (arith, after)) (omega (arith, early, after)) leaves (starts j (omega (arith, early, after, less))) at
          which false test =
              let sooner : start ≤ s.start.place = grind (arith, nat_tests) in
              omega (arith, at, of_end sooner, mul-le s.part i 100 i few (omega arith))

      keeps_all : (start end : ℕ) → start + from ≤ end → end ≤ s.end.place + n → KeepsBetween s.part letters start end
      keeps_all start end long inside = by (nat_lt s.end.place end) refl where
        by : (b : Bool) → nat_lt s.end.place end ≡ b → KeepsBetween s.part letters start end
        by true test =
            let after : s.end.place < end = grind (arith, nat_tests) in
            let i : ℕ = end - s.end.place in
            let at : s.end.place + i ≡ end = omega (arith, after) in
            subst (KeepsBetween s.part letters start) at (keeps_at i start (omega (arith, inside, after)) (omega (arith, long, after, found.apart)))
        by false test =
            let before_it : end ≤ s.end.place = grind (arith, nat_tests) in
            known start end long before_it

    -- or it hasn't
    short_here : 100 * (s.end.units + mutator_units enters n) + s.part * peak.place < 100 * peak.units + s.part * (s.end.place + n) → IsShort s.part from letters (record { start = peak.place; end = s.end.place + n })
    short_here falls = grind (arith, peak_passed, room, units_between, ends, peak_place)

    -- what it has found after it
    found_after : (broken : Option Stretch) → MatchOption broken ((start end : ℕ) → start + from ≤ end → end ≤ s.end.place + n → KeepsBetween s.part letters start end) (IsShort s.part from letters)
        → HasFound letters from (moved s n leaves enters peak broken)
    found_after broken is = grind (arith, starts, ends, peak_place, room, peak_passed, highest)

  slides_by : (broken : Option Stretch) → ((letters : List Letter) (from : ℕ) → IsNext letters s (alike n leaves enters) → HasFound letters from s
      → MatchOption broken ((start end : ℕ) → start + from ≤ end → end ≤ s.end.place + n → KeepsBetween s.part letters start end) (IsShort s.part from letters)) → Slides s (alike n leaves enters) (moved s n leaves enters peak broken)
  slides_by broken finds =
      let step : Passing = record { leaves = leaves; enters = enters } in
      let long = length-replicate n step in
      record {
        part = refl;
        start = omega (arith, long);
        end = omega (arith, long);
        finds = λ letters from next found. found_after letters from next found broken (finds letters from next found);
      }

  -- what was found stays found
  pub slides_found : IsSome s.broken → Slides s (alike n leaves enters) (moved s n leaves enters peak s.broken)
  slides_found some = slides_by s.broken (λ letters from next found. by letters from s.broken some found.found) where
    by : (letters : List Letter) (from : ℕ) (broken : Option Stretch) → IsSome broken
        → MatchOption broken ((start end : ℕ) → start + from ≤ end → end ≤ s.end.place → KeepsBetween s.part letters start end) (IsShort s.part from letters)
        → MatchOption broken ((start end : ℕ) → start + from ≤ end → end ≤ s.end.place + n → KeepsBetween s.part letters start end) (IsShort s.part from letters)
    by letters from (Some stretch) some is = is
    by letters from None some is = cc

  -- or else it is looked for at the end
  pub slides_looked : (broken : Option Stretch) → s.broken ≡ None
      → MatchOption broken (100 * peak.units + s.part * (s.end.place + n) ≤ 100 * (s.end.units + mutator_units enters n) + s.part * peak.place)
      (λ stretch. (stretch ≡ record { start = peak.place; end = s.end.place + n }) × (100 * (s.end.units + mutator_units enters n) + s.part * peak.place < 100 * peak.units + s.part * (s.end.place + n)))
      → Slides s (alike n leaves enters) (moved s n leaves enters peak broken)
  slides_looked None was keeps = slides_by None (λ letters from next found. keeps_all letters from next found (rw was at found.found) keeps)
  slides_looked (Some stretch) was falls = slides_by (Some stretch) (λ letters from next found. subst (IsShort s.part from letters) (sym falls.0) (short_here letters from next found falls.1))

-- At the ends --------------------------------------------------------------------------------------

pub no_longer_than : (letters : List Letter) (part from : ℕ) → length letters < from → KeepsShare part 100 from letters
no_longer_than letters part from short window least long is = absurd (omega (arith, short, long, no_longer letters window least is))

-- the first stretch, if it is short already
pub short_first : (letters : List Letter) (part from units : ℕ) (stretch : Stretch) → from ≤ length letters → units ≡ mutator_count (take from letters) → stretch ≡ record { start = 0; end = from } → 100 * units + part * 0 < 100 * 0 + part * from
    → IsShort part from letters stretch
short_first letters part from units stretch room units_is is falls = grind (arith, room)

-- or else the state that it begins with
pub first_state : (letters : List Letter) (part from units left : ℕ) → from ≤ length letters → units ≡ mutator_count (take from letters) → 100 * 0 + part * from ≤ 100 * units + part * 0
    → HasFound letters from (record { part = part; start = record { place = 0; units = 0 }; end = record { place = from; units = units }; peak = record { place = 0; units = 0 }; broken = None; left = left })
first_state letters part from units left room units_is keeps = record {
  start = refl;
  end = units_is;
  peak = refl;
  apart = omega arith;
  inside = omega (arith, room);
  passed = omega arith;
  highest = λ place less. (let zero_is : place ≡ 0 = omega (arith, less) in rw zero_is (omega arith));
  found = λ start end long inside. by start end (omega (arith, long, inside)) (omega (arith, long, inside));
} where
  by : (start end : ℕ) → start ≡ 0 → end ≡ from → KeepsBetween part letters start end
  by start end start_is end_is = rw (start_is, end_is) (omega (arith, keeps, units_is))

pub passings_long : (leaving entering : List Letter) → length entering ≤ length leaving → length (passings leaving entering) ≡ length entering
passings_long leaving [] less = refl
passings_long [] (enters ∷ entering) less = absurd (omega (arith, less))
passings_long (leaves ∷ leaving) (enters ∷ entering) less = let more = passings_long leaving entering (omega (arith, less)) in omega (arith, more)

-- it slid over all letters
module _ (letters : List Letter) (part from : ℕ) (old new : ShareState) (room : from ≤ length letters) (start : old.start.place ≡ 0) (end : old.end.place ≡ from) (part_is : old.part ≡ part) (found : HasFound letters from old)
    (slides : Slides old (passings_of from letters) new) where
  next : IsNext letters old (passings_of from letters)
  next = ([], (λ i. passings (drop (start i) letters) (drop (end i) letters)) ∙ sym (append-nil (passings_of from letters)))

  found_all : HasFound letters from new
  found_all = slides.finds letters from next found

  at_end : new.end.place ≡ length letters
  at_end = omega (arith, slides.end, end, passings_long letters (drop from letters) (omega (arith, length-drop from letters)), length-drop from letters, room)

  keeps_share : new.broken ≡ None → KeepsShare part 100 from letters
  keeps_share none window least long is =
      let at = (least_at letters window least is).at in
      let known : (start end : ℕ) → start + from ≤ end → end ≤ new.end.place → KeepsBetween new.part letters start end = rw none at found_all.found in
      let parts : new.part ≡ part = slides.part ∙ part_is in
      let here : KeepsBetween part letters at.0 (at.0 + window) = subst (λ p. KeepsBetween p letters at.0 (at.0 + window)) parts (known at.0 (at.0 + window) (omega (arith, long)) (omega (arith, at.1, at_end))) in
      omega (arith, here, units_between letters at.0 window, at.2)

  is_short : (stretch : Stretch) → new.broken ≡ Some stretch → IsShort part from letters stretch
  is_short stretch is = let parts : new.part ≡ part = slides.part ∙ part_is in subst (λ p. IsShort p from letters stretch) parts (rw is at found_all.found)

  pub none_found : IfNone new.broken (KeepsShare part 100 from letters)
  none_found = by new.broken refl where
    by : (broken : Option Stretch) → new.broken ≡ broken → IfNone broken (KeepsShare part 100 from letters)
    by None is = keeps_share is
    by (Some stretch) is = tt

  pub some_found : IfSome new.broken (IsShort part from letters)
  some_found = by new.broken refl where
    by : (broken : Option Stretch) → new.broken ≡ broken → IfSome broken (IsShort part from letters)
    by None is = tt
    by (Some stretch) is = is_short stretch is

-- Places -------------------------------------------------------------------------------------------

pub same_place : (place other : Place) → place.place ≡ other.place → place.units ≡ other.units → place ≡ other
same_place place other places units = λ i. record { place = places i; units = units i }

pub is_none : (broken : Option Stretch) → is_some broken ≡ false → broken ≡ None
is_none None none = refl
is_none (Some stretch) none = cc
