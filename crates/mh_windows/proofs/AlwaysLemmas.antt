-- The least of few windows says what each from one on has.
use Rattle.std.proofs.Common.{◌≡◌, ◌∙◌, ℕ, suc, ◌+◌, ◌-◌, ◌*◌, ◌<◌, ◌≤◌, nat_lt, Bool, true, false, Some, List, [], ◌∷◌, drop, get_or, length, ap, refl, arith}
use Rattle.std.proofs.{lemmas.Bool.Decides.nat_tests, lemmas.List.{drop_all, drop_more}, lemmas.Nat.mul-le}
use Rattle.std.proofs.Math.Nat.{mod-add-div}
use Rattle.mh_model.specs.Trace.{Letter, least_mutator}
use Rattle.mh_report.specs.Windows.{share_of}
use Rattle.mh_run_laws.specs.Windows.{KeepsShare}
use Rattle.mh_run_laws.proofs.windows.{StretchLemmas.{least_at, no_longer, units_few}, GrowthLemmas.{grows, shares}}
use Rattle.mh_windows.specs.declared.always.WindowLeast.{WindowLeast}
use Rattle.mh_windows.specs.Always.{GoToTheEnd, HasLeast, share_from, share_until}

-- Shares -----------------------------------------------------------------------------------------

-- a share is no more than what it is of
share_within : (units window : ℕ) → share_of units window * window ≤ units * 10000
share_within units window = omega (arith, mod-add-div (units * 10000) window)

-- a smaller share is one too
smaller : (share other window least : ℕ) → share ≤ other → other * window ≤ least * 10000 → share * window ≤ least * 10000
smaller share other window least less has = omega (arith, mul-le share window other window less (omega arith), has)

-- of a window of x units with `least` of them, beside one with `units` of which `long` may have no more
kept : (share units long x least : ℕ) → share * long ≤ units * 10000 → units * x ≤ least * long → 0 < long → share * x ≤ least * 10000
kept share units long x least within more some = by (nat_lt (least * 10000) (share * x)) refl where
  by : (b : Bool) → nat_lt (least * 10000) (share * x) ≡ b → share * x ≤ least * 10000
  by false test = grind (arith, nat_tests)
  by true test =
      let above : least * 10000 < share * x = grind (arith, nat_tests) in
      let higher : (least * 10000 + 1) * long ≤ share * x * long = mul-le (least * 10000 + 1) long (share * x) long (omega (arith, above)) (omega arith) in
      let first : share * long * x ≤ units * 10000 * x = mul-le (share * long) x (units * 10000) x within (omega arith) in
      grind (arith, mul-le)

-- there is no share of a window of no length
none_of : (long : ℕ) → long ≡ 0 → share_of 0 long ≡ 0
none_of long is = rw is refl

no_share : (share x least : ℕ) → share ≡ 0 → share * x ≤ least * 10000
no_share share x least is = rw is (omega arith)

module _ (letters : List Letter) where
  -- between two points
  between : (point next : WindowLeast) → HasLeast letters point → HasLeast letters next → point.window ≤ next.window → (x least : ℕ) → point.window ≤ x → x ≤ next.window → least_mutator x letters ≡ Some least → share_until point next * x ≤ least * 10000
  between point next one other less x least above below is = by (nat_lt 0 long) refl where
    long : ℕ
    long = next.window - (next.least - point.least)

    more : point.least * x ≤ least * long
    more = shares letters point.window x next.window point.least least next.least above below one is other

    by : (b : Bool) → nat_lt 0 long ≡ b → share_until point next * x ≤ least * 10000
    by true test = let some : 0 < long = grind (arith, nat_tests) in kept (share_until point next) point.least long x least (share_within point.least long) more some
    by false test = grind (arith, long, nat_tests, grows, least_at, units_few, no_share, none_of)

  from_first : (points : List WindowLeast) (point : WindowLeast) (rest : List WindowLeast) → points ≡ point ∷ rest → GoToTheEnd letters points → (x least : ℕ) → point.window ≤ x → least_mutator x letters ≡ Some least → share_from points * x ≤ least * 10000
  from_first [] point rest same go x least above is = absurd go
  from_first (first ∷ []) point rest same go x least above is = grind (arith, no_longer, share_within)
  from_first (first ∷ next ∷ points) point rest same go x least above is =
      let one : first ≡ point = cc in
      let window = ap (λ (p : WindowLeast). p.window) one in
      by (nat_lt x next.window) refl (λ later. from_first (next ∷ points) next points refl go.2 x least later is) (omega (arith, above, window))
    where
      next_has : (ps : List WindowLeast) → GoToTheEnd letters (next ∷ ps) → HasLeast letters next
      next_has [] goes = goes.0
      next_has (p ∷ ps) goes = goes.0

      by : (b : Bool) → nat_lt x next.window ≡ b → (next.window ≤ x → share_from (next ∷ points) * x ≤ least * 10000) → first.window ≤ x → share_from (first ∷ next ∷ points) * x ≤ least * 10000
      by true test later from =
          let short : x < next.window = grind (arith, nat_tests) in
          smaller _ (share_until first next) x least (omega arith) (between first next go.0 (next_has points go.2) go.1 x least from (omega (arith, short)) is)
      by false test later from =
          let long : next.window ≤ x = grind (arith, nat_tests) in
          smaller _ (share_from (next ∷ points)) x least (omega arith) (later long)

pub keeps_from : (letters : List Letter) (point : WindowLeast) (points : List WindowLeast) → GoToTheEnd letters (point ∷ points) → KeepsShare (share_from (point ∷ points)) 10000 point.window letters
keeps_from letters point points go window least above is = from_first letters (point ∷ points) point points refl go window least above is

-- The last point -----------------------------------------------------------------------------------

-- the share of the last point
abbrev pub share_of_last : List WindowLeast → ℕ
share_of_last [] = 0
share_of_last (point ∷ []) = share_of point.least point.window
share_of_last (point ∷ next ∷ points) = share_of_last (next ∷ points)

pub some_point : (letters : List Letter) (points : List WindowLeast) → GoToTheEnd letters points → 0 < length points
some_point letters [] go = absurd go
some_point letters (point ∷ points) go = omega arith

pub from_within : (points : List WindowLeast) → share_from points ≤ share_of_last points
from_within [] = omega arith
from_within (point ∷ []) = omega arith
from_within (point ∷ next ∷ points) = let less = from_within (next ∷ points) in omega (arith, less)

pub last_at : (points : List WindowLeast) (d : WindowLeast) → 0 < length points → share_of (get_or points (length points - 1) d).least (get_or points (length points - 1) d).window ≡ share_of_last points
last_at [] d some = absurd (omega (arith, some))
last_at (point ∷ []) d some = refl
last_at (point ∷ next ∷ points) d some =
    let later : suc (suc (length points)) - 1 ≡ suc (suc (length points) - 1) = omega arith in
    rw later (last_at (next ∷ points) d (omega arith))

-- two points that stand next
pub two_at : (points : List WindowLeast) (i : ℕ) (d : WindowLeast) → i + 1 < length points → (rest : List WindowLeast) × (drop i points ≡ get_or points i d ∷ get_or points (i + 1) d ∷ rest) × (drop (i + 1) points ≡ get_or points (i + 1) d ∷ rest)
two_at points i d inside =
    let here = drop_more points i d (omega (arith, inside)) in
    let there = drop_more points (i + 1) d inside in
    (drop (i + 1 + 1) points, here ∙ ap (λ ps. get_or points i d ∷ ps) there, there)

pub one_left : (points : List WindowLeast) (i : ℕ) (d : WindowLeast) → i < length points → length points ≤ i + 1 → drop i points ≡ get_or points i d ∷ []
one_left points i d inside last = drop_more points i d inside ∙ ap (λ ps. get_or points i d ∷ ps) (drop_all (i + 1) points last)

-- where both are of longer and longer windows, the shares can be had
module _ (letters : List Letter) (point next : WindowLeast) (rest : List WindowLeast) (go : GoToTheEnd letters (point ∷ next ∷ rest)) where
  next_least : HasLeast letters next
  next_least = by rest go.2 where
    by : (rest : List WindowLeast) → GoToTheEnd letters (next ∷ rest) → HasLeast letters next
    by [] goes = goes.0
    by (p ∷ ps) goes = goes.0

  pub least_more : point.least ≤ next.least
  least_more = grows.never_falls letters point.window next.window point.least next.least go.1 go.0 next_least

  pub least_fits : next.least - point.least ≤ next.window
  least_fits = grind (arith, least_at, next_least, units_few)
