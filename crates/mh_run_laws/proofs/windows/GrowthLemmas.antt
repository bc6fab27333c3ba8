-- The least of a window grows with it, and no faster.
use Rattle.std.proofs.Common.{◌≡◌, ℕ, ◌+◌, ◌-◌, ◌*◌, ◌<◌, ◌≤◌, nat_lt, Bool, true, false, List, length, ap, refl, arith}
use Rattle.std.proofs.{lemmas.Bool.Decides.nat_tests, lemmas.Nat.mul-le}
use Rattle.mh_model.specs.Trace.{Letter}
use Rattle.mh_run_laws.specs.{WindowLaws.{LeastGrows, SharesBetween}, Windows.{IsLeast, units_in}}
use Rattle.mh_run_laws.proofs.windows.StretchLemmas.{least_at, units_between, units_few}

module _ (letters : List Letter) where
  -- a stretch has its beginnings in it
  longer : (start v w : ℕ) → v ≤ w → units_in letters start v ≤ units_in letters start w
  longer start v w less =
      let rest : start + w ≡ start + v + (w - v) = omega (arith, less) in
      let whole = units_between letters start w in
      let part = units_between letters start v in
      let later = units_between letters (start + v) (w - v) in
      grind arith

  falls_never : (v w a b : ℕ) → v ≤ w → IsLeast letters v a → IsLeast letters w b → a ≤ b
  falls_never v w a b less short long = grind (arith, longer)

  -- a window stands around the stretch with the least of a shorter one
  around : (v w start first : ℕ) → first ≤ start → start + v ≤ first + w → units_in letters first w + v ≤ units_in letters start v + w
  around v w start first low high =
      let whole = units_between letters first w in
      let part = units_between letters start v in
      let head = units_between letters first (start - first) in
      let tail = units_between letters (start + v) (first + w - (start + v)) in
      grind (arith, units_few)

  grows_slowly : (v w a b : ℕ) → v ≤ w → IsLeast letters v a → IsLeast letters w b → b + v ≤ a + w
  grows_slowly v w a b less short long = by (nat_lt (length letters) (start + w)) refl where
    start : ℕ
    start = short.at.0

    room : w ≤ length letters
    room = omega (arith, long.at.1)

    by : (c : Bool) → nat_lt (length letters) (start + w) ≡ c → b + v ≤ a + w
    by true test =
        let late : length letters < start + w = grind (arith, nat_tests) in
        let first : ℕ = length letters - w in
        omega (arith, long.below first (omega (arith, room)), around v w start first (omega (arith, late, room)) (omega (arith, short.at.1, room)), short.at.2)
    by false test = grind (arith, start, nat_tests, around)

  add_up : (v w a b c : ℕ) → IsLeast letters v a → IsLeast letters w b → IsLeast letters (v + w) c → a + b ≤ c
  add_up v w a b c one other both =
      let there = both.at in
      let start : ℕ = there.0 in
      let first = units_between letters start v in
      let second = units_between letters (start + v) w in
      grind (arith, units_between)

pub grows : LeastGrows
grows = record {
  never_falls = λ letters v w a b less short long. falls_never letters v w a b less (least_at letters v a short) (least_at letters w b long);
  slowly = λ letters v w a b less short long. grows_slowly letters v w a b less (least_at letters v a short) (least_at letters w b long);
  adds_up = λ letters v w a b c one other both. add_up letters v w a b c (least_at letters v a one) (least_at letters w b other) (least_at letters (v + w) c both);
}

-- Shares -----------------------------------------------------------------------------------------

-- of numbers: `a` of the shorter window, `b` of the longer, and `c` of one between
share_between : (v x w a b c : ℕ) → a ≤ v → v ≤ x → x ≤ w → a ≤ b → a ≤ c → b + x ≤ c + w → b + v ≤ a + w → a * x ≤ c * (w - (b - a))
share_between v x w a b c few above below ab ac fast slow = by (nat_lt d x) refl where
  d : ℕ
  d = w - (b - a)

  by : (t : Bool) → nat_lt d x ≡ t → a * x ≤ c * d
  by false test = let short : x ≤ d = grind (arith, nat_tests) in mul-le a x c d ac short
  by true test =
      let long : d < x = grind (arith, nat_tests) in
      let e : ℕ = x - d in
      let split : x ≡ d + e = omega (arith, long) in
      let enough : a ≤ d = omega (arith, few, slow, ab) in
      let more : a + e ≤ c = omega (arith, fast, ab, slow, above, long) in
      let whole : a * x ≡ a * (d + e) = ap (λ y. a * y) split in
      omega (arith, whole, mul-le (a + e) d c d more (omega arith), mul-le e a e d (omega arith) enough)

pub shares : SharesBetween
shares letters v x w a c b above below short middle long =
    let one = least_at letters v a short in
    let there = one.at in
    share_between v x w a b c
    (omega (arith, there.2, units_few letters there.0 v))
    above
    below
    (falls_never letters v w a b (omega (arith, above, below)) one (least_at letters w b long))
    (falls_never letters v x a c above one (least_at letters x c middle))
    (grows_slowly letters x w c b below (least_at letters x c middle) (least_at letters w b long))
    (grows_slowly letters v w a b (omega (arith, above, below)) one (least_at letters w b long))
