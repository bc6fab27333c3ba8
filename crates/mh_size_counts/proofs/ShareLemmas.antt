-- The mutator has a share of each window of a length and of each longer one, if it has that share of two: of the window of that length, and of the first
-- from there on that ends with a whole quantum.
use Rattle.std.proofs.Common.{◌≡◌, ℕ, zero, suc, ◌+◌, ◌-◌, ◌*◌, ◌/◌, ◌%◌, ◌<◌, ◌≤◌, max, ap, subst, inl, inr, arith}
use Rattle.std.proofs.{lemmas.Grind.div_ceil_times, lemmas.Nat.{mul-le, div-mul-add, mod-mul-add}, lemmas.Bool.cases_lt}
use Rattle.std.specs.Int.{div_ceil}
use Rattle.mh_model.specs.Trace.{floor}
use Rattle.mh_orders.specs.declared.target_options.Target.{Target}
use Rattle.mh_size_counts.specs.Targets.{IsMetBy}
use Rattle.mh_size_counts.proofs.FloorLemmas.{floor_is, floor_most}

-- a share of so many rounds and a quantum is one of a round, and it is none of no rounds
round_of : (u m k q : ℕ) → 1 ≤ k → u * (q * (m + k) + k) ≤ 100 * (q * m) → u * (m + k) ≤ 100 * m
round_of u m k zero some share =
    let none : u * 1 ≤ u * k = mul-le u 1 u k (omega arith) some in
    let no : u ≡ 0 = omega (arith, none) in
    let nothing : u * (m + k) ≡ 0 * (m + k) = ap (λ n. n * (m + k)) no in
    omega (arith, nothing)
round_of u m k (suc q) some share = elim (cases_lt (100 * m) (u * (m + k))) [
  | inl more ↦
      let far : suc q * suc (100 * m) ≤ suc q * (u * (m + k)) = mul-le (suc q) (suc (100 * m)) (suc q) (u * (m + k)) (omega arith) more in
      absurd (omega (arith, far))
  | inr less ↦ less
]

few_of : (u m k : ℕ) → 1 ≤ m → u * (m + k) ≤ 100 * m → u ≤ 100
few_of u m k some share = elim (cases_lt 100 u) [
  | inl more ↦
      let far : 101 * (m + k) ≤ u * (m + k) = mul-le 101 (m + k) u (m + k) more (omega arith) in
      absurd (omega (arith, far))
  | inr less ↦ less
]

-- a longer window that ends before the next whole quantum has the share if the length has
before_next : (u m k a d w here there : ℕ) → u ≤ 100 → d ≤ w → (m + k) * a + k < d → here ≤ max (m * a) (d - k * suc a) → w - k * suc a ≤ there → u * d ≤ 100 * here → u * w ≤ 100 * there
before_next u m k a d w here there few longer late most least share =
    let counted : u * (w - d) ≤ 100 * (w - d) = mul-le u (w - d) 100 (w - d) few (omega arith) in
    let whole : u * w ≡ u * (d + (w - d)) = ap (λ n. u * n) (omega arith) in
    omega (arith, counted, whole)

-- a share of so many rounds and a quantum is one of windows with more rounds
after_next : (u m k q c w there : ℕ) → u ≤ 100 → u * (m + k) ≤ 100 * m → u * (q * (m + k) + k) ≤ 100 * (q * m) → m * (q + c) ≤ there → w - k * suc (q + c) ≤ there → u * w ≤ 100 * there
after_next u m k q c w there few round share least past =
    let rounds : c * (u * (m + k)) ≤ c * (100 * m) = mul-le c (u * (m + k)) c (100 * m) (omega arith) round in
    let end : ℕ = (q + c) * (m + k) + k in
    elim (cases_lt end w) [
      | inl more ↦
          let counted : u * (w - end) ≤ 100 * (w - end) = mul-le u (w - end) 100 (w - end) few (omega arith) in
          let whole : u * w ≡ u * (end + (w - end)) = ap (λ n. u * n) (omega arith) in
          omega (arith, rounds, counted, whole)
      | inr less ↦ let within : u * w ≤ u * end = mul-le u w u end (omega arith) less in omega (arith, rounds, within)
    ]

-- how many whole rounds there are before the first window from a length on that ends with a whole quantum
abbrev pub rounds_before : ℕ → ℕ → ℕ → ℕ
rounds_before m k window = div_ceil (window - k) (m + k)

-- that window
abbrev pub next_window : ℕ → ℕ → ℕ → ℕ
next_window m k window = rounds_before m k window * (m + k) + k

next_is_longer : (m k d : ℕ) → 1 ≤ k → d ≤ next_window m k d
next_is_longer m k d some = omega (arith, (div_ceil_times (d - k) (m + k) (omega arith)).0)

next_floor : (m k q : ℕ) → 1 ≤ m → floor m k (q * (m + k) + k) ≡ q * m
next_floor m k q some =
    let whole : (q * (m + k) + k) / (m + k) ≡ q = div-mul-add q (m + k) k (omega arith) in
    let left : (q * (m + k) + k) % (m + k) ≡ k = mod-mul-add q (m + k) k (omega arith) in
    let product : m * ((q * (m + k) + k) / (m + k)) ≡ m * q = ap (λ n. m * n) whole in
    omega (arith, product, left)

two_windows : (u m k d w : ℕ) → 1 ≤ m → 1 ≤ k → u * d ≤ 100 * floor m k d → u * next_window m k d ≤ 100 * (rounds_before m k d * m) → d ≤ w → u * w ≤ 100 * floor m k w
two_windows u m k d w some one first second longer =
    let q = rounds_before m k d in
    let a = w / (m + k) in
    let round : u * (m + k) ≤ 100 * m = round_of u m k q one second in
    let few : u ≤ 100 = few_of u m k some round in
    elim (cases_lt a q) [
      | inl before ↦
          let far : suc a * (m + k) ≤ q * (m + k) = mul-le (suc a) (m + k) q (m + k) before (omega arith) in
          let late : (m + k) * a + k < d = omega (arith, far, (div_ceil_times (d - k) (m + k) (omega arith)).1) in
          before_next u m k a d w (floor m k d) (floor m k w) few longer late (floor_most m k d a (omega arith)) (omega (arith, floor_is m k w)) first
      | inr after ↦
          let more : q + (a - q) ≡ a = omega arith in
          after_next u m k q (a - q) w (floor m k w) few round second (rw more (omega (arith, floor_is m k w))) (rw more (omega (arith, floor_is m k w)))
    ]

-- Targets ----------------------------------------------------------------------------------------

-- What a window of a target's length has, and the first from there on that ends with a whole quantum, decide of all
pub record AreMet (target : Target) (every quantum : ℕ) : Type 0 where
  pub first : target.percent * target.window ≤ 100 * floor every quantum target.window
  pub next : target.percent * next_window every quantum target.window ≤ 100 * (rounds_before every quantum target.window * every)

pub met_by_two : (target : Target) (every quantum : ℕ) → 1 ≤ every → 1 ≤ quantum → AreMet target every quantum → IsMetBy target every quantum
met_by_two target every quantum some one two = record { each = λ window. two_windows target.percent every quantum target.window window some one two.first two.next }

pub two_are_met : (target : Target) (every quantum : ℕ) → 1 ≤ every → 1 ≤ quantum → IsMetBy target every quantum → AreMet target every quantum
two_are_met target every quantum some one met =
    let rounds = rounds_before every quantum target.window in
    let window = next_window every quantum target.window in
    record {
      first = met.each target.window (omega arith);
      next = subst (λ (n : ℕ). target.percent * window ≤ 100 * n) (next_floor every quantum rounds some) (met.each window (next_is_longer every quantum target.window one));
    }
