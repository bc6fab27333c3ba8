-- One window decides on the floors of all.
use Rattle.std.proofs.Common.{◌≡◌, ◌∙◌, ℕ, zero, suc, ◌+◌, ◌-◌, ◌*◌, ◌/◌, ◌%◌, ◌<◌, ◌≤◌, min, nat_lt, Bool, true, false, Some, List, length, ap, sym, refl, arith}
use Rattle.std.proofs.{lemmas.Bool.Decides.nat_tests, lemmas.Nat.{div-mul-add, mod-mul-add, mod_below}}
use Rattle.std.proofs.Math.Nat.{mod-add-div}
use Rattle.mh_model.specs.Trace.{Letter, floor, least_mutator}
use Rattle.mh_run_laws.specs.WindowLaws.{OneWindowDecides}
use Rattle.mh_run_laws.proofs.windows.{GrowthLemmas.grows, StretchLemmas.{has_least, no_longer}}

module _ (m k : ℕ) (some : 0 < m + k) where
  floor_of_rounds : (rounds rest : ℕ) → rest < m + k → floor m k (rounds * (m + k) + rest) ≡ m * rounds + (rest - k)
  floor_of_rounds rounds rest small = rw (div-mul-add rounds (m + k) rest small, mod-mul-add rounds (m + k) rest small) refl

  -- up to a round only what the quantum may take is missing
  pub floor_of_part : (w : ℕ) → w ≤ m + k → floor m k w ≡ w - k
  floor_of_part w small = by (nat_lt w (m + k)) refl where
    by : (b : Bool) → nat_lt w (m + k) ≡ b → floor m k w ≡ w - k
    by true test =
        let less : w < m + k = grind (arith, nat_tests) in
        let is : 0 * (m + k) + w ≡ w = omega arith in
        ap (floor m k) (sym is) ∙ floor_of_rounds 0 w less ∙ omega arith
    by false test =
        let more : m + k ≤ w = grind (arith, nat_tests) in
        let is : 1 * (m + k) + 0 ≡ w = omega (arith, small, more) in
        ap (floor m k) (sym is) ∙ floor_of_rounds 1 0 some ∙ omega (arith, is)

  -- a round more adds its units of the mutator
  floor_of_more : (w : ℕ) → floor m k (m + k + w) ≡ m + floor m k w
  floor_of_more w =
      let rounds : ℕ = w / (m + k) in
      let rest : ℕ = w % (m + k) in
      let small : rest < m + k = mod_below w (m + k) some in
      let split : rest + (m + k) * rounds ≡ w = mod-add-div w (m + k) in
      let is : m + k + w ≡ suc rounds * (m + k) + rest = omega (arith, split) in
      ap (floor m k) is ∙ floor_of_rounds (suc rounds) rest small ∙ omega arith

  -- so long is the window that decides
  module _ (letters : List Letter) (window least : ℕ) (window_is : window ≡ min (m + k) (length letters)) (decides : least_mutator window letters ≡ Some least) (keeps : floor m k window ≤ least) where
    of_window : window - k ≤ least
    of_window = omega (arith, keeps, window_is, floor_of_part window (omega (arith, window_is)))

    short : (w count : ℕ) → w ≤ window → least_mutator w letters ≡ Some count → floor m k w ≤ count
    short w count less is = omega (arith, floor_of_part w (omega (arith, less, window_is)), of_window, grows.slowly letters w window count least less is decides, less)

    longer : (w count : ℕ) → window < w → least_mutator w letters ≡ Some count → ((count : ℕ) → least_mutator (w - (m + k)) letters ≡ Some count → floor m k (w - (m + k)) ≤ count) → floor m k w ≤ count
    longer w count long is before =
        let inside : w ≤ length letters = no_longer letters w count is in
        let round : window ≡ m + k = omega (arith, window_is, long, inside) in
        let rest : ℕ = w - (m + k) in
        let split : w ≡ m + k + rest = omega (arith, long, round) in
        let has = has_least letters rest (omega (arith, inside)) in
        grind (arith, grows, floor_of_more, of_window)

    all : (most w count : ℕ) → w ≤ most → least_mutator w letters ≡ Some count → floor m k w ≤ count
    all zero w count few is = short w count (omega (arith, few)) is
    all (suc most) w count few is = by (nat_lt window w) refl (λ fewer. all most (w - (m + k)) fewer) where
      by : (b : Bool) → nat_lt window w ≡ b → ((fewer : ℕ) → w - (m + k) ≤ most → least_mutator (w - (m + k)) letters ≡ Some fewer → floor m k (w - (m + k)) ≤ fewer) → floor m k w ≤ count
      by false test before = let less : w ≤ window = grind (arith, nat_tests) in short w count less is
      by true test before = let long : window < w = grind (arith, nat_tests) in longer w count long is (λ fewer. before fewer (omega (arith, few, some)))

pub one_decides : OneWindowDecides
one_decides letters m k least some decides = grind (arith, all)
