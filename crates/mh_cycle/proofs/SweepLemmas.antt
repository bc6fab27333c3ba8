-- The steps of the sweep in one page are one stride.
use Rattle.std.proofs.Common.{◌≡◌, ℕ, zero, suc, ◌*◌, ◌/◌, ◌<◌, ◌≤◌, ◌||◌, Bool, true, false, length, refl, sym, ap, ◌∙◌, subst, arith}
use Rattle.mh_model.specs.declared.cycle.Phase.TheVariants.{Sweep, Defrag}
use Rattle.mh_model.specs.Collector.{Collector, with_phase, is_idle, is_moving, is_moving_in, collector_step}
use Rattle.mh_sweep.specs.Swept.{Sweeping, swept_on, IsSweptTo}
use Rattle.mh_cycle.specs.Auxiliary.{IsStride, IsStretch}
use Rattle.mh_cycle.proofs.StepLemmas.{cost-is, sweep-past, sweep-stays}
use Rattle.mh_cycle.proofs.StrideLemmas.{stride-then, stride-one, stride-many}

-- if a collector's sweep is
abbrev sweeping_of : Collector → Sweeping
sweeping_of c = record { table = c.table; place = c.cursor }

abbrev pub with_sweep : Collector → Sweeping → Collector
with_sweep c s = record c { table = s.table; cursor = s.place }

-- the collector after so many steps of the sweep
abbrev run : Collector → ℕ → Collector
run c k = with_sweep c (swept_on c.cycle k (sweeping_of c))

sweep-still : (c : Collector) (moved : Bool) → c.phase ≡ Sweep → (moved || is_moving c) ≡ moved
sweep-still c moved phase = ap (λ p. moved || is_moving_in p c) phase ∙ nothing moved
  where
    nothing : (b : Bool) → (b || false) ≡ b
    nothing true = refl
    nothing false = refl

sweep-stride : (c last : Collector) (n : ℕ) (moved : Bool) → c.phase ≡ Sweep → ((k : ℕ) → k < suc n → (run c k).cursor / 64 < length (run c k).table) → last ≡ collector_step (run c n) → IsStride (suc n) moved c moved last
sweep-stride c last n moved phase inside ends =
    let before : IsStride (n * 1) moved (run c 0) moved (run c n) = stride-many 1 moved (run c) n (λ k h. ap is_idle phase) (λ k h. cost-is (run c k) Sweep moved phase) (λ k h. sweep-still (run c k) moved phase) (λ k h. sym (sweep-stays (run c k) phase (inside (suc k) (omega arith)))) in
    let one : IsStride 1 moved (run c n) moved last = stride-one 1 moved moved (run c n) last (ap is_idle phase) (sym (cost-is (run c n) Sweep moved phase)) (sym (sweep-still (run c n) moved phase)) ends in
    grind (arith, stride-then)

sweep-run : (c last : Collector) (new : Sweeping) (count left : ℕ) → c.phase ≡ Sweep → IsSweptTo c.cycle (sweeping_of c) new count → count ≤ left → ((n : ℕ) → count ≡ suc n → last ≡ collector_step (run c n)) → IsStretch left c count last
sweep-run c last new zero left phase swept fits ends = absurd (omega (arith, swept.some))
sweep-run c last new (suc n) left phase swept fits ends = grind (arith, sweep-stride)

pub sweep-goes_past : (c : Collector) (new : Sweeping) (count left : ℕ) → c.phase ≡ Sweep → IsSweptTo c.cycle (sweeping_of c) new count → count ≤ left → length new.table ≤ new.place / 64 → IsStretch left c count (with_phase (with_sweep c new) Defrag 0)
sweep-goes_past c new count left phase swept fits past = sweep-run c (with_phase (with_sweep c new) Defrag 0) new count left phase swept fits (λ n is. sym (ends n (swept.is ∙ ap (λ k. swept_on c.cycle k (sweeping_of c)) is)))
  where
    ends : (n : ℕ) → new ≡ swept_on c.cycle (suc n) (sweeping_of c) → collector_step (run c n) ≡ with_phase (with_sweep c new) Defrag 0
    ends n e = sweep-past (run c n) phase (subst (λ (s : Sweeping). length s.table ≤ s.place / 64) e past) ∙ ap (λ s. with_phase (with_sweep c s) Defrag 0) (sym e)

pub sweep-goes_on : (c : Collector) (new : Sweeping) (count left : ℕ) → c.phase ≡ Sweep → IsSweptTo c.cycle (sweeping_of c) new count → count ≤ left → new.place / 64 < length new.table → IsStretch left c count (with_sweep c new)
sweep-goes_on c new count left phase swept fits inside = sweep-run c (with_sweep c new) new count left phase swept fits (λ n is. sym (ends n (swept.is ∙ ap (λ k. swept_on c.cycle k (sweeping_of c)) is)))
  where
    ends : (n : ℕ) → new ≡ swept_on c.cycle (suc n) (sweeping_of c) → collector_step (run c n) ≡ with_sweep c new
    ends n e = sweep-stays (run c n) phase (subst (λ (s : Sweeping). s.place / 64 < length s.table) e inside) ∙ ap (with_sweep c) (sym e)
