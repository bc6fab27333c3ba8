-- The steps of defragmentation that move no block are one stride.
use Rattle.std.proofs.Common.{◌≡◌, ℕ, zero, suc, ◌*◌, ◌/◌, ◌<◌, ◌≤◌, ◌||◌, Bool, length, is_some, sym, ap, ◌∙◌, subst, arith}
use Rattle.mh_model.specs.declared.cycle.Phase.TheVariants.{Defrag}
use Rattle.mh_model.specs.Collector.{Collector, move_cost, cycle_end, is_idle, is_moving, collector_step, step_cost}
use Rattle.mh_defrag.specs.Moves.{moved, AreStill, place_after}
use Rattle.mh_cycle.specs.Auxiliary.{IsStride}
use Rattle.mh_cycle.proofs.StepLemmas.{slots_moved, cost-is, defrag-ends, defrag-goes}
use Rattle.mh_cycle.proofs.StrideLemmas.{stride-then, stride-one, stride-many, still}

-- the collector after so many steps that move no block
abbrev run : Collector → ℕ → Collector
run c k = record c { cursor = place_after c.table c.cursor k }

module _ (c : Collector) (n next : ℕ) (phase : c.phase ≡ Defrag) (is : AreStill c.table c.cursor n next) where
  pass-cost : (moved : Bool) (k : ℕ) → k < n → step_cost (run c k) moved ≡ 1
  pass-cost moved k below = cost-is (run c k) Defrag moved phase ∙ ap (move_cost moved) (is.stay k below)

  pass-still : (moved : Bool) (k : ℕ) → k < n → moved ≡ (moved || is_moving (run c k))
  pass-still moved k below = still Defrag moved (run c k) phase (ap is_some (is.stay k below))

  pass-step : (k : ℕ) → k < n → place_after c.table c.cursor (suc k) / 64 < length c.table → run c (suc k) ≡ collector_step (run c k)
  pass-step k below inside = grind (arith, defrag-goes, slots_moved)

  pass-last : (k : ℕ) → k < n → length c.table ≤ place_after c.table c.cursor (suc k) / 64 → cycle_end (run c (suc k)) ≡ collector_step (run c k)
  pass-last k below past = grind (arith, defrag-ends, slots_moved)

-- the last of these steps may end the cycle
passes : (c last : Collector) (n next : ℕ) (moved : Bool) → c.phase ≡ Defrag → AreStill c.table c.cursor (suc n) next → last ≡ collector_step (run c n) → IsStride (suc n) moved c moved last
passes c last n next moved phase is ends =
    let before : IsStride (n * 1) moved (run c 0) moved (run c n) = stride-many 1 moved (run c) n (λ k h. ap is_idle phase) (λ k h. pass-cost c (suc n) next phase is moved k (omega arith)) (λ k h. sym (pass-still c (suc n) next phase is moved k (omega arith))) (λ k h. pass-step c (suc n) next phase is k (omega arith) (is.inside (suc k) (omega arith))) in
    let one : IsStride 1 moved (run c n) moved last = stride-one 1 moved moved (run c n) last (ap is_idle phase) (sym (pass-cost c (suc n) next phase is moved n (omega arith))) (pass-still c (suc n) next phase is moved n (omega arith)) ends in
    grind (arith, stride-then)

pub pass-goes : (c : Collector) (count next : ℕ) (moved : Bool) → c.phase ≡ Defrag → AreStill c.table c.cursor count next → 0 < count → next / 64 < length c.table → IsStride count moved c moved (record c { cursor = next })
pass-goes c zero next moved phase is some inside = absurd (omega arith)
pass-goes c (suc n) next moved phase is some inside =
    passes c (record c { cursor = next }) n next moved phase is (ap (λ place. record c { cursor = place }) is.leads ∙ pass-step c (suc n) next phase is n (omega arith) (subst (λ place. place / 64 < length c.table) is.leads inside))

pub pass-ends : (c : Collector) (count next : ℕ) (moved : Bool) → c.phase ≡ Defrag → AreStill c.table c.cursor count next → 0 < count → length c.table ≤ next / 64 → IsStride count moved c moved (cycle_end c)
pass-ends c zero next moved phase is some past = absurd (omega arith)
pass-ends c (suc n) next moved phase is some past = passes c (cycle_end c) n next moved phase is (pass-last c (suc n) next phase is n (omega arith) (subst (λ place. length c.table ≤ place / 64) is.leads past))
