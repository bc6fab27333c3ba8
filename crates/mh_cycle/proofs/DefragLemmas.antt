-- Steps of defragmentation whose slots are forwarded after the last.
use Rattle.std.proofs.Common.{◌≡◌, ◌⊎◌, ℕ, ◌+◌, ◌-◌, ◌≤◌, ◌||◌, inl, inr, Bool, true, false, List, Option, Some, None, is_some, refl, sym, ap, ◌∙◌, subst, arith}
use Rattle.std.proofs.lemmas.Bool.{false≢true}
use Rattle.mh_model.specs.declared.cycle.Phase.TheVariants.{Defrag}
use Rattle.mh_model.specs.Collector.{Collector, next_move, forwarded_slots, is_idle, step_cost, collector_step}
use Rattle.mh_model.specs.Invariant.{IsSteady}
use Rattle.mh_laws.specs.Snapshots.{CollectorsStaySteady}
use Rattle.mh_roots.specs.Roots.{SlotsLead}
use Rattle.mh_defrag.specs.Moves.{IsTarget, moved}
use Rattle.mh_defrag.proofs.MoveLemmas.{none-moves}
use Rattle.mh_cycle.specs.State.{CycleState, state_with_collector}
use Rattle.mh_cycle.specs.Auxiliary.{with_slots, with_forwarded, step_beside_slots, forwarded_state, order, is_over, IsFrom, IsStride, IsAdvance}
use Rattle.mh_cycle.proofs.StepLemmas.{cost-is, moving-defrag}
use Rattle.mh_cycle.proofs.StrideLemmas.{stride-none, advance-step, advance-stride, later-step}
use Rattle.mh_cycle.proofs.HopLemmas.{steady-forwarded, lead-on, step-once, table-after}

-- Before the first step ----------------------------------------------------------------------------

pub steady-same : (c : Collector) → IsSteady c → with_forwarded c ≡ c
steady-same c steady = ap (with_slots c) (steady-forwarded c steady)

pub advance-none : (left : ℕ) (state : CycleState) → IsSteady state.collector → IsAdvance left state 0 false (forwarded_state state)
advance-none left state steady = subst (IsAdvance left state 0 false) (ap (state_with_collector state) (sym (steady-same state.collector steady))) (record {
  config = refl;
  steady = steady;
  fits = omega arith;
  goes = stride-none false state.collector left (omega arith);
})

pub from-none : (left : ℕ) (c : Collector) → IsSteady c → IsFrom Defrag left c → (order Defrag ≤ order c.phase) ⊎ (is_over (left - 0) false (with_forwarded c) ≡ true)
from-none left c steady (inl is) = inl is
from-none left c steady (inr over) = let e : left - 0 ≡ left = omega arith in inr (ap (λ n. is_over n false (with_forwarded c)) e ∙ ap (is_over left false) (steady-same c steady) ∙ over)

-- Steps that move no block -------------------------------------------------------------------------

-- steps that move no block, whatever the slots are
pub record IsPassed (count : ℕ) (old new : CycleState) : Type 0 where
  pub state : new ≡ state_with_collector old new.collector
  pub table : new.collector.table ≡ old.collector.table
  pub slots : new.collector.slots ≡ old.collector.slots
  pub stride : (slots : List (Option ℕ)) (moved : Bool) → IsStride count moved (with_slots old.collector slots) moved (with_slots new.collector slots)

same-slots : (old new : CycleState) → new.collector.table ≡ old.collector.table → new.collector.slots ≡ old.collector.slots → forwarded_slots new.collector.table new.collector.slots ≡ forwarded_slots old.collector.table old.collector.slots
same-slots old new table slots = ap (λ t. forwarded_slots t new.collector.slots) table ∙ ap (forwarded_slots old.collector.table) slots

pub stride-passed : (count : ℕ) (moved : Bool) (old new : CycleState) → IsPassed count old new → IsStride count moved (with_forwarded old.collector) moved (with_forwarded new.collector)
stride-passed count moved old new is = subst (λ slots. IsStride count moved (with_forwarded old.collector) moved (with_slots new.collector slots)) (sym (same-slots old new is.table is.slots)) (is.stride (forwarded_slots old.collector.table old.collector.slots) moved)

pub advance-passed : CollectorsStaySteady → (left units count all : ℕ) (moved : Bool) (old mid new : CycleState) → IsAdvance left old units moved (forwarded_state mid) → all ≡ units + count → count ≤ left - units → IsPassed count mid new → IsAdvance left old all moved (forwarded_state new)
advance-passed law left units count all moved old mid new before sum fits is =
    advance-stride law left units count all moved old (forwarded_state mid) (forwarded_state new) before sum fits (ap (λ s. record { config = s.config; collector = with_forwarded new.collector }) is.state) (stride-passed count moved mid new is)

pub lead-passed : (count : ℕ) (old new : CycleState) → IsPassed count old new → SlotsLead old.collector.table old.collector.slots → SlotsLead new.collector.table new.collector.slots
lead-passed count old new is lead = subst (λ t. SlotsLead t new.collector.slots) (sym is.table) (subst (SlotsLead old.collector.table) (sym is.slots) lead)

pub still-passed : (count : ℕ) (old new : CycleState) → IsPassed count old new → forwarded_slots old.collector.table old.collector.slots ≡ old.collector.slots → forwarded_slots new.collector.table new.collector.slots ≡ new.collector.slots
still-passed count old new is still = same-slots old new is.table is.slots ∙ still ∙ sym is.slots

-- Steps that may move a block ----------------------------------------------------------------------

pub is-step : (mid new : CycleState) (target : Option ℕ) → mid.collector.phase ≡ Defrag → IsTarget mid.collector.table mid.collector.cursor target → IsSteady (with_forwarded mid.collector) → new ≡ state_with_collector mid (step_beside_slots mid.collector)
    → forwarded_state new ≡ state_with_collector (forwarded_state mid) (collector_step (with_forwarded mid.collector))
is-step mid new target phase of steady is = ap forwarded_state is ∙ ap (state_with_collector mid) (step-once mid.collector target phase of steady)

pub advance-moved : CollectorsStaySteady → (left units cost all : ℕ) (m1 m2 : Bool) (old mid new : CycleState) (target : Option ℕ) → IsAdvance left old units m1 (forwarded_state mid) → all ≡ units + cost → cost ≤ left - units
    → mid.collector.phase ≡ Defrag → IsTarget mid.collector.table mid.collector.cursor target → cost ≡ step_cost mid.collector m1 → m2 ≡ (m1 || is_some target) → new ≡ state_with_collector mid (step_beside_slots mid.collector)
    → IsAdvance left old all m2 (forwarded_state new)
advance-moved law left units cost all m1 m2 old mid new target before sum fits phase of price moves is =
    let c : Collector = with_forwarded mid.collector in
    advance-step law left units cost all m1 m2 old (forwarded_state mid) (forwarded_state new) before sum fits (ap is_idle phase)
    (price ∙ cost-is mid.collector Defrag m1 phase ∙ sym (cost-is c Defrag m1 phase))
    (moves ∙ ap (λ b. m1 || b) (moving-defrag c target phase of))
    (is-step mid new target phase of before.steady is)

pub from-moved : (mid new : CycleState) (target : Option ℕ) → mid.collector.phase ≡ Defrag → IsTarget mid.collector.table mid.collector.cursor target → IsSteady (with_forwarded mid.collector) → new ≡ state_with_collector mid (step_beside_slots mid.collector) → order Defrag ≤ order new.collector.phase
from-moved mid new target phase of steady is = later-step Defrag (forwarded_state mid) (forwarded_state new) phase (is-step mid new target phase of steady is)

table-is : (mid new : CycleState) → mid.collector.phase ≡ Defrag → new ≡ state_with_collector mid (step_beside_slots mid.collector) → new.collector.table ≡ moved mid.collector.table mid.collector.cursor (next_move mid.collector.table mid.collector.cursor)
table-is mid new phase is = ap (λ s. s.collector.table) is ∙ table-after mid.collector phase

slots-are : (mid new : CycleState) → new ≡ state_with_collector mid (step_beside_slots mid.collector) → new.collector.slots ≡ mid.collector.slots
slots-are mid new is = ap (λ s. s.collector.slots) is

pub lead-moved : (mid new : CycleState) (target : Option ℕ) → mid.collector.phase ≡ Defrag → IsTarget mid.collector.table mid.collector.cursor target → new ≡ state_with_collector mid (step_beside_slots mid.collector) → SlotsLead mid.collector.table mid.collector.slots → SlotsLead new.collector.table new.collector.slots
lead-moved mid new target phase of is lead = grind (arith, table-is, slots-are, lead-on)

-- where no block moved, slots are as they were
pub still-moved : (m1 m2 : Bool) (mid new : CycleState) (target : Option ℕ) → mid.collector.phase ≡ Defrag → IsTarget mid.collector.table mid.collector.cursor target → new ≡ state_with_collector mid (step_beside_slots mid.collector) → m2 ≡ (m1 || is_some target)
    → (m1 ≡ false → forwarded_slots mid.collector.table mid.collector.slots ≡ mid.collector.slots) → m2 ≡ false → forwarded_slots new.collector.table new.collector.slots ≡ new.collector.slots
still-moved m1 m2 mid new target phase of is moves still rests = go m1 target (sym moves ∙ rests) of still
  where
    go : (m : Bool) (t : Option ℕ) → (m || is_some t) ≡ false → IsTarget mid.collector.table mid.collector.cursor t → (m ≡ false → forwarded_slots mid.collector.table mid.collector.slots ≡ mid.collector.slots) → forwarded_slots new.collector.table new.collector.slots ≡ new.collector.slots
    go true t e of still = absurd (false≢true (sym e))
    go false (Some place) e of still = absurd (false≢true (sym e))
    go false None e of still =
        let stays : new.collector.table ≡ mid.collector.table = table-is mid new phase is ∙ ap (moved mid.collector.table mid.collector.cursor) (none-moves mid.collector.table mid.collector.cursor of) in
        same-slots mid new stays (slots-are mid new is) ∙ still refl ∙ sym (slots-are mid new is)
