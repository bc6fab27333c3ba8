-- Steps one after the other: strides, what they keep, and how a quantum is made of them.
use Rattle.std.proofs.Common.{◌≡◌, ℕ, zero, suc, ◌+◌, ◌-◌, ◌*◌, ◌<◌, ◌≤◌, ◌||◌, ◌⊎◌, inl, inr, Bool, true, false, nat_lt, if◌then◌else◌, List, [], ◌∷◌, refl, sym, ap, ◌∙◌, subst, arith}
use Rattle.std.proofs.lemmas.Bool.{cases_Bool, or_parts, or_right, lt-ltb, le-ltb}
use Rattle.mh_model.specs.declared.cycle.Phase.{Phase}
use Rattle.mh_model.specs.declared.cycle.Phase.TheVariants.{Idle, Roots, Mark, Sweep, Defrag}
use Rattle.mh_model.specs.Collector.{Collector, Spending, after_mark, is_past, with_phase, cycle_end, phase_after, step_in, is_idle, is_moving, is_moving_in, step_cost, collector_step, with_units, steps, quantum_start, quantum}
use Rattle.mh_model.specs.Invariant.{IsSteady}
use Rattle.mh_laws.specs.Snapshots.{CollectorsStaySteady}
use Rattle.mh_laws.proofs.marking.BatchSteps.{with_units-twice}
use Rattle.mh_laws.proofs.costs.Quanta.{steps-stop, steps-go, steps-enough, step_cost-positive}
use Rattle.mh_cycle.specs.State.{CycleState, state_with_collector}
use Rattle.mh_cycle.specs.Auxiliary.{is_over, order, IsFrom, IsStride, IsStretch, IsMarkingTurn, IsAdvance, IsRest}

no-units : (s : Spending) → with_units 0 s ≡ s
no-units s = ap (λ u. record s { units = u }) (omega arith)

-- Strides ------------------------------------------------------------------------------------------

pub stride-none : (moved : Bool) (c : Collector) → IsStride 0 moved c moved c
stride-none moved c left fits = let a : left - 0 ≡ left = omega arith in rw a (sym (no-units (steps left left moved c)))

-- one stride after another
pub stride-then : (a b : ℕ) (m1 m2 m3 : Bool) (c1 c2 c3 : Collector) → IsStride a m1 c1 m2 c2 → IsStride b m2 c2 m3 c3 → IsStride (a + b) m1 c1 m3 c3
stride-then a b m1 m2 m3 c1 c2 c3 first second left fits = grind (arith, with_units-twice)

-- a step is a stride
pub stride-step : (moved : Bool) (c : Collector) → is_idle c.phase ≡ false → IsStride (step_cost c moved) moved c (moved || is_moving c) (collector_step c)
stride-step moved c runs left fits = go left fits
  where
    go : (n : ℕ) → step_cost c moved ≤ n → steps n n moved c ≡ with_units (step_cost c moved) (steps (n - step_cost c moved) (n - step_cost c moved) (moved || is_moving c) (collector_step c))
    go zero h = absurd (omega (arith, step_cost-positive c moved runs))
    go (suc n) h = grind (arith, le-ltb, steps-go, steps-enough, step_cost-positive)

-- the same by what the step costs, moves and leaves
pub stride-one : (units : ℕ) (moved moves : Bool) (old new : Collector) → is_idle old.phase ≡ false → units ≡ step_cost old moved → moves ≡ (moved || is_moving old) → new ≡ collector_step old → IsStride units moved old moves new
stride-one units moved moves old new runs price moving is = rw (price, moving, is) (stride-step moved old runs)

-- so many steps that each cost the same and move no block are one stride
pub stride-many : (cost : ℕ) (moved : Bool) (run : ℕ → Collector) (n : ℕ) → ((k : ℕ) → k < n → is_idle (run k).phase ≡ false) → ((k : ℕ) → k < n → step_cost (run k) moved ≡ cost) → ((k : ℕ) → k < n → (moved || is_moving (run k)) ≡ moved)
    → ((k : ℕ) → k < n → run (suc k) ≡ collector_step (run k)) → IsStride (n * cost) moved (run 0) moved (run n)
stride-many cost moved run zero runs price still next = let e : 0 * cost ≡ 0 = omega arith in rw e (stride-none moved (run 0))
stride-many cost moved run (suc n) runs price still next =
    let before = stride-many cost moved run n (λ k h. runs k (omega arith)) (λ k h. price k (omega arith)) (λ k h. still k (omega arith)) (λ k h. next k (omega arith)) in
    let last : IsStride cost moved (run n) moved (run (suc n)) = stride-one cost moved moved (run n) (run (suc n)) (runs n (omega arith)) (sym (price n (omega arith))) (sym (still n (omega arith))) (next n (omega arith)) in
    let e : suc n * cost ≡ n * cost + cost = omega arith in
    rw e (stride-then (n * cost) cost moved moved moved (run 0) (run n) (run (suc n)) before last)

-- What steps keep ----------------------------------------------------------------------------------

-- a property of collectors that each step keeps is kept by steps, and by a stride
module _ (P : Collector → Type 0) (keeps : (c : Collector) → is_idle c.phase ≡ false → P c → P (collector_step c)) where
  steps-keep : (more left : ℕ) (moved : Bool) (c : Collector) → P c → P (steps more left moved c).collector
  unfolding steps
  steps-keep zero left moved c is = is
  steps-keep (suc more) left moved c is = elim (cases_Bool (is_idle c.phase || nat_lt left (step_cost c moved))) [
    | inl stops ↦ subst (λ (s : Spending). P s.collector) (sym (steps-stop more left moved c stops)) is
    | inr goes ↦
        let (runs, fits) = or_parts (is_idle c.phase) (nat_lt left (step_cost c moved)) goes in
        subst (λ (s : Spending). P s.collector) (sym (steps-go more left moved c goes)) (steps-keep more (left - step_cost c moved) (moved || is_moving c) (collector_step c) (keeps c runs is))
  ]

  stride-keeps : (units : ℕ) (moved moves : Bool) (old new : Collector) → IsStride units moved old moves new → P old → P new
  unfolding steps
  stride-keeps units moved moves old new stride is = subst P (ap (λ s. s.collector) (stride units (omega arith)) ∙ at_rest) (steps-keep units units moved old is)
    where
      at_rest : (with_units units (steps (units - units) (units - units) moves new)).collector ≡ new
      at_rest = let e : units - units ≡ 0 = omega arith in rw e refl

-- it leaves a steady collector
pub stride-steady : CollectorsStaySteady → (units : ℕ) (moved moves : Bool) (old new : Collector) → IsStride units moved old moves new → IsSteady old → IsSteady new
stride-steady law units moved moves old new stride steady = stride-keeps IsSteady (λ c runs is. law.steps c is) units moved moves old new stride steady

-- Phases in order ----------------------------------------------------------------------------------

-- a step leaves its phase for a later one, if it leaves it
step-later : (c : Collector) → order c.phase ≤ order (collector_step c).phase
unfolding collector_step
step-later c = go c.phase refl
  where
    marked : (r : Collector) (grey : List ℕ) → 1 ≤ order (after_mark r grey).phase
    marked r [] = omega arith
    marked r (place ∷ grey) = omega arith

    go : (phase : Phase) → c.phase ≡ phase → order phase ≤ order (phase_after phase (step_in phase c)).phase
    go Idle is = rw is (omega arith)
    go Roots is = omega arith
    go Mark is = marked (step_in Mark c) (step_in Mark c).grey
    go Sweep is = swept (is_past (step_in Sweep c).table (step_in Sweep c).cursor)
      where
        swept : (past : Bool) → 2 ≤ order (if past then with_phase (step_in Sweep c) Defrag 0 else step_in Sweep c).phase
        swept true = omega arith
        swept false = rw is (omega arith)
    go Defrag is = moved (is_past (step_in Defrag c).table (step_in Defrag c).cursor)
      where
        moved : (past : Bool) → 3 ≤ order (if past then cycle_end (step_in Defrag c) else step_in Defrag c).phase
        moved true = omega arith
        moved false = omega arith

-- and so does a stride
pub stride-later : (units : ℕ) (moved moves : Bool) (old new : Collector) → IsStride units moved old moves new → order old.phase ≤ order new.phase
stride-later units moved moves old new stride = stride-keeps (λ c. order old.phase ≤ order c.phase) (λ c runs is. later c is) units moved moves old new stride (omega arith)
  where
    later : (c : Collector) → order old.phase ≤ order c.phase → order old.phase ≤ order (collector_step c).phase
    later c is = omega (arith, step-later c)

-- so a collector in a phase is in it or past it after a stride
pub from-stride : (phase : Phase) (left units : ℕ) (moved moves : Bool) (old new : Collector) → old.phase ≡ phase → IsStride units moved old moves new → IsFrom phase left new
from-stride phase left units moved moves old new is stride = inl (subst (λ p. order p ≤ order new.phase) is (stride-later units moved moves old new stride))

pub over : (left cost : ℕ) (moved : Bool) (c : Collector) → cost ≡ step_cost c moved → left < cost → is_over left moved c ≡ true
over left cost moved c price less = or_right (is_idle c.phase) (nat_lt left (step_cost c moved)) (rw (← price) (lt-ltb left cost less))

pub over-nothing : (left : ℕ) (moved : Bool) (c : Collector) → left ≡ 0 → is_over left moved c ≡ true
over-nothing left moved c none = grind (arith, cases_Bool, inl, inr, over, step_cost-positive)

-- no step at all, if the next one doesn't fit
pub steps-over : (n left : ℕ) (moved : Bool) (c : Collector) → is_over left moved c ≡ true → steps n left moved c ≡ record { units = 0; collector = c }
unfolding steps
steps-over zero left moved c stops = refl
steps-over (suc n) left moved c stops = steps-stop n left moved c stops

-- Advances -----------------------------------------------------------------------------------------

-- one stride more
pub advance-on : (left units cost all : ℕ) (m1 m2 : Bool) (old mid new : CycleState) → IsAdvance left old units m1 mid → all ≡ units + cost → cost ≤ left - units → new.config ≡ mid.config → IsSteady new.collector → IsStride cost m1 mid.collector m2 new.collector
    → IsAdvance left old all m2 new
advance-on left units cost all m1 m2 old mid new before sum fits config steady stride = grind (arith, with_units-twice)

-- one step more
pub advance-step : CollectorsStaySteady → (left units cost all : ℕ) (m1 m2 : Bool) (old mid new : CycleState) → IsAdvance left old units m1 mid → all ≡ units + cost → cost ≤ left - units
    → is_idle mid.collector.phase ≡ false → cost ≡ step_cost mid.collector m1 → m2 ≡ (m1 || is_moving mid.collector) → new ≡ state_with_collector mid (collector_step mid.collector) → IsAdvance left old all m2 new
advance-step law left units cost all m1 m2 old mid new before sum fits runs price moving is =
    let collector : new.collector ≡ collector_step mid.collector = ap (λ s. s.collector) is in
    advance-on left units cost all m1 m2 old mid new before sum fits (ap (λ s. s.config) is) (subst IsSteady (sym collector) (law.steps mid.collector before.steady)) (stride-one cost m1 m2 mid.collector new.collector runs price moving collector)

-- some steps more
pub advance-run : CollectorsStaySteady → (left units cost all : ℕ) (old mid new : CycleState) → IsAdvance left old units false mid → all ≡ units + cost → new ≡ state_with_collector mid new.collector → IsStretch (left - units) mid.collector cost new.collector
    → IsAdvance left old all false new
advance-run law left units cost all old mid new before sum state run =
    advance-on left units cost all false false old mid new before sum run.fits (ap (λ s. s.config) state) (stride-steady law cost false false mid.collector new.collector (run.goes false) before.steady) (run.goes false)

-- a stride more, by whether the quantum has moved a block
pub advance-stride : CollectorsStaySteady → (left units cost all : ℕ) (moved : Bool) (old mid new : CycleState) → IsAdvance left old units moved mid → all ≡ units + cost → cost ≤ left - units → new ≡ state_with_collector mid new.collector → IsStride cost moved mid.collector moved new.collector
    → IsAdvance left old all moved new
advance-stride law left units cost all moved old mid new before sum fits state stride =
    advance-on left units cost all moved moved old mid new before sum fits (ap (λ s. s.config) state) (stride-steady law cost moved moved mid.collector new.collector stride before.steady) stride

-- Turns --------------------------------------------------------------------------------------------

pub turn-none : (left : ℕ) (state : CycleState) → IsSteady state.collector → IsMarkingTurn left state 0 state
turn-none left state steady = record { config = refl; steady = steady; fits = omega arith; goes = λ moved. stride-none moved state.collector }

-- one step more
pub turn-step : CollectorsStaySteady → (left units cost all : ℕ) (old mid new : CycleState) → IsMarkingTurn left old units mid → all ≡ units + cost → cost ≤ left - units
    → is_idle mid.collector.phase ≡ false → ((moved : Bool) → cost ≡ step_cost mid.collector moved) → ((moved : Bool) → moved ≡ (moved || is_moving mid.collector)) → new ≡ state_with_collector mid (collector_step mid.collector) → IsMarkingTurn left old all new
turn-step law left units cost all old mid new before sum fits runs price moving is =
    let collector : new.collector ≡ collector_step mid.collector = ap (λ s. s.collector) is in
    record {
      config = ap (λ s. s.config) is ∙ before.config;
      steady = subst IsSteady (sym collector) (law.steps mid.collector before.steady);
      fits = omega (arith, before.fits);
      goes = λ moved. rw sum (stride-then units cost moved moved moved old.collector mid.collector new.collector (before.goes moved) (stride-one cost moved moved mid.collector new.collector runs (price moved) (moving moved) collector));
    }

-- some steps
pub turn-run : CollectorsStaySteady → (left units : ℕ) (old new : CycleState) → IsSteady old.collector → new ≡ state_with_collector old new.collector → IsStretch left old.collector units new.collector → IsMarkingTurn left old units new
turn-run law left units old new steady state run = record {
  config = ap (λ s. s.config) state;
  steady = stride-steady law units false false old.collector new.collector (run.goes false) steady;
  fits = run.fits;
  goes = run.goes;
}

-- with more left
pub turn-wider : (less left units : ℕ) (old new : CycleState) → IsMarkingTurn less old units new → less ≤ left → IsMarkingTurn left old units new
turn-wider less left units old new turn fits = record { config = turn.config; steady = turn.steady; fits = omega (arith, turn.fits); goes = turn.goes }

-- a turn begins a quantum, and goes on with one
pub advance-turn : (left units : ℕ) (old new : CycleState) → IsMarkingTurn left old units new → IsAdvance left old units false new
advance-turn left units old new turn = record { config = turn.config; steady = turn.steady; fits = turn.fits; goes = turn.goes false left turn.fits }

pub advance-by_turn : (left units cost all : ℕ) (old mid new : CycleState) → IsAdvance left old units false mid → all ≡ units + cost → IsMarkingTurn (left - units) mid cost new → IsAdvance left old all false new
advance-by_turn left units cost all old mid new before sum turn = advance-on left units cost all false false old mid new before sum turn.fits turn.config turn.steady (turn.goes false)

pub from-turn : (phase : Phase) (left most units : ℕ) (old new : CycleState) → old.collector.phase ≡ phase → IsMarkingTurn most old units new → IsFrom phase left new.collector
from-turn phase left most units old new is turn = from-stride phase left units false false old.collector new.collector is (turn.goes false)

-- in this phase or past it after a step, and after some steps
pub later-step : (phase : Phase) (mid new : CycleState) → mid.collector.phase ≡ phase → new ≡ state_with_collector mid (collector_step mid.collector) → order phase ≤ order new.collector.phase
later-step phase mid new is by = rw (by, ← is) (step-later mid.collector)

pub later-stride : (phase : Phase) (units : ℕ) (moved : Bool) (old new : Collector) → old.phase ≡ phase → IsStride units moved old moved new → order phase ≤ order new.phase
later-stride phase units moved old new is stride = subst (λ p. order p ≤ order new.phase) is (stride-later units moved moved old new stride)

pub from-step : (phase : Phase) (left : ℕ) (mid new : CycleState) → mid.collector.phase ≡ phase → new ≡ state_with_collector mid (collector_step mid.collector) → IsFrom phase left new.collector
from-step phase left mid new is by = inl (later-step phase mid new is by)

pub from-run : (phase : Phase) (left most units : ℕ) (old new : Collector) → old.phase ≡ phase → IsStretch most old units new → IsFrom phase left new
from-run phase left most units old new is run = from-stride phase left units false false old new is (run.goes false)

-- no phase but defragmentation moves a block
pub still : (phase : Phase) (moved : Bool) (c : Collector) → c.phase ≡ phase → is_moving_in phase c ≡ false → moved ≡ (moved || is_moving c)
still phase moved c is rests = nothing moved ∙ sym (ap (λ b. moved || b) (ap (λ p. is_moving_in p c) is ∙ rests))
  where
    nothing : (b : Bool) → b ≡ (b || false)
    nothing true = refl
    nothing false = refl

-- past defragmentation the quantum is over
pub over-past : (left : ℕ) (moved : Bool) (c : Collector) → (c.phase ≡ Defrag → ⊥) → (order Defrag ≤ order c.phase) ⊎ (is_over left moved c ≡ true) → is_over left moved c ≡ true
over-past left moved c other (inr stops) = stops
over-past left moved c other (inl is) = ap (λ b. b || nat_lt left (step_cost c moved)) (idle c.phase other is)
  where
    idle : (phase : Phase) → (phase ≡ Defrag → ⊥) → 3 ≤ order phase → is_idle phase ≡ true
    idle Idle other h = refl
    idle Defrag other h = absurd (other refl)
    idle earlier other h = absurd (omega arith)

-- the end of a quantum
pub advance-ends : (left units : ℕ) (moved : Bool) (old new : CycleState) → IsAdvance left old units moved new → is_over (left - units) moved new.collector ≡ true → IsRest left old units new
advance-ends left units moved old new before stops = grind (arith, steps-over)

-- what is done first, and the rest
advance-rest : (left units more : ℕ) (old mid new : CycleState) → IsAdvance left old units false mid → IsRest (left - units) mid more new → IsRest left old (units + more) new
advance-rest left units more old mid new before rest = grind arith

-- what a quantum spent, and what it left
pub record IsQuantum (old : CycleState) (units : ℕ) (new : CycleState) : Type 0 where
  pub spent : units ≡ (quantum old.config old.collector).units
  pub after : new ≡ state_with_collector old (quantum old.config old.collector).collector

quantum-is : (old begun new : CycleState) (most units : ℕ) → most ≡ old.config.quantum → begun ≡ state_with_collector old (quantum_start old.config old.collector) → IsRest most begun units new → IsQuantum old units new
unfolding quantum
quantum-is old begun new most units limit start rest =
    let all : quantum old.config old.collector ≡ record { units = units; collector = new.collector } = ap (λ n. steps n n false (quantum_start old.config old.collector)) (sym limit) ∙ ap (λ (s : CycleState). steps most most false s.collector) (sym start) ∙ rest.all in
    record {
      spent = sym (ap (λ s. s.units) all);
      after = ap (λ f. record { config = f; collector = new.collector }) (rest.config ∙ ap (λ s. s.config) start) ∙ ap (λ (s : Spending). state_with_collector old s.collector) (sym all);
    }

-- a quantum is its start and the four phases
pub quantum-made : (old begun s1 s2 s3 new : CycleState) (most u1 u2 u3 u4 : ℕ) → most ≡ old.config.quantum → begun ≡ state_with_collector old (quantum_start old.config old.collector)
    → IsAdvance most begun u1 false s1 → IsAdvance (most - u1) s1 u2 false s2 → IsAdvance (most - u1 - u2) s2 u3 false s3 → IsRest (most - u1 - u2 - u3) s3 u4 new
    → IsQuantum old (most - (most - u1 - u2 - u3 - u4)) new
quantum-made old begun s1 s2 s3 new most u1 u2 u3 u4 limit start a1 a2 a3 rest =
    let all : IsRest most begun (u1 + (u2 + (u3 + u4))) new = advance-rest most u1 (u2 + (u3 + u4)) begun s1 new a1 (advance-rest (most - u1) u2 (u3 + u4) s1 s2 new a2 (advance-rest (most - u1 - u2) u3 u4 s2 s3 new a3 rest)) in
    let sum : most - (most - u1 - u2 - u3 - u4) ≡ u1 + (u2 + (u3 + u4)) = omega (arith, a1.fits, a2.fits, a3.fits, rest.fits) in
    rw sum (quantum-is old begun new most (u1 + (u2 + (u3 + u4))) limit start all)
