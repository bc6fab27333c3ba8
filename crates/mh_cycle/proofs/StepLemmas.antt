-- A step of each phase, by what was done.
use Rattle.std.proofs.Common.{◌≡◌, ℕ, suc, ◌+◌, ◌/◌, ◌<◌, ◌≤◌, ◌≢◌, ◌==◌, Bool, false, if◌then◌else◌, List, [], ◌∷◌, length, Option, Some, None, is_some, option_map, slice_get, eq-eqb, refl, sym, ap, ◌∙◌, arith}
use Rattle.std.proofs.{lemmas.Bool.{le-leb, lt-leb, ne_eqb}, lemmas.Option.same_Some}
use Rattle.mh_model.specs.{declared.cycle.Phase.Phase, declared.cycle.Phase.TheVariants.{Roots, Mark, Sweep, Defrag}}
use Rattle.mh_model.specs.{Pages.Table, Table.{Block, references_at}}
use Rattle.mh_model.specs.Collector.{Collector, Move, cycle_end, next_move, next_place, flagged_page, with_move, moved_table, forwarded_slots, is_moving, is_moving_in, is_past, roots_step, mark_step, sweep_step, defrag_step, with_phase, with_marking, marking_of, after_mark, phase_after, step_in, cost_in, first_mark_cost, step_cost, collector_step}
use Rattle.mh_model.specs.Limits.{root_slots}
use Rattle.mh_defrag.specs.Moves.{IsTarget, moved}
use Rattle.mh_cycle.specs.Auxiliary.{with_slots, step_beside_slots}

pub step-is : (c : Collector) (phase : Phase) → c.phase ≡ phase → collector_step c ≡ phase_after phase (step_in phase c)
unfolding collector_step
step-is c phase is = ap (λ p. phase_after p (step_in p c)) is

pub cost-is : (c : Collector) (phase : Phase) (moved : Bool) → c.phase ≡ phase → step_cost c moved ≡ cost_in phase c moved
unfolding step_cost
cost-is c phase moved is = ap (λ p. cost_in p c moved) is

-- Roots and marking --------------------------------------------------------------------------------

pub first-cost : (table : Table Block) (grey : List ℕ) (place : ℕ) → slice_get grey 0 ≡ Some place → first_mark_cost table grey ≡ 1 + length (references_at table place)
first-cost table [] place is = cc
first-cost table (first ∷ grey) place is = let same : first ≡ place = same_Some first place is in rw same refl

-- marking goes on, or the sweep follows
pub after-mark : (r : Collector) (phase : Phase) (grey : List ℕ) → phase ≡ (if length grey == 0 then Sweep else Mark) → after_mark r grey ≡ with_phase r phase 0
after-mark r phase [] next = rw next refl
after-mark r phase (place ∷ grey) next =
    let some : (length (place ∷ grey) == 0) ≡ false = ne_eqb (length (place ∷ grey)) 0 (λ e. never grey e) in
    rw (next, some) refl
  where
    never : (grey : List ℕ) → suc (length grey) ≡ 0 → ⊥
    never grey e = omega arith

pub roots-after : (c : Collector) (phase : Phase) → c.phase ≡ Roots → c.cursor + 1 ≡ root_slots → phase ≡ (if length (roots_step c).grey == 0 then Sweep else Mark) → collector_step c ≡ with_phase (roots_step c) phase 0
roots-after c phase in_roots last next =
    step-is c Roots in_roots ∙ ap (λ b. if b then after_mark (roots_step c) (roots_step c).grey else roots_step c) (eq-eqb (c.cursor + 1) root_slots last) ∙ after-mark (roots_step c) phase (roots_step c).grey next

pub roots-stay : (c : Collector) → c.phase ≡ Roots → c.cursor + 1 ≢ root_slots → collector_step c ≡ roots_step c
roots-stay c in_roots more = step-is c Roots in_roots ∙ ap (λ b. if b then after_mark (roots_step c) (roots_step c).grey else roots_step c) (ne_eqb (c.cursor + 1) root_slots more)

pub mark-after : (c : Collector) (phase : Phase) → c.phase ≡ Mark → phase ≡ (if length (mark_step (marking_of c)).grey == 0 then Sweep else Mark)
    → collector_step c ≡ with_phase (with_marking c (mark_step (marking_of c))) phase 0
mark-after c phase in_mark next = step-is c Mark in_mark ∙ after-mark (with_marking c (mark_step (marking_of c))) phase (mark_step (marking_of c)).grey next

-- Sweep --------------------------------------------------------------------------------------------

pub sweep-past : (c : Collector) → c.phase ≡ Sweep → length (sweep_step c).table ≤ (sweep_step c).cursor / 64 → collector_step c ≡ with_phase (sweep_step c) Defrag 0
sweep-past c phase past = step-is c Sweep phase ∙ ap (λ b. if b then with_phase (sweep_step c) Defrag 0 else sweep_step c) (le-leb (length (sweep_step c).table) ((sweep_step c).cursor / 64) past)

pub sweep-stays : (c : Collector) → c.phase ≡ Sweep → (sweep_step c).cursor / 64 < length (sweep_step c).table → collector_step c ≡ sweep_step c
sweep-stays c phase inside = step-is c Sweep phase ∙ ap (λ b. if b then with_phase (sweep_step c) Defrag 0 else sweep_step c) (lt-leb (length (sweep_step c).table) ((sweep_step c).cursor / 64) inside)

-- Defragmentation ----------------------------------------------------------------------------------

-- the slots after a move, if there is one
abbrev pub slots_moved : Table Block → ℕ → List (Option ℕ) → Option Move → List (Option ℕ)
slots_moved table place slots None = slots
slots_moved table place slots (Some move) = forwarded_slots (moved_table table place move) slots

abbrev pub defrag_next : Collector → Bool → Collector
defrag_next r past = if past then cycle_end r else r

pub defrag-is : (c : Collector) → c.phase ≡ Defrag → collector_step c ≡ defrag_next (defrag_step c) (is_past (defrag_step c).table (defrag_step c).cursor)
defrag-is c phase = step-is c Defrag phase

-- a collector after a step of defragmentation whose parts are these
abbrev pub shifted : Collector → Table Block → List (Option ℕ) → ℕ → Collector
shifted c table slots cursor = record c { table = table; slots = slots; cursor = cursor }

pub defrag-parts : (c : Collector) → c.phase ≡ Defrag → defrag_step c ≡ shifted c (moved c.table c.cursor (next_move c.table c.cursor)) (slots_moved c.table c.cursor c.slots (next_move c.table c.cursor)) (next_place c.cursor (flagged_page c.table c.cursor))
defrag-parts c phase = go (next_move c.table c.cursor)
  where
    go : (move : Option Move) → with_phase (with_move c move) Defrag (next_place c.cursor (flagged_page c.table c.cursor)) ≡ shifted c (moved c.table c.cursor move) (slots_moved c.table c.cursor c.slots move) (next_place c.cursor (flagged_page c.table c.cursor))
    go None = ap (λ p. record c { phase = p; cursor = next_place c.cursor (flagged_page c.table c.cursor) }) (sym phase)
    go (Some move) = ap (λ p. record c { phase = p; table = moved_table c.table c.cursor move; slots = forwarded_slots (moved_table c.table c.cursor move) c.slots; cursor = next_place c.cursor (flagged_page c.table c.cursor) }) (sym phase)

pub defrag-ends : (c : Collector) (table : Table Block) (slots : List (Option ℕ)) (cursor : ℕ) → c.phase ≡ Defrag
    → table ≡ moved c.table c.cursor (next_move c.table c.cursor) → slots ≡ slots_moved c.table c.cursor c.slots (next_move c.table c.cursor) → cursor ≡ next_place c.cursor (flagged_page c.table c.cursor)
    → length table ≤ cursor / 64 → cycle_end (shifted c table slots cursor) ≡ collector_step c
defrag-ends c table slots cursor phase a b d past = grind (arith, defrag-parts, defrag-is, le-leb)

pub defrag-goes : (c : Collector) (table : Table Block) (slots : List (Option ℕ)) (cursor : ℕ) → c.phase ≡ Defrag
    → table ≡ moved c.table c.cursor (next_move c.table c.cursor) → slots ≡ slots_moved c.table c.cursor c.slots (next_move c.table c.cursor) → cursor ≡ next_place c.cursor (flagged_page c.table c.cursor)
    → cursor / 64 < length table → shifted c table slots cursor ≡ collector_step c
defrag-goes c table slots cursor phase a b d inside = grind (arith, defrag-parts, defrag-is, lt-leb)

-- the same of steps that leave the slots
pub beside-ends : (c : Collector) (table : Table Block) (cursor : ℕ) → c.phase ≡ Defrag → table ≡ moved c.table c.cursor (next_move c.table c.cursor) → cursor ≡ next_place c.cursor (flagged_page c.table c.cursor)
    → length table ≤ cursor / 64 → cycle_end (shifted c table c.slots cursor) ≡ step_beside_slots c
beside-ends c table cursor phase a d past = ap (λ r. with_slots r c.slots) (defrag-ends c table (slots_moved c.table c.cursor c.slots (next_move c.table c.cursor)) cursor phase a refl d past)

pub beside-goes : (c : Collector) (table : Table Block) (cursor : ℕ) → c.phase ≡ Defrag → table ≡ moved c.table c.cursor (next_move c.table c.cursor) → cursor ≡ next_place c.cursor (flagged_page c.table c.cursor)
    → cursor / 64 < length table → shifted c table c.slots cursor ≡ step_beside_slots c
beside-goes c table cursor phase a d inside = ap (λ r. with_slots r c.slots) (defrag-goes c table (slots_moved c.table c.cursor c.slots (next_move c.table c.cursor)) cursor phase a refl d inside)

pub moving-defrag : (c : Collector) (target : Option ℕ) → c.phase ≡ Defrag → IsTarget c.table c.cursor target → is_some target ≡ is_moving c
moving-defrag c target phase of = ap is_some of.is ∙ go (next_move c.table c.cursor) ∙ sym (ap (λ p. is_moving_in p c) phase)
  where
    go : (move : Option Move) → is_some (option_map (λ m. m.target) move) ≡ is_some move
    go None = refl
    go (Some move) = refl
