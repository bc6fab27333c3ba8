-- What is left of a cycle, in steps and in units: each step of a running cycle uses it up.
use Rattle.std.proofs.Common.{length-set, ◌≡◌, ◌≢◌, ◌⊎◌, ℕ, suc, ◌+◌, ◌*◌, ◌<◌, ◌≤◌, ◌==◌, Bool, true, false, if◌then◌else◌, inl, inr, List, [], ◌∷◌, length, get_or, Option, Some, None, option_map, option_and_then, unwrap_or, refl, sym, ap, ◌∙◌, subst, arith}
use Rattle.std.proofs.{Math.Nat.{mul-div-le, mul-le-mul_left, mul-suc}, lemmas.Bool.{leb-false, true≢false, eq-eqb}}
use Rattle.std.proofs.lemmas.Option.{none-some}
use Rattle.std.specs.List.{IsDistinct}
use Rattle.mh_model.specs.declared.cycle.Phase.{Phase}
use Rattle.mh_model.specs.declared.cycle.Phase.TheVariants.{Idle, Roots, Mark, Sweep, Defrag}
use Rattle.mh_model.specs.{Pages.{Page, Table, page_number, slot_number, block_in, block_at, with_taken}, Table.Block}
use Rattle.mh_model.specs.Collector.{Collector, Marking, Move, marking_of, with_marking, with_phase, with_shade, mark_first, first_mark_cost, next_place, flagged_page, next_move, moved_table, move_cost, with_move, after_mark, is_past, cycle_end, step_in, phase_after, collector_step, cost_in, is_idle}
use Rattle.mh_model.specs.CycleBounds.{IsRoomy, count_at, class_at, weight, IsGreySound, in_steps, in_units, size_at, movable, steps_left, units_left, StageOf, IsUnderway}
use Rattle.mh_model.specs.Limits.{root_slots}
use Rattle.mh_laws.proofs.commands.LeftUnchanged.{shade-keeps, mark_first-keeps, step_in-keeps}
use Rattle.mh_laws.proofs.{moving.NextMove.{IsNextMove, next_move-is}, bounds.CommandsKeepBounds.with_shade-carries}
use Rattle.mh_table_laws.proofs.placing.Places.{least_dense_place-page, block_at-with_taken_other}
use Rattle.mh_table_laws.proofs.tables.BlockRoom.{IsClass, roomy-shaped, swept-roomy, with_taken-roomy, rewritten-roomy}
use Rattle.mh_table_laws.proofs.marking.GreyList.{Carries, MarksThrough, class-with_block, class-with_taken, mark_first-pays, cycle-mark_first}
use Rattle.mh_table_laws.proofs.Lists.{below_length}

-- What is left -----------------------------------------------------------------------------------

-- A running cycle has a step left
pub steps_left-positive : (collector : Collector) → IsUnderway collector → is_idle collector.phase ≡ false → 0 < steps_left collector.phase collector
steps_left-positive collector under runs = grind arith

-- a collector with no grey place is sound if its pages are roomy
pub none_grey : (collector : Collector) → collector.grey ≡ [] → IsRoomy collector.table → IsGreySound (marking_of collector)
unfolding IsDistinct
none_grey collector none roomy = grind arith

-- Cursors ----------------------------------------------------------------------------------------

-- the next place is the next slot of the page, or slot 0 of the next page
pub record IsNext (place next : ℕ) : Type 0 where
  pub further : place < next
  pub position : ((page_number next ≡ page_number place) × (slot_number next ≡ suc (slot_number place))) ⊎ ((page_number next ≡ suc (page_number place)) × (slot_number next ≡ 0))

next_place-next : (place : ℕ) (content : Option (Page Block)) → IsNext place (next_place place content)
next_place-next place content = grind arith

not_past : (table : Table Block) (place : ℕ) → is_past table place ≡ false → place < 64 * length table
not_past table place e = omega (arith, leb-false (length table) (page_number place) e)

-- Steps ------------------------------------------------------------------------------------------

-- what is left after so many steps and units
pub record IsPaid (taken spent steps units : ℕ) (new : Collector) : Type 0 where
  pub under : IsUnderway new
  pub steps_paid : steps_left new.phase new + taken ≤ steps
  pub units_paid : units_left new.phase new + spent ≤ units

after_mark-paid : (collector : Collector) → 0 < length collector.table → IsGreySound (marking_of collector) → (grey : List ℕ) → collector.grey ≡ grey
    → IsPaid 0 0 (weight in_steps (marking_of collector) + 128 * length collector.table) (weight in_units (marking_of collector) + 384 * length collector.table) (after_mark collector grey)
after_mark-paid collector some sound grey e = grind arith

paid_more : (taken spent steps units steps' units' : ℕ) (new : Collector) → steps + taken ≤ steps' → units + spent ≤ units' → IsPaid 0 0 steps units new → IsPaid taken spent steps' units' new
paid_more taken spent steps units steps' units' new s u paid = grind arith

roots-paid : (collector : Collector) → 0 < length collector.table → IsGreySound (marking_of collector) → collector.cursor < root_slots
    → IsPaid 1 2 (steps_left Roots collector) (units_left Roots collector) (phase_after Roots (step_in Roots collector))
roots-paid collector some sound inside = go (new.cursor == root_slots) refl
  where
    reference : Option ℕ
    reference = get_or collector.slots collector.cursor None

    new : Collector
    new = with_phase (with_shade collector reference) Roots (collector.cursor + 1)

    carries : Carries (marking_of collector) (marking_of (with_shade collector reference))
    carries = with_shade-carries collector reference sound

    pages : length new.table ≡ length collector.table
    pages = (shade-keeps 0 (marking_of collector) reference).pages

    some' : 0 < length new.table
    some' = omega (arith, pages)

    sound' : IsGreySound (marking_of new)
    sound' = let s = carries.sound in record { roomy = s.roomy; once = s.once; marked = s.marked }

    lighter_steps : weight in_steps (marking_of new) ≤ weight in_steps (marking_of collector)
    lighter_steps = carries.lighter in_steps

    lighter_units : weight in_units (marking_of new) ≤ weight in_units (marking_of collector)
    lighter_units = carries.lighter in_units

    go : (last : Bool) → (new.cursor == root_slots) ≡ last → IsPaid 1 2 (steps_left Roots collector) (units_left Roots collector) (if last then after_mark new new.grey else new)
    go true e = paid_more _ _ _ _ _ _ (after_mark new new.grey) (omega (arith, lighter_steps, pages)) (omega (arith, lighter_units, pages)) (after_mark-paid new some' sound' new.grey refl)
    go false e = record {
      under = record { some_page = some'; sound = sound'; stage = omega (arith, λ (k : collector.cursor + 1 ≡ root_slots). true≢false (sym (eq-eqb (collector.cursor + 1) root_slots k) ∙ e)) };
      steps_paid = omega (arith, lighter_steps, pages);
      units_paid = omega (arith, lighter_units, pages);
    }

mark-paid : (collector : Collector) → 0 < length collector.table → IsGreySound (marking_of collector) → 0 < length collector.grey
    → IsPaid 1 (first_mark_cost collector.table collector.grey) (steps_left Mark collector) (units_left Mark collector) (phase_after Mark (step_in Mark collector))
mark-paid collector some sound stage = go collector.grey refl stage
  where
    go : (grey : List ℕ) → collector.grey ≡ grey → 0 < length grey
        → IsPaid 1 (first_mark_cost collector.table grey) (steps_left Mark collector) (units_left Mark collector) (after_mark (with_marking collector (mark_first (marking_of collector) grey)) (mark_first (marking_of collector) grey).grey)
    go [] e more = absurd (omega arith)
    go (place ∷ grey) e more =
        let marked : Marking = mark_first (marking_of collector) (place ∷ grey) in
        let new : Collector = with_marking collector marked in
        let pays : MarksThrough (marking_of collector) (marking_of new) (count_at collector.table place) =
        subst (λ n. MarksThrough (marking_of collector) (record { table = marked.table; grey = marked.grey; cycle = n }) (count_at collector.table place)) (cycle-mark_first (marking_of collector) (place ∷ grey)) (mark_first-pays (marking_of collector) place grey e sound) in
        let pages : length marked.table ≡ length collector.table = (mark_first-keeps 0 (marking_of collector) (place ∷ grey)).pages in
        grind (arith, paid_more, after_mark-paid)

sweep-paid : (collector : Collector) → collector.phase ≡ Sweep → 0 < length collector.table → IsGreySound (marking_of collector) → StageOf Sweep collector
    → IsPaid 1 1 (steps_left Sweep collector) (units_left Sweep collector) (phase_after Sweep (step_in Sweep collector))
sweep-paid collector phase some sound (none, inside) = go (is_past new.table new.cursor) refl
  where
    new : Collector
    new = step_in Sweep collector

    pages : length new.table ≡ length collector.table
    pages = (step_in-keeps 0 Sweep collector).pages

    next : IsNext collector.cursor new.cursor
    next = grind arith

    roomy : IsRoomy new.table
    roomy = swept-roomy collector.cycle collector.table collector.cursor sound.roomy

    go : (past : Bool) → is_past new.table new.cursor ≡ past → IsPaid 1 1 (steps_left Sweep collector) (units_left Sweep collector) (if past then with_phase new Defrag 0 else new)
    go past e = grind (arith, pages, none_grey, new, roomy, not_past)

-- Moves ------------------------------------------------------------------------------------------

-- a move leaves pages roomy, and their classes
pub moved-roomy : (table : Table Block) (place : ℕ) (move : Move) → IsRoomy table → IsNextMove table place move → IsRoomy (moved_table table place move)
moved-roomy table place move roomy is =
    let (page, in_use, of_class, unflagged, empty) = least_dense_place-page table move.class_size (roomy-shaped table roomy) move.target is.target in
    let own = roomy.pages (page_number place) is.page is.in_use in
    let class : IsClass move.class_size = subst IsClass is.class (record { least = own.least; most = own.most; words = mul-div-le 256 (is.page).class_size }) in
    let fits : length (move.block).references + 4 ≤ move.class_size = rw (← is.class) (own.blocks (slot_number place) move.block is.there) in
    let taken : Table Block = with_taken table move.class_size move.target move.block in
    let at : block_at table place ≡ Some move.block = ap (option_and_then (block_in (slot_number place))) is.in_use ∙ is.there in
    let none : block_at table move.target ≡ None = ap (option_and_then (block_in (slot_number move.target))) in_use ∙ empty.empty in
    let apart : place ≢ move.target = λ same. none-some move.block (sym none ∙ ap (block_at table) (sym same) ∙ at) in
    grind (arith, block_at-with_taken_other, rewritten-roomy, with_taken-roomy)

moved-class : (table : Table Block) (place : ℕ) (move : Move) (number size : ℕ) → class_at table number ≡ Some size → class_at (moved_table table place move) number ≡ Some size
moved-class table place move number size e = search (arith, class-with_block, class-with_taken)

-- Defragmentation --------------------------------------------------------------------------------

-- a move takes its class of the words of its page, and fits in them
abbrev FitsPage : ℕ → ℕ → ℕ → Type 0
FitsPage slot words used = (used ≡ 0) ⊎ ((used ≡ words) × (words * slot + words ≤ 256))

-- what a move takes of the words that may still be moved
movable-used : (pages page slot words page' slot' words' used : ℕ) → ((page' ≡ page) × (slot' ≡ suc slot)) ⊎ ((page' ≡ suc page) × (slot' ≡ 0)) → page' < pages → (page' ≡ page → words' ≡ words) → FitsPage slot words used
    → movable pages page' slot' words' + used ≤ movable pages page slot words
movable-used pages page slot words page' slot' words' used is inside class fits = grind (arith, mul-suc, pages)

defrag_after-paid : (collector new : Collector) (used : ℕ) → new.phase ≡ Defrag → 0 < length collector.table → length new.table ≡ length collector.table → new.grey ≡ [] → IsRoomy new.table
    → size_at new.table (page_number collector.cursor) ≡ size_at collector.table (page_number collector.cursor) → FitsPage (slot_number collector.cursor) (size_at collector.table (page_number collector.cursor)) used
    → IsNext collector.cursor new.cursor → collector.cursor < 64 * length collector.table
    → IsPaid 1 (1 + used) (steps_left Defrag collector) (units_left Defrag collector) (if is_past new.table new.cursor then cycle_end new else new)
defrag_after-paid collector new used phase some pages none roomy class fits next inside = go (is_past new.table new.cursor) refl
  where
    place : ℕ
    place = collector.cursor

    words : ℕ
    words = size_at collector.table (page_number place)

    go : (past : Bool) → is_past new.table new.cursor ≡ past → IsPaid 1 (1 + used) (steps_left Defrag collector) (units_left Defrag collector) (if past then cycle_end new else new)
    go true e = grind (arith, none_grey (cycle_end new) none roomy, none)
    go false e =
        let inside' : new.cursor < 64 * length new.table = not_past new.table new.cursor e in
        let page_inside : page_number new.cursor < length collector.table = omega (arith, pages, leb-false (length new.table) (page_number new.cursor) e) in
        let less = movable-used (length collector.table) (page_number place) (slot_number place) words (page_number new.cursor) (slot_number new.cursor) (size_at new.table (page_number new.cursor)) used next.position page_inside (λ same. ap (size_at new.table) same ∙ class) fits in
        grind (arith, none_grey)

move_fits : (table : Table Block) (place : ℕ) (move : Move) → IsRoomy table → IsNextMove table place move → FitsPage (slot_number place) (size_at table (page_number place)) move.class_size
move_fits table place move roomy is =
    let page = is.page in
    let own = roomy.pages (page_number place) page is.in_use in
    let words : size_at table (page_number place) ≡ page.class_size = ap (λ p. unwrap_or (option_map (λ q. q.class_size) p) 0) is.in_use in
    let inside : slot_number place < length page.slots = below_length page.slots (slot_number place) move.block is.there in
    grind (arith, mul-le-mul_left, inr)

defrag-paid : (collector : Collector) → 0 < length collector.table → IsGreySound (marking_of collector) → StageOf Defrag collector
    → IsPaid 1 (cost_in Defrag collector true) (steps_left Defrag collector) (units_left Defrag collector) (phase_after Defrag (step_in Defrag collector))
defrag-paid collector some sound (none, inside) = go (next_move collector.table collector.cursor) refl
  where
    next : ℕ
    next = next_place collector.cursor (flagged_page collector.table collector.cursor)

    go : (move : Option Move) → next_move collector.table collector.cursor ≡ move
        → IsPaid 1 (move_cost true move) (steps_left Defrag collector) (units_left Defrag collector) (if is_past (with_move collector move).table next then cycle_end (with_phase (with_move collector move) Defrag next) else with_phase (with_move collector move) Defrag next)
    go None e = defrag_after-paid collector (with_phase collector Defrag next) 0 refl some refl none sound.roomy refl (inl refl) (next_place-next collector.cursor (flagged_page collector.table collector.cursor)) inside
    go (Some move) e =
        let is = next_move-is collector.table collector.cursor move e in
        let old_class : class_at collector.table (page_number collector.cursor) ≡ Some (is.page).class_size = ap (option_map (λ q. q.class_size)) is.in_use in
        let class : size_at (moved_table collector.table collector.cursor move) (page_number collector.cursor) ≡ size_at collector.table (page_number collector.cursor) =
        ap (λ o. unwrap_or o 0) (moved-class collector.table collector.cursor move (page_number collector.cursor) (is.page).class_size old_class ∙ sym old_class) in
        defrag_after-paid collector (with_phase (with_move collector (Some move)) Defrag next) move.class_size refl some (length-set _ _ _ ∙ length-set _ _ _) none (moved-roomy collector.table collector.cursor move sound.roomy is) class
        (move_fits collector.table collector.cursor move sound.roomy is) (next_place-next collector.cursor (flagged_page collector.table collector.cursor)) inside

-- A step of a running cycle uses up one step and its cost without the charge
pub collector_step-paid : (collector : Collector) → IsUnderway collector → is_idle collector.phase ≡ false
    → IsPaid 1 (cost_in collector.phase collector true) (steps_left collector.phase collector) (units_left collector.phase collector) (collector_step collector)
unfolding collector_step
collector_step-paid collector under runs = go collector.phase refl under.stage runs
  where
    go : (phase : Phase) → collector.phase ≡ phase → StageOf phase collector → is_idle phase ≡ false → IsPaid 1 (cost_in phase collector true) (steps_left phase collector) (units_left phase collector) (phase_after phase (step_in phase collector))
    go Idle is stage idle = absurd (true≢false idle)
    go Roots is stage idle = roots-paid collector under.some_page under.sound stage
    go Mark is stage idle = mark-paid collector under.some_page under.sound stage
    go Sweep is stage idle = sweep-paid collector is under.some_page under.sound stage
    go Defrag is stage idle = defrag-paid collector under.some_page under.sound stage
