-- Deeds of steps: what they cost, and how those of a quantum are made of them.
use Rattle.std.proofs.Common.{◌≡◌, ℕ, zero, suc, ◌+◌, ◌-◌, ◌<◌, ◌≤◌, ◌||◌, Bool, true, false, nat_lt, inl, inr, List, [], ◌∷◌, ◌++◌, length, Option, Some, None, option_and_then, refl, sym, ap, ◌∙◌, arith}
use Rattle.std.proofs.{lemmas.Bool.{cases_Bool, or_parts, le-ltb}, lemmas.List.Sums.{sum_by-cons, sum_by-append}}
use Rattle.mh_model.specs.declared.cycle.Phase.{Phase}
use Rattle.mh_model.specs.declared.cycle.Phase.TheVariants.{Idle, Roots, Mark, Sweep, Defrag}
use Rattle.mh_model.specs.Pages.{Page, Table, page_number, slot_number, page_at, block_in}
use Rattle.mh_model.specs.Table.{Block, references_at}
use Rattle.mh_model.specs.Collector.{Collector, Marking, Move, mark_reference, move_of, next_move, flagged_page, move_cost, first_mark_cost, marking_of, cost_in, step_cost, collector_step, is_idle, is_moving}
use Rattle.mh_model.specs.Deeds.{name_at, edge_of, reference_deeds, mark_deeds, flag_deeds, page_deeds, sweep_deeds, slot_deeds, defrag_deeds, deeds_in, enter_deeds, step_deeds, deed_units, units_of, deeds_of_steps}
use Rattle.mh_model.specs.declared.deed.Deed.{Deed}
use Rattle.mh_laws.proofs.costs.Quanta.{step_cost-positive}
use Rattle.mh_cycle.specs.Auxiliary.{is_over}
use Rattle.mh_cycle.proofs.StrideLemmas.{over-nothing}

-- Units --------------------------------------------------------------------------------------------

units-enter : (before after : Phase) → units_of (enter_deeds before after) ≡ 0
units-enter Idle after = refl
units-enter Roots Idle = refl
units-enter Roots other = refl
units-enter Mark Idle = refl
units-enter Mark other = refl
units-enter Sweep Idle = refl
units-enter Sweep other = refl
units-enter Defrag Idle = refl
units-enter Defrag other = refl

units-references : (m : Marking) (place index : ℕ) (references : List (Option ℕ)) → units_of (reference_deeds m place index references) ≡ length references
units-references m place index [] = refl
units-references m place index (reference ∷ references) =
    let after : Marking = mark_reference m place index reference in
    let rest : units_of (reference_deeds after place (suc index) references) ≡ length references = units-references after place (suc index) references in
    sum_by-cons deed_units (Deed.Reference index (edge_of m.table reference m.grey after.grey)) (reference_deeds after place (suc index) references) ∙ omega (arith, rest)

units-mark : (m : Marking) (grey : List ℕ) → 0 < length grey → units_of (mark_deeds m grey) ≡ first_mark_cost m.table grey
units-mark m [] some = absurd (omega arith)
units-mark m (place ∷ grey) some =
    sum_by-cons deed_units (Deed.Mark place (name_at m.table place)) (reference_deeds (record m { grey = grey }) place 0 (references_at m.table place))
    ∙ omega (arith, units-references (record m { grey = grey }) place 0 (references_at m.table place))

units-flag : (page : ℕ) (was is : Bool) → units_of (flag_deeds page was is) ≡ 0
units-flag page false false = refl
units-flag page false true = refl
units-flag page true false = refl
units-flag page true true = refl

units-page : (number : ℕ) (was_flagged : Bool) (page : Option (Page Block)) → units_of (page_deeds number was_flagged page) ≡ 0
units-page number was_flagged None = refl
units-page number was_flagged (Some page) = units-flag number was_flagged page.is_flagged

units-sweep : (cycle : ℕ) (table : Table Block) (place : ℕ) (page : Option (Page Block)) → units_of (sweep_deeds cycle table place page) ≡ 1
units-sweep cycle table place None = refl
units-sweep cycle table place (Some page) = grind (arith, sum_by-cons, units-page)

units-slot : (moved : Bool) (place : ℕ) (move : Option Move) → units_of (slot_deeds moved place move) ≡ move_cost moved move
units-slot moved place None = refl
units-slot true place (Some move) = omega arith
units-slot false place (Some move) = omega arith

units-defrag : (moved : Bool) (table : Table Block) (place : ℕ) (page : Option (Page Block)) → flagged_page table place ≡ page → units_of (defrag_deeds moved table place page) ≡ move_cost moved (next_move table place)
units-defrag moved table place None is = ap (λ (o : Option (Page Block)). move_cost moved (option_and_then (λ page. option_and_then (move_of table page) (block_in (slot_number place) page)) o)) (sym is)
units-defrag moved table place (Some page) is = units-slot moved place (next_move table place)

-- The deeds of a step cost what it costs
pub units-step : (c : Collector) (moved : Bool) → (c.phase ≡ Mark → 0 < length c.grey) → units_of (step_deeds c moved) ≡ step_cost c moved
unfolding step_deeds step_cost
units-step c moved some =
    sum_by-append deed_units (deeds_in c.phase c moved) (enter_deeds c.phase (collector_step c).phase)
    ∙ omega (arith, units-enter c.phase (collector_step c).phase, within c.phase some)
  where
    within : (phase : Phase) → (phase ≡ Mark → 0 < length c.grey) → units_of (deeds_in phase c moved) ≡ cost_in phase c moved
    within Idle some = refl
    within Roots some = refl
    within Mark some = units-mark (marking_of c) c.grey (some refl)
    within Sweep some = units-sweep c.cycle c.table c.cursor (page_at c.table (page_number c.cursor))
    within Defrag some = units-defrag moved c.table c.cursor (flagged_page c.table c.cursor) refl

-- Steps of a quantum -------------------------------------------------------------------------------

deeds-stop : (more left : ℕ) (moved : Bool) (c : Collector) → is_over left moved c ≡ true → deeds_of_steps (suc more) left moved c ≡ []
unfolding deeds_of_steps
deeds-stop more left moved c stops = rw (stops, deeds_of_steps) refl

deeds-go : (more left : ℕ) (moved : Bool) (c : Collector) → is_over left moved c ≡ false
    → deeds_of_steps (suc more) left moved c ≡ step_deeds c moved ++ deeds_of_steps more (left - step_cost c moved) (moved || is_moving c) (collector_step c)
unfolding deeds_of_steps
deeds-go more left moved c goes = rw (goes, deeds_of_steps) refl

-- no deeds, if no step is taken
pub deeds-over : (more left : ℕ) (moved : Bool) (c : Collector) → is_over left moved c ≡ true → deeds_of_steps more left moved c ≡ []
unfolding deeds_of_steps
deeds-over zero left moved c stops = refl
deeds-over (suc more) left moved c stops = deeds-stop more left moved c stops

-- any two counts that are no less than what is left give the same deeds
deeds-enough : (more other left : ℕ) (moved : Bool) (c : Collector) → left ≤ more → left ≤ other → deeds_of_steps more left moved c ≡ deeds_of_steps other left moved c
unfolding deeds_of_steps
deeds-enough zero other left moved c h k = sym (deeds-over other left moved c (over-nothing left moved c (omega arith)))
deeds-enough (suc more) zero left moved c h k = deeds-over (suc more) left moved c (over-nothing left moved c (omega arith))
deeds-enough (suc more) (suc other) left moved c h k = elim (cases_Bool (is_over left moved c)) [
  | inl stops ↦ deeds-stop more left moved c stops ∙ sym (deeds-stop other left moved c stops)
  | inr goes ↦
      let (runs, fits) = or_parts (is_idle c.phase) (nat_lt left (step_cost c moved)) goes in
      let positive : 0 < step_cost c moved = step_cost-positive c moved runs in
      let rest = deeds-enough more other (left - step_cost c moved) (moved || is_moving c) (collector_step c) (omega arith) (omega arith) in
      deeds-go more left moved c goes ∙ ap (λ deeds. step_deeds c moved ++ deeds) rest ∙ sym (deeds-go other left moved c goes)
]

-- The deeds of the next step, and those of the steps after it
pub deeds-next : (left : ℕ) (moved : Bool) (c : Collector) → is_idle c.phase ≡ false → step_cost c moved ≤ left
    → deeds_of_steps left left moved c ≡ step_deeds c moved ++ deeds_of_steps (left - step_cost c moved) (left - step_cost c moved) (moved || is_moving c) (collector_step c)
deeds-next zero moved c runs fits = absurd (omega (arith, step_cost-positive c moved runs))
deeds-next (suc left) moved c runs fits = grind (arith, step_cost-positive, le-ltb, deeds-go, deeds-enough)
