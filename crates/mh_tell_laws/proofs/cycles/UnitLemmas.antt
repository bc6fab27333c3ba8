-- The units of deeds by their phases: all of them together, and none while no cycle runs.
use Rattle.std.proofs.Common.{◌≡◌, ℕ, zero, suc, ◌+◌, ◌-◌, ◌<◌, ◌≤◌, nat_lt, inl, inr, zero-add, ◌==◌, Bool, true, false, ◌||◌, if◌then◌else◌, Option, Some, None, List, [], ◌∷◌, ◌++◌, length, map, drop, refl, sym, ap, ◌∙◌, subst, arith}
use Rattle.std.proofs.lemmas.Bool.{cases_Bool, or_parts, true≢false, false≢true}
use Rattle.std.proofs.lemmas.List.Sums.{sum_by-cons, sum_by-append}
use Rattle.std.specs.List.{AllByRecursion}
use Rattle.mh_model.specs.{declared.command.Command.Command, declared.config.Config.Config, declared.cycle.Phase.Phase}
use Rattle.mh_model.specs.{declared.cycle.Phase.TheVariants.{Idle, Roots, Mark, Sweep, Defrag}, declared.deed.Deed.Deed}
use Rattle.mh_model.specs.{declared.deed.Edge.Edge, declared.reply.Reply.Reply, Classes.{Part, parts}}
use Rattle.mh_model.specs.{Pages.{Page, Table, page_number, page_at}, Table.{Block, Made, references_at, made_part}}
use Rattle.mh_model.specs.Collector.{Collector, Marking, Move, Spending, mark_reference, swept_page, flagged_page, next_move, marking_of, with_phase, after_mark, is_past, cycle_end, step_in, phase_after, collector_step, step_cost, is_moving, is_idle, is_start_due, cycle_start, quantum_start, steps, quantum}
use Rattle.mh_model.specs.Deeds.{reference_deeds, mark_deeds, flag_deeds, page_deeds, sweep_deeds, slot_deeds, defrag_deeds, deeds_in, enter_deeds, step_deeds, deed_units, units_of, deeds_of_steps, start_deeds, quantum_deeds, make_deeds, made_deed, new_deeds, barrier_deeds, command_deeds}
use Rattle.mh_model.specs.{Invariant.IsSteady, Limits.root_slots, Mutator.{HeapState, mutator_step}}
use Rattle.mh_laws.proofs.{costs.Quanta.{steps-stop, steps-go}, costs.QuantumStarts.begins}
use Rattle.mh_laws.proofs.snapshots.SteadyStates.{collectors-steady}
use Rattle.mh_tell_laws.specs.Picture.{Picture, picture_of, shaded_at, with_edge, drawn, drawn_all}
use Rattle.mh_tell_laws.specs.{Cycles.{phase_after_deed, is_phase, units_in}, Auxiliary.phase_after_deeds}
use Rattle.mh_tell_laws.proofs.picture.StepLemmas.{steps-tell}
use Rattle.mh_tell_laws.proofs.cycles.Balances.{IsTurn, turns-enter, deeds-stop, deeds-go}
use Rattle.mh_cycle.proofs.DeedLemmas.{units-step}

-- Sums -------------------------------------------------------------------------------------------

pub phase-append : (phase : Phase) (xs ys : List Deed) → phase_after_deeds phase (xs ++ ys) ≡ phase_after_deeds (phase_after_deeds phase xs) ys
phase-append phase [] ys = refl
phase-append phase (d ∷ xs) ys = phase-append (phase_after_deed phase d) xs ys

pub units_in-append : (wanted phase : Phase) (xs ys : List Deed) → units_in wanted phase (xs ++ ys) ≡ units_in wanted phase xs + units_in wanted (phase_after_deeds phase xs) ys
units_in-append wanted phase [] ys = omega arith
units_in-append wanted phase (d ∷ xs) ys = omega (arith, units_in-append wanted (phase_after_deed phase d) xs ys)

-- each unit is one of a phase, or one while no cycle runs
pub units-parted : (phase : Phase) (deeds : List Deed) → units_of deeds ≡ units_in Idle phase deeds + (units_in Roots phase deeds + units_in Mark phase deeds + units_in Sweep phase deeds + units_in Defrag phase deeds)
units-parted phase [] = refl
units-parted phase (d ∷ deeds) = omega (arith, sum_by-cons deed_units d deeds, units-parted (phase_after_deed phase d) deeds, one phase)
  where
    of : Phase → Phase → ℕ
    of wanted now = if is_phase wanted now then deed_units d else 0

    one : (now : Phase) → deed_units d ≡ (if is_phase Idle now then deed_units d else 0) + ((if is_phase Roots now then deed_units d else 0) + (if is_phase Mark now then deed_units d else 0) + (if is_phase Sweep now then deed_units d else 0) + (if is_phase Defrag now then deed_units d else 0))
    one Idle = omega arith
    one other = omega arith

pub units_in-few : (wanted phase : Phase) (deeds : List Deed) → units_in wanted phase deeds ≤ units_of deeds
units_in-few wanted phase [] = omega arith
units_in-few wanted phase (d ∷ deeds) = omega (arith, sum_by-cons deed_units d deeds, units_in-few wanted (phase_after_deed phase d) deeds, one (is_phase wanted phase))
  where
    one : (same : Bool) → (if same then deed_units d else 0) ≤ deed_units d
    one true = omega arith
    one false = omega arith

units-turns : (deeds : List Deed) → AllByRecursion IsTurn deeds → units_of deeds ≡ 0
units-turns [] turns = refl
units-turns (d ∷ deeds) (turn, turns) = omega (arith, sum_by-cons deed_units d deeds, turn.units, units-turns deeds turns)

-- Phases of deeds --------------------------------------------------------------------------------

edge-phase : (picture : Picture) (edge : Edge) → (with_edge picture edge).phase ≡ picture.phase
edge-phase picture edge = go edge.is_shaded edge.target
  where
    go : (is_shaded : Bool) (target : Option ℕ) → (if is_shaded then shaded_at picture target else picture).phase ≡ picture.phase
    go true None = refl
    go true (Some place) = refl
    go false target = refl

drawn-phase : (picture : Picture) (d : Deed) → (drawn picture d).phase ≡ phase_after_deed picture.phase d
drawn-phase picture (Deed.Root slot edge) = edge-phase picture edge
drawn-phase picture (Deed.Reference index edge) = edge-phase picture edge
drawn-phase picture d = refl

drawn_all-phase : (deeds : List Deed) (picture : Picture) → (drawn_all picture deeds).phase ≡ phase_after_deeds picture.phase deeds
drawn_all-phase [] picture = refl
drawn_all-phase (d ∷ deeds) picture = drawn_all-phase deeds (drawn picture d) ∙ ap (λ phase. phase_after_deeds phase deeds) (drawn-phase picture d)

-- the deeds of a step end in its phase
step-phase : (collector : Collector) (has_moved : Bool) → IsSteady collector → (collector_step collector).phase ≡ phase_after_deeds collector.phase (step_deeds collector has_moved)
step-phase collector has_moved steady = ap (λ (p : Picture). p.phase) (steps-tell collector has_moved steady) ∙ drawn_all-phase (step_deeds collector has_moved) (picture_of collector)

-- Steps ------------------------------------------------------------------------------------------

-- deeds that leave the phase
abbrev pub Stay : Phase → List Deed → Type 0
Stay phase [] = Unit {0}
Stay phase (d ∷ deeds) = (phase_after_deed phase d ≡ phase) × Stay phase deeds

stay-idle : (phase : Phase) (deeds : List Deed) → is_idle phase ≡ false → Stay phase deeds → units_in Idle phase deeds ≡ 0
stay-idle phase [] runs stay = refl
stay-idle phase (d ∷ deeds) runs (here, after) = omega (arith, none phase runs, ap (λ p. units_in Idle p deeds) here, stay-idle phase deeds runs after)
  where
    none : (now : Phase) → is_idle now ≡ false → (if is_phase Idle now then deed_units d else 0) ≡ 0
    none Idle e = absurd (true≢false e)
    none other e = refl

stay-references : (phase : Phase) (m : Marking) (place index : ℕ) (references : List (Option ℕ)) → Stay phase (reference_deeds m place index references)
stay-references phase m place index [] = tt
stay-references phase m place index (reference ∷ references) = (refl, stay-references phase (mark_reference m place index reference) place (suc index) references)

stay-mark : (phase : Phase) (m : Marking) (grey : List ℕ) → Stay phase (mark_deeds m grey)
stay-mark phase m [] = tt
stay-mark phase m (place ∷ grey) = (refl, stay-references phase (record m { grey = grey }) place 0 (references_at m.table place))

stay-page : (phase : Phase) (number : ℕ) (was : Bool) (page : Option (Page Block)) → Stay phase (page_deeds number was page)
stay-page phase number was None = (refl, tt)
stay-page phase number was (Some page) = go was page.is_flagged
  where
    go : (was is : Bool) → Stay phase (flag_deeds number was is)
    go false false = tt
    go false true = (refl, tt)
    go true false = (refl, tt)
    go true true = tt

stay-sweep : (phase : Phase) (cycle : ℕ) (table : Table Block) (place : ℕ) (page : Option (Page Block)) → Stay phase (sweep_deeds cycle table place page)
stay-sweep phase cycle table place None = (refl, tt)
stay-sweep phase cycle table place (Some page) = (refl, stay-page phase (page_number place) page.is_flagged (swept_page cycle table place page))

stay-slot : (phase : Phase) (has_moved : Bool) (place : ℕ) (move : Option Move) → Stay phase (slot_deeds has_moved place move)
stay-slot phase has_moved place None = (refl, tt)
stay-slot phase true place (Some move) = (refl, tt)
stay-slot phase false place (Some move) = (refl, (refl, tt))

stay-defrag : (phase : Phase) (has_moved : Bool) (table : Table Block) (place : ℕ) (page : Option (Page Block)) → Stay phase (defrag_deeds has_moved table place page)
stay-defrag phase has_moved table place None = (refl, tt)
stay-defrag phase has_moved table place (Some page) = stay-slot phase has_moved place (next_move table place)

stay-deeds_in : (phase now : Phase) (collector : Collector) (has_moved : Bool) → Stay now (deeds_in phase collector has_moved)
stay-deeds_in Idle now collector has_moved = tt
stay-deeds_in Roots now collector has_moved = (refl, tt)
stay-deeds_in Mark now collector has_moved = stay-mark now (marking_of collector) collector.grey
stay-deeds_in Sweep now collector has_moved = stay-sweep now collector.cycle collector.table collector.cursor (page_at collector.table (page_number collector.cursor))
stay-deeds_in Defrag now collector has_moved = stay-defrag now has_moved collector.table collector.cursor (flagged_page collector.table collector.cursor)

step-idle : (collector : Collector) (has_moved : Bool) → is_idle collector.phase ≡ false → units_in Idle collector.phase (step_deeds collector has_moved) ≡ 0
unfolding step_deeds
step-idle collector has_moved runs =
    let phase : Phase = collector.phase in
    let inside : List Deed = deeds_in phase collector has_moved in
    let entered : List Deed = enter_deeds phase (collector_step collector).phase in
    omega (arith, units_in-append Idle phase inside entered, stay-idle phase inside runs (stay-deeds_in phase phase collector has_moved), units_in-few Idle (phase_after_deeds phase inside) entered, units-turns entered (turns-enter phase (collector_step collector).phase))

-- Quanta -----------------------------------------------------------------------------------------

-- while blocks are marked, one is grey
abbrev pub HasGrey : Collector → Type 0
HasGrey collector = collector.phase ≡ Mark → 0 < length collector.grey

abbrev is_marking : Phase → Bool
is_marking Mark = true
is_marking _ = false

not_marking : (collector : Collector) → is_marking collector.phase ≡ false → HasGrey collector
not_marking collector other marks = absurd (false≢true (sym other ∙ ap is_marking marks))

after_mark-grey : (collector : Collector) (grey : List ℕ) → collector.grey ≡ grey → HasGrey (after_mark collector grey)
after_mark-grey collector [] is = not_marking (with_phase collector Sweep 0) refl
after_mark-grey collector (place ∷ grey) is = λ marks. omega (arith, ap length is)

phase_after-grey : (phase : Phase) (collector : Collector) → collector.phase ≡ phase → HasGrey (phase_after phase collector)
phase_after-grey Idle collector is = not_marking collector (ap is_marking is)
phase_after-grey Roots collector is = go (collector.cursor == root_slots)
  where
    go : (done : Bool) → HasGrey (if done then after_mark collector collector.grey else collector)
    go true = after_mark-grey collector collector.grey refl
    go false = not_marking collector (ap is_marking is)
phase_after-grey Mark collector is = after_mark-grey collector collector.grey refl
phase_after-grey Sweep collector is = go (is_past collector.table collector.cursor)
  where
    go : (past : Bool) → HasGrey (if past then with_phase collector Defrag 0 else collector)
    go true = not_marking (with_phase collector Defrag 0) refl
    go false = not_marking collector (ap is_marking is)
phase_after-grey Defrag collector is = go (is_past collector.table collector.cursor)
  where
    go : (past : Bool) → HasGrey (if past then cycle_end collector else collector)
    go true = not_marking (cycle_end collector) refl
    go false = not_marking collector (ap is_marking is)

step_in-phase : (phase : Phase) (collector : Collector) → collector.phase ≡ phase → (step_in phase collector).phase ≡ phase
step_in-phase Roots collector is = refl
step_in-phase Defrag collector is = refl
step_in-phase other collector is = is

step-grey : (collector : Collector) → HasGrey (collector_step collector)
unfolding collector_step
step-grey collector = phase_after-grey collector.phase (step_in collector.phase collector) (step_in-phase collector.phase collector refl)

-- what deeds say of units and phases
pub record IsSpent (phase : Phase) (deeds : List Deed) (spent : ℕ) (after : Phase) : Type 0 where
  pub units : units_of deeds ≡ spent
  pub idle : units_in Idle phase deeds ≡ 0
  pub ends : phase_after_deeds phase deeds ≡ after

pub spent-append : (first second third : Phase) (xs ys : List Deed) (units more : ℕ) → IsSpent first xs units second → IsSpent second ys more third → IsSpent first (xs ++ ys) (units + more) third
spent-append first second third xs ys units more one two = record {
  units = omega (arith, sum_by-append deed_units xs ys, one.units, two.units);
  idle = omega (arith, units_in-append Idle first xs ys, one.idle, ap (λ phase. units_in Idle phase ys) one.ends, two.idle);
  ends = phase-append first xs ys ∙ ap (λ phase. phase_after_deeds phase ys) one.ends ∙ two.ends;
}

steps-spent : (more left : ℕ) (has_moved : Bool) (collector : Collector) → IsSteady collector → HasGrey collector
    → IsSpent collector.phase (deeds_of_steps more left has_moved collector) (steps more left has_moved collector).units (steps more left has_moved collector).collector.phase
unfolding steps deeds_of_steps
steps-spent zero left has_moved collector steady grey = record { units = refl; idle = refl; ends = refl }
steps-spent (suc more) left has_moved collector steady grey = elim (cases_Bool (is_idle collector.phase || nat_lt left (step_cost collector has_moved))) [
  | inl stops ↦
      subst (λ (s : Spending). IsSpent collector.phase (deeds_of_steps (suc more) left has_moved collector) s.units s.collector.phase) (sym (steps-stop more left has_moved collector stops))
      (subst (λ deeds. IsSpent collector.phase deeds 0 collector.phase) (sym (deeds-stop more left has_moved collector stops)) (record { units = refl; idle = refl; ends = refl }))
  | inr goes ↦
      let after : Collector = collector_step collector in
      let left_after : ℕ = left - step_cost collector has_moved in
      let moved_after : Bool = has_moved || is_moving collector in
      let (runs, fits) = or_parts (is_idle collector.phase) (nat_lt left (step_cost collector has_moved)) goes in
      let here : IsSpent collector.phase (step_deeds collector has_moved) (step_cost collector has_moved) after.phase =
      record { units = units-step collector has_moved grey; idle = step-idle collector has_moved runs; ends = sym (step-phase collector has_moved steady) } in
      let rest = steps-spent more left_after moved_after after (collectors-steady.steps collector steady) (step-grey collector) in
      subst (λ (s : Spending). IsSpent collector.phase (deeds_of_steps (suc more) left has_moved collector) s.units s.collector.phase) (sym (steps-go more left has_moved collector goes))
      (subst (λ deeds. IsSpent collector.phase deeds (step_cost collector has_moved + (steps more left_after moved_after after).units) (steps more left_after moved_after after).collector.phase) (sym (deeds-go more left has_moved collector goes))
      (spent-append collector.phase after.phase (steps more left_after moved_after after).collector.phase (step_deeds collector has_moved) (deeds_of_steps more left_after moved_after after) (step_cost collector has_moved) (steps more left_after moved_after after).units here rest))
]

-- how a quantum begins
start-spent : (config : Config) (collector : Collector) → HasGrey collector → IsSpent collector.phase (start_deeds config collector) 0 (quantum_start config collector).phase × HasGrey (quantum_start config collector)
start-spent config collector grey = elim (begins config collector).case [
  | inl starts ↦
      let due : start_deeds config collector ≡ Deed.Start (collector.cycle + 1) ∷ Deed.Enter Roots ∷ [] = ap (λ b. if b then Deed.Start (collector.cycle + 1) ∷ Deed.Enter Roots ∷ [] else []) starts.0 in
      let begun : Collector = record (cycle_start collector) { quanta = 1 } in
      subst (λ c. IsSpent collector.phase (start_deeds config collector) 0 c.phase × HasGrey c) (sym starts.2) (
        subst (λ deeds. IsSpent collector.phase deeds 0 Roots) (sym due)
            (subst (λ phase. IsSpent phase (Deed.Start (collector.cycle + 1) ∷ Deed.Enter Roots ∷ []) 0 Roots) (sym starts.1) (record { units = refl; idle = refl; ends = refl })),
        not_marking begun refl,
      )
  | inr other ↦ elim other [
    | inl runs ↦
        let none : start_deeds config collector ≡ [] = quiet (not_due runs.0) in
        subst (λ c. IsSpent collector.phase (start_deeds config collector) 0 c.phase × HasGrey c) (sym runs.1)
        (subst (λ deeds. IsSpent collector.phase deeds 0 collector.phase) (sym none) (record { units = refl; idle = refl; ends = refl }), grey)
    | inr rests ↦
        let none : start_deeds config collector ≡ [] = quiet rests.0 in
        subst (λ c. IsSpent collector.phase (start_deeds config collector) 0 c.phase × HasGrey c) (sym rests.2)
        (subst (λ deeds. IsSpent collector.phase deeds 0 collector.phase) (sym none) (record { units = refl; idle = refl; ends = refl }), grey)
  ]
]
  where
    quiet : is_start_due config collector ≡ false → start_deeds config collector ≡ []
    quiet e = ap (λ b. if b then Deed.Start (collector.cycle + 1) ∷ Deed.Enter Roots ∷ [] else []) e

    not_due : is_idle collector.phase ≡ false → is_start_due config collector ≡ false
    not_due runs = rw runs refl

-- The deeds of a quantum cost what it spends, nothing of it while no cycle runs, and end in its phase
pub quantum-spent : (config : Config) (collector : Collector) → IsSteady collector → HasGrey collector → IsSpent collector.phase (quantum_deeds config collector) (quantum config collector).units (quantum config collector).collector.phase
unfolding quantum quantum_deeds
quantum-spent config collector steady grey =
    let begun : Collector = quantum_start config collector in
    let started = start-spent config collector grey in
    let after = steps config.quantum config.quantum false begun in
    subst (λ units. IsSpent collector.phase (start_deeds config collector ++ deeds_of_steps config.quantum config.quantum false begun) units after.collector.phase) (zero-add after.units)
    (spent-append collector.phase begun.phase after.collector.phase (start_deeds config collector) (deeds_of_steps config.quantum config.quantum false begun) 0 after.units started.0
    (steps-spent config.quantum config.quantum false begun (collectors-steady.starts config collector steady) started.1))

-- Commands ---------------------------------------------------------------------------------------

-- a deed of a command
abbrev pub is_of_command : Deed → Bool
is_of_command (Deed.Shade place) = true
is_of_command (Deed.Make place name class_size fields tier) = true
is_of_command _ = false

make-deeds : (list : List Part) (table : Table Block) (birth stamp index : ℕ) → AllByRecursion (λ d. is_of_command d ≡ true) (make_deeds table birth stamp index list)
make-deeds [] table birth stamp index = tt
make-deeds (part ∷ list) table birth stamp index = go (made_part table birth stamp index part) (λ (m : Made). make-deeds list m.table birth stamp (suc index))
  where
    go : (made : Option Made) → ((m : Made) → AllByRecursion (λ d. is_of_command d ≡ true) (make_deeds m.table birth stamp (suc index) list)) → AllByRecursion (λ d. is_of_command d ≡ true) (elim made [ None ↦ [] | Some m ↦ made_deed table birth index part m.place ∷ make_deeds m.table birth stamp (suc index) list ])
    go None rest = tt
    go (Some m) rest = (refl, rest m)

shade-deeds : (places : List ℕ) → AllByRecursion (λ d. is_of_command d ≡ true) (map (λ place. Deed.Shade place) places)
shade-deeds [] = tt
shade-deeds (place ∷ places) = (refl, shade-deeds places)

all-append : (P : Deed → Type 0) (xs ys : List Deed) → AllByRecursion P xs → AllByRecursion P ys → AllByRecursion P (xs ++ ys)
all-append P [] ys first second = second
all-append P (d ∷ xs) ys (here, after) second = (here, all-append P xs ys after second)

new-deeds : (heap : HeapState) (c : Command) (r : Reply) → AllByRecursion (λ d. is_of_command d ≡ true) (new_deeds heap c r)
new-deeds heap (Command.New slot references numbers) Reply.Done = make-deeds (parts references numbers) heap.collector.table heap.next_birth heap.collector.cycle 0
new-deeds heap (Command.New slot references numbers) _ = tt
new-deeds heap _ r = tt

-- the deeds of a command are of these two kinds
pub command-deeds : (heap : HeapState) (who : ℕ) (c : Command) → AllByRecursion (λ d. is_of_command d ≡ true) (command_deeds heap who c)
unfolding command_deeds
command-deeds heap who c =
    all-append (λ d. is_of_command d ≡ true) (new_deeds heap c (mutator_step heap who c).reply) (barrier_deeds heap.collector.grey (mutator_step heap who c).state.collector.grey) (new-deeds heap c (mutator_step heap who c).reply)
    (shade-deeds (drop (length heap.collector.grey) (mutator_step heap who c).state.collector.grey))

deed-of_command : (phase : Phase) (d : Deed) → is_of_command d ≡ true → (deed_units d ≡ 0) × (phase_after_deed phase d ≡ phase)
deed-of_command phase (Deed.Shade place) e = (refl, refl)
deed-of_command phase (Deed.Make place name class_size fields tier) e = (refl, refl)
deed-of_command phase d e = absurd (false≢true e)

-- they cost nothing, and leave the phase
pub command-spent : (phase : Phase) (deeds : List Deed) → AllByRecursion (λ d. is_of_command d ≡ true) deeds → IsSpent phase deeds 0 phase
command-spent phase [] all = record { units = refl; idle = refl; ends = refl }
command-spent phase (d ∷ deeds) (here, after) =
    let (none, same) = deed-of_command phase d here in
    let rest = command-spent phase deeds after in
    let free : units_of (d ∷ deeds) ≡ 0 = omega (arith, sum_by-cons deed_units d deeds, none, rest.units) in
    record { units = free; idle = omega (arith, units_in-few Idle phase (d ∷ deeds), free); ends = ap (λ p. phase_after_deeds p deeds) same ∙ rest.ends }
