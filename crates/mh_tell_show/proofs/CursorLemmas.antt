-- The deeds of a quantum tell where the collector has its cursor after it.
use Rattle.std.proofs.Common.{◌≡◌, ◌∙◌, ℕ, zero, suc, ◌+◌, ◌*◌, ◌-◌, ◌==◌, nat_lt, Bool, true, false, ◌||◌, if◌then◌else◌, ◌&&◌, nat_le, inl, inr, Option, Some, None, option_map, option_and_then, List, [], ◌∷◌, ◌++◌, length, set, refl, sym, ap}
use Rattle.std.proofs.{lemmas.Bool.cases_Bool, lemmas.List.length-set, lemmas.Option.{none-some, same_Some}}
use Rattle.mh_model.specs.{declared.config.Config.Config, declared.cycle.Phase.Phase}
use Rattle.mh_model.specs.{declared.cycle.Phase.TheVariants.{Idle, Roots, Mark, Sweep, Defrag}, declared.deed.Deed.Deed}
use Rattle.mh_model.specs.Pages.{Page, Table, page_number, slot_number, page_at, block_in, live_in, has_denser, page_with, with_block, page_for, with_taken}
use Rattle.mh_model.specs.Table.{Block, references_at}
use Rattle.mh_model.specs.Collector.{Collector, Marking, Move, Spending, mark_reference, mark_step, next_page, is_last_slot, next_place, survivor, judged_page, swept_page, if_flagged, flagged_page, next_move, moved_table, marking_of, with_marking, with_phase, with_move, step_in, after_mark, is_past, cycle_end, phase_after, collector_step, step_cost, is_moving, is_idle, cycle_start, is_start_due, with_count, quantum_start, steps, with_units, quantum}
use Rattle.mh_model.specs.Deeds.{reference_deeds, mark_deeds, flag_deeds, page_deeds, sweep_deeds, forward_deeds, slot_deeds, defrag_deeds, deeds_in, enter_deeds, step_deeds, deeds_of_steps, start_deeds, quantum_deeds}
use Rattle.mh_model.specs.Limits.{root_slots}
use Rattle.mh_tell_show.specs.Cursor.{Stand, Nowhere, Behind, NoCursor, Place, StandsAt, QuantaTellTheCursor, cursor_at, cursor_in, cursor_of, stand_after_all}

stand_after_all-append : (stand : Stand) (deeds more : List Deed) → stand_after_all stand (deeds ++ more) ≡ stand_after_all (stand_after_all stand deeds) more
stand_after_all-append stand [] more = refl
stand_after_all-append stand (d ∷ deeds) more = stand_after_all-append (stand_after_all stand (d ∷ [])) deeds more

-- the same collector and the same stand
carried : (c d : Collector) (s t : Stand) → c ≡ d → s ≡ t → StandsAt t d → StandsAt s c
carried c d s t collectors stands at = ap cursor_of collectors ∙ at ∙ sym (ap (λ (x : Collector). cursor_at x.table s) collectors ∙ ap (cursor_at d.table) stands)

-- Slots of pages ---------------------------------------------------------------------------------

-- how many slots a page has, if it is in use
abbrev slots_at : Table Block → ℕ → Option ℕ
slots_at table number = option_map (λ page. length page.slots) (page_at table number)

-- the place after a place, by that
abbrev next_by : ℕ → Option ℕ → ℕ
next_by place None = next_page place
next_by place (Some count) = if suc (slot_number place) == count then next_page place else place + 1

next_place-by : (place : ℕ) (content : Option (Page Block)) → next_place place content ≡ next_by place (option_map (λ page. length page.slots) content)
next_place-by place None = refl
next_place-by place (Some page) = refl

-- a page written keeps its slots
slots-set : (table : Table Block) (index : ℕ) (new : Option (Page Block)) → ((page : Page Block) → page_at table index ≡ Some page → option_map (λ p. length p.slots) new ≡ Some (length page.slots))
    → (number count : ℕ) → slots_at table number ≡ Some count → slots_at (set table index new) number ≡ Some count
slots-set [] index new keeps number count e = e
slots-set (None ∷ table) zero new keeps zero count e = absurd (none-some count e)
slots-set (Some page ∷ table) zero new keeps zero count e = keeps page refl ∙ e
slots-set (page ∷ table) zero new keeps (suc number) count e = e
slots-set (page ∷ table) (suc index) new keeps zero count e = e
slots-set (page ∷ table) (suc index) new keeps (suc number) count e = slots-set table index new keeps number count e

slots-with_block : (table : Table Block) (place : ℕ) (content : Option Block) (number count : ℕ) → slots_at table number ≡ Some count → slots_at (with_block table place content) number ≡ Some count
slots-with_block table place content =
    slots-set table (page_number place) _ (λ page e. ap (λ p. option_map (λ q. length q.slots) (option_map (page_with (slot_number place) content) p)) e ∙ ap Some (length-set page.slots (slot_number place) content))

slots-with_taken : (table : Table Block) (size place : ℕ) (block : Block) (number count : ℕ) → slots_at table number ≡ Some count → slots_at (with_taken table size place block) number ≡ Some count
slots-with_taken table size place block =
    slots-set table (page_number place) _ (λ page e. ap (λ p. Some (length (set (page_for size p).slots (slot_number place) (Some block)))) e ∙ ap Some (length-set page.slots (slot_number place) (Some block)))

slots-moved : (table : Table Block) (place : ℕ) (move : Move) (number count : ℕ) → slots_at table number ≡ Some count → slots_at (moved_table table place move) number ≡ Some count
slots-moved table place move number count e =
    slots-with_block (with_taken table move.class_size move.target move.block) place (Some (record (move.block) { forward = Some move.target })) number count (slots-with_taken table move.class_size move.target move.block number count e)

-- Behind a place of a page that keeps its slots
behind : (table : Table Block) (place : ℕ) (page : Page Block) → slots_at table (page_number place) ≡ Some (length page.slots) → Place (next_place place (Some page)) ≡ cursor_at table (Behind place)
behind table place page slots = ap Place (ap (next_by place) (sym slots) ∙ sym (next_place-by place (page_at table (page_number place))))

-- Sweep ------------------------------------------------------------------------------------------

module _ (place : ℕ) (page : Page Block) where
  -- the page stays in use, with a flag as it was or another after its last slot
  flagged-stands : (table : Table Block) → slots_at table (page_number place) ≡ Some (length page.slots) → is_last_slot place page ≡ true
      → (was is : Bool) → Place (next_page place) ≡ cursor_at table (stand_after_all (Behind place) (flag_deeds (page_number place) was is))
  flagged-stands table slots last false true = refl
  flagged-stands table slots last true false = refl
  flagged-stands table slots last false false = ap (λ (b : Bool). Place (if b then next_page place else place + 1)) (sym last) ∙ behind table place page slots
  flagged-stands table slots last true true = ap (λ (b : Bool). Place (if b then next_page place else place + 1)) (sym last) ∙ behind table place page slots

  unflagged-stands : (table : Table Block) → slots_at table (page_number place) ≡ Some (length page.slots) → is_last_slot place page ≡ false
      → (flag : Bool) → Place (place + 1) ≡ cursor_at table (stand_after_all (Behind place) (flag_deeds (page_number place) flag flag))
  unflagged-stands table slots more false = ap (λ (b : Bool). Place (if b then next_page place else place + 1)) (sym more) ∙ behind table place page slots
  unflagged-stands table slots more true = ap (λ (b : Bool). Place (if b then next_page place else place + 1)) (sym more) ∙ behind table place page slots

-- the page with this in the slot that was swept, and judged if that was its last
module _ (table : Table Block) (place : ℕ) (page : Page Block) (at : page_at table (page_number place) ≡ Some page) (content : Option Block) where
  abbrev swept : Page Block
  swept = page_with (slot_number place) content page

  abbrev judged : Page Block
  judged = record swept { is_flagged = nat_le (4 * live_in swept) (length swept.slots) && has_denser table (page_number place) swept.class_size }

  kept_slots : (new : Page Block) → length new.slots ≡ length swept.slots → slots_at (set table (page_number place) (Some new)) (page_number place) ≡ Some (length page.slots)
  kept_slots new same =
      slots-set table (page_number place) (Some new)
      (λ other e. ap Some (same ∙ length-set page.slots (slot_number place) content ∙ ap (λ (p : Page Block). length p.slots) (same_Some page other (sym at ∙ e))))
      (page_number place) (length page.slots) (ap (option_map (λ (p : Page Block). length p.slots)) at)

  swept-stands : (last : Bool) → is_last_slot place page ≡ last
      → let new = if last then judged_page table (page_number place) swept else Some swept in
      Place (if last then next_page place else place + 1) ≡ cursor_at (set table (page_number place) new) (stand_after_all (Behind place) (page_deeds (page_number place) page.is_flagged new))
  swept-stands false more = unflagged-stands place page (set table (page_number place) (Some swept)) (kept_slots swept refl) more page.is_flagged
  swept-stands true last = go (live_in swept == 0)
    where
      go : (none : Bool)
          → let new = if none then None else Some judged in
          Place (next_page place) ≡ cursor_at (set table (page_number place) new) (stand_after_all (Behind place) (page_deeds (page_number place) page.is_flagged new))
      go true = refl
      go false = flagged-stands place page (set table (page_number place) (Some judged)) (kept_slots judged refl) last page.is_flagged judged.is_flagged

sweep-stands : (cycle : ℕ) (table : Table Block) (place : ℕ) (stand : Stand) (content : Option (Page Block)) → page_at table (page_number place) ≡ content
    → Place (next_place place content) ≡ cursor_at (set table (page_number place) (option_and_then (swept_page cycle table place) content)) (stand_after_all stand (sweep_deeds cycle table place content))
sweep-stands cycle table place stand None at = refl
sweep-stands cycle table place stand (Some page) at = swept-stands table place page at (option_and_then (survivor cycle) (block_in (slot_number place) page)) (is_last_slot place page) refl

-- Defragmentation --------------------------------------------------------------------------------

flagged-in_use : (content : Option (Page Block)) (page : Page Block) → option_and_then if_flagged content ≡ Some page → content ≡ Some page
flagged-in_use None page e = absurd (none-some page e)
flagged-in_use (Some used) page e = go used.is_flagged e
  where
    go : (flag : Bool) → (if flag then Some used else None) ≡ Some page → Some used ≡ Some page
    go true e = e
    go false e = absurd (none-some page e)

forwarded : (has_moved : Bool) (stand : Stand) → stand_after_all stand (forward_deeds has_moved) ≡ stand
forwarded true stand = refl
forwarded false stand = refl

defrag-stands : (collector : Collector) (has_moved : Bool) (stand : Stand) (content : Option (Page Block)) → flagged_page collector.table collector.cursor ≡ content
    → Place (next_place collector.cursor content) ≡ cursor_at (with_move collector (next_move collector.table collector.cursor)).table (stand_after_all stand (defrag_deeds has_moved collector.table collector.cursor content))
defrag-stands collector has_moved stand None at = refl
defrag-stands collector has_moved stand (Some page) at = by_move (next_move collector.table collector.cursor)
  where
    slots : slots_at collector.table (page_number collector.cursor) ≡ Some (length page.slots)
    slots = ap (option_map (λ (p : Page Block). length p.slots)) (flagged-in_use (page_at collector.table (page_number collector.cursor)) page at)

    by_move : (move : Option Move) → Place (next_place collector.cursor (Some page)) ≡ cursor_at (with_move collector move).table (stand_after_all stand (slot_deeds has_moved collector.cursor move))
    by_move None = behind collector.table collector.cursor page slots
    by_move (Some move) =
        behind (moved_table collector.table collector.cursor move) collector.cursor page (slots-moved collector.table collector.cursor move (page_number collector.cursor) (length page.slots) slots)
        ∙ ap (cursor_at (moved_table collector.table collector.cursor move)) (sym (forwarded has_moved (Behind collector.cursor)))

-- Marking ----------------------------------------------------------------------------------------

references-stay : (marking : Marking) (place index : ℕ) (references : List (Option ℕ)) (stand : Stand) → stand_after_all stand (reference_deeds marking place index references) ≡ stand
references-stay marking place index [] stand = refl
references-stay marking place index (reference ∷ references) stand = references-stay (mark_reference marking place index reference) place (suc index) references stand

marks-stay : (marking : Marking) (grey : List ℕ) (stand : Stand) → stand_after_all stand (mark_deeds marking grey) ≡ stand
marks-stay marking [] stand = refl
marks-stay marking (place ∷ grey) stand = references-stay (record marking { grey = grey }) place 0 (references_at marking.table place) stand

-- where there is no cursor in one table, there is none in another
nowhere : (table other : Table Block) (stand : Stand) → NoCursor ≡ cursor_at table stand → cursor_at other stand ≡ NoCursor
nowhere table other Nowhere e = refl
nowhere table other another e = cc

marking-stands : (collector : Collector) (stand : Stand) → collector.phase ≡ Mark → StandsAt stand collector → StandsAt (stand_after_all stand (mark_deeds (marking_of collector) collector.grey)) (with_marking collector (mark_step (marking_of collector)))
marking-stands collector stand is at =
    let none : cursor_in collector.phase collector.cursor ≡ NoCursor = ap (λ (p : Phase). cursor_in p collector.cursor) is in
    let after : Table Block = (mark_step (marking_of collector)).table in
    none ∙ sym (ap (cursor_at after) (marks-stay (marking_of collector) collector.grey stand) ∙ nowhere collector.table after stand (sym none ∙ at))

-- Steps ------------------------------------------------------------------------------------------

step_in-stands : (phase : Phase) (collector : Collector) (has_moved : Bool) (stand : Stand) → collector.phase ≡ phase → StandsAt stand collector → StandsAt (stand_after_all stand (deeds_in phase collector has_moved)) (step_in phase collector)
step_in-stands Idle collector has_moved stand is at = at
step_in-stands Roots collector has_moved stand is at = refl
step_in-stands Mark collector has_moved stand is at = marking-stands collector stand is at
step_in-stands Sweep collector has_moved stand is at =
    ap (λ (p : Phase). cursor_in p (next_place collector.cursor (page_at collector.table (page_number collector.cursor)))) is
    ∙ sweep-stands collector.cycle collector.table collector.cursor stand (page_at collector.table (page_number collector.cursor)) refl
step_in-stands Defrag collector has_moved stand is at = defrag-stands collector has_moved stand (flagged_page collector.table collector.cursor) refl

step_in-phase : (phase : Phase) (collector : Collector) → collector.phase ≡ phase → (step_in phase collector).phase ≡ phase
step_in-phase Roots collector is = refl
step_in-phase Defrag collector is = refl
step_in-phase other collector is = is

-- a step that stays in its phase enters none
stays : (phase : Phase) (collector : Collector) (stand : Stand) → enter_deeds phase phase ≡ [] → collector.phase ≡ phase → StandsAt stand collector → StandsAt (stand_after_all stand (enter_deeds phase collector.phase)) collector
stays phase collector stand none is at = at ∙ sym (ap (λ (deeds : List Deed). cursor_at collector.table (stand_after_all stand deeds)) (ap (enter_deeds phase) is ∙ none))

-- the phase that follows is entered
enters-stands : (phase : Phase) (collector : Collector) (stand : Stand) → collector.phase ≡ phase → StandsAt stand collector → StandsAt (stand_after_all stand (enter_deeds phase (phase_after phase collector).phase)) (phase_after phase collector)
enters-stands Idle collector stand is at = stays Idle collector stand refl is at
enters-stands Roots collector stand is at = go (collector.cursor == root_slots)
  where
    by_grey : (grey : List ℕ) → StandsAt (stand_after_all stand (enter_deeds Roots (after_mark collector grey).phase)) (after_mark collector grey)
    by_grey [] = refl
    by_grey (place ∷ grey) = refl

    go : (done : Bool) → let after = if done then after_mark collector collector.grey else collector in StandsAt (stand_after_all stand (enter_deeds Roots after.phase)) after
    go true = by_grey collector.grey
    go false = stays Roots collector stand refl is at
enters-stands Mark collector stand is at = by_grey collector.grey
  where
    by_grey : (grey : List ℕ) → StandsAt (stand_after_all stand (enter_deeds Mark (after_mark collector grey).phase)) (after_mark collector grey)
    by_grey [] = refl
    by_grey (place ∷ grey) = sym (ap (λ (p : Phase). cursor_in p collector.cursor) is) ∙ at
enters-stands Sweep collector stand is at = go (is_past collector.table collector.cursor)
  where
    go : (past : Bool) → let after = if past then with_phase collector Defrag 0 else collector in StandsAt (stand_after_all stand (enter_deeds Sweep after.phase)) after
    go true = refl
    go false = stays Sweep collector stand refl is at
enters-stands Defrag collector stand is at = go (is_past collector.table collector.cursor)
  where
    go : (past : Bool) → let after = if past then cycle_end collector else collector in StandsAt (stand_after_all stand (enter_deeds Defrag after.phase)) after
    go true = refl
    go false = stays Defrag collector stand refl is at

step-stands : (collector : Collector) (has_moved : Bool) (stand : Stand) → StandsAt stand collector → StandsAt (stand_after_all stand (step_deeds collector has_moved)) (collector_step collector)
unfolding collector_step step_deeds
step-stands collector has_moved stand at =
    let phase : Phase = collector.phase in
    let after : Collector = step_in phase collector in
    let stood : Stand = stand_after_all stand (deeds_in phase collector has_moved) in
    let entered : List Deed = enter_deeds phase (phase_after phase after).phase in
    enters-stands phase after stood (step_in-phase phase collector refl) (step_in-stands phase collector has_moved stand refl at)
    ∙ sym (ap (cursor_at (phase_after phase after).table) (stand_after_all-append stand (deeds_in phase collector has_moved) entered))

-- Quanta -----------------------------------------------------------------------------------------

-- steps stop, or one is taken
module _ (more left : ℕ) (has_moved : Bool) (collector : Collector) where
  steps-stop : (is_idle collector.phase || nat_lt left (step_cost collector has_moved)) ≡ true → steps (suc more) left has_moved collector ≡ record { units = 0; collector = collector }
  unfolding steps
  steps-stop stops = rw (stops, steps)

  deeds-stop : (is_idle collector.phase || nat_lt left (step_cost collector has_moved)) ≡ true → deeds_of_steps (suc more) left has_moved collector ≡ []
  unfolding deeds_of_steps
  deeds-stop stops = rw (stops, deeds_of_steps)

  steps-go : (is_idle collector.phase || nat_lt left (step_cost collector has_moved)) ≡ false
      → steps (suc more) left has_moved collector ≡ with_units (step_cost collector has_moved) (steps more (left - step_cost collector has_moved) (has_moved || is_moving collector) (collector_step collector))
  unfolding steps
  steps-go goes = rw (goes, steps)

  deeds-go : (is_idle collector.phase || nat_lt left (step_cost collector has_moved)) ≡ false
      → deeds_of_steps (suc more) left has_moved collector ≡ step_deeds collector has_moved ++ deeds_of_steps more (left - step_cost collector has_moved) (has_moved || is_moving collector) (collector_step collector)
  unfolding deeds_of_steps
  deeds-go goes = rw (goes, deeds_of_steps)

steps-stand : (more left : ℕ) (has_moved : Bool) (collector : Collector) (stand : Stand) → StandsAt stand collector → StandsAt (stand_after_all stand (deeds_of_steps more left has_moved collector)) (steps more left has_moved collector).collector
unfolding steps deeds_of_steps
steps-stand zero left has_moved collector stand at = at
steps-stand (suc more) left has_moved collector stand at = elim (cases_Bool (is_idle collector.phase || nat_lt left (step_cost collector has_moved))) [
  | inl stops ↦
      carried (steps (suc more) left has_moved collector).collector collector (stand_after_all stand (deeds_of_steps (suc more) left has_moved collector)) stand
      (ap (λ (s : Spending). s.collector) (steps-stop more left has_moved collector stops)) (ap (stand_after_all stand) (deeds-stop more left has_moved collector stops)) at
  | inr goes ↦
      let after : Collector = collector_step collector in
      let left_after : ℕ = left - step_cost collector has_moved in
      let moved_after : Bool = has_moved || is_moving collector in
      let stood : Stand = stand_after_all stand (step_deeds collector has_moved) in
      let rest : List Deed = deeds_of_steps more left_after moved_after after in
      carried (steps (suc more) left has_moved collector).collector (steps more left_after moved_after after).collector
      (stand_after_all stand (deeds_of_steps (suc more) left has_moved collector)) (stand_after_all stood rest)
      (ap (λ (s : Spending). s.collector) (steps-go more left has_moved collector goes))
      (ap (stand_after_all stand) (deeds-go more left has_moved collector goes) ∙ stand_after_all-append stand (step_deeds collector has_moved) rest)
      (steps-stand more left_after moved_after after stood (step-stands collector has_moved stand at))
]

-- a cycle that starts, or none
start-stands : (config : Config) (collector : Collector) (stand : Stand) → StandsAt stand collector → StandsAt (stand_after_all stand (start_deeds config collector)) (quantum_start config collector)
start-stands config collector stand at = go (is_start_due config collector)
  where
    counted : (idle : Bool) → StandsAt stand (if idle then collector else record collector { quanta = collector.quanta + 1 })
    counted true = at
    counted false = at

    go : (due : Bool) → StandsAt (stand_after_all stand (if due then Deed.Start (collector.cycle + 1) ∷ Deed.Enter Roots ∷ [] else [])) (with_count (if due then cycle_start collector else collector))
    go true = refl
    go false = counted (is_idle collector.phase)

pub quanta-stand : QuantaTellTheCursor
unfolding quantum quantum_deeds
quanta-stand config collector stand at =
    let first : Collector = quantum_start config collector in
    let started : Stand = stand_after_all stand (start_deeds config collector) in
    let rest : List Deed = deeds_of_steps config.quantum config.quantum false first in
    steps-stand config.quantum config.quantum false first started (start-stands config collector stand at)
    ∙ sym (ap (cursor_at (steps config.quantum config.quantum false first).collector.table) (stand_after_all-append stand (start_deeds config collector) rest))
