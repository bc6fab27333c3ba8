-- The deeds of each step draw the picture after it: moves, the phase that follows, and whole steps.
use Rattle.std.proofs.Common.{◌≡◌, ℕ, Bool, Option, Some, None, [], get_or, refl, sym, ap, ◌∙◌, arith}
use Rattle.mh_model.specs.{declared.cycle.Phase.Phase, declared.cycle.Phase.TheVariants.{Idle, Roots, Mark, Defrag}}
use Rattle.mh_model.specs.{Pages.{Page, Table, block_at}, Table.Block}
use Rattle.mh_model.specs.Collector.{Collector, Marking, Move, shade, mark_step, flagged_page, next_move, moved_table, marking_of, with_marking, with_move, step_in, phase_after, collector_step}
use Rattle.mh_model.specs.Deeds.{root_deed, forward_deeds, slot_deeds, defrag_deeds, deeds_in, enter_deeds, step_deeds}
use Rattle.mh_model.specs.Invariant.{IsSteady}
use Rattle.mh_table_laws.proofs.marking.GreyList.{cycle-shade, cycle-mark_first}
use Rattle.mh_table_laws.proofs.TableMapLemmas.{block_at-table_map, with_block-table_map, with_taken-table_map}
use Rattle.mh_laws.proofs.moving.NextMove.{next_move-is}
use Rattle.mh_table_laws.specs.TableMaps.{table_map}
use Rattle.mh_tell_laws.specs.Picture.{Picture, drawn_of, picture_of, moved_drawn, drawn, drawn_all}
use Rattle.mh_tell_laws.specs.Auxiliary.{StepsTellThePicture}
use Rattle.mh_tell_laws.proofs.picture.ShadingLemmas.{drawn_all-append, marked-picture, shade-drawn}
use Rattle.mh_tell_laws.proofs.picture.{MarkLemmas.mark-drawn, SweepLemmas.sweep-drawn}

-- Phases -----------------------------------------------------------------------------------------

-- a step that stays in its phase enters none
stays : (phase : Phase) (collector : Collector) → enter_deeds phase phase ≡ [] → collector.phase ≡ phase → picture_of collector ≡ drawn_all (picture_of collector) (enter_deeds phase collector.phase)
stays phase collector none is = ap (drawn_all (picture_of collector)) (sym (ap (enter_deeds phase) is ∙ none))

-- the phase that follows is entered
enters-drawn : (phase : Phase) (collector : Collector) → collector.phase ≡ phase → picture_of (phase_after phase collector) ≡ drawn_all (picture_of collector) (enter_deeds phase (phase_after phase collector).phase)
enters-drawn phase collector is = grind (arith, stays)

-- Roots and marking ------------------------------------------------------------------------------

roots-drawn : (collector : Collector) → collector.phase ≡ Roots → picture_of (step_in Roots collector) ≡ drawn (picture_of collector) (root_deed collector)
roots-drawn collector is =
    let reference : Option ℕ = get_or collector.slots collector.cursor None in
    let shaded : Marking = shade (marking_of collector) reference in
    ap (λ phase. record (picture_of (with_marking collector shaded)) { phase = phase }) (sym is)
    ∙ marked-picture collector shaded (cycle-shade (marking_of collector) reference)
    ∙ shade-drawn collector.phase (marking_of collector) reference

marks-drawn : (collector : Collector) (has_moved : Bool) → IsSteady collector → picture_of (step_in Mark collector) ≡ drawn_all (picture_of collector) (deeds_in Mark collector has_moved)
marks-drawn collector has_moved steady = marked-picture collector (mark_step (marking_of collector)) (cycle-mark_first (marking_of collector) collector.grey) ∙ mark-drawn collector.phase collector steady

-- Moves ------------------------------------------------------------------------------------------

forward-deeds_draw_nothing : (has_moved : Bool) (picture : Picture) → picture ≡ drawn_all picture (forward_deeds has_moved)
forward-deeds_draw_nothing has_moved picture = grind arith

-- a block moved
move-drawn : (table : Table Block) (place : ℕ) (move : Move) → block_at table place ≡ Some move.block
    → table_map drawn_of (moved_table table place move) ≡ moved_drawn (table_map drawn_of table) place move.target move.class_size (block_at (table_map drawn_of table) place)
move-drawn table place move at = grind (arith, with_block-table_map, with_taken-table_map, block_at-table_map)

defrag-drawn : (collector : Collector) (has_moved : Bool) → collector.phase ≡ Defrag → picture_of (step_in Defrag collector) ≡ drawn_all (picture_of collector) (deeds_in Defrag collector has_moved)
defrag-drawn collector has_moved is = ap (λ phase. record (picture_of (with_move collector (next_move table place))) { phase = phase }) (sym is ∙ sym (kept (next_move table place))) ∙ by_page (flagged_page table place) refl
  where
    table : Table Block
    table = collector.table

    place : ℕ
    place = collector.cursor

    kept : (move : Option Move) → (with_move collector move).phase ≡ collector.phase
    kept move = grind arith

    by_move : (move : Option Move) → next_move table place ≡ move → picture_of (with_move collector move) ≡ drawn_all (picture_of collector) (slot_deeds has_moved place move)
    by_move move none = grind (arith, table, place, next_move-is, move-drawn, forward-deeds_draw_nothing)

    by_page : (page : Option (Page Block)) → flagged_page table place ≡ page → picture_of (with_move collector (next_move table place)) ≡ drawn_all (picture_of collector) (defrag_deeds has_moved table place page)
    by_page page none = grind (arith, table, place, by_move)

-- Steps ------------------------------------------------------------------------------------------

step_in-phase : (phase : Phase) (collector : Collector) → collector.phase ≡ phase → (step_in phase collector).phase ≡ phase
step_in-phase other collector is = grind arith

step_in-drawn : (phase : Phase) (collector : Collector) (has_moved : Bool) → collector.phase ≡ phase → IsSteady collector → picture_of (step_in phase collector) ≡ drawn_all (picture_of collector) (deeds_in phase collector has_moved)
step_in-drawn Idle collector has_moved is steady = refl
step_in-drawn Roots collector has_moved is steady = roots-drawn collector is
step_in-drawn Mark collector has_moved is steady = marks-drawn collector has_moved steady
step_in-drawn phase collector has_moved is steady = grind (arith, sweep-drawn, defrag-drawn)

-- The deeds of a step
pub steps-tell : StepsTellThePicture
unfolding collector_step step_deeds
steps-tell collector has_moved steady = grind (arith, enters-drawn, step_in-phase, step_in-drawn, drawn_all-append)
