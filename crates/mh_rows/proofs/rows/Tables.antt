-- Tables with a page or a block changed, forwarders, and what is found in a batch of places.
use Rattle.std.proofs.Common.{[], Bool, false, List, map, None, Option, option_and_then, option_map, refl, Some, sym, true, ℕ, ◌∷◌, ◌≡◌, arith}
use Rattle.std.proofs.lemmas.Option.{none-some, same_Some}
use Rattle.mh_model.specs.{declared.command.Command.TheVariants.{Clear, New, Put}, declared.command.Event.Event}
use Rattle.mh_model.specs.{declared.config.Config.Config, declared.cycle.Phase.Phase}
use Rattle.mh_model.specs.{declared.cycle.Phase.TheVariants.{Idle, Roots, Sweep, Defrag}, Configs.configured}
use Rattle.mh_model.specs.Machine.{first_machine, machine_after}
use Rattle.mh_model.specs.Pages.{block_at, block_in, class_at, count_at, flag_at, Page, page_at, page_number, slot_number, Table, with_flag, with_released}
use Rattle.mh_model.specs.Collector.{collector_step, first_collector, moved_table, step_cost, steps}
use Rattle.mh_model.specs.Table.{Block, found_in, resolve, stamp_at, with_stamp_at}
use Rattle.mh_laws.specs.Forwarders.{after_steps, ForwardersAreNew}
use Rattle.mh_rows.proofs.rows.Worked.{a, quantum_asked, start, worked}

-- Pages ------------------------------------------------------------------------------------------

-- a page of the greatest class with these slots
abbrev page : Bool → List (Option ℕ) → Option (Page ℕ)
page is_flagged slots = Some (record { class_size = 64; is_flagged = is_flagged; slots = slots })

abbrev two_pages : Table ℕ
two_pages = page false (Some 7 ∷ None ∷ Some 9 ∷ None ∷ []) ∷ page true (None ∷ Some 5 ∷ None ∷ None ∷ []) ∷ None ∷ []

-- a page that is flagged keeps its blocks
-- refuses: a page that is flagged loses its blocks
pub flagged : with_flag two_pages 0 true ≡ page true (Some 7 ∷ None ∷ Some 9 ∷ None ∷ []) ∷ page true (None ∷ Some 5 ∷ None ∷ None ∷ []) ∷ None ∷ []
flagged = refl

-- a page that is unflagged keeps its blocks
-- refuses: a flag is set and never taken; a page that is flagged loses its blocks
pub unflagged : with_flag two_pages 1 false ≡ page false (Some 7 ∷ None ∷ Some 9 ∷ None ∷ []) ∷ page false (None ∷ Some 5 ∷ None ∷ None ∷ []) ∷ None ∷ []
unflagged = refl

-- a free page has no flag
-- refuses: a free page that is flagged is in use
pub flagged_free_page : with_flag two_pages 2 true ≡ two_pages
flagged_free_page = refl

-- a block that is taken back leaves the others
-- refuses: a page that is not asked for is freed
pub released : with_released two_pages 2 false ≡ page false (Some 7 ∷ None ∷ None ∷ None ∷ []) ∷ page true (None ∷ Some 5 ∷ None ∷ None ∷ []) ∷ None ∷ []
released = refl

-- a block that is taken back with its page leaves a free page
-- refuses: a page that is asked for is not freed
pub released_with_its_page : with_released two_pages 65 true ≡ page false (Some 7 ∷ None ∷ Some 9 ∷ None ∷ []) ∷ None ∷ None ∷ []
released_with_its_page = refl

-- the class, the flag and the blocks of a flagged page with one block
-- refuses: a class is given by its number; a page has as many blocks as slots
pub page_told : (class_at two_pages 1 ≡ Some 64) × (flag_at two_pages 1 ≡ true) × (count_at two_pages 1 ≡ 1)
page_told = (refl, refl, refl)

-- a page that isn't flagged, with two blocks
-- refuses: a page in use is flagged; a page has one block at most
pub unflagged_page_told : (flag_at two_pages 0 ≡ false) × (count_at two_pages 0 ≡ 2)
unflagged_page_told = (refl, refl)

-- a free page has no class, no flag and no blocks
-- refuses: a free page has class 0; a free page is flagged
pub free_page_told : (class_at two_pages 2 ≡ None) × (flag_at two_pages 2 ≡ false) × (count_at two_pages 2 ≡ 0)
free_page_told = (refl, refl, refl)

-- Stamps and forwarders ---------------------------------------------------------------------------

-- a block with this stamp and forward
abbrev a_block : ℕ → Option ℕ → Block
a_block stamp forward = record { birth = 3; part = 1; header = record { references = 0; numbers = 1 }; stamp = stamp; forward = forward; references = []; numbers = 7 ∷ [] }

abbrev block : ℕ → Option ℕ → Option Block
block stamp forward = Some (a_block stamp forward)

-- one page of the greatest class with a block in two of its slots
abbrev one_page : Option Block → Option Block → Table Block
one_page first second = Some (record { class_size = 64; is_flagged = false; slots = first ∷ None ∷ second ∷ None ∷ [] }) ∷ []

-- the stamp of the block at a place, and 0 if there is none
-- refuses: stamps are read of the first block
pub stamps : (stamp_at (one_page (block 4 None) (block 5 None)) 2 ≡ 5) × (stamp_at (one_page (block 4 None) (block 5 None)) 1 ≡ 0)
stamps = (refl, refl)

-- another stamp in one block changes nothing else
-- refuses: a stamp is written over a forward; every block is stamped
pub stamped : with_stamp_at (one_page (block 4 None) (block 5 (Some 0))) 2 6 ≡ one_page (block 4 None) (block 6 (Some 0))
stamped = refl

-- a move leaves an equal copy, and a forwarder that keeps what else the block had and leads to the copy
-- refuses: a forwarder loses its fields; a forwarder leads to the place after its copy
pub forwarded : (moved_table (one_page None (block 5 None)) 2 (record { block = a_block 5 None; class_size = 64; target = 0 }) ≡ one_page (block 5 None) (block 5 (Some 0))) × (resolve (one_page (block 4 None) (block 5 (Some 0))) 2 ≡ 0)
forwarded = (refl, refl)

-- a table with a block, and a forwarder to it
abbrev with_forwarder : Table Block
with_forwarder = one_page (block 6 None) (block 6 (Some 0))

no_forwarder : (second : Option Block) → option_and_then (λ (b : Block). b.forward) second ≡ None → (number slot : ℕ) → option_and_then (λ (b : Block). b.forward) (option_and_then (block_in slot) (page_at (one_page (block 6 None) second) number)) ≡ None
no_forwarder second none number slot = grind arith

-- a forwarder is new if its block was none, and if no block was at its place
pub made_since : ForwardersAreNew (one_page (block 6 None) (block 6 None)) with_forwarder × ForwardersAreNew (one_page (block 6 None) None) with_forwarder
made_since = (λ place target e. no_forwarder (block 6 None) refl (page_number place) (slot_number place), λ place target e. no_forwarder None refl (page_number place) (slot_number place))

-- a forwarder that a sweep found, stamped anew and kept has the cycle's stamp, as each block has, and isn't new
pub stamped_anew_and_kept : ((place : ℕ) (x : Block) → block_at with_forwarder place ≡ Some x → x.stamp ≡ 6) × (ForwardersAreNew with_forwarder with_forwarder → ⊥)
stamped_anew_and_kept = (λ place x e. stamped x (page_number place) (slot_number place) e, λ new. none-some 0 (sym (new 2 0 refl)))
  where
    stamped : (x : Block) (number slot : ℕ) → option_and_then (block_in slot) (page_at with_forwarder number) ≡ Some x → x.stamp ≡ 6
    stamped x number slot e = grind (arith, same_Some, none-some)

-- what a collector is at after so many steps of the quantum that starts a cycle which is asked for, over one page that is free
abbrev phases : ℕ → ℕ → Option (List Phase)
phases first second = option_map (λ config. map (λ count. (after_steps config (record (first_collector config) { is_asked = true }) count).phase) (first ∷ second ∷ [])) (configured 1 1000 0 0)

-- defragmentation begins with the step that passes the last page of the sweep, and one free page takes it one step; so it is after 144 roots and a sweep of one step
pub begins_after_the_last_page : (phases 143 144 ≡ Some (Roots ∷ Sweep ∷ [])) × (phases 145 146 ≡ Some (Defrag ∷ Idle ∷ []))
unfolding steps collector_step step_cost
begins_after_the_last_page = (refl, refl)

-- Batches -----------------------------------------------------------------------------------------

abbrev found_after : Option Config → List Event → List ℕ → Option (List (List (Option ℕ)))
found_after config events batch = option_map (λ c. found_in (machine_after (first_machine c) events).heap.collector.table batch) config

-- block by block in the order of the batch, each reference where it leads: the first block's leads to a forwarder on page 1, and so to slot 1 of page 0
-- refuses: what is found in a batch is not resolved; what is found in a batch is one list
pub found_past_a_forwarder : found_after (configured 4 1000 0 0) (a (New 0 2 58) ∷ a (New 1 1 59) ∷ a (New 2 1 59) ∷ a (New 3 1 59) ∷ a (New 4 1 59) ∷ a (Put 0 0 4) ∷ a (Put 0 1 2) ∷ a (Clear 1) ∷ start ∷ quantum_asked ∷ []) (2 ∷ 0 ∷ [])
    ≡ Some ((None ∷ []) ∷ (Some 1 ∷ Some 2 ∷ []) ∷ [])
unfolding worked
found_past_a_forwarder = refl

-- an empty batch
-- refuses: an empty batch finds an empty list
pub found_nothing : found_after (configured 4 1000 0 0) (a (New 0 1 0) ∷ []) [] ≡ Some []
unfolding worked
found_nothing = refl
