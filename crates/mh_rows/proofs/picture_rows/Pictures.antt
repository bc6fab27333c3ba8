-- What deeds change of a picture, the pictures of runs, and their dumps.
use Rattle.std.proofs.Common.{[], Bool, false, List, None, option_map, Option, refl, Some, true, ℕ, ◌∷◌, ◌≡◌}
use Rattle.mh_model.specs.{declared.command.Command.TheVariants.{Clear, New, Put}, declared.command.Event.Event}
use Rattle.mh_model.specs.{declared.config.Config.Config, declared.cycle.Phase.TheVariants.{Idle, Roots, Mark}}
use Rattle.mh_model.specs.{declared.deed.Deed.Deed, declared.deed.Edge.Edge, declared.deed.Fate.Fate}
use Rattle.mh_model.specs.{declared.deed.PartName.PartName, declared.deed.Tier.Tier, declared.dump.DumpItem.DumpItem}
use Rattle.mh_model.specs.{Configs.configured, Pages.Page, Machine.first_machine}
use Rattle.mh_model.specs.Deeds.{step_deeds, deeds_of_steps, quantum_deeds, command_deeds, account_of}
use Rattle.mh_table_laws.specs.TableMaps.{table_map}
use Rattle.mh_tell_laws.specs.Picture.{Drawn, Picture, drawn_of, empty_picture, drawn, drawn_all, accounts_of, drawn_run, pictured_dump}
use Rattle.mh_rows.proofs.rows.Worked.{a, quantum_asked, session, start, worked}

-- a row that unfolds this name computes
unfoldable accounted : ℕ
unfolding worked step_deeds deeds_of_steps quantum_deeds command_deeds account_of accounts_of table_map
accounted = 0

abbrev name : ℕ → PartName
name birth = record { birth = birth; part = 0 }

-- a block of 60 numbers with this birth, stamp and forward
abbrev block : ℕ → ℕ → Option ℕ → Option Drawn
block birth stamp forward = Some (record { name = name birth; fields = record { references = 0; numbers = 60 }; stamp = stamp; forward = forward })

-- a page of the greatest class
abbrev page : Bool → Option Drawn → Option Drawn → Option (Page Drawn)
page is_flagged first second = Some (record { class_size = 64; is_flagged = is_flagged; slots = first ∷ second ∷ None ∷ None ∷ [] })

-- three pages in cycle 3
abbrev picture : Option (Page Drawn) → Option (Page Drawn) → Option (Page Drawn) → List ℕ → Picture
picture first second third grey = record { table = first ∷ second ∷ third ∷ []; grey = grey; cycle = 3; phase = Mark }

-- what is drawn of a block: the counts of its own fields, and not those of its header
-- refuses: a block is drawn with the counts of its header; with its number of references alone
pub drawn_block : drawn_of (record { birth = 4; part = 2; header = record { references = 9; numbers = 8 }; stamp = 5; forward = Some 65; references = None ∷ Some 3 ∷ []; numbers = 7 ∷ [] })
    ≡ record { name = record { birth = 4; part = 2 }; fields = record { references = 2; numbers = 1 }; stamp = 5; forward = Some 65 }
drawn_block = refl

-- Deeds ------------------------------------------------------------------------------------------

abbrev edge : ℕ → Bool → Edge
edge target is_shaded = record { reference = Some 128; target = Some target; is_shaded = is_shaded }

-- a block that a reference leads to is marked, and its place comes last in the grey list
-- refuses: a shaded place goes to the front; what a reference named is shaded
pub shaded_last : drawn (picture (page false (block 0 3 None) (block 1 2 None)) None None (0 ∷ [])) (Deed.Reference 0 (edge 1 true)) ≡ picture (page false (block 0 3 None) (block 1 3 None)) None None (0 ∷ 1 ∷ [])
shaded_last = refl

-- nothing changes if the edge says that the block was marked before
-- refuses: each target is shaded
pub not_shaded : drawn (picture (page false (block 0 3 None) (block 1 3 None)) None None (0 ∷ [])) (Deed.Root 5 (edge 1 false)) ≡ picture (page false (block 0 3 None) (block 1 3 None)) None None (0 ∷ [])
not_shaded = refl

-- the first grey place is taken off the list
-- refuses: two places are taken; none is taken
pub first_grey_taken : drawn (picture None None None (1 ∷ 2 ∷ 65 ∷ [])) (Deed.Mark 1 (name 1)) ≡ picture None None None (2 ∷ 65 ∷ [])
first_grey_taken = refl

-- what a sweep frees is no more there, a block or a forwarder, and what it keeps is as it was
-- refuses: a forwarder stays after the sweep; a freed block stays
pub swept_slots : drawn_all (picture (page false (block 0 2 None) (block 1 2 (Some 3))) (page false (block 4 3 None) None) None []) (Deed.Sweep 0 (Fate.Freed (name 0)) ∷ Deed.Sweep 1 (Fate.FreedForwarder 3) ∷ Deed.Sweep 2 Fate.Empty ∷ Deed.Sweep 64 (Fate.Kept (name 4)) ∷ [])
    ≡ picture (page false None None) (page false (block 4 3 None) None) None []
swept_slots = refl

-- a page without blocks is freed, one is flagged and one unflagged
-- refuses: a freed page keeps its class; a page is never unflagged
pub judged_pages : drawn_all (picture (page false None None) (page false (block 4 3 None) None) (page true (block 5 3 None) (block 6 3 None)) []) (Deed.FreePage 0 ∷ Deed.FlagPage 1 ∷ Deed.UnflagPage 2 ∷ [])
    ≡ picture None (page true (block 4 3 None) None) (page false (block 5 3 None) (block 6 3 None)) []
judged_pages = refl

-- a moved block is at its new place, and a forwarder with all else that it had where it was
-- refuses: a move leaves no forwarder; a forwarder leads to its own place
pub moved_forwarder : drawn (picture (page false (block 0 3 None) None) (page true None (block 7 3 None)) None []) (Deed.Move 65 1 (name 7) 64) ≡ picture (page false (block 0 3 None) (block 7 3 None)) (page true None (block 7 3 (Some 1))) None []
moved_forwarder = refl

-- a new part is marked, on a free page that is then of its class and unflagged
-- refuses: a new part isn't marked; a page takes a class 1 smaller
pub made_marked : drawn (picture None None None (0 ∷ [])) (Deed.Make 65 (name 9) 64 (record { references = 0; numbers = 60 }) Tier.Fresh) ≡ picture None (page false None (block 9 3 None)) None (0 ∷ [])
made_marked = refl

-- a page in use keeps its flag under a new part
-- refuses: a new part is drawn with no fields
pub made_sparse : drawn (picture (page true (block 0 3 None) None) None None []) (Deed.Make 1 (name 9) 64 (record { references = 0; numbers = 60 }) Tier.Sparse) ≡ picture (page true (block 0 3 None) (block 9 3 None)) None None []
made_sparse = refl

-- a cycle that ends leaves pages, stamps and the grey list as they were
-- refuses: an end leaves the phase
pub ended_cycle : drawn (picture (page true (block 0 3 None) None) None None []) Deed.End ≡ record (picture (page true (block 0 3 None) None) None None []) { phase = Idle }
ended_cycle = refl

-- Runs -------------------------------------------------------------------------------------------

-- what the accounts of a run draw, under the configuration with these numbers
abbrev drawn_under : ℕ → ℕ → ℕ → ℕ → List Event → Option Picture
drawn_under pages units trigger every events = option_map (λ (config : Config). drawn_run (empty_picture config) (accounts_of (first_machine config) events)) (configured pages units trigger every)

-- after the first grey block of a cycle what it led to is grey
-- refuses: a cycle that starts keeps its number; a phase that is entered isn't drawn
pub grey_in_a_run : drawn_under 2 290 0 0 (a (New 0 1 59) ∷ a (New 1 0 60) ∷ a (Put 0 0 1) ∷ a (Clear 1) ∷ start ∷ quantum_asked ∷ [])
    ≡ Some (record {
      table = page false (Some (record { name = name 0; fields = record { references = 1; numbers = 59 }; stamp = 1; forward = None })) (block 1 1 None) ∷ None ∷ [];
      grey = 1 ∷ [];
      cycle = 1;
      phase = Mark;
    })
unfolding accounted
grey_in_a_run = refl

-- a new object is placed, and then the old target of its slot is shaded
-- refuses: a barrier shades nothing; a shaded block keeps its stamp
pub shaded_by_a_barrier : drawn_under 1 209 0 0 (session 7 (New 0 0 60) ∷ start ∷ quantum_asked ∷ session 7 (New 0 0 60) ∷ [])
    ≡ Some (record { table = page false (block 0 1 None) (block 1 1 None) ∷ []; grey = 0 ∷ []; cycle = 1; phase = Roots })
unfolding accounted
shaded_by_a_barrier = refl

-- what a command placed is drawn before the quantum that it made due
-- refuses: quanta are drawn before commands
pub command_before_its_quantum : drawn_under 1 209 0 1 (session 7 (New 0 0 60) ∷ []) ≡ Some (record { table = page false (block 0 0 None) None ∷ []; grey = []; cycle = 1; phase = Roots })
unfolding accounted
command_before_its_quantum = refl

-- the dump of a picture with a moved block
-- refuses: a forwarder is dumped as a block; a kept block is taken away
pub dumped_from_a_run : option_map pictured_dump (drawn_under 4 1000 0 0 (a (New 0 0 60) ∷ a (New 1 0 60) ∷ a (New 2 0 60) ∷ a (New 3 0 60) ∷ a (New 4 0 60) ∷ a (Clear 1) ∷ start ∷ quantum_asked ∷ []))
    ≡ Some (DumpItem.Page 0 64 false ∷ DumpItem.Block 0 0 0 ∷ DumpItem.Block 1 4 0 ∷ DumpItem.Block 2 2 0 ∷ DumpItem.Block 3 3 0 ∷ DumpItem.Page 1 64 true ∷ DumpItem.Forwarder 0 0 1 ∷ [])
unfolding accounted
dumped_from_a_run = refl
