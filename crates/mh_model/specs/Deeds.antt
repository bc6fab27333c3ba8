-- The collector's steps as deeds: what each did, with its units. And of commands: where new parts were placed, and what their barriers shaded.
-- Types of `deed.rt`: a `Deed` is one thing done, with what it was done to; an `Edge` is a reference as the collector comes to it.
-- A deed is finer than a step, so that each unit stands where the work is. A block that is marked through is one deed, and each of its references is
-- one more. The first move of a quantum is a deed, and the forwarding of the roots is another.
-- Deeds of commands have no units: a command has its units of the mutator, whatever its barriers shade.
use Rattle.std.specs.Prelude.{◌≡◌, ℕ, zero, suc, ◌+◌, ◌-◌, ◌==◌, nat_lt, Bool, true, false, ◌||◌, if◌then◌else◌, Option, Some, None, option_map, unwrap_or, List, [], ◌∷◌, ◌++◌, get_or, length, map, drop}
use Rattle.std.specs.List.{sum_by}
use Rattle.mh_model.specs.{declared.command.Command.Command, declared.command.Event.Event}
use Rattle.mh_model.specs.{declared.config.Config.Config, declared.cycle.Phase.Phase}
use Rattle.mh_model.specs.{declared.cycle.Phase.TheVariants.{Idle, Roots, Mark, Sweep, Defrag}, declared.deed.Deed.Deed}
use Rattle.mh_model.specs.{declared.deed.Edge.Edge, declared.deed.Fate.Fate, declared.deed.PartName.PartName}
use Rattle.mh_model.specs.{declared.deed.QuantumEnd.QuantumEnd, declared.deed.Tier.Tier}
use Rattle.mh_model.specs.{declared.deed.Tier.TheVariants.{Dense, Fresh, Sparse}, declared.reply.Reply.Reply}
use Rattle.mh_model.specs.Classes.{Part, class_of, part_words, parts}
use Rattle.mh_model.specs.Pages.{Page, Table, page_number, slot_number, page_at, block_in, block_at}
use Rattle.mh_model.specs.Table.{Block, references_at, target_of, made_part}
use Rattle.mh_model.specs.Collector.{Collector, Marking, Spending, Move, is_marked, mark_reference, swept_page, flagged_page, next_move, marking_of, roots_step, collector_step, step_cost, is_moving, is_idle, is_start_due, quantum_start, quantum}
use Rattle.mh_model.specs.{Mutator.{HeapState, mutator_step}, Machine.{Machine, is_quantum_due, command_step}}
use Rattle.mh_model.specs.{Limits.root_slots, declared.command.Control.Control}

-- the name of a block: which part of which object it is
abbrev pub name_of : Block → PartName
name_of block = record { birth = block.birth; part = block.part }

-- the name of the block at a place, and part 0 of birth 0 if none is there
abbrev pub name_at : Table Block → ℕ → PartName
name_at table place = unwrap_or (option_map name_of (block_at table place)) (record { birth = 0; part = 0 })

-- a reference as the collector comes to it: as it stood, where it leads, and whether the grey list grew by it, so whether it made its target grey. Of
-- two references to one white block the second did not
abbrev pub edge_of : Table Block → Option ℕ → List ℕ → List ℕ → Edge
edge_of table reference before after = record { reference = reference; target = target_of table reference; is_shaded = nat_lt (length before) (length after) }

-- Steps ------------------------------------------------------------------------------------------

-- the next slot of the roots scanned
-- from: Yuasa; own
abbrev pub root_deed : Collector → Deed
root_deed collector = Deed.Root collector.cursor (edge_of collector.table (get_or collector.slots collector.cursor None) collector.grey (roots_step collector).grey)

-- references of a block in order, from this one on: each marked through
-- from: Yuasa; own
abbrev pub reference_deeds : Marking → ℕ → ℕ → List (Option ℕ) → List Deed
reference_deeds marking place index [] = []
reference_deeds marking place index (reference ∷ references) =
    let after = mark_reference marking place index reference in
    Deed.Reference index (edge_of marking.table reference marking.grey after.grey) ∷ reference_deeds after place (suc index) references

-- the first block of this grey list marked through, and then its references
-- from: Yuasa; own
abbrev pub mark_deeds : Marking → List ℕ → List Deed
mark_deeds marking [] = []
mark_deeds marking (place ∷ grey) = Deed.Mark place (name_at marking.table place) ∷ reference_deeds (record marking { grey = grey }) place 0 (references_at marking.table place)

-- what the sweep does with a block, and with a slot, which may be empty: a marked block is kept, any other and each forwarder is freed
-- from: Metronome; own
abbrev pub block_fate : ℕ → Block → Option ℕ → Fate
block_fate cycle block None = if is_marked cycle block then Fate.Kept (name_of block) else Fate.Freed (name_of block)
block_fate cycle block (Some target) = Fate.FreedForwarder target

abbrev pub slot_fate : ℕ → Option Block → Fate
slot_fate cycle None = Fate.Empty
slot_fate cycle (Some block) = block_fate cycle block block.forward

-- a page that becomes sparse or dense: its flag as it was and as it is
-- from: Metronome; own
abbrev pub flag_deeds : ℕ → Bool → Bool → List Deed
flag_deeds page false true = Deed.FlagPage page ∷ []
flag_deeds page true false = Deed.UnflagPage page ∷ []
flag_deeds page _ _ = []

-- a page in use as its slot is swept, which may become free, sparse or dense: its flag as it was, and the page as it is
-- from: Metronome; own
abbrev pub page_deeds : ℕ → Bool → Option (Page Block) → List Deed
page_deeds number was_flagged None = Deed.FreePage number ∷ []
page_deeds number was_flagged (Some page) = flag_deeds number was_flagged page.is_flagged

-- a free page passed, or a slot of a page in use swept
-- from: Metronome; own
abbrev pub sweep_deeds : ℕ → Table Block → ℕ → Option (Page Block) → List Deed
sweep_deeds cycle table place None = Deed.Pass (page_number place) ∷ []
sweep_deeds cycle table place (Some page) =
    Deed.Sweep place (slot_fate cycle (block_in (slot_number place) page)) ∷ page_deeds (page_number place) page.is_flagged (swept_page cycle table place page)

-- the roots forwarded, for the first move of a quantum
-- from: Metronome; own
abbrev pub forward_deeds : Bool → List Deed
forward_deeds true = []
forward_deeds false = Deed.ForwardRoots ∷ []

-- a slot of a sparse page: its block moves, if it can
-- from: Metronome; own
abbrev pub slot_deeds : Bool → ℕ → Option Move → List Deed
slot_deeds has_moved place None = Deed.Stay place ∷ []
slot_deeds has_moved place (Some move) = Deed.Move place move.target (name_of (move.block)) move.class_size ∷ forward_deeds has_moved

-- a page passed that is free or dense, or a slot of a sparse page
-- from: Metronome; own
abbrev pub defrag_deeds : Bool → Table Block → ℕ → Option (Page Block) → List Deed
defrag_deeds has_moved table place None = Deed.Pass (page_number place) ∷ []
defrag_deeds has_moved table place (Some page) = slot_deeds has_moved place (next_move table place)

-- the deeds of the step that a phase has, and none if no cycle runs
abbrev pub deeds_in : Phase → Collector → Bool → List Deed
deeds_in Idle collector has_moved = []
deeds_in Roots collector has_moved = root_deed collector ∷ []
deeds_in Mark collector has_moved = mark_deeds (marking_of collector) collector.grey
deeds_in Sweep collector has_moved = sweep_deeds collector.cycle collector.table collector.cursor (page_at collector.table (page_number collector.cursor))
deeds_in Defrag collector has_moved = defrag_deeds has_moved collector.table collector.cursor (flagged_page collector.table collector.cursor)

-- the phase that a step enters, if that is another one, or the end of the cycle. It has no units, since phases follow at once
abbrev pub enter_deeds : Phase → Phase → List Deed
enter_deeds Roots Mark = Deed.Enter Mark ∷ []
enter_deeds Roots Sweep = Deed.Enter Sweep ∷ []
enter_deeds Mark Sweep = Deed.Enter Sweep ∷ []
enter_deeds Sweep Defrag = Deed.Enter Defrag ∷ []
enter_deeds Defrag Idle = Deed.End ∷ []
enter_deeds _ _ = []

-- the deeds of the next step, with the phase that it enters, by whether the quantum has moved a block
unfoldable pub step_deeds : Collector → Bool → List Deed
step_deeds collector has_moved = deeds_in collector.phase collector has_moved ++ enter_deeds collector.phase (collector_step collector).phase

-- Units ------------------------------------------------------------------------------------------

-- what a deed costs, and deeds together. The step of a mark is that deed with those of its references, of 1 unit each. The first move of a quantum is
-- a deed of 1 and the words of its class, and one of 144 for the roots
abbrev pub deed_units : Deed → ℕ
deed_units (Deed.Root slot edge) = 2
deed_units (Deed.Mark place name) = 1
deed_units (Deed.Reference index edge) = 1
deed_units (Deed.Pass page) = 1
deed_units (Deed.Sweep place fate) = 1
deed_units (Deed.Stay place) = 1
deed_units (Deed.Move place to name class_size) = 1 + class_size
deed_units Deed.ForwardRoots = root_slots
deed_units _ = 0

abbrev pub units_of : List Deed → ℕ
units_of deeds = sum_by deed_units deeds

-- Quanta -----------------------------------------------------------------------------------------

-- the deeds of the steps that a quantum takes, as many as fit in what is left
unfoldable pub deeds_of_steps : ℕ → ℕ → Bool → Collector → List Deed
deeds_of_steps zero left has_moved collector = []
deeds_of_steps (suc more) left has_moved collector =
    elim (is_idle collector.phase || nat_lt left (step_cost collector has_moved)) [
      | true ↦ []
      | false ↦ step_deeds collector has_moved ++ deeds_of_steps more (left - step_cost collector has_moved) (has_moved || is_moving collector) (collector_step collector)
    ]

-- the start of a cycle, if one is due: that it starts, and then that it enters the roots
abbrev pub start_deeds : Config → Collector → List Deed
start_deeds config collector = if is_start_due config collector then Deed.Start (collector.cycle + 1) ∷ Deed.Enter Roots ∷ [] else []

-- the deeds of a quantum: those of a start, and of its steps
unfoldable pub quantum_deeds : Config → Collector → List Deed
quantum_deeds config collector = start_deeds config collector ++ deeds_of_steps config.quantum config.quantum false (quantum_start config collector)

-- Commands ---------------------------------------------------------------------------------------

-- the tier of placement that finds a place in this page: fresh if it is free, sparse if it is flagged, and else dense
-- from: Metronome; own
abbrev pub tier_of : Option (Page Block) → Tier
tier_of None = Fresh
tier_of (Some page) = if page.is_flagged then Sparse else Dense

-- a part of an object with this birth placed in a table
-- from: Metronome; own
abbrev pub made_deed : Table Block → ℕ → ℕ → Part → ℕ → Deed
made_deed table birth index part place =
    Deed.Make place (record { birth = birth; part = index }) (unwrap_or (class_of (part_words part)) 0) (record { references = part.references; numbers = part.numbers }) (tier_of (page_at table (page_number place)))

-- parts of an object placed in order, from this index on, up to one that has no place
-- from: Metronome; own
abbrev pub make_deeds : Table Block → ℕ → ℕ → ℕ → List Part → List Deed
make_deeds table birth stamp index [] = []
make_deeds table birth stamp index (part ∷ parts) = elim (made_part table birth stamp index part) [
  | None ↦ []
  | Some made ↦ made_deed table birth index part made.place ∷ make_deeds made.table birth stamp (suc index) parts
]

-- the parts of a new object, if it is made
-- from: Metronome; own
abbrev pub new_deeds : HeapState → Command → Reply → List Deed
new_deeds heap (Command.New slot references numbers) Reply.Done = make_deeds heap.collector.table heap.next_birth heap.collector.cycle 0 (parts references numbers)
new_deeds heap _ _ = []

-- what barriers shaded since a command began, in the order of shading: it is read off the end of the grey list after the command
-- from: Yuasa; own
abbrev pub barrier_deeds : List ℕ → List ℕ → List Deed
barrier_deeds before after = map (λ place. Deed.Shade place) (drop (length before) after)

-- the deeds of a command: its parts are placed before a slot is written, and so before its barriers shade
-- from: Yuasa; own
unfoldable pub command_deeds : HeapState → ℕ → Command → List Deed
command_deeds heap who command =
    let answer = mutator_step heap who command in
    new_deeds heap command answer.reply ++ barrier_deeds heap.collector.grey answer.state.collector.grey

-- Events -----------------------------------------------------------------------------------------

-- a quantum: what it spent, the phase that it ended in, and its deeds
pub record Ran : Type 0 where
  pub ended : QuantumEnd
  pub deeds : List Deed

-- what an event does: the deeds of its command, and the quantum that it runs, if it runs one
pub record Account : Type 0 where
  pub command : List Deed
  pub quantum : Option Ran

-- what a quantum spent, and the phase that it ended in
abbrev pub quantum_end : Spending → QuantumEnd
quantum_end spending = record { units = spending.units; phase = spending.collector.phase }

-- the quantum of a heap, with its deeds
abbrev pub ran_by : HeapState → Ran
ran_by heap = record { ended = quantum_end (quantum heap.config heap.collector); deeds = quantum_deeds heap.config heap.collector }

-- the quantum that is run if a test holds
abbrev pub ran_if : Bool → HeapState → Option Ran
ran_if true heap = Some (ran_by heap)
ran_if false heap = None

-- the account of one event: a quantum is run that its command makes due, or on request if the scheduler runs none
unfoldable pub account_of : Machine → Event → Account
account_of machine (Event.Session who command) =
    let after = (command_step machine who command).state in
    record { command = command_deeds machine.heap who command; quantum = ran_if (is_quantum_due after) after.heap }
account_of machine (Event.Control Control.Quantum) = record { command = []; quantum = ran_if (machine.heap.config.every == 0) machine.heap }
account_of machine (Event.Control _) = record { command = []; quantum = None }

-- deeds as they are kept: all of them, unless memory was refused for one. A quantum never fails because it tells what it does: the log then says that
-- it isn't whole, and `steps` ends with `no memory`
pub record DeedLog : Type 0 where
  pub deeds : List Deed
  pub is_whole : Bool

-- a log to which deeds were added, unless memory was refused for one of them
abbrev pub Adds : DeedLog → List Deed → DeedLog → Type 0
Adds old deeds new = new.is_whole ≡ true → (old.is_whole ≡ true) × (new.deeds ≡ old.deeds ++ deeds)
