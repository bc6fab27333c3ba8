-- What commands carry on: a relation of tables, or of collectors, that each write of one block or slot keeps.
-- It is carried through shading, marking and barriers, and so through the twelve commands, if making an object's parts keeps it too.
-- A file that has such a relation says what writes do to it, and takes the walk over the commands from here.
use Rattle.std.proofs.Common.{◌≡◌, ℕ, zero, suc, true, Option, Some, None, option_map, unwrap_or, List, [], ◌∷◌, set, refl, arith}
use Rattle.mh_model.specs.{declared.command.Command.Command, World.{own_slot, refusal}}
use Rattle.mh_model.specs.Pages.{Table, block_at, with_block}
use Rattle.mh_model.specs.Table.{Block, Made, Position, references_at, with_reference_at, with_number_at, target_of, number_index}
use Rattle.mh_model.specs.Collector.{Collector, Marking, shade, mark_reference, mark_references, mark_first, marking_of, with_shade}
use Rattle.mh_model.specs.Mutator.{HeapState, in_roots_or_mark, before_field, with_root, with_roots_cleared, with_session_cleared, with_reference_stored, with_number_stored, number_field, new_group, with_born, heap_sight, heap_effect, mutator_step}

-- Tables -----------------------------------------------------------------------------------------

-- a relation of tables that is kept if the stamp, a reference or a number of one block is written
pub record IsKeptByWrites (R : Table Block → Table Block → Type 0) : Type 0 where
  pub same : (table : Table Block) → R table table
  pub joined : (first second third : Table Block) → R first second → R second third → R first third
  pub stamped : (table : Table Block) (place : ℕ) (block : Block) (stamp : ℕ) → block_at table place ≡ Some block → R table (with_block table place (Some (record block { stamp = stamp })))
  pub referred : (table : Table Block) (place index : ℕ) (reference : Option ℕ) → R table (with_reference_at table place index reference)
  pub numbered : (table : Table Block) (place index number : ℕ) → R table (with_number_at table place index number)

module _ (R : Table Block → Table Block → Type 0) (kept : IsKeptByWrites R) where
  pub shade-each : (marking : Marking) (reference : Option ℕ) → R marking.table (shade marking reference).table
  shade-each marking reference = grind arith

  mark_references-each : (marking : Marking) (place index : ℕ) (references : List (Option ℕ)) → R marking.table (mark_references marking place index references).table
  mark_references-each marking place index [] = kept.same marking.table
  mark_references-each marking place index (reference ∷ references) =
      let target : Option ℕ = target_of marking.table reference in
      let written : Table Block = with_reference_at marking.table place index target in
      let next : Marking = mark_reference marking place index reference in
      kept.joined marking.table next.table (mark_references next place (suc index) references).table
      (kept.joined marking.table written next.table (kept.referred marking.table place index target) (shade-each (record marking { table = written }) target))
      (mark_references-each next place (suc index) references)

  pub mark_first-each : (marking : Marking) (grey : List ℕ) → R marking.table (mark_first marking grey).table
  mark_first-each marking [] = kept.same marking.table
  mark_first-each marking (place ∷ grey) = mark_references-each (record marking { grey = grey }) place 0 (references_at marking.table place)

-- Collectors -------------------------------------------------------------------------------------

-- a relation of collectors that is kept by shading, where barriers shade, and if a slot, a reference or a number is written
pub record IsKeptByCommands (R : Collector → Collector → Type 0) : Type 0 where
  pub same : (collector : Collector) → R collector collector
  pub joined : (first second third : Collector) → R first second → R second third → R first third
  pub shaded : (collector : Collector) (reference : Option ℕ) → in_roots_or_mark collector.phase ≡ true → R collector (with_shade collector reference)
  pub rooted : (collector : Collector) (slot : ℕ) (reference : Option ℕ) → R collector (record collector { slots = set collector.slots slot reference })
  pub referred : (collector : Collector) (position : Position) (reference : Option ℕ) → R collector (record collector { table = with_reference_at collector.table position.place position.index reference })
  pub numbered : (collector : Collector) (position : Position) (number : ℕ) → R collector (with_number_stored collector position number)

-- a relation of their tables
pub over_tables : (R : Table Block → Table Block → Type 0) → IsKeptByWrites R → IsKeptByCommands (λ (old new : Collector). R old.table new.table)
over_tables R kept = record {
  same = λ collector. kept.same collector.table;
  joined = λ first second third. kept.joined first.table second.table third.table;
  shaded = λ collector reference inside. shade-each R kept (marking_of collector) reference;
  rooted = λ collector slot reference. kept.same collector.table;
  referred = λ collector position reference. kept.referred collector.table position.place position.index reference;
  numbered = λ collector position number. kept.numbered collector.table position.place (number_index collector.table position) number;
}

module _ (R : Collector → Collector → Type 0) (kept : IsKeptByCommands R) where
  pub with_root-each : (collector : Collector) (slot : ℕ) (reference : Option ℕ) → R collector (with_root collector slot reference)
  with_root-each collector slot reference = grind arith

  with_roots_cleared-each : (count : ℕ) (collector : Collector) (slot : ℕ) → R collector (with_roots_cleared collector slot count)
  with_roots_cleared-each zero collector slot = kept.same collector
  with_roots_cleared-each (suc count) collector slot =
      kept.joined collector (with_root collector slot None) (with_roots_cleared (with_root collector slot None) (suc slot) count) (with_root-each collector slot None)
      (with_roots_cleared-each count (with_root collector slot None) (suc slot))

  with_session_cleared-each : (collector : Collector) (who : ℕ) → R collector (with_session_cleared collector who)
  unfolding with_session_cleared
  with_session_cleared-each collector who = with_roots_cleared-each 16 collector (own_slot who 0)

  with_reference_stored-each : (collector : Collector) (position : Position) (reference : Option ℕ) → R collector (with_reference_stored collector position reference)
  with_reference_stored-each collector position reference = grind (arith, kept.referred (before_field collector position) position reference)

  -- what a new object is to keep: the relation of its heap's collector and of that with its parts in the table
  abbrev IsKeptByParts : HeapState → Option Made → Type 0
  IsKeptByParts heap group = (made : Made) → group ≡ Some made → R heap.collector (record (heap.collector) { table = made.table })

  born-each : (heap : HeapState) (slot : ℕ) (group : Option Made) → IsKeptByParts heap group → R heap.collector (unwrap_or (option_map (with_born heap slot) group) heap).collector
  born-each heap slot None parts = kept.same heap.collector
  born-each heap slot (Some made) parts =
      let placed : Collector = record (heap.collector) { table = made.table } in
      kept.joined heap.collector placed (with_root placed slot (Some made.place)) (parts made refl) (with_root-each placed slot (Some made.place))

  -- Each command keeps the relation, if a new object's parts do
  pub heap_effect-each : (heap : HeapState) (who : ℕ) (c : Command) → ((slot references numbers : ℕ) → c ≡ Command.New slot references numbers → IsKeptByParts heap (new_group heap references numbers)) → R heap.collector (heap_effect heap who c).state.collector
  unfolding heap_effect
  heap_effect-each heap who (Command.New slot references numbers) parts = born-each heap (own_slot who slot) (new_group heap references numbers) (parts slot references numbers refl)
  heap_effect-each heap who (Command.Get slot source field) parts = grind arith
  heap_effect-each heap who (Command.Put slot field value) parts = search (arith, with_reference_stored-each)
  heap_effect-each heap who (Command.Copy slot source) parts = grind arith
  heap_effect-each heap who (Command.Clear slot) parts = with_root-each heap.collector (own_slot who slot) None
  heap_effect-each heap who (Command.Write slot index number) parts = kept.numbered heap.collector (number_field heap (own_slot who slot) index) number
  heap_effect-each heap who (Command.Post board slot) parts = grind arith
  heap_effect-each heap who (Command.Take slot board) parts = grind arith
  heap_effect-each heap who other parts = grind (arith, with_session_cleared-each)

  -- and so it is with its refusals, since what is refused changes nothing
  pub mutator_step-each : (heap : HeapState) (who : ℕ) (c : Command) → (refusal (heap_sight heap) who c ≡ None → R heap.collector (heap_effect heap who c).state.collector) → R heap.collector (mutator_step heap who c).state.collector
  unfolding mutator_step
  mutator_step-each heap who c done = grind arith
