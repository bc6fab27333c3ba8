-- What leaves free pages and room as they are: barriers, marking, and each command but a new object.
use Rattle.std.proofs.Common.{◌≡◌, ℕ, Bool, true, false, Option, Some, is_some, option_map, List, ◌∷◌, sym, ap, ◌∙◌, arith}
use Rattle.std.proofs.lemmas.Bool.{false≢true}
use Rattle.mh_model.specs.{declared.command.Command.Command, Classes.Part, Pages.{Table, block_at}}
use Rattle.mh_model.specs.Table.{Block, with_block_change, linked_block, linked_parts}
use Rattle.mh_model.specs.Collector.{Collector, Marking, mark_first, marking_of, with_shade}
use Rattle.mh_model.specs.Mutator.{HeapState, with_root, heap_effect}
use Rattle.mh_laws.proofs.commands.EachCommand.{IsKeptByWrites, shade-each, mark_first-each, over_tables, with_root-each, heap_effect-each}
use Rattle.mh_laws.proofs.rooms.Rooms.{HasSameRoom, same_room, same_room-then, same_room-with_block}

-- Blocks changed ---------------------------------------------------------------------------------

still_some : (content : Option Block) (change : Block → Block) → is_some (option_map change content) ≡ is_some content
still_some content change = grind arith

pub change-room : (table : Table Block) (place : ℕ) (change : Block → Block) → HasSameRoom table (with_block_change table place change)
change-room table place change = same_room-with_block table place (option_map change (block_at table place)) (still_some (block_at table place) change)

pub linked_parts-room : (all places : List ℕ) (parts : List Part) (table : Table Block) → HasSameRoom table (linked_parts all table places parts)
linked_parts-room all (place ∷ places) (part ∷ parts) table =
    let next : Table Block = with_block_change table place (linked_block all part) in
    same_room-then table next (linked_parts all next places parts) (change-room table place (linked_block all part)) (linked_parts-room all places parts next)
linked_parts-room all places parts table = same_room table

room : IsKeptByWrites HasSameRoom
room = record {
  same = same_room;
  joined = same_room-then;
  stamped = λ table place block stamp at. same_room-with_block table place (Some (record block { stamp = stamp })) (sym (ap is_some at));
  referred = λ table place index reference. change-room table place _;
  numbered = λ table place index number. change-room table place _;
}

-- Marking and barriers ---------------------------------------------------------------------------

pub mark_first-room : (marking : Marking) (grey : List ℕ) → HasSameRoom marking.table (mark_first marking grey).table
mark_first-room marking grey = mark_first-each HasSameRoom room marking grey

pub with_shade-room : (collector : Collector) (reference : Option ℕ) → HasSameRoom collector.table (with_shade collector reference).table
with_shade-room collector reference = shade-each HasSameRoom room (marking_of collector) reference

pub with_root-room : (collector : Collector) (slot : ℕ) (reference : Option ℕ) → HasSameRoom collector.table (with_root collector slot reference).table
with_root-room collector slot reference = with_root-each _ (over_tables HasSameRoom room) collector slot reference

-- Commands ---------------------------------------------------------------------------------------

-- a command makes no object
abbrev pub makes_none : Command → Bool
makes_none (Command.New slot references numbers) = false
makes_none _ = true

-- such a command is no new object
pub makes_none-new : (c : Command) (slot references numbers : ℕ) → makes_none c ≡ true → c ≡ Command.New slot references numbers → ⊥
makes_none-new c slot references numbers none is = false≢true (sym (ap makes_none is) ∙ none)

-- Each other command leaves free pages and room
pub heap_effect-room : (heap : HeapState) (who : ℕ) (c : Command) → makes_none c ≡ true → HasSameRoom heap.collector.table (heap_effect heap who c).state.collector.table
heap_effect-room heap who c none = heap_effect-each _ (over_tables HasSameRoom room) heap who c (λ slot references numbers is. absurd (makes_none-new c slot references numbers none is))
