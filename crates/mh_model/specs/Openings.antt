-- How many pages new objects may open while no quantum is run.
use Rattle.std.specs.Prelude.{◌≡◌, ℕ, ◌+◌, ◌==◌, nat_lt, Bool, true, false, if◌then◌else◌, None, option_map, unwrap_or, List, []}
use Rattle.std.specs.{Int.div_ceil, List.{sum_by, count_by, flat_map}}
use Rattle.mh_model.specs.{declared.command.Event.Event, declared.config.Config.Config, World.most_fields}
use Rattle.mh_model.specs.Classes.{Part, class_sizes, class_of, slots_in, part_words, parts}
use Rattle.mh_model.specs.{Pages.{Table, page_number, block_at, flag_at, free_pages}, Machine.Machine}
use Rattle.mh_model.specs.declared.command.Command.{Command}

-- a part goes into pages of this class
abbrev pub is_of_class : ℕ → Part → Bool
is_of_class size part = unwrap_or (option_map (λ class. class == size) (class_of (part_words part))) false

-- how many of these parts go into pages of a class
abbrev pub class_parts : ℕ → List Part → ℕ
class_parts size parts = count_by (is_of_class size) parts

-- how many pages of a class so many parts fill, rounded up: the last may have room
abbrev pub pages_for : ℕ → ℕ → ℕ
pages_for size count = div_ceil count (slots_in size)

-- how many pages parts fill if each class has pages of its own: the sum over the classes
abbrev pub pages_of_parts : List Part → ℕ
pages_of_parts list = sum_by (λ size. pages_for size (class_parts size list)) class_sizes

-- the parts of the object that an event asks for, and none if it is too large for the rules. A refused object counts too
abbrev pub asked_parts : Config → Event → List Part
asked_parts config (Event.Session who (Command.New slot references numbers)) = if nat_lt (most_fields config) (references + numbers) then [] else parts references numbers
asked_parts config _ = []

-- the most pages that a list of events opens if it runs no quantum
abbrev pub opens_at_most : Config → List Event → ℕ
opens_at_most config events = pages_of_parts (flat_map (asked_parts config) events)

-- how many pages of a machine are free
abbrev pub free_of : Machine → ℕ
free_of machine = free_pages machine.heap.collector.table

-- flagged pages stay flagged, and a place in one of them that has no block gets none
pub record LeavesFlagged {X : Type 0} (old new : Table X) : Type 0 where
  pub flags : (number : ℕ) → flag_at old number ≡ true → flag_at new number ≡ true
  pub empty : (place : ℕ) → flag_at old (page_number place) ≡ true → block_at old place ≡ None → block_at new place ≡ None
