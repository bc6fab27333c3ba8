-- What is left of a running cycle, in steps and in units, and when it is within its bounds.
-- Nobody has to believe these words: every step keeps them, and the laws of bounds say what follows.
use Rattle.std.specs.Prelude.{◌≡◌, ℕ, suc, ◌+◌, ◌-◌, ◌*◌, ◌<◌, ◌≤◌, true, if◌then◌else◌, length, Option, Some, None, option_map, unwrap_or, List, []}
use Rattle.std.specs.List.{AllByRecursion, sum_by}
use Rattle.mh_model.specs.{declared.config.Config.Config, declared.cycle.Phase.Phase}
use Rattle.mh_model.specs.declared.cycle.Phase.TheVariants.{Idle, Roots, Mark, Sweep, Defrag}
use Rattle.mh_model.specs.Pages.{Page, Table, page_number, slot_number, page_at, block_in, block_at}
use Rattle.mh_model.specs.{Table.{Block, references_at}, Collector.{Collector, Marking, is_marked, marking_of, is_idle}}
use Rattle.mh_model.specs.{Batches.NoneTwice, Bound.{most_steps, most_units}, Limits.{quantum_overhead, root_slots}}

-- What marking costs -----------------------------------------------------------------------------

-- how many references the block at a place has
abbrev pub count_at : Table Block → ℕ → ℕ
count_at table place = length (references_at table place)

module _ (price : ℕ → ℕ) (cycle : ℕ) where
  -- what marking the block of a slot will cost, and the blocks of a page, at a price by its references: nothing for one that is marked
  abbrev pub slot_weight : Option Block → ℕ
  slot_weight None = 0
  slot_weight (Some block) = if is_marked cycle block then 0 else price (length block.references)

  abbrev pub page_weight : Option (Page Block) → ℕ
  page_weight None = 0
  page_weight (Some page) = sum_by slot_weight page.slots

  -- what marking all unmarked blocks of a table will cost
  abbrev pub table_weight : Table Block → ℕ
  table_weight table = sum_by page_weight table

-- what marking the blocks of the grey list will cost
abbrev pub grey_weight : (ℕ → ℕ) → Table Block → List ℕ → ℕ
grey_weight price table grey = sum_by (λ place. price (count_at table place)) grey

-- what marking still costs, in steps or in units by the price: the grey blocks, and those that may become grey
abbrev pub weight : (ℕ → ℕ) → Marking → ℕ
weight price marking = table_weight price marking.cycle marking.table + grey_weight price marking.table marking.grey

-- marking a block is one step, and as many units as it has references and one more
abbrev pub in_steps : ℕ → ℕ
in_steps references = 1

abbrev pub in_units : ℕ → ℕ
in_units references = 1 + references

-- What is left -----------------------------------------------------------------------------------

-- the class of a page in use
abbrev pub class_at : Table Block → ℕ → Option ℕ
class_at table number = option_map (λ page. page.class_size) (page_at table number)

-- the class of a page, and 0 if it is free
abbrev pub size_at : Table Block → ℕ → ℕ
size_at table number = unwrap_or (class_at table number) 0

-- how many words may still be moved: 256 of each page after this one, and those of the slots from the cursor on
abbrev pub movable : ℕ → ℕ → ℕ → ℕ → ℕ
movable pages page slot words = 256 * (pages - suc page) + (256 - words * slot)

abbrev pub movable_words : Collector → ℕ
movable_words collector = movable (length collector.table) (page_number collector.cursor) (slot_number collector.cursor) (size_at collector.table (page_number collector.cursor))

-- how many steps a cycle may still take, by its phase
abbrev pub steps_left : Phase → Collector → ℕ
steps_left Idle collector = 0
steps_left Roots collector = (root_slots - collector.cursor) + weight in_steps (marking_of collector) + 128 * length collector.table
steps_left Mark collector = weight in_steps (marking_of collector) + 128 * length collector.table
steps_left Sweep collector = (64 * length collector.table - collector.cursor) + 64 * length collector.table
steps_left Defrag collector = 64 * length collector.table - collector.cursor

-- how many units a cycle may still spend, by its phase, without the charge for slots
abbrev pub units_left : Phase → Collector → ℕ
units_left Idle collector = 0
units_left Roots collector = 2 * (root_slots - collector.cursor) + weight in_units (marking_of collector) + 384 * length collector.table
units_left Mark collector = weight in_units (marking_of collector) + 384 * length collector.table
units_left Sweep collector = (64 * length collector.table - collector.cursor) + 320 * length collector.table
units_left Defrag collector = (64 * length collector.table - collector.cursor) + movable_words collector

-- On the way -------------------------------------------------------------------------------------

-- a class has 4 to 64 words, and its slots lie in 256 words; the header and references of each block lie in its slot
pub record IsRoomyPage (page : Page Block) : Type 0 where
  pub least : 4 ≤ page.class_size
  pub most : page.class_size ≤ 64
  pub words : page.class_size * length page.slots ≤ 256
  pub blocks : (slot : ℕ) (block : Block) → block_in slot page ≡ Some block → length block.references + 4 ≤ page.class_size

-- each page in use of a table is roomy
pub record IsRoomy (table : Table Block) : Type 0 where
  pub pages : (number : ℕ) (page : Page Block) → page_at table number ≡ Some page → IsRoomyPage page

-- the block at a place is marked in a cycle
abbrev pub IsMarkedIn : Table Block → ℕ → ℕ → Type 0
IsMarkedIn table cycle place = option_map (λ block. block.stamp) (block_at table place) ≡ Some cycle

-- the table's pages are roomy, and no place stands twice in the grey list, of which each holds a marked block
pub record IsGreySound (marking : Marking) : Type 0 where
  pub roomy : IsRoomy marking.table
  pub once : NoneTwice marking.grey
  pub marked : AllByRecursion (IsMarkedIn marking.table marking.cycle) marking.grey

-- where a phase stands: its cursor in range, and the grey list empty outside the roots and marking, and not empty in marking
abbrev pub StageOf : Phase → Collector → Type 0
StageOf Idle collector = collector.grey ≡ []
StageOf Roots collector = collector.cursor < root_slots
StageOf Mark collector = 0 < length collector.grey
StageOf Sweep collector = (collector.grey ≡ []) × (collector.cursor < 64 * length collector.table)
StageOf Defrag collector = (collector.grey ≡ []) × (collector.cursor < 64 * length collector.table)

-- a collector on its way through a cycle, or between two
pub record IsUnderway (collector : Collector) : Type 0 where
  pub some_page : 0 < length collector.table
  pub sound : IsGreySound (marking_of collector)
  pub stage : StageOf collector.phase collector

-- so many quanta and what is left are within the most of a cycle, in steps and in units
pub record IsWithin (config : Config) (quanta steps units : ℕ) : Type 0 where
  pub by_steps : quanta + steps ≤ most_steps config
  pub by_units : quantum_overhead < config.quantum → quanta * (config.quantum - quantum_overhead) + units ≤ most_units config

-- a collector within the bounds of its cycle: the quanta that it has had and what is left are within the most; between two cycles no quantum is counted
pub record IsInBounds (config : Config) (collector : Collector) : Type 0 where
  pub pages : length collector.table ≡ config.pages
  pub under : IsUnderway collector
  pub idle : is_idle collector.phase ≡ true → collector.quanta ≡ 0
  pub within : IsWithin config collector.quanta (steps_left collector.phase collector) (units_left collector.phase collector)
