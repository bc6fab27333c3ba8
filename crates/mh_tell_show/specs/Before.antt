-- What a page begins with: the heap before its first event, as rows of numbers, and where the collector was.
use Rattle.std.specs.Prelude.{ℕ, suc, ◌+◌, ◌*◌, Option, Some, None, List, [], ◌∷◌, ◌++◌, length, replicate, codes, decimal}
use Rattle.mh_model.specs.{Bytes.Text, Limits.root_slots, Machine.Machine, Numbered.{phase_number, flag_number}}
use Rattle.mh_model.specs.{Pages.{Page, Table}, Table.Block, Trace.{mutator_count, collector_count}}
use Rattle.mh_tell_show.specs.Cursor.{Cursor, NoCursor, RootSlot, Place, cursor_of}
use Rattle.mh_tell_show.specs.Rows.{PageRow, row_of, row_text, listed, root_rows}

-- Heaps ------------------------------------------------------------------------------------------

-- the row of the block at a place: which part of which object it is, its mark stamp, where it moved to, and the counts of its own fields
abbrev pub block_row : ℕ → Block → PageRow
block_row place block =
    row_of place (Some block.birth ∷ Some block.part ∷ Some block.stamp ∷ block.forward ∷ Some (length block.references) ∷ Some (length block.numbers) ∷ [])

-- the rows of the blocks in these slots of a page, from this slot on
abbrev pub slot_rows : ℕ → ℕ → List (Option Block) → List PageRow
slot_rows page slot [] = []
slot_rows page slot (None ∷ slots) = slot_rows page (suc slot) slots
slot_rows page slot (Some block ∷ slots) = block_row (64 * page + slot) block ∷ slot_rows page (suc slot) slots

-- a page in use with its class and its flag, and then its blocks; and nothing of a free one
abbrev pub page_rows : ℕ → Option (Page Block) → List PageRow
page_rows number None = []
page_rows number (Some page) = row_of number (Some page.class_size ∷ Some (flag_number page.is_flagged) ∷ []) ∷ slot_rows number 0 page.slots

-- The rows of a table, of which the first page has this number
abbrev pub table_rows : ℕ → Table Block → List PageRow
table_rows number [] = []
table_rows number (page ∷ pages) = page_rows number page ++ table_rows (suc number) pages

-- Collectors -------------------------------------------------------------------------------------

-- the slot or the place at which a cursor stands
abbrev pub cursor_number : Cursor → Option ℕ
cursor_number NoCursor = None
cursor_number (RootSlot slot) = Some slot
cursor_number (Place place) = Some place

-- How many events were before, and their units; the cycle and the phase, where the cursor stands, and whether a cycle is asked for
abbrev pub before_row : ℕ → Machine → PageRow
before_row number machine =
    let collector = machine.heap.collector in
    row_of number (Some (mutator_count machine.trace.letters) ∷ Some (collector_count machine.trace.letters) ∷ Some collector.cycle ∷ Some (phase_number collector.phase)
    ∷ cursor_number (cursor_of collector) ∷ Some (flag_number collector.is_asked) ∷ [])

-- What is written of a machine after so many events: where it was, its heap, its grey list, and the roots that aren't empty
abbrev pub before_text : ℕ → Machine → Text
before_text number machine =
    let collector = machine.heap.collector in
    codes ",\"before\":" ++ (row_text (before_row number machine) ++ (codes ",\"heap\":" ++ (listed row_text (table_rows 0 collector.table)
    ++ (codes ",\"grey\":" ++ (listed decimal collector.grey ++ (codes ",\"roots\":" ++ listed row_text (root_rows 0 (replicate root_slots None) collector.slots)))))))
