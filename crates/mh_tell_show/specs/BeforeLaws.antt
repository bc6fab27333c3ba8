-- What a page begins with draws the heap before its first event.
use Rattle.std.specs.Prelude.{◌≡◌, ℕ, ◌==◌, Option, Some, None, List, [], ◌∷◌, length, replicate, set}
use Rattle.mh_model.specs.{Classes.slots_in, Pages.{HaveTheirSlots, Page, Table, with_block}, Table.Block}
use Rattle.mh_tell_laws.specs.Picture.{Drawn, drawn_of}
use Rattle.mh_table_laws.specs.TableMaps.{table_map}
use Rattle.mh_tell_show.specs.{Before.table_rows, Rows.PageRow}

-- what is drawn of a block with these numbers
abbrev pub drawn_block : ℕ → ℕ → ℕ → Option ℕ → ℕ → ℕ → Drawn
drawn_block birth part stamp forward references numbers =
    record { name = record { birth = birth; part = part }; fields = record { references = references; numbers = numbers }; stamp = stamp; forward = forward }

-- a page in use of a class, with its flag and with no block
abbrev pub drawn_page : ℕ → ℕ → Page Drawn
drawn_page size flag = record { class_size = size; is_flagged = flag == 1; slots = replicate (slots_in size) None }

-- the pages after a row: one of three numbers is a page in use, one of seven a block in its slot
abbrev pub drawn_numbers : Table Drawn → ℕ → List (Option ℕ) → Table Drawn
drawn_numbers table page (Some size ∷ Some flag ∷ []) = set table page (Some (drawn_page size flag))
drawn_numbers table place (Some birth ∷ Some part ∷ Some stamp ∷ forward ∷ Some references ∷ Some numbers ∷ []) = with_block table place (Some (drawn_block birth part stamp forward references numbers))
drawn_numbers table first _ = table

-- the pages after rows in order
abbrev pub drawn_rows : Table Drawn → List PageRow → Table Drawn
drawn_rows table [] = table
drawn_rows table (row ∷ rows) = drawn_rows (drawn_numbers table row.kind row.numbers) rows

-- From free pages on, the rows of a heap draw its picture
abbrev pub RowsDrawTheHeap : Type 0
RowsDrawTheHeap = (table : Table Block) → HaveTheirSlots table → drawn_rows (replicate (length table) None) (table_rows 0 table) ≡ table_map drawn_of table
