-- What keeps the pages of tables, the slots of their classes, and blocks within the limits of objects.
use Rattle.std.specs.Prelude.{◌≡◌, ℕ, ◌+◌, Some}
use Rattle.mh_model.specs.{Pages.Table, Classes.parts, Table.{Block, Made, made_group}}
use Rattle.mh_table_laws.specs.Tables.{KeepsItsPages}

-- Making an object keeps the number of pages, the slots of the class of each page in use, and blocks within the limits; the object is within these
abbrev pub MakingKeepsThePages : Type 0
MakingKeepsThePages = (table : Table Block) (birth stamp references numbers : ℕ) (made : Made) → made_group table birth stamp (parts references numbers) ≡ Some made → KeepsItsPages (references + numbers) table made.table
