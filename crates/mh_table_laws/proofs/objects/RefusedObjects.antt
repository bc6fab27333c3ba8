-- An object that isn't made: the first of its parts that finds no place. It isn't made exactly when there is one.
use Rattle.std.proofs.Common.{◌≡◌, ℕ, Some, None, arith}
use Rattle.mh_model.specs.{Classes.{Part, class_of, part_words}, Pages.{Table, least_place, with_taken}}
use Rattle.mh_model.specs.Table.{Block, Made, made_part}

-- One part ---------------------------------------------------------------------------------------

-- a block put at a place of a class
abbrev placed : Table Block → ℕ → Block → ℕ → Made
placed table size block place = record { place = place; table = with_taken table size place block }

pub none-part : (table : Table Block) (birth stamp index : ℕ) (part : Part) (size : ℕ) → class_of (part_words part) ≡ Some size → least_place table size ≡ None → made_part table birth stamp index part ≡ None
none-part table birth stamp index part size class none = grind arith
