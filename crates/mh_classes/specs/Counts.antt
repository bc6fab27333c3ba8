-- How many references and numbers a block has itself, by the counts in its header.
use Rattle.std.specs.Prelude.{ℕ, ◌+◌, nat_le, if◌then◌else◌}
use Rattle.mh_model.specs.{declared.shape.Shape.Shape, Classes.child_count}

-- how many words of a block with this header are references: its own up to 60 fields, and else those to its children
abbrev pub reference_count : Shape → ℕ
reference_count header = if nat_le (header.references + header.numbers) 60 then header.references else child_count (header.references + header.numbers)

-- how many are numbers: its own up to 60 fields, and else none
abbrev pub number_count : Shape → ℕ
number_count header = if nat_le (header.references + header.numbers) 60 then header.numbers else 0
