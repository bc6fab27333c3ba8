use Rattle.std.proofs.Common.{◌≡◌, ◌++◌, codes, drop, flat_map}
use Rattle.std.specs.String.{string_bytes}
use Rattle.mh_tell_show.specs.{Before.slot_rows, Auxiliary.slots_at, Rows.row_text}
use Rattle.mh_tell_show.proofs.before.push_slots.Given as goal

abbrev pub invariant-loop-slot : goal.invariant-loop-slot
invariant-loop-slot l =
    string_bytes l.text ++ flat_map (λ row. row_text row ++ codes ",") (slot_rows l.page l.slot (drop l.slot (slots_at l.blocks l.page)))
    ≡ string_bytes l.fn.text ++ flat_map (λ row. row_text row ++ codes ",") (slot_rows l.page 0 (slots_at l.blocks l.page))
