use Rattle.std.proofs.Common.{◌≡◌, ◌++◌, ◌∷◌, codes, drop, flat_map}
use Rattle.std.specs.String.{string_bytes}
use Rattle.mh_tell_show.specs.Rows.{root_rows, row_text}
use Rattle.mh_tell_show.proofs.event.push_roots.Given as goal

abbrev pub invariant-loop-slot : goal.invariant-loop-slot
invariant-loop-slot l =
    string_bytes l.text ++ flat_map (λ row. row_text row ++ codes ",") (root_rows l.slot (drop l.slot l.before) (drop l.slot l.after))
    ≡ string_bytes l.fn.text ++ 91 ∷ flat_map (λ row. row_text row ++ codes ",") (root_rows 0 l.before l.after)
