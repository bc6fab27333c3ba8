use Rattle.std.proofs.Common.{◌≡◌, ◌++◌, ◌∷◌, codes, drop, flat_map}
use Rattle.std.specs.String.{string_bytes}
use Rattle.mh_tell_show.specs.Rows.{deed_row, row_text, shown_deeds}
use Rattle.mh_tell_show.proofs.rows.push_deeds.Given as goal

abbrev pub invariant-loop-index : goal.invariant-loop-index
invariant-loop-index l =
    string_bytes l.text ++ flat_map (λ deed. row_text (deed_row deed) ++ codes ",") (shown_deeds l.is_whole (drop l.index l.deeds))
    ≡ string_bytes l.fn.text ++ 91 ∷ flat_map (λ deed. row_text (deed_row deed) ++ codes ",") (shown_deeds l.is_whole l.deeds)
