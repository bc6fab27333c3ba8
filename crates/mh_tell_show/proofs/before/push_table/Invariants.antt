use Rattle.std.proofs.Common.{◌≡◌, ◌++◌, ◌∷◌, codes, drop, flat_map}
use Rattle.std.specs.String.{string_bytes}
use Rattle.mh_tell_show.specs.{Before.table_rows, Rows.row_text}
use Rattle.mh_tell_show.proofs.before.push_table.Given as goal

abbrev pub invariant-loop-page : goal.invariant-loop-page
invariant-loop-page l =
    string_bytes l.text ++ flat_map (λ row. row_text row ++ codes ",") (table_rows l.page (drop l.page l.blocks))
    ≡ string_bytes l.fn.text ++ 91 ∷ flat_map (λ row. row_text row ++ codes ",") (table_rows 0 l.blocks)
