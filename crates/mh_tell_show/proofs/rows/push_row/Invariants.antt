use Rattle.std.proofs.Common.{◌≡◌, ◌++◌, ◌∷◌, decimal, flat_map, take}
use Rattle.std.specs.String.{string_bytes}
use Rattle.mh_tell_show.specs.Rows.{number_text}
use Rattle.mh_tell_show.proofs.rows.push_row.Given as goal

abbrev pub invariant-loop-number : goal.invariant-loop-number
invariant-loop-number l = string_bytes l.text ≡ string_bytes l.fn.text ++ 91 ∷ (decimal l.kind ++ flat_map (λ n. 44 ∷ number_text n) (take l.number-index l.numbers))
