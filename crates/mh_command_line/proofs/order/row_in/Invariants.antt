use Rattle.std.proofs.Common.{◌≡◌, None, take}
use Rattle.std.specs.{Prelude.find, Str.bytes_eq}
use Rattle.mh_command_line.proofs.order.row_in.Given as goal

abbrev pub invariant-loop-row : goal.invariant-loop-row
invariant-loop-row l = find (λ row. bytes_eq row.0.now l.name) (take l.row-index l.rows) ≡ None
