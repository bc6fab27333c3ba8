use Rattle.std.proofs.Common.{◌≡◌, None, take}
use Rattle.std.specs.Prelude.{find}
use Rattle.clap.specs.Words.{found_of, rows_of}
use Rattle.mh_command_line.specs.{Auxiliary.rule_of_row, Values.breaks}
use Rattle.mh_command_line.proofs.options.broken_rule.Given as goal

abbrev pub invariant-loop-row : goal.invariant-loop-row
invariant-loop-row l = find (λ row. breaks (rows_of (found_of l.matches)) (rule_of_row row)) (take l.row-index l.rules) ≡ None
