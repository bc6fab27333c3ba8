use Rattle.mh_command_line.specs.Printable.{IsPrintable}
use Rattle.mh_command_line.proofs.quoted.printable.Given as goal

abbrev pub invariant-loop-byte : goal.invariant-loop-byte
invariant-loop-byte l = IsPrintable l.bytes.items
