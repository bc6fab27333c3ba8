use Rattle.std.proofs.Common.{ℕ, ◌<◌}
use Rattle.mh_model.specs.{Pages.Leads, Table.reference_at}
use Rattle.call_tests.proofs.scan_tests.is_scannable.Given as goal

abbrev pub invariant-loop-index : goal.invariant-loop-index
invariant-loop-index l = (k : ℕ) → k < l.index → Leads l.blocks (reference_at l.blocks l.fn.place k)
