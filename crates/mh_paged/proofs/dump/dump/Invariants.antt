use Rattle.std.proofs.Common.{◌≡◌, ◌++◌, drop}
use Rattle.mh_model.specs.Machine.{dump_pages}
use Rattle.mh_paged.proofs.dump.dump.Given as goal

abbrev pub invariant-loop-page : goal.invariant-loop-page
invariant-loop-page l = l.items.items ++ dump_pages l.page (drop l.page l.blocks) ≡ dump_pages 0 l.blocks
