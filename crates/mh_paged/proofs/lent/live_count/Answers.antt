use Rattle.std.proofs.{Common.{refl, not, arith}, lemmas.List.Filters.length-filter_both}
use Rattle.mh_model.specs.{Table.{Block, is_forwarder}, Machine.blocks_of}
use Rattle.mh_paged.proofs.lent.live_count.Goals as goal

pub overflow_sub-result : goal.overflow_sub-result
overflow_sub-result c = omega (arith, length-filter_both is_forwarder (λ (b : Block). not (is_forwarder b)) (λ b. refl) (blocks_of c.cycle.inside.blocks))

pub returns : goal.returns
returns c = rw (← c.cycle.view_is) (omega (arith, length-filter_both is_forwarder (λ (b : Block). not (is_forwarder b)) (λ b. refl) (blocks_of c.cycle.inside.blocks)))
