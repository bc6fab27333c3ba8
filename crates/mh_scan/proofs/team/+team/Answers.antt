use Rattle.std.proofs.Common.{arith}
use Rattle.std.specs.Fork.{AcceptsAt, ChangesAt}
use Rattle.mh_scan.proofs.TeamLemmas.{rest_of, both_of}
use Rattle.mh_scan.proofs.team.+team.Goals as goal

pub on_each_from-first_and_rest-requires-clause-rest : goal.on_each_from-first_and_rest-requires-clause-rest
on_each_from-first_and_rest-requires-clause-rest g t c κs within = let cut = c.split_at_mut-first in
    rest_of (AcceptsAt g.F.Fn c.args.f.now) c.args.base cut.result.0.now cut.result.1.now c.args.items.now cut.ensures.value cut.ensures.front_len c.requires

pub on_each_from-returns : goal.on_each_from-returns
on_each_from-returns g t c = let cut = c.split_at_mut-first in let h = c.first_and_rest.ensures in
    both_of (ChangesAt g.F.Fn c.args.f.now) c.args.base cut.result.0.now c.first_and_rest.new.first cut.result.1.now c.first_and_rest.new.rest c.args.items.now cut.ensures.value cut.ensures.front_len (omega (arith, c.first_and_rest.auto.first, cut.ensures.front_len)) h.first h.rest
