use Rattle.std.proofs.Common.{◌≡◌, true, ap, sym, subst, ◌∙◌}
use Rattle.mh_model.proofs.ConfigLemmas.{configured-within}
use Rattle.mh_model.specs.{Configs.configured_under, Limits.is_configuration}
use Rattle.mh_size_runs.proofs.ConfigLemmas.{widest-limits}
use Rattle.mh_size_runs.proofs.live.widest.Goals as goal

pub invariant_of-result : goal.invariant_of-result
invariant_of-result c = record { in_limits = subst (λ every. is_configuration 4096 1000000 4096 every ≡ true) (sym c.between.ensures) (widest-limits c.args.config.now c.args.count c.requires) }

pub returns : goal.returns
returns c =
    let config = c.args.config.now in
    ap (λ every. configured_under config.rules 4096 1000000 4096 every) (sym c.between.ensures)
    ∙ configured-within config.rules 4096 1000000 4096 c.between.result _
