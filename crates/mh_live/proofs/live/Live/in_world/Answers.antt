use Rattle.std.proofs.Common.{◌≡◌, refl, rules}
use Rattle.mh_live.proofs.live.Live.in_world.Goals as goal

pub returns : goal.returns
returns c =
    let same : c.in-Some.config.rules ≡ c.args.rules = search rules in
    (c.in-Some.config, same, rw (c.open-world.ensures, c.new-names.ensures) refl)
