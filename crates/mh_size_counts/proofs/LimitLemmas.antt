-- The limits of a configuration as numbers, and a configuration of numbers within them.
use Rattle.std.proofs.{Common.{◌≡◌, ℕ, ◌≤◌, nat_le, true, arith}, lemmas.Bool.{and_parts, leb-true}}
use Rattle.std.proofs.lemmas.Bool.Decides.{nat_tests}
use Rattle.mh_model.specs.{declared.config.Config.Config, Limits.{is_configuration, least_quantum}}

pub record IsWithin (config : Config) : Type 0 where
  pub some : 1 ≤ config.pages
  pub few : config.pages ≤ 4096
  pub least : least_quantum ≤ config.quantum
  pub most : config.quantum ≤ 1000000
  pub every : config.every ≤ 1000000

pub within : (config : Config) → IsWithin config
within config =
    let (some, a) = and_parts (nat_le 1 config.pages) _ config.in_limits in
    let (few, b) = and_parts (nat_le config.pages 4096) _ a in
    let (c, d) = and_parts (nat_le least_quantum config.quantum) _ b in
    let (e, f) = and_parts (nat_le config.quantum 1000000) _ d in
    record {
      some = leb-true 1 config.pages some;
      few = leb-true config.pages 4096 few;
      least = leb-true least_quantum config.quantum c;
      most = leb-true config.quantum 1000000 e;
      every = leb-true config.every 1000000 (and_parts (nat_le config.trigger config.pages) _ f).1;
    }

pub limits : (pages quantum trigger every : ℕ) → 1 ≤ pages → pages ≤ 4096 → least_quantum ≤ quantum → quantum ≤ 1000000 → trigger ≤ pages → every ≤ 1000000 → is_configuration pages quantum trigger every ≡ true
limits pages quantum trigger every a b c d e f = grind (arith, nat_tests)
