-- The limits of a heap that has some numbers of another.
use Rattle.std.proofs.{Common.{◌≡◌, ℕ, ◌≤◌, ◌/◌, max, nat_le, true, arith}, lemmas.Bool.{and_parts, leb-true}}
use Rattle.std.proofs.lemmas.Bool.Decides.{nat_tests}
use Rattle.mh_model.specs.{declared.config.Config.Config, Limits.{is_configuration, least_quantum, most_entries}}

pub record IsWithin (config : Config) : Type 0 where
  pub least : least_quantum ≤ config.quantum
  pub most : config.quantum ≤ 1000000
  pub every : config.every ≤ 1000000

pub within : (config : Config) → IsWithin config
within config =
    let a = (and_parts (nat_le 1 config.pages) _ config.in_limits).1 in
    let b = (and_parts (nat_le config.pages 4096) _ a).1 in
    let (c, d) = and_parts (nat_le least_quantum config.quantum) _ b in
    let (e, f) = and_parts (nat_le config.quantum 1000000) _ d in
    record { least = leb-true least_quantum config.quantum c; most = leb-true config.quantum 1000000 e; every = leb-true config.every 1000000 (and_parts (nat_le config.trigger config.pages) _ f).1 }

limits : (pages quantum trigger every : ℕ) → 1 ≤ pages → pages ≤ 4096 → least_quantum ≤ quantum → quantum ≤ 1000000 → trigger ≤ pages → every ≤ 1000000 → is_configuration pages quantum trigger every ≡ true
limits pages quantum trigger every a b c d e f = grind (arith, nat_tests)

apart : (every count : ℕ) → every ≤ 1000000 → count ≤ 1000000 → max every (count / 1000) ≤ 1000000
apart every count a b = omega arith

-- the widest heap
pub widest-limits : (config : Config) (count : ℕ) → count ≤ most_entries → is_configuration 4096 1000000 4096 (max config.every (count / 1000)) ≡ true
unfolding most_entries
widest-limits config count few = limits 4096 1000000 4096 (max config.every (count / 1000)) (omega arith) (omega arith) (omega arith) (omega arith) (omega arith) (apart config.every count (within config).every few)
