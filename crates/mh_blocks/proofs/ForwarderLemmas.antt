-- A table that counts no forwarder has none at any place.
use Rattle.std.proofs.Common.{◌≡◌, ℕ, ◌+◌, Bool, true, false, if◌then◌else◌, length, filter, Option, Some, None, is_some, IsSome, refl, arith}
use Rattle.std.proofs.lemmas.Bool.{false≢true}
use Rattle.mh_model.specs.{Pages.{Table, block_at, with_block}, Table.{Block, forward_at, is_forwarder}}
use Rattle.mh_model.specs.Machine.{blocks_of}
use Rattle.mh_blocks.proofs.CountLemmas.{one, in_table, in_table-with_block}

-- a block that fails a test is no forwarder, if none passes
no_pass : (answer : Bool) → ◌≡◌ {A = ℕ} (if answer then 1 else 0) 0 → answer ≡ false
no_pass true is = absurd (omega (arith, is))
no_pass false is = refl

pub no_forwarder : (table : Table Block) (place : ℕ) → length (filter is_forwarder (blocks_of table)) ≡ 0 → IsSome (block_at table place) → is_some (forward_at table place) ≡ false
no_forwarder table place none there = go (block_at table place) refl there
  where
    go : (content : Option Block) → block_at table place ≡ content → IsSome content → is_some (forward_at table place) ≡ false
    go None is some = absurd (false≢true some)
    go (Some block) is some =
        let exchanged : in_table is_forwarder (with_block table place None) + one is_forwarder (Some block) ≡ in_table is_forwarder table + one is_forwarder None
        = in_table-with_block is_forwarder table place block None is in
        grind (arith, one, no_pass)
