-- Each change of a table changes how many blocks and forwarders it has by what it puts and takes.
use Rattle.std.proofs.Common.{◌≡◌, ℕ, suc, ◌+◌, ◌-◌, ◌≤◌, Bool, true, false, if◌then◌else◌, List, [], ◌∷◌, length, set, replicate, Option, Some, None, option_map, option_and_then, is_some, IsSome, refl, ap, ◌∙◌, arith}
use Rattle.std.proofs.lemmas.Bool.{false≢true}
use mir.Val.{bool_byte}
use Rattle.mh_model.specs.Pages.{Table, page_number, block_at, count_at, with_block, with_taken, with_released, with_flag, HaveTheirSlots, IsFreeFor}
use Rattle.mh_model.specs.{Table.{Block, is_forwarder, forward_at, with_block_change}, Collector.{Move, moved_table}}
use Rattle.mh_model.specs.Machine.{blocks_of}
use Rattle.mh_blocks.specs.Auxiliary.{HasCounts}
use Rattle.mh_table_laws.proofs.placing.Places.{block_at-with_taken_there}
use Rattle.mh_blocks.proofs.CountLemmas.{passing, one, in_table, in_table-with_block, in_table-with_taken, in_table-with_flag, in_table-with_released, in_table-freed, in_table-empty, few-in_table}

-- Every block counted ------------------------------------------------------------------------------

abbrev every : Block → Bool
every block = true

all : (blocks : List Block) → passing every blocks ≡ length blocks
all [] = refl
all (block ∷ blocks) = ap suc (all blocks)

-- as many as before
counts-same : (table new : Table Block) (blocks forwarders : ℕ) → HasCounts table blocks forwarders → ((test : Block → Bool) → in_table test new ≡ in_table test table) → HasCounts new blocks forwarders
counts-same table new blocks forwarders counts same = record {
  blocks_are = omega (arith, counts.blocks_are, same every, all (blocks_of table), all (blocks_of new));
  forwarders_are = omega (arith, counts.forwarders_are, same is_forwarder);
}

-- Changes ------------------------------------------------------------------------------------------

pub empty_counts : (count : ℕ) → HasCounts (replicate count None) 0 0
empty_counts count = record {
  blocks_are = omega (arith, in_table-empty every count, all (blocks_of (replicate count None)));
  forwarders_are = omega (arith, in_table-empty is_forwarder count);
}

pub flagged_counts : (table : Table Block) (number : ℕ) (is_flagged : Bool) (blocks forwarders : ℕ) → HasCounts table blocks forwarders → HasCounts (with_flag table number is_flagged) blocks forwarders
flagged_counts table number is_flagged blocks forwarders counts = counts-same table _ blocks forwarders counts (λ test. in_table-with_flag test table number is_flagged)

pub freed_counts : (table : Table Block) (number blocks forwarders : ℕ) → count_at table number ≡ 0 → HasCounts table blocks forwarders → HasCounts (set table number None) blocks forwarders
freed_counts table number blocks forwarders empty counts = counts-same table _ blocks forwarders counts (λ test. in_table-freed test table number empty)

pub taken_counts : (table : Table Block) (size place : ℕ) (block : Block) (blocks forwarders : ℕ) → IsFreeFor table size place → block.forward ≡ None → HasCounts table blocks forwarders → HasCounts (with_taken table size place block) (blocks + 1) forwarders
taken_counts table size place block blocks forwarders free original counts =
    let none : one is_forwarder (Some block) ≡ 0 = ap (λ forward. if is_some forward then 1 else 0) original in
    let here = in_table-with_taken every table size place block free in
    grind (arith, in_table-with_taken, all)

-- 1 if the block at a place is a forwarder
abbrev pub forwards : Table Block → ℕ → ℕ
forwards table place = bool_byte (is_some (forward_at table place))

byte-is : (answer : Bool) → bool_byte answer ≡ (if answer then 1 else 0)
byte-is true = refl
byte-is false = refl

-- one block fewer, and one forwarder fewer where it was one
pub record IsReleased (table new : Table Block) (place blocks forwarders : ℕ) : Type 0 where
  pub some : 1 ≤ blocks
  pub enough : forwards table place ≤ forwarders
  pub counts : HasCounts new (blocks - 1) (forwarders - forwards table place)

pub released_counts : (table : Table Block) (place : ℕ) (frees_page : Bool) (blocks forwarders : ℕ) → IsSome (block_at table place) → (frees_page ≡ true → count_at table (page_number place) ≡ 1) → HasCounts table blocks forwarders → IsReleased table (with_released table place frees_page) place blocks forwarders
released_counts table place frees_page blocks forwarders there alone counts = go (block_at table place) refl there
  where
    new : Table Block
    new = with_released table place frees_page

    go : (content : Option Block) → block_at table place ≡ content → IsSome content → IsReleased table new place blocks forwarders
    go None at none = absurd (false≢true none)
    go (Some block) at some =
        let forward : forwards table place ≡ one is_forwarder (Some block) = ap (λ content. bool_byte (is_some (option_and_then (λ (b : Block). b.forward) content))) at ∙ byte-is (is_forwarder block) in
        let here = in_table-with_released every table place frees_page block at alone in
        let old = in_table-with_released is_forwarder table place frees_page block at alone in
        record {
          some = omega (arith, counts.blocks_are, here, all (blocks_of table));
          enough = omega (arith, counts.forwarders_are, old, forward);
          counts = record {
            blocks_are = omega (arith, counts.blocks_are, here, all (blocks_of table), all (blocks_of new));
            forwarders_are = omega (arith, counts.forwarders_are, old, forward);
          };
        }

-- a block changed, which leads where it led
pub changed_counts : (table : Table Block) (place : ℕ) (change : Block → Block) (blocks forwarders : ℕ) → IsSome (block_at table place) → ((block : Block) → (change block).forward ≡ block.forward) → HasCounts table blocks forwarders → HasCounts (with_block_change table place change) blocks forwarders
changed_counts table place change blocks forwarders there same counts = go (block_at table place) refl there
  where
    go : (content : Option Block) → block_at table place ≡ content → IsSome content → HasCounts (with_block table place (option_map change content)) blocks forwarders
    go None at none = absurd (false≢true none)
    go (Some block) at some =
        let new = with_block table place (Some (change block)) in
        let forward : one is_forwarder (Some (change block)) ≡ one is_forwarder (Some block) = ap (λ f. if is_some f then 1 else 0) (same block) in
        let here = in_table-with_block every table place block (Some (change block)) at in
        let old = in_table-with_block is_forwarder table place block (Some (change block)) at in
        grind (arith, counts, all)

-- a block moved, which was no forwarder
pub moved_counts : (table : Table Block) (place : ℕ) (move : Move) (blocks forwarders : ℕ) → block_at table place ≡ Some move.block → move.block.forward ≡ None → IsFreeFor table move.class_size move.target → HasCounts table blocks forwarders → HasCounts (moved_table table place move) (blocks + 1) (forwarders + 1)
moved_counts table place move blocks forwarders at original free counts =
    let put = with_taken table move.class_size move.target move.block in
    let still : block_at put place ≡ Some move.block = block_at-with_taken_there table move.class_size move.target place move.block free (ap is_some at) ∙ at in
    let none : one is_forwarder (Some move.block) ≡ 0 = ap (λ forward. if is_some forward then 1 else 0) original in
    let copy = taken_counts table move.class_size move.target move.block blocks forwarders free original counts in
    let marked : Block = record (move.block) { forward = Some move.target } in
    let new = with_block put place (Some marked) in
    let here = in_table-with_block every put place move.block (Some marked) still in
    let old = in_table-with_block is_forwarder put place move.block (Some marked) still in
    grind (arith, all)

-- How many there can be ----------------------------------------------------------------------------

pub few_counts : (table : Table Block) (blocks forwarders : ℕ) → HaveTheirSlots table → length table ≤ 4096 → HasCounts table blocks forwarders → (blocks ≤ 262144) × (forwarders ≤ 262144)
few_counts table blocks forwarders slots few counts =
    (omega (arith, counts.blocks_are, all (blocks_of table), few-in_table every table slots), omega (arith, counts.forwarders_are, few-in_table is_forwarder table slots))
