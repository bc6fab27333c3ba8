-- What a sweep frees of a page, slot by slot and by words.
use Rattle.std.proofs.Common.{◌≡◌, ℕ, zero, suc, ◌+◌, ◌-◌, ◌*◌, ◌%◌, ◌^◌, ◌<◌, ◌≤◌, ◌==◌, min, max, get_or, Bool, true, false, not, ◌||◌, ◌&&◌, Option, Some, None, option_map, unwrap_or, is_some, ◌⊎◌, inl, inr, refl, ap, ◌∙◌, arith}
use Rattle.std.proofs.{lemmas.Nat.Bits.{bit_at-lt, bit_at_and, bit_at_or, bit_at_not}, lemmas.Bool.cases_eq}
use Rattle.std.specs.Int.{bit_at, bit_not, w64, RustNames.bit_or}
use lib.Bits.{bit_and}
use mir.Val.{bits}
use Rattle.mh_model.specs.{Pages.{Table, block_at}, Table.{Block, is_forwarder}, Collector.is_marked}
use Rattle.mh_bits.specs.Bits.{has_bit}
use Rattle.mh_bits.proofs.BitLemmas.{has_bit-zero, has_bit-set_same, has_bit-set_other}
use Rattle.mh_blocks.specs.{Auxiliary.{Index, IsIndexOf}, Marks.is_dead}

-- the slots below one are found
pub record AreFoundBelow (table : Table Block) (cycle page dead slot : ℕ) : Type 0 where
  pub below : (other : ℕ) → other < slot → has_bit dead other ≡ is_dead cycle (block_at table (64 * page + other))
  pub above : (other : ℕ) → slot ≤ other → has_bit dead other ≡ false

pub none_found : (table : Table Block) (cycle page : ℕ) → AreFoundBelow table cycle page 0 0
none_found table cycle page = record { below = λ other l. absurd (omega arith); above = λ other l. has_bit-zero other }

pub dead_found : (table : Table Block) (cycle page dead slot : ℕ) → slot < 64 → true ≡ is_dead cycle (block_at table (64 * page + slot)) → AreFoundBelow table cycle page dead slot → AreFoundBelow table cycle page (bit_or dead (1 * 2 ^ slot % 2 ^ bits w64)) (slot + 1)
dead_found table cycle page dead slot small is found = record {
  below = λ other l. go other l (cases_eq other slot);
  above = λ other l. has_bit-set_other dead slot other small (λ e. absurd (omega arith)) ∙ found.above other (omega arith);
}
  where
    go : (other : ℕ) → other < slot + 1 → (other ≡ slot) ⊎ (other ≡ slot → ⊥) → has_bit (bit_or dead (1 * 2 ^ slot % 2 ^ bits w64)) other ≡ is_dead cycle (block_at table (64 * page + other))
    go other l (inl here) = rw here (has_bit-set_same dead slot small ∙ is)
    go other l (inr apart) = has_bit-set_other dead slot other small apart ∙ found.below other (omega (arith, apart))

pub living_found : (table : Table Block) (cycle page dead slot : ℕ) → false ≡ is_dead cycle (block_at table (64 * page + slot)) → AreFoundBelow table cycle page dead slot → AreFoundBelow table cycle page dead (slot + 1)
living_found table cycle page dead slot is found = record {
  below = λ other l. go other l (cases_eq other slot);
  above = λ other l. found.above other (omega arith);
}
  where
    go : (other : ℕ) → other < slot + 1 → (other ≡ slot) ⊎ (other ≡ slot → ⊥) → has_bit dead other ≡ is_dead cycle (block_at table (64 * page + other))
    go other l (inl here) = rw here (found.above slot (omega arith) ∙ is)
    go other l (inr apart) = found.below other (omega (arith, apart))

-- By words -----------------------------------------------------------------------------------------

dead_bit : (taken marked forwarders : ℕ) → taken < 2 → marked < 2 → forwarders < 2 → (min taken (max (1 - marked) forwarders) == 1) ≡ ((taken == 1) && (not (marked == 1) || (forwarders == 1)))
dead_bit zero zero zero a b c = refl
dead_bit zero zero (suc zero) a b c = refl
dead_bit zero zero (suc (suc forwarders)) a b c = absurd (omega arith)
dead_bit zero (suc zero) zero a b c = refl
dead_bit zero (suc zero) (suc zero) a b c = refl
dead_bit zero (suc zero) (suc (suc forwarders)) a b c = absurd (omega arith)
dead_bit zero (suc (suc marked)) forwarders a b c = absurd (omega arith)
dead_bit (suc zero) zero zero a b c = refl
dead_bit (suc zero) zero (suc zero) a b c = refl
dead_bit (suc zero) zero (suc (suc forwarders)) a b c = absurd (omega arith)
dead_bit (suc zero) (suc zero) zero a b c = refl
dead_bit (suc zero) (suc zero) (suc zero) a b c = refl
dead_bit (suc zero) (suc zero) (suc (suc forwarders)) a b c = absurd (omega arith)
dead_bit (suc zero) (suc (suc marked)) forwarders a b c = absurd (omega arith)
dead_bit (suc (suc taken)) marked forwarders a b c = absurd (omega arith)

dead_content : (cycle : ℕ) (content : Option Block) → (is_some content && (not (unwrap_or (option_map (is_marked cycle) content) false) || unwrap_or (option_map is_forwarder content) false)) ≡ is_dead cycle content
dead_content cycle None = refl
dead_content cycle (Some block) = or_turned (not (is_marked cycle block)) (is_forwarder block)
  where
    or_turned : (a b : Bool) → (a || b) ≡ (b || a)
    or_turned false false = refl
    or_turned false true = refl
    or_turned true false = refl
    or_turned true true = refl

pub dead_word : (table : Table Block) (index : Index) (page slot taken marked forwarders : ℕ) → IsIndexOf table index → marked < 2 ^ 64 → slot < 64
    → has_bit taken slot ≡ is_some (block_at table (64 * page + slot)) → has_bit marked slot ≡ get_or index.marked (64 * page + slot) false → has_bit forwarders slot ≡ get_or index.forwarders (64 * page + slot) false
    → has_bit (bit_and taken (bit_or (bit_not w64 marked) forwarders)) slot ≡ is_dead index.cycle (block_at table (64 * page + slot))
dead_word table index page slot taken marked forwarders is few small there mark forward =
    ap (λ b. b == 1) (bit_at_and taken (bit_or (bit_not w64 marked) forwarders) slot ∙ ap (λ b. min (bit_at taken slot) b) (bit_at_or (bit_not w64 marked) forwarders slot ∙ ap (λ b. max b (bit_at forwarders slot)) (bit_at_not w64 marked slot few small)))
    ∙ (dead_bit (bit_at taken slot) (bit_at marked slot) (bit_at forwarders slot) (bit_at-lt taken slot) (bit_at-lt marked slot) (bit_at-lt forwarders slot)
    ∙ (rw (there, mark ∙ is.marks.each (64 * page + slot), forward ∙ is.forwards.each (64 * page + slot)) (dead_content index.cycle (block_at table (64 * page + slot)))))
