-- Slots swept by words.
use Rattle.std.proofs.Common.{◌≡◌, ◌≢◌, ℕ, zero, suc, ◌+◌, ◌-◌, ◌*◌, ◌/◌, ◌%◌, ◌^◌, ◌<◌, ◌≤◌, ◌==◌, ◌&&◌, ◌⊎◌, nat_le, nat_lt, Bool, true, false, inl, inr, Option, Some, None, option_and_then, IsSome, min, refl, sym, ap, ◌∙◌, arith}
use Rattle.std.proofs.lemmas.Bool.{cases_eq, cases_lt, false≢true, true≢false, le-leb, lt-leb, lt-ltb, le-ltb}
use Rattle.std.proofs.lemmas.Nat.{and_le_l}
use Rattle.std.proofs.lemmas.Nat.Bits.{bit_at_and, bit_at-lt, ones_shl, ones_shr, bit_at_ones, bit_at_ones_above, bit_at_mask_inside, bit_at_mask_below}
use Rattle.std.specs.Int.{bit_at, bit_not, w64, trailing_zeros}
use lib.Bits.{bit_and}
use mir.Val.{bits}
use Rattle.mh_model.specs.{Pages.{Table, page_number, slot_number, block_at, with_block}, Table.Block}
use Rattle.mh_model.specs.Collector.{survivor}
use Rattle.mh_table_laws.proofs.placing.Places.{block_at-with_block_other, with_block-self}
use Rattle.mh_bits.specs.Bits.{has_bit}
use Rattle.mh_bits.proofs.BitLemmas.{IsLowest, lowest_bit, has_bit-zero, has_bit-clear_same, has_bit-clear_other}
use Rattle.mh_blocks.specs.Marks.{is_dead}
use Rattle.mh_sweep.specs.Auxiliary.{slot_swept, slots_swept, is_slot_between}

-- Blocks that are freed and blocks that stay ----------------------------------------------------------

living : (cycle : ℕ) (content : Option Block) → is_dead cycle content ≡ false → option_and_then (survivor cycle) content ≡ content
living cycle None is = refl
living cycle (Some block) is = rw is refl

freed : (cycle : ℕ) (content : Option Block) → is_dead cycle content ≡ true → option_and_then (survivor cycle) content ≡ None
freed cycle None is = refl
freed cycle (Some block) is = rw is refl

dead-there : (cycle : ℕ) (content : Option Block) → is_dead cycle content ≡ true → IsSome content
dead-there cycle None is = absurd (false≢true is)
dead-there cycle (Some block) is = refl

stays : (cycle : ℕ) (table : Table Block) (place : ℕ) → is_dead cycle (block_at table place) ≡ false → slot_swept cycle table place ≡ table
stays cycle table place is = ap (with_block table place) (living cycle (block_at table place) is) ∙ with_block-self table place

goes : (cycle : ℕ) (table : Table Block) (place : ℕ) → is_dead cycle (block_at table place) ≡ true → slot_swept cycle table place ≡ with_block table place None
goes cycle table place is = ap (with_block table place) (freed cycle (block_at table place) is)

-- Stretches of slots -----------------------------------------------------------------------------------

-- the slots after a stretch are as they were
behind : (cycle : ℕ) (table : Table Block) (place count other : ℕ) → place + count ≤ other → block_at (slots_swept cycle table place count) other ≡ block_at table other
behind cycle table place zero other after = refl
behind cycle table place (suc count) other after =
    block_at-with_block_other (slots_swept cycle table place count) (place + count) other _ (λ same. absurd (omega arith)) ∙ behind cycle table place count other (omega arith)

-- more slots of which none is dead leave the table as it is
pub quiet : (cycle : ℕ) (table : Table Block) (place done more : ℕ) → ((k : ℕ) → done ≤ k → k < done + more → is_dead cycle (block_at table (place + k)) ≡ false) → slots_swept cycle table place (done + more) ≡ slots_swept cycle table place done
quiet cycle table place done zero none = let e : done + 0 ≡ done = omega arith in rw e refl
quiet cycle table place done (suc more) none =
    let e : done + suc more ≡ suc (done + more) = omega arith in
    let here : is_dead cycle (block_at (slots_swept cycle table place (done + more)) (place + (done + more))) ≡ false = ap (is_dead cycle) (behind cycle table place (done + more) (place + (done + more)) (omega arith)) ∙ none (done + more) (omega arith) (omega arith) in
    rw e (stays cycle (slots_swept cycle table place (done + more)) (place + (done + more)) here ∙ quiet cycle table place done more (λ k from below. none k from (omega arith)))

-- Words ------------------------------------------------------------------------------------------------

-- the bits of two words that both have
pub has_bit-and : (a b i : ℕ) → has_bit (bit_and a b) i ≡ (has_bit a i && has_bit b i)
has_bit-and a b i = ap (λ n. n == 1) (bit_at_and a b i) ∙ go (bit_at a i) (bit_at b i) (bit_at-lt a i) (bit_at-lt b i)
  where
    go : (x y : ℕ) → x < 2 → y < 2 → (min x y == 1) ≡ ((x == 1) && (y == 1))
    go zero zero l m = refl
    go zero (suc zero) l m = refl
    go (suc zero) zero l m = refl
    go (suc zero) (suc zero) l m = refl
    go (suc (suc x)) y l m = absurd (omega arith)
    go zero (suc (suc y)) l m = absurd (omega arith)
    go (suc zero) (suc (suc y)) l m = absurd (omega arith)

pub both-between : (a b c d : Bool) → a ≡ c → b ≡ d → (a && b) ≡ (d && c)
both-between a b c d first second = rw (first, second) (go c d)
  where
    go : (x y : Bool) → (x && y) ≡ (y && x)
    go true true = refl
    go true false = refl
    go false true = refl
    go false false = refl

-- a word loses one of its bits
less : (left k : ℕ) → k < 64 → has_bit left k ≡ true → bit_and left (bit_not w64 (1 * 2 ^ k % 2 ^ bits w64)) < left
less left k small is = go (cases_eq (bit_and left (bit_not w64 (1 * 2 ^ k % 2 ^ bits w64))) left)
  where
    go : (bit_and left (bit_not w64 (1 * 2 ^ k % 2 ^ bits w64)) ≡ left) ⊎ (bit_and left (bit_not w64 (1 * 2 ^ k % 2 ^ bits w64)) ≡ left → ⊥) → bit_and left (bit_not w64 (1 * 2 ^ k % 2 ^ bits w64)) < left
    go (inl same) = absurd (true≢false (sym is ∙ ap (λ n. has_bit n k) (sym same) ∙ has_bit-clear_same left k small))
    go (inr apart) = omega (arith, and_le_l left (bit_not w64 (1 * 2 ^ k % 2 ^ bits w64)), apart)

pub smaller : (left : ℕ) → left ≢ 0 → left < 2 ^ 64 → bit_and left (bit_not w64 (1 * 2 ^ trailing_zeros w64 left % 2 ^ bits w64)) < left
smaller left some small = let low = lowest_bit left some small in less left (trailing_zeros w64 left) low.within low.is_set

-- The loop ---------------------------------------------------------------------------------------------

-- the slots of a stretch are swept up to one, and those whose blocks are still to be freed are left
pub record IsFreeingOn (cycle : ℕ) (table : Table Block) (place count : ℕ) (new : Table Block) (left : ℕ) : Type 0 where
  pub done : ℕ
  pub few : done ≤ count
  pub is : new ≡ slots_swept cycle table place done
  pub within : (slot : ℕ) → slot < 64 → has_bit left slot ≡ true → (slot_number place + done ≤ slot) × (slot < slot_number place + count)
  pub dead : (k : ℕ) → done ≤ k → k < count → has_bit left (slot_number place + k) ≡ is_dead cycle (block_at table (place + k))

pub freeing-starts : (cycle : ℕ) (table : Table Block) (place count left : ℕ) → slot_number place + count ≤ 64
    → ((slot : ℕ) → slot < 64 → has_bit left slot ≡ (is_slot_between (slot_number place) (slot_number place + count) slot && is_dead cycle (block_at table (64 * page_number place + slot))))
    → IsFreeingOn cycle table place count table left
freeing-starts cycle table place count left few word = record {
  done = 0;
  few = omega arith;
  is = refl;
  within = λ slot small is. between slot (sym (word slot small) ∙ is);
  dead = λ k from below.
      let at : 64 * page_number place + (slot_number place + k) ≡ place + k = omega arith in
      word (slot_number place + k) (omega arith) ∙ ap (λ b. b && is_dead cycle (block_at table (64 * page_number place + (slot_number place + k)))) (inside k below) ∙ ap (λ p. is_dead cycle (block_at table p)) at;
}
  where
    inside : (k : ℕ) → k < count → is_slot_between (slot_number place) (slot_number place + count) (slot_number place + k) ≡ true
    inside k below = rw (le-leb (slot_number place) (slot_number place + k) (omega arith), lt-ltb (slot_number place + k) (slot_number place + count) (omega arith)) refl

    between : (slot : ℕ) → (is_slot_between (slot_number place) (slot_number place + count) slot && is_dead cycle (block_at table (64 * page_number place + slot))) ≡ true → (slot_number place + 0 ≤ slot) × (slot < slot_number place + count)
    between slot is = grind (arith, cases_lt, inl, false≢true, lt-leb, is, inr, inside, le-leb, le-ltb)

-- the next slot to be freed: those before it stay as they are
pub record IsNext (cycle : ℕ) (table : Table Block) (place count : ℕ) (new : Table Block) (left done : ℕ) : Type 0 where
  pub index : ℕ
  pub at : 64 * page_number place + trailing_zeros w64 left ≡ place + index
  pub within : index < count
  pub from : done ≤ index
  pub is : new ≡ slots_swept cycle table place index
  pub dead : is_dead cycle (block_at new (place + index)) ≡ true

pub next : (cycle : ℕ) (table : Table Block) (place count : ℕ) (new : Table Block) (left : ℕ) → left ≢ 0 → left < 2 ^ 64 → (on : IsFreeingOn cycle table place count new left) → IsNext cycle table place count new left on.done
next cycle table place count new left some small on =
    let low : IsLowest left (trailing_zeros w64 left) = lowest_bit left some small in
    let inside = on.within (trailing_zeros w64 left) low.within low.is_set in
    let from : slot_number place + on.done ≤ trailing_zeros w64 left = inside.0 in
    let below : trailing_zeros w64 left < slot_number place + count = inside.1 in
    let index : ℕ = trailing_zeros w64 left - slot_number place in
    let here : slot_number place + index ≡ trailing_zeros w64 left = omega arith in
    let whole : on.done + (index - on.done) ≡ index = omega arith in
    let none : ((k : ℕ) → on.done ≤ k → k < on.done + (index - on.done) → is_dead cycle (block_at table (place + k)) ≡ false) = λ k after before. sym (on.dead k after (omega arith)) ∙ low.none_below (slot_number place + k) (omega arith) in
    let is : new ≡ slots_swept cycle table place index = on.is ∙ sym (quiet cycle table place on.done (index - on.done) none) ∙ ap (slots_swept cycle table place) whole in
    let same : block_at new (place + index) ≡ block_at table (place + index) = ap (λ t. block_at t (place + index)) is ∙ behind cycle table place index (place + index) (omega arith) in
    record {
      index = index;
      at = omega arith;
      within = omega arith;
      from = omega arith;
      is = is;
      dead = ap (is_dead cycle) same ∙ sym (on.dead index (omega arith) (omega arith)) ∙ ap (has_bit left) here ∙ low.is_set;
    }

pub next-there : (cycle : ℕ) (table : Table Block) (place count : ℕ) (new : Table Block) (left done : ℕ) → IsNext cycle table place count new left done → IsSome (block_at new (64 * page_number place + trailing_zeros w64 left))
next-there cycle table place count new left done at = rw at.at (dead-there cycle (block_at new (place + at.index)) at.dead)

pub freeing-goes : (cycle : ℕ) (table : Table Block) (place count : ℕ) (new : Table Block) (left : ℕ) → slot_number place + count ≤ 64 → left ≢ 0 → left < 2 ^ 64 → IsFreeingOn cycle table place count new left
    → IsFreeingOn cycle table place count (with_block new (64 * page_number place + trailing_zeros w64 left) None) (bit_and left (bit_not w64 (1 * 2 ^ trailing_zeros w64 left % 2 ^ bits w64)))
freeing-goes cycle table place count new left few some small on =
    let low : IsLowest left (trailing_zeros w64 left) = lowest_bit left some small in
    let k : ℕ = trailing_zeros w64 left in
    let at = next cycle table place count new left some small on in
    let here : 64 * page_number place + trailing_zeros w64 left ≡ place + at.index = at.at in
    let cleared : ℕ = bit_and left (bit_not w64 (1 * 2 ^ trailing_zeros w64 left % 2 ^ bits w64)) in
    record {
      done = suc at.index;
      few = omega (arith, at.within);
      is = ap (λ p. with_block new p None) here ∙ sym (goes cycle new (place + at.index) at.dead) ∙ ap (λ t. slot_swept cycle t (place + at.index)) at.is;
      within = λ slot inside is. elim (cases_eq slot (trailing_zeros w64 left)) [
        | inl same ↦ absurd (true≢false (sym is ∙ ap (has_bit cleared) same ∙ has_bit-clear_same left (trailing_zeros w64 left) low.within))
        | inr apart ↦
            let was : has_bit left slot ≡ true = sym (has_bit-clear_other left (trailing_zeros w64 left) slot low.within inside apart) ∙ is in
            elim (cases_lt slot (trailing_zeros w64 left)) [
              | inl before ↦ absurd (true≢false (sym was ∙ low.none_below slot before))
              | inr after ↦ (omega arith, (on.within slot inside was).1)
            ]
      ];
      dead = λ other after below. has_bit-clear_other left (trailing_zeros w64 left) (slot_number place + other) low.within (omega arith) (λ same. absurd (omega arith)) ∙ on.dead other (omega (arith, at.from)) below;
    }

pub freeing-ends : (cycle : ℕ) (table : Table Block) (place count : ℕ) (new : Table Block) (left : ℕ) → left ≡ 0 → IsFreeingOn cycle table place count new left → new ≡ slots_swept cycle table place count
freeing-ends cycle table place count new left none on =
    let whole : on.done + (count - on.done) ≡ count = omega (arith, on.few) in
    on.is ∙ sym (quiet cycle table place on.done (count - on.done) (λ k after before. sym (on.dead k after (omega (arith, on.few))) ∙ ap (λ word. has_bit word (slot_number place + k)) none ∙ has_bit-zero (slot_number place + k))) ∙ ap (slots_swept cycle table place) whole

-- Masks ------------------------------------------------------------------------------------------------

from_first : (first slot : ℕ) → slot < 64 → has_bit (2 ^ 64 - 2 ^ first) slot ≡ nat_le first slot
from_first first slot small = elim (cases_lt slot first) [
  | inl before ↦ ap (λ n. n == 1) (bit_at_mask_below first 64 slot before) ∙ sym (lt-leb first slot before)
  | inr from ↦ ap (λ n. n == 1) (bit_at_mask_inside first 64 slot from small) ∙ sym (le-leb first slot from)
]

before_end : (end slot : ℕ) → has_bit (2 ^ end - 1) slot ≡ nat_lt slot end
before_end end slot = elim (cases_lt slot end) [
  | inl before ↦ ap (λ n. n == 1) (bit_at_ones end slot before) ∙ sym (lt-ltb slot end before)
  | inr from ↦ ap (λ n. n == 1) (bit_at_ones_above end slot from) ∙ sym (le-ltb slot end from)
]

pub mask-between : (first end slot : ℕ) → first < end → end ≤ 64 → slot < 64 → has_bit (bit_and ((2 ^ 64 - 1) * 2 ^ first % 2 ^ 64) ((2 ^ 64 - 1) / 2 ^ (64 - end))) slot ≡ is_slot_between first end slot
mask-between first end slot order few small =
    let whole : 64 - (64 - end) ≡ end = omega arith in
    ap (λ a. has_bit (bit_and a ((2 ^ 64 - 1) / 2 ^ (64 - end))) slot) (ones_shl 64 first (omega arith))
    ∙ ap (λ b. has_bit (bit_and (2 ^ 64 - 2 ^ first) b) slot) (ones_shr 64 (64 - end) (omega arith) ∙ ap (λ n. 2 ^ n - 1) whole)
    ∙ has_bit-and (2 ^ 64 - 2 ^ first) (2 ^ end - 1) slot
    ∙ ap (λ b. b && has_bit (2 ^ end - 1) slot) (from_first first slot small)
    ∙ ap (λ b. nat_le first slot && b) (before_end end slot)
