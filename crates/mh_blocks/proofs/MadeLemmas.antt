-- Blocks made.
use Rattle.std.proofs.Common.{◌≡◌, ℕ, zero, suc, ◌+◌, ◌-◌, ◌≤◌, ◌==◌, nat_le, Bool, true, false, if◌then◌else◌, find, List, [], ◌∷◌, length, set, map, replicate, Option, Some, None, option_map, IfSome, refl, sym, ap, ◌∙◌, subst, arith}
use Rattle.std.proofs.{lemmas.Bool.{and_parts, leb-true}, lemmas.Option.{none-some, same_Some}}
use Rattle.std.proofs.lemmas.List.{length-replicate, take-replicate, drop-replicate}
use Rattle.std.specs.List.{list_all}
use Rattle.mh_model.specs.{declared.shape.Shape.Shape, Classes.{Part, class_sizes, class_of, part_words}}
use Rattle.mh_model.specs.{Pages.{Table, with_block, with_taken, IsFreeFor}, Table.{Block, new_block}}
use Rattle.mh_classes.specs.{Counts.{reference_count, number_count}, Fits.FitsItsHeader}
use Rattle.mh_pages.specs.{declared.header.Header.Header, Words.{with_word, with_header}}
use Rattle.mh_blocks.specs.Auxiliary.{place_in, header_in, block_of, block_table, IsPacked, ArePacked, IsNewHeader}
use Rattle.mh_table_laws.proofs.TableMapLemmas.{with_taken-table_map}
use Rattle.mh_table_laws.proofs.placing.Places.{block_at-with_taken_same, with_block-with_taken}
use Rattle.mh_blocks.proofs.{PackedLemmas.taken_packed, FreeLemmas.at_some}

-- The class of so many words -----------------------------------------------------------------------

-- a class has room for the words, and has at most 64
pub record HasRoom (words size : ℕ) : Type 0 where
  pub room : words ≤ size
  pub most : size ≤ 64

found_room : (words size : ℕ) (sizes : List ℕ) → list_all (λ other. nat_le other 64) sizes ≡ true → find (λ other. nat_le words other) sizes ≡ Some size → HasRoom words size
found_room words size [] few is = absurd (none-some size is)
found_room words size (other ∷ sizes) few is =
    let (here, after) = and_parts (nat_le other 64) (list_all (λ o. nat_le o 64) sizes) few in
    go (nat_le words other) refl is (leb-true other 64 here) (λ h. found_room words size sizes after h)
  where
    go : (fits : Bool) → nat_le words other ≡ fits → (if fits then Some other else find (λ o. nat_le words o) sizes) ≡ Some size → other ≤ 64 → (find (λ o. nat_le words o) sizes ≡ Some size → HasRoom words size) → HasRoom words size
    go true fits h most rest = subst (HasRoom words) (same_Some other size h) (record { room = leb-true words other fits; most = most })
    go false fits h most rest = rest h

pub class_room : (words size : ℕ) → class_of words ≡ Some size → HasRoom words size
class_room words size is = go (words == 0) is
  where
    go : (none : Bool) → (if none then None else find (λ other. nat_le words other) class_sizes) ≡ Some size → HasRoom words size
    go true h = absurd (none-some size h)
    go false h = found_room words size class_sizes refl h

-- The words of a new block -------------------------------------------------------------------------

-- words with another header
abbrev pub set_header : List ℕ → Header → List ℕ
set_header words header = set (set (set (set words 0 header.birth) 1 header.counts) 2 header.stamp) 3 header.forward

with_word-taken : (table : Table (List ℕ)) (size place index word : ℕ) (words : List ℕ) → IsFreeFor table size place → with_word (with_taken table size place words) place index word ≡ with_taken table size place (set words index word)
with_word-taken table size place index word words free =
    ap (λ content. with_block (with_taken table size place words) place (option_map (λ ws. set ws index word) content)) (block_at-with_taken_same table size place words free)
    ∙ with_block-with_taken table size place words (set words index word) free

-- a header written to a block that was just put
pub with_header-taken : (table : Table (List ℕ)) (size place : ℕ) (words : List ℕ) (header : Header) → IsFreeFor table size place → with_header (with_taken table size place words) place header ≡ with_taken table size place (set_header words header)
with_header-taken table size place words header free = grind (arith, with_word-taken)

-- the words of a new block of a class
abbrev pub new_words : ℕ → Header → List ℕ
new_words size header = set_header (replicate size 0) header

new_words-is : (size : ℕ) (header : Header) → 4 ≤ size → new_words size header ≡ header.birth ∷ header.counts ∷ header.stamp ∷ header.forward ∷ replicate (size - 4) 0
new_words-is size header room =
    let more : size ≡ suc (suc (suc (suc (size - 4)))) = omega arith in
    ap (λ count. new_words count header) more

nothing_in : (count : ℕ) → map place_in (replicate count 0) ≡ replicate count None
nothing_in zero = refl
nothing_in (suc count) = ap (λ references. None ∷ references) (nothing_in count)

abbrev the_block : ℕ → ℕ → ℕ → Shape → Option ℕ → List (Option ℕ) → List ℕ → Block
the_block birth part stamp header forward references numbers = record { birth = birth; part = part; header = header; stamp = stamp; forward = forward; references = references; numbers = numbers }

same_block : (b b' p p' s s' : ℕ) (h h' : Shape) (f f' : Option ℕ) (rs rs' : List (Option ℕ)) (ns ns' : List ℕ) → b ≡ b' → p ≡ p' → s ≡ s' → h ≡ h' → f ≡ f' → rs ≡ rs' → ns ≡ ns' → the_block b p s h f rs ns ≡ the_block b' p' s' h' f' rs' ns'
same_block b b' p p' s s' h h' f f' rs rs' ns ns' i j k l m n o = cc

reference_words_are : (birth stamp index : ℕ) (part : Part) (header : Header) → FitsItsHeader part → IsNewHeader birth stamp index part.header header → reference_count (header_in header.counts) ≡ part.references
reference_words_are birth stamp index part header fits new = ap reference_count new.counts_word ∙ sym fits.references

number_words_are : (birth stamp index : ℕ) (part : Part) (header : Header) → FitsItsHeader part → IsNewHeader birth stamp index part.header header → number_count (header_in header.counts) ≡ part.numbers
number_words_are birth stamp index part header fits new = ap number_count new.counts_word ∙ sym fits.numbers

pub new_block_is : (size birth stamp index : ℕ) (part : Part) (header : Header) → part_words part ≤ size → FitsItsHeader part → IsNewHeader birth stamp index part.header header → block_of (new_words size header) ≡ new_block birth stamp index part
unfolding block_of
new_block_is size birth stamp index part header room fits new = grind (arith, reference_words_are, number_words_are, take-replicate, nothing_in, drop-replicate, new_words-is, same_block)

pub new_words_packed : (size birth stamp index : ℕ) (part : Part) (header : Header) → part_words part ≤ size → size ≤ 64 → FitsItsHeader part → IsNewHeader birth stamp index part.header header → IsPacked (new_words size header)
new_words_packed size birth stamp index part header room most fits new =
    subst IsPacked (sym (new_words-is size header (omega arith))) (record { born = omega (arith, new.birth_word); room = rw long fields; most = rw long most })
  where
    long : length (header.birth ∷ header.counts ∷ header.stamp ∷ header.forward ∷ replicate (size - 4) 0) ≡ size
    long = omega (arith, length-replicate {A = ℕ} (size - 4) 0)

    fields : 4 + reference_count (header_in header.counts) + number_count (header_in header.counts) ≤ size
    fields = omega (arith, reference_words_are birth stamp index part header fits new, number_words_are birth stamp index part header fits new)

-- A part made at a place ---------------------------------------------------------------------------

-- a block put with its header is the new block of the part
pub record IsMadeAt (table : Table (List ℕ)) (above : Table Block) (size place birth stamp index : ℕ) (part : Part) (header : Header) : Type 0 where
  pub packed : ArePacked (with_header (with_taken table size place (replicate size 0)) place header)
  pub made : IfSome (class_of (part_words part)) (λ s. block_table (with_header (with_taken table size place (replicate size 0)) place header) ≡ with_taken above s place (new_block birth stamp index part))

pub made_at : (table : Table (List ℕ)) (above : Table Block) (size place birth stamp index : ℕ) (part : Part) (header : Header) → block_table table ≡ above → ArePacked table → IsFreeFor table size place → class_of (part_words part) ≡ Some size → FitsItsHeader part → IsNewHeader birth stamp index part.header header
    → IsMadeAt table above size place birth stamp index part header
made_at table above size place birth stamp index part header view packed free class fits new =
    let room = class_room (part_words part) size class in
    let put = with_header-taken table size place (replicate size 0) header free in
    let made : block_table (with_header (with_taken table size place (replicate size 0)) place header) ≡ with_taken above size place (new_block birth stamp index part)
    = ap block_table put
    ∙ with_taken-table_map block_of table size place (new_words size header)
    ∙ ap (with_taken (block_table table) size place) (new_block_is size birth stamp index part header room.room fits new)
    ∙ ap (λ t. with_taken t size place (new_block birth stamp index part)) view in
    record {
      packed = subst ArePacked (sym put) (taken_packed table size place (new_words size header) (new_words_packed size birth stamp index part header room.room room.most fits new) packed);
      made = at_some (class_of (part_words part)) (λ s. block_table (with_header (with_taken table size place (replicate size 0)) place header) ≡ with_taken above s place (new_block birth stamp index part)) size class made;
    }
