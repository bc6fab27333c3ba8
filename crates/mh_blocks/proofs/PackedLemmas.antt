-- Each change of a table keeps its blocks packed.
use Rattle.std.proofs.Common.{◌≡◌, ◌≢◌, ℕ, zero, suc, ◌<◌, ◌≤◌, Bool, true, false, List, ◌∷◌, length, get_or, set, replicate, Option, Some, None, option_map, option_and_then, refl, ap, subst, inl, inr, arith}
use Rattle.std.proofs.lemmas.Option.{none-some, same_Some}
use Rattle.std.proofs.lemmas.List.{get_or-set_other, length-set, length-replicate}
use Rattle.mh_model.specs.Pages.{Page, Table, page_number, slot_number, page_at, block_in, block_at, page_with, page_for, with_taken, with_released, flagged_as, with_flag}
use Rattle.mh_pages.specs.Words.{with_word}
use Rattle.mh_table_laws.specs.TableMaps.{table_map}
use Rattle.mh_blocks.specs.Auxiliary.{block_table, IsPacked, ArePacked}
use Rattle.mh_blocks.proofs.ChangeLemmas.{after_change, after_taking, after_freeing, after_flagging, after_release}

-- All pages free -----------------------------------------------------------------------------------

nothing_at : (count place : ℕ) → block_at {X = List ℕ} (replicate count None) place ≡ None
nothing_at count place = ap (option_and_then (block_in (slot_number place))) (free count (page_number place))
  where
    free : (pages number : ℕ) → get_or {A = Option (Page (List ℕ))} (replicate pages None) number None ≡ None
    free zero number = refl
    free (suc pages) zero = refl
    free (suc pages) (suc number) = free pages number

pub empty_packed : (count : ℕ) → count ≤ 4096 → ArePacked (replicate count None)
empty_packed count few = grind (arith, length-replicate, none-some, nothing_at)

pub empty_blocks : (count : ℕ) → block_table (replicate count None) ≡ replicate count None
unfolding table_map
empty_blocks zero = refl
empty_blocks (suc count) = ap (λ table. None ∷ table) (empty_blocks count)

-- A word written -----------------------------------------------------------------------------------

above : (a b : ℕ) → b < a → b ≢ a
above a b more e = omega arith

-- the first two words stay as they are
pub set_packed : (words : List ℕ) (index word : ℕ) → 1 < index → IsPacked words → IsPacked (set words index word)
set_packed words index word later packed = grind (arith, get_or-set_other, above, length-set)

pub word_packed : (table : Table (List ℕ)) (place index word : ℕ) → 1 < index → ArePacked table → ArePacked (with_word table place index word)
word_packed table place index word later packed = record {
  few = rw (length-set table (page_number place) (option_map (page_with (slot_number place) (option_map (λ words. set words index word) (block_at table place))) (page_at table (page_number place)))) packed.few;
  blocks = λ other words is. elim (after_change table place other (option_map (λ w. set w index word) (block_at table place)) words is) [
    | inl new ↦ written (block_at table place) words (packed.blocks place) new
    | inr old ↦ packed.blocks other words old
  ];
}
  where
    written : (content : Option (List ℕ)) (words : List ℕ) → ((w : List ℕ) → content ≡ Some w → IsPacked w) → option_map (λ w. set w index word) content ≡ Some words → IsPacked words
    written None words each is = absurd (none-some words is)
    written (Some w) words each is = subst IsPacked (same_Some (set w index word) words is) (set_packed w index word later (each w refl))

-- Blocks put and taken back ------------------------------------------------------------------------

pub taken_packed : (table : Table (List ℕ)) (size place : ℕ) (words : List ℕ) → IsPacked words → ArePacked table → ArePacked (with_taken table size place words)
taken_packed table size place words new packed = record {
  few = rw (length-set table (page_number place) (Some (page_with (slot_number place) (Some words) (page_for size (page_at table (page_number place)))))) packed.few;
  blocks = λ other block is. elim (after_taking table size place other words block is) [ inl this ↦ subst IsPacked this new | inr old ↦ packed.blocks other block old ];
}

pub freed_packed : (table : Table (List ℕ)) (number : ℕ) → ArePacked table → ArePacked (set table number None)
freed_packed table number packed = record {
  few = rw (length-set table number None) packed.few;
  blocks = λ other words is. packed.blocks other words (after_freeing table number other words is);
}

pub flagged_packed : (table : Table (List ℕ)) (number : ℕ) (is_flagged : Bool) → ArePacked table → ArePacked (with_flag table number is_flagged)
flagged_packed table number is_flagged packed = record {
  few = rw (length-set table number (option_map (flagged_as is_flagged) (page_at table number))) packed.few;
  blocks = λ other words is. packed.blocks other words (after_flagging table number other is_flagged words is);
}

length-released : (table : Table (List ℕ)) (place : ℕ) (frees_page : Bool) → length (with_released table place frees_page) ≡ length table
length-released table place true = length-set table (page_number place) None
length-released table place false = length-set table (page_number place) (option_map (page_with (slot_number place) None) (page_at table (page_number place)))

pub released_packed : (table : Table (List ℕ)) (place : ℕ) (frees_page : Bool) → ArePacked table → ArePacked (with_released table place frees_page)
released_packed table place frees_page packed = record {
  few = rw (length-released table place frees_page) packed.few;
  blocks = λ other words is. packed.blocks other words (after_release table place other frees_page words is);
}
