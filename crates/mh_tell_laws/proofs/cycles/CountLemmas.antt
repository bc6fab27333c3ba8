-- The three counts of a heap: its free pages, its live blocks and its forwarders.
use Rattle.std.proofs.Common.{◌≡◌, ℕ, zero, suc, ◌+◌, Bool, true, false, not, if◌then◌else◌, Option, Some, None, is_some, option_map, option_and_then, unwrap_or, [], ◌∷◌, set, refl, sym, ap, ◌∙◌, arith}
use Rattle.std.proofs.lemmas.Bool.{false≢true, true≢false}
use Rattle.mh_model.specs.{declared.deed.Deed.Deed, declared.deed.Tier.TheVariants.{Dense, Sparse}, Classes.Part}
use Rattle.mh_model.specs.Pages.{Page, Table, page_number, slot_number, page_at, block_in, block_at, live_in, free_pages, page_with, with_block, page_for, with_taken, flagged_as, HaveTheirSlots, IsFreeFor}
use Rattle.mh_model.specs.Table.{Block, new_block, is_forwarder, with_block_change}
use Rattle.mh_model.specs.{Collector.{Move, is_marked, moved_table}, Deeds.{name_of, block_fate, tier_of}}
use Rattle.mh_model.specs.declared.deed.Fate.{Fate}
use Rattle.mh_table_laws.proofs.Lists.{below_length}
use Rattle.mh_table_laws.proofs.placing.Places.{block_at-with_taken_there, with_block-self, shaped-slots, least_dense_place-page}
use Rattle.mh_laws.proofs.{moving.NextMove.IsNextMove, rooms.Rooms.{if_free, free_pages-set, taken-in_use}}
use Rattle.mh_blocks.proofs.CountLemmas.{one, in_table, in_table-with_block, in_table-with_taken, in_table-with_flag, in_table-freed}
use Rattle.mh_tell_laws.specs.Cycles.{makes, opens, opens_by, frees, drops, empties, moves}
use Rattle.mh_tell_laws.proofs.cycles.Balances.{is_silent, IsCount}

-- Blocks -----------------------------------------------------------------------------------------

-- blocks that aren't forwarders
abbrev pub is_live : Block → Bool
is_live block = not (is_forwarder block)

-- a test that sees only whether a block is a forwarder
module _ (test : Bool → Bool) where
  abbrev seen : Block → Bool
  seen block = test (is_forwarder block)

  one-is : (block : Block) (forward : Option ℕ) → block.forward ≡ forward → one seen (Some block) ≡ (if test (is_some forward) then 1 else 0)
  one-is block forward e = ap (λ f. if test (is_some f) then 1 else 0) e

  blocks-changed : (table : Table Block) (place : ℕ) (change : Block → Block) → ((block : Block) → (change block).forward ≡ block.forward) → in_table seen (with_block_change table place change) ≡ in_table seen table
  blocks-changed table place change same = go (block_at table place) refl
    where
      go : (content : Option Block) → block_at table place ≡ content → in_table seen (with_block table place (option_map change content)) ≡ in_table seen table
      go None at = ap (in_table seen) (ap (with_block table place) (sym at) ∙ with_block-self table place)
      go (Some block) at = omega (arith, in_table-with_block seen table place block (Some (change block)) at, one-is (change block) block.forward (same block), one-is block block.forward refl)

  blocks-freed : (table : Table Block) (number : ℕ) (page : Page Block) → page_at table number ≡ Some page → live_in page ≡ 0 → in_table seen (set table number None) ≡ in_table seen table
  blocks-freed table number page at empty = in_table-freed seen table number (ap (λ content. unwrap_or (option_map live_in content) 0) at ∙ empty)

  blocks-moved : (table : Table Block) (place : ℕ) (move : Move) → IsNextMove table place move → IsFreeFor table move.class_size move.target
      → in_table seen (moved_table table place move) ≡ in_table seen table + (if test true then 1 else 0)
  blocks-moved table place move is free =
      let at : block_at table place ≡ Some move.block = ap (option_and_then (block_in (slot_number place))) is.in_use ∙ is.there in
      let put = with_taken table move.class_size move.target move.block in
      let still : block_at put place ≡ Some move.block = block_at-with_taken_there table move.class_size move.target place move.block free (ap is_some at) ∙ at in
      let left : Block = record (move.block) { forward = Some move.target } in
      omega (arith, in_table-with_taken seen table move.class_size move.target move.block free, in_table-with_block seen put place move.block (Some left) still, one-is (move.block) None is.live, one-is left (Some move.target) refl)

  blocks-made : (table : Table Block) (size place birth stamp index : ℕ) (part : Part) → IsFreeFor table size place → in_table seen (with_taken table size place (new_block birth stamp index part)) ≡ in_table seen table + (if test false then 1 else 0)
  blocks-made table size place birth stamp index part free = omega (arith, in_table-with_taken seen table size place (new_block birth stamp index part) free, one-is (new_block birth stamp index part) None refl)

live-silent : (d : Deed) → is_silent d ≡ true → (makes d ≡ 0) × (frees d ≡ 0)
live-silent (Deed.Make place name class_size fields tier) e = absurd (false≢true e)
live-silent (Deed.Sweep place (Fate.Freed name)) e = absurd (false≢true e)
live-silent (Deed.Sweep place Fate.Empty) e = (refl, refl)
live-silent (Deed.Sweep place (Fate.Kept name)) e = (refl, refl)
live-silent (Deed.Sweep place (Fate.FreedForwarder target)) e = (refl, refl)
live-silent d e = (refl, refl)

old-silent : (d : Deed) → is_silent d ≡ true → (moves d ≡ 0) × (drops d ≡ 0)
old-silent (Deed.Move place to name class_size) e = absurd (false≢true e)
old-silent (Deed.Sweep place (Fate.FreedForwarder target)) e = absurd (false≢true e)
old-silent (Deed.Sweep place Fate.Empty) e = (refl, refl)
old-silent (Deed.Sweep place (Fate.Kept name)) e = (refl, refl)
old-silent (Deed.Sweep place (Fate.Freed name)) e = (refl, refl)
old-silent d e = (refl, refl)

-- a slot that the sweep empties had a live block or a forwarder
module _ (table : Table Block) (place cycle : ℕ) (block : Block) (at : block_at table place ≡ Some block) where
  swept : Option ℕ → Bool → Deed
  swept None marked = Deed.Sweep place (if marked then Fate.Kept (name_of block) else Fate.Freed (name_of block))
  swept (Some target) marked = Deed.Sweep place (Fate.FreedForwarder target)

  swept-is : (forward : Option ℕ) → block.forward ≡ forward → (marked : Bool) → is_marked cycle block ≡ marked → Deed.Sweep place (block_fate cycle block block.forward) ≡ swept forward marked
  unfolding swept
  swept-is None e marked m = ap (λ f. Deed.Sweep place (block_fate cycle block f)) e ∙ ap (λ b. Deed.Sweep place (if b then Fate.Kept (name_of block) else Fate.Freed (name_of block))) m
  swept-is (Some target) e marked m = ap (λ f. Deed.Sweep place (block_fate cycle block f)) e

  live-emptied : is_silent (Deed.Sweep place (block_fate cycle block block.forward)) ≡ false → in_table is_live (with_block table place None) + frees (Deed.Sweep place (block_fate cycle block block.forward)) ≡ in_table is_live table + 0
  unfolding swept
  live-emptied loud = go block.forward refl (is_marked cycle block) refl
    where
      go : (forward : Option ℕ) → block.forward ≡ forward → (marked : Bool) → is_marked cycle block ≡ marked → in_table is_live (with_block table place None) + frees (Deed.Sweep place (block_fate cycle block block.forward)) ≡ in_table is_live table + 0
      go None e true m = absurd (true≢false (sym (ap is_silent (swept-is None e true m)) ∙ loud))
      go None e false m = omega (arith, ap frees (swept-is None e false m), in_table-with_block is_live table place block None at, one-is not block None e)
      go (Some target) e marked m = omega (arith, ap frees (swept-is (Some target) e marked m), in_table-with_block is_live table place block None at, one-is not block (Some target) e)

  old-emptied : is_silent (Deed.Sweep place (block_fate cycle block block.forward)) ≡ false → in_table is_forwarder (with_block table place None) + drops (Deed.Sweep place (block_fate cycle block block.forward)) ≡ in_table is_forwarder table + 0
  unfolding swept
  old-emptied loud = go block.forward refl (is_marked cycle block) refl
    where
      go : (forward : Option ℕ) → block.forward ≡ forward → (marked : Bool) → is_marked cycle block ≡ marked → in_table is_forwarder (with_block table place None) + drops (Deed.Sweep place (block_fate cycle block block.forward)) ≡ in_table is_forwarder table + 0
      go None e true m = absurd (true≢false (sym (ap is_silent (swept-is None e true m)) ∙ loud))
      go None e false m = omega (arith, ap drops (swept-is None e false m), in_table-with_block is_forwarder table place block None at, one-is (λ b. b) block None e)
      go (Some target) e marked m = omega (arith, ap drops (swept-is (Some target) e marked m), in_table-with_block is_forwarder table place block None at, one-is (λ b. b) block (Some target) e)

-- Live blocks grow by those made, and lose those freed
pub live-count : IsCount (in_table is_live) makes frees
live-count = record {
  silent = live-silent;
  changed = blocks-changed not;
  flagged = λ table number is_flagged. in_table-with_flag is_live table number is_flagged;
  emptied = live-emptied;
  freed = λ table number page at empty. omega (arith, blocks-freed not table number page at empty);
  moved = λ table place move slots is free. omega (arith, blocks-moved not table place move is free);
  made = λ table size place birth stamp index part free. omega (arith, blocks-made not table size place birth stamp index part free);
}

-- Forwarders grow by those left, and lose those dropped
pub old-count : IsCount (in_table is_forwarder) moves drops
old-count = record {
  silent = old-silent;
  changed = blocks-changed (λ b. b);
  flagged = λ table number is_flagged. in_table-with_flag is_forwarder table number is_flagged;
  emptied = old-emptied;
  freed = λ table number page at empty. omega (arith, blocks-freed (λ b. b) table number page at empty);
  moved = λ table place move slots is free. omega (arith, blocks-moved (λ b. b) table place move is free);
  made = λ table size place birth stamp index part free. omega (arith, blocks-made (λ b. b) table size place birth stamp index part free);
}

-- Pages ------------------------------------------------------------------------------------------

-- a page that is changed stays in use or free
free-changed : (table : Table Block) (number : ℕ) (change : Page Block → Page Block) → free_pages (set table number (option_map change (page_at table number))) ≡ free_pages table
free-changed [] number change = refl
free-changed (None ∷ pages) zero change = refl
free-changed (Some page ∷ pages) zero change = refl
free-changed (None ∷ pages) (suc number) change = ap suc (free-changed pages number change)
free-changed (Some page ∷ pages) (suc number) change = free-changed pages number change

free-silent : (d : Deed) → is_silent d ≡ true → (empties d ≡ 0) × (opens d ≡ 0)
free-silent (Deed.FreePage page) e = absurd (false≢true e)
free-silent (Deed.Make place name class_size fields tier) e = absurd (false≢true e)
free-silent d e = (refl, refl)

free-moved : (table : Table Block) (place : ℕ) (move : Move) → HaveTheirSlots table → IsNextMove table place move → free_pages (moved_table table place move) ≡ free_pages table
free-moved table place move slots is =
    let (page, at, of_class, unflagged, empty) = least_dense_place-page table move.class_size (shaped-slots table slots) move.target is.target in
    free-changed (with_taken table move.class_size move.target move.block) (page_number place) (page_with (slot_number place) (Some (record (move.block) { forward = Some move.target })))
    ∙ (taken-in_use table move.class_size move.target move.block page at of_class).free

free-made : (table : Table Block) (size place : ℕ) (block : Block) → IsFreeFor table size place → free_pages (with_taken table size place block) + opens_by (tier_of (page_at table (page_number place))) ≡ free_pages table
free-made table size place block free =
    omega (arith, free_pages-set table (page_number place) (Some (page_with (slot_number place) (Some block) (page_for size (page_at table (page_number place))))) free.inside, go (page_at table (page_number place)))
  where
    in_use : (is_flagged : Bool) → opens_by (if is_flagged then Sparse else Dense) ≡ 0
    in_use true = refl
    in_use false = refl

    go : (content : Option (Page Block)) → opens_by (tier_of content) ≡ if_free content
    go None = refl
    go (Some page) = in_use page.is_flagged

-- Free pages grow by those emptied, and lose those opened
pub free-count : IsCount free_pages empties opens
free-count = record {
  silent = free-silent;
  changed = λ table place change same. free-changed table (page_number place) (page_with (slot_number place) (option_map change (block_at table place)));
  flagged = λ table number is_flagged. free-changed table number (flagged_as is_flagged);
  emptied = λ table place cycle block at loud. omega (arith, free-changed table (page_number place) (page_with (slot_number place) None));
  freed = λ table number page at empty. omega (arith, free_pages-set table number None (below_length table number page at), ap if_free at);
  moved = λ table place move slots is free. omega (arith, free-moved table place move slots is);
  made = λ table size place birth stamp index part free. omega (arith, free-made table size place (new_block birth stamp index part) free);
}
