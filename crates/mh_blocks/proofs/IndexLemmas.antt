-- The index of a table after each change of it.
use Rattle.std.proofs.Common.{◌≡◌, ◌≢◌, ℕ, zero, suc, ◌*◌, ◌<◌, ◌==◌, Bool, true, false, List, [], ◌∷◌, length, get_or, set, replicate, Option, Some, None, option_map, option_and_then, unwrap_or, is_some, IsSome, ◌⊎◌, inl, inr, refl, sym, ap, ◌∙◌, arith, get_or-set_same, get_or-set_other}
use Rattle.std.proofs.{lemmas.Bool.{cases_eq, false≢true}, lemmas.List.length-set}
use Rattle.mh_model.specs.Pages.{Page, Table, page_number, slot_number, page_at, block_in, block_at, block_count, count_at, with_block, with_taken, with_released, with_flag, IsFreeFor}
use Rattle.mh_model.specs.Table.{Block, is_forwarder, with_block_change, with_stamp_at}
use Rattle.mh_model.specs.Collector.{Move, moved_table, is_marked}
use Rattle.mh_table_laws.proofs.Lists.{below_length}
use Rattle.mh_table_laws.proofs.placing.Places.{block_at-with_block_there, block_at-with_block_other, block_at-with_taken_same, block_at-with_taken_other, block_at-with_taken_there}
use Rattle.mh_blocks.specs.Auxiliary.{Index, passes_at, HasThosePlaces, IsIndexOf}

-- Where a block is ---------------------------------------------------------------------------------

page_inside : (table : Table Block) (place : ℕ) → IsSome (block_at table place) → page_number place < length table
page_inside table place there = go (page_at table (page_number place)) refl there
  where
    go : (page : Option (Page Block)) → page_at table (page_number place) ≡ page → IsSome (option_and_then (block_in (slot_number place)) page) → page_number place < length table
    go None at none = absurd (false≢true none)
    go (Some page) at some = below_length table (page_number place) page at

pub inside : (test : Block → Bool) (table : Table Block) (places : List Bool) (place : ℕ) → HasThosePlaces test table places → page_number place < length table → place < length places
inside test table places place has within = omega (arith, has.long)

pub there : (test : Block → Bool) (table : Table Block) (places : List Bool) (place : ℕ) → HasThosePlaces test table places → IsSome (block_at table place) → place < length places
there test table places place has some = inside test table places place has (page_inside table place some)

-- One place changed --------------------------------------------------------------------------------

pub kept : (test : Block → Bool) (old new : Table Block) (places : List Bool) → length new ≡ length old → ((place : ℕ) → passes_at test new place ≡ passes_at test old place) → HasThosePlaces test old places → HasThosePlaces test new places
kept test old new places long same has = record { long = has.long ∙ ap (λ n. 64 * n) (sym long); each = λ place. has.each place ∙ sym (same place) }

pub changed : (test : Block → Bool) (old new : Table Block) (places : List Bool) (place : ℕ) (value : Bool) → page_number place < length old → length new ≡ length old
    → ((other : ℕ) → other ≢ place → block_at new other ≡ block_at old other) → value ≡ passes_at test new place → HasThosePlaces test old places → HasThosePlaces test new (set places place value)
changed test old new places place value within long others is has = record {
  long = length-set places place value ∙ (has.long ∙ ap (λ n. 64 * n) (sym long));
  each = λ other. go other (cases_eq other place);
}
  where
    go : (other : ℕ) → (other ≡ place) ⊎ (other ≡ place → ⊥) → get_or (set places place value) other false ≡ passes_at test new other
    go other (inl same) = rw same (get_or-set_same places place value false (inside test old places place has within) ∙ is)
    go other (inr apart) = get_or-set_other places place other value false apart ∙ (has.each other ∙ ap (λ content. unwrap_or (option_map test content) false) (sym (others other apart)))

-- the places as they were, since what is asked of the block at the changed place is as it was
pub same : (test : Block → Bool) (old new : Table Block) (places : List Bool) (place : ℕ) → length new ≡ length old
    → ((other : ℕ) → other ≢ place → block_at new other ≡ block_at old other) → passes_at test new place ≡ passes_at test old place → HasThosePlaces test old places → HasThosePlaces test new places
same test old new places place long others is has = kept test old new places long (λ other. go other (cases_eq other place)) has
  where
    go : (other : ℕ) → (other ≡ place) ⊎ (other ≡ place → ⊥) → passes_at test new other ≡ passes_at test old other
    go other (inl here) = rw here is
    go other (inr apart) = ap (λ content. unwrap_or (option_map test content) false) (others other apart)

-- Pages --------------------------------------------------------------------------------------------

no-place : (n place : ℕ) → get_or (replicate n false) place false ≡ false
no-place zero place = refl
no-place (suc n) zero = refl
no-place (suc n) (suc place) = no-place n place

no-block : (n number slot : ℕ) → option_and_then (block_in {X = Block} slot) (get_or {A = Option (Page Block)} (replicate n None) number None) ≡ None
no-block zero number slot = refl
no-block (suc n) zero slot = refl
no-block (suc n) (suc number) slot = no-block n number slot

length-none : {X : Type 0} (n : ℕ) (x : X) → length (replicate n x) ≡ n
length-none zero x = refl
length-none (suc n) x = ap suc (length-none n x)

pub empty_index : (pages : ℕ) → IsIndexOf (replicate pages None) (record { marked = replicate (64 * pages) false; forwarders = replicate (64 * pages) false; cycle = 0 })
empty_index pages = record { marks = none (is_marked 0); forwards = none is_forwarder }
  where
    none : (test : Block → Bool) → HasThosePlaces test (replicate pages None) (replicate (64 * pages) false)
    none test = grind (arith, length-none, no-place, no-block)

-- a table whose blocks are all as they were
still : (old new : Table Block) (index : Index) → length new ≡ length old → ((place : ℕ) → block_at new place ≡ block_at old place) → IsIndexOf old index → IsIndexOf new index
still old new index long alike is = grind (arith, kept)

flagged-same : (table : Table Block) (number : ℕ) (is_flagged : Bool) (other slot : ℕ) → option_and_then (block_in slot) (page_at (with_flag table number is_flagged) other) ≡ option_and_then (block_in slot) (page_at table other)
flagged-same [] number is_flagged other slot = refl
flagged-same (None ∷ table) zero is_flagged zero slot = refl
flagged-same (Some page ∷ table) zero is_flagged zero slot = refl
flagged-same (page ∷ table) zero is_flagged (suc other) slot = refl
flagged-same (page ∷ table) (suc number) is_flagged zero slot = refl
flagged-same (page ∷ table) (suc number) is_flagged (suc other) slot = flagged-same table number is_flagged other slot

pub flagged_index : (table : Table Block) (number : ℕ) (is_flagged : Bool) (index : Index) → IsIndexOf table index → IsIndexOf (with_flag table number is_flagged) index
flagged_index table number is_flagged index is = still table (with_flag table number is_flagged) index (length-set table number _) (λ place. flagged-same table number is_flagged (page_number place) (slot_number place)) is

none-counted : (slots : List (Option Block)) (slot : ℕ) → block_count slots ≡ 0 → get_or slots slot None ≡ None
none-counted [] slot none = refl
none-counted (None ∷ slots) zero none = refl
none-counted (None ∷ slots) (suc slot) none = none-counted slots slot none
none-counted (Some block ∷ slots) slot none = absurd (omega arith)

freed-same : (table : Table Block) (number other slot : ℕ) → count_at table number ≡ 0 → option_and_then (block_in slot) (page_at (set table number None) other) ≡ option_and_then (block_in slot) (page_at table other)
freed-same [] number other slot empty = refl
freed-same (None ∷ table) zero zero slot empty = refl
freed-same (Some page ∷ table) zero zero slot empty = sym (none-counted page.slots slot empty)
freed-same (page ∷ table) zero (suc other) slot empty = refl
freed-same (page ∷ table) (suc number) zero slot empty = refl
freed-same (page ∷ table) (suc number) (suc other) slot empty = freed-same table number other slot empty

pub freed_index : (table : Table Block) (number : ℕ) (index : Index) → count_at table number ≡ 0 → IsIndexOf table index → IsIndexOf (set table number None) index
freed_index table number index empty is = still table (set table number None) index (length-set table number None) (λ place. freed-same table number (page_number place) (slot_number place) empty) is

-- Blocks -------------------------------------------------------------------------------------------

-- a block changed, which has the stamp and leads where it led
pub changed_index : (table : Table Block) (place : ℕ) (change : Block → Block) (index : Index) → IsSome (block_at table place) → ((block : Block) → (change block).forward ≡ block.forward) → ((block : Block) → (change block).stamp ≡ block.stamp)
    → IsIndexOf table index → IsIndexOf (with_block_change table place change) index
changed_index table place change index some forward stamp is = record {
  marks = held (is_marked index.cycle) index.marked (λ block. ap (λ s. s == index.cycle) (stamp block)) is.marks;
  forwards = held is_forwarder index.forwarders (λ block. ap is_some (forward block)) is.forwards;
}
  where
    held : (test : Block → Bool) (places : List Bool) → ((block : Block) → test (change block) ≡ test block) → HasThosePlaces test table places → HasThosePlaces test (with_block_change table place change) places
    held test places alike has =
        same test table (with_block_change table place change) places place (length-set table (page_number place) _) (λ other apart. block_at-with_block_other table place other _ apart)
        (ap (λ content. unwrap_or (option_map test content) false) (block_at-with_block_there table place _ some) ∙ twice (block_at table place)) has
      where
        twice : (content : Option Block) → unwrap_or (option_map test (option_map change content)) false ≡ unwrap_or (option_map test content) false
        twice None = refl
        twice (Some block) = alike block

pub stamped_index : (table : Table Block) (place stamp : ℕ) (index : Index) → IsSome (block_at table place) → IsIndexOf table index → IsIndexOf (with_stamp_at table place stamp) (record index { marked = set index.marked place (stamp == index.cycle) })
stamped_index table place stamp index some is = record {
  marks =
      changed (is_marked index.cycle) table (with_stamp_at table place stamp) index.marked place (stamp == index.cycle) (page_inside table place some) (length-set table (page_number place) _)
      (λ other apart. block_at-with_block_other table place other _ apart)
      (sym (ap (λ content. unwrap_or (option_map (is_marked index.cycle) content) false) (block_at-with_block_there table place _ some) ∙ stamped (block_at table place) some)) is.marks;
  forwards =
      same is_forwarder table (with_stamp_at table place stamp) index.forwarders place (length-set table (page_number place) _) (λ other apart. block_at-with_block_other table place other _ apart)
      (ap (λ content. unwrap_or (option_map is_forwarder content) false) (block_at-with_block_there table place _ some) ∙ leads (block_at table place)) is.forwards;
}
  where
    stamped : (content : Option Block) → IsSome content → unwrap_or (option_map (is_marked index.cycle) (option_map (λ (block : Block). record block { stamp = stamp }) content)) false ≡ (stamp == index.cycle)
    stamped None none = absurd (false≢true none)
    stamped (Some block) some = refl

    leads : (content : Option Block) → unwrap_or (option_map is_forwarder (option_map (λ (block : Block). record block { stamp = stamp }) content)) false ≡ unwrap_or (option_map is_forwarder content) false
    leads None = refl
    leads (Some block) = refl

-- a block put at a free place, which is no forwarder
pub taken_index : (table : Table Block) (size place : ℕ) (block : Block) (index : Index) → IsFreeFor table size place → block.forward ≡ None → IsIndexOf table index
    → IsIndexOf (with_taken table size place block) (record index { marked = set index.marked place (block.stamp == index.cycle) })
taken_index table size place block index free original is = record {
  marks =
      changed (is_marked index.cycle) table (with_taken table size place block) index.marked place (block.stamp == index.cycle) free.inside (length-set table (page_number place) _)
      (λ other apart. block_at-with_taken_other table size place other block apart)
      (sym (ap (λ content. unwrap_or (option_map (is_marked index.cycle) content) false) (block_at-with_taken_same table size place block free))) is.marks;
  forwards =
      same is_forwarder table (with_taken table size place block) index.forwarders place (length-set table (page_number place) _) (λ other apart. block_at-with_taken_other table size place other block apart)
      (ap (λ content. unwrap_or (option_map is_forwarder content) false) (block_at-with_taken_same table size place block free)
      ∙ (ap is_some original ∙ sym (ap (λ content. unwrap_or (option_map is_forwarder content) false) free.empty))) is.forwards;
}

-- a block taken back
only-one : (slots : List (Option Block)) (slot other : ℕ) → block_count slots ≡ 1 → IsSome (get_or slots slot None) → other ≢ slot → get_or slots other None ≡ None
only-one [] slot other one some apart = refl
only-one (None ∷ slots) zero other one some apart = absurd (false≢true some)
only-one (None ∷ slots) (suc slot) zero one some apart = refl
only-one (None ∷ slots) (suc slot) (suc other) one some apart = only-one slots slot other one some (λ e. apart (ap suc e))
only-one (Some block ∷ slots) zero zero one some apart = absurd (apart refl)
only-one (Some block ∷ slots) zero (suc other) one some apart = none-counted slots other (omega arith)
only-one (Some block ∷ slots) (suc slot) other one some apart = absurd (false≢true (sym (ap is_some (none-counted slots slot (omega arith))) ∙ some))

freed-other : (table : Table Block) (number slot other : ℕ) → count_at table number ≡ 1 → IsSome (option_and_then (block_in slot) (page_at table number)) → other ≢ slot → option_and_then (block_in other) (page_at (set table number None) number) ≡ option_and_then (block_in other) (page_at table number)
freed-other [] number slot other one some apart = refl
freed-other (None ∷ table) zero slot other one some apart = refl
freed-other (Some page ∷ table) zero slot other one some apart = sym (only-one page.slots slot other one some apart)
freed-other (page ∷ table) (suc number) slot other one some apart = freed-other table number slot other one some apart

freed-here : (table : Table Block) (number slot : ℕ) → option_and_then (block_in slot) (page_at (set table number None) number) ≡ None
freed-here [] number slot = refl
freed-here (page ∷ table) zero slot = refl
freed-here (page ∷ table) (suc number) slot = freed-here table number slot

released-other : (table : Table Block) (place : ℕ) (frees_page : Bool) (other : ℕ) → IsSome (block_at table place) → (frees_page ≡ true → count_at table (page_number place) ≡ 1) → other ≢ place → block_at (with_released table place frees_page) other ≡ block_at table other
released-other table place false other some alone apart = block_at-with_block_other table place other None apart
released-other table place true other some alone apart = grind (arith, cases_eq, inl, freed-other, inr, get_or-set_other)

released-here : (table : Table Block) (place : ℕ) (frees_page : Bool) → IsSome (block_at table place) → block_at (with_released table place frees_page) place ≡ None
released-here table place false some = block_at-with_block_there table place None some
released-here table place true some = freed-here table (page_number place) (slot_number place)

released-long : (table : Table Block) (place : ℕ) (frees_page : Bool) → length (with_released table place frees_page) ≡ length table
released-long table place false = length-set table (page_number place) _
released-long table place true = length-set table (page_number place) None

pub released_index : (table : Table Block) (place : ℕ) (frees_page : Bool) (index : Index) → IsSome (block_at table place) → (frees_page ≡ true → count_at table (page_number place) ≡ 1) → IsIndexOf table index
    → IsIndexOf (with_released table place frees_page) (record index { marked = set index.marked place false; forwarders = set index.forwarders place false })
released_index table place frees_page index some alone is = record { marks = out (is_marked index.cycle) index.marked is.marks; forwards = out is_forwarder index.forwarders is.forwards }
  where
    out : (test : Block → Bool) (places : List Bool) → HasThosePlaces test table places → HasThosePlaces test (with_released table place frees_page) (set places place false)
    out test places has =
        changed test table (with_released table place frees_page) places place false (page_inside table place some) (released-long table place frees_page) (λ other apart. released-other table place frees_page other some alone apart)
        (sym (ap (λ content. unwrap_or (option_map test content) false) (released-here table place frees_page some))) has

-- a block moved, which was no forwarder
pub moved_index : (table : Table Block) (place : ℕ) (move : Move) (index : Index) → block_at table place ≡ Some move.block → move.block.forward ≡ None → IsFreeFor table move.class_size move.target → IsIndexOf table index
    → IsIndexOf (moved_table table place move) (record index { marked = set index.marked move.target (get_or index.marked place false); forwarders = set index.forwarders place true })
moved_index table place move index at original free is =
    let put = with_taken table move.class_size move.target move.block in
    let some : IsSome (block_at table place) = ap is_some at in
    let still_there : block_at put place ≡ Some move.block = block_at-with_taken_there table move.class_size move.target place move.block free some ∙ at in
    let copied = taken_index table move.class_size move.target move.block index free original is in
    let mark : (move.block.stamp == index.cycle) ≡ get_or index.marked place false = sym (is.marks.each place ∙ ap (λ content. unwrap_or (option_map (is_marked index.cycle) content) false) at) in
    let gone : Block = record (move.block) { forward = Some move.target } in
    record {
      marks =
          rw (← mark)
          (same (is_marked index.cycle) put (with_block put place (Some gone)) (set index.marked move.target (move.block.stamp == index.cycle)) place (length-set put (page_number place) _) (λ other apart. block_at-with_block_other put place other _ apart)
          (ap (λ content. unwrap_or (option_map (is_marked index.cycle) content) false) (block_at-with_block_there put place (Some gone) (ap is_some still_there)) ∙ sym (ap (λ content. unwrap_or (option_map (is_marked index.cycle) content) false) still_there)) copied.marks);
      forwards =
          changed is_forwarder put (with_block put place (Some gone)) index.forwarders place true (page_inside put place (ap is_some still_there)) (length-set put (page_number place) _) (λ other apart. block_at-with_block_other put place other _ apart)
          (sym (ap (λ content. unwrap_or (option_map is_forwarder content) false) (block_at-with_block_there put place (Some gone) (ap is_some still_there)))) copied.forwards;
    }
