-- Free pages, and the room that unflagged pages of a class have: what one place taken and one block changed do to them.
-- A place taken in a page in use opens no page. One taken in a free page opens it, with room for all but one of its slots.
use Rattle.std.proofs.Common.{◌≡◌, ◌≢◌, ℕ, zero, suc, ◌+◌, ◌<◌, ◌≤◌, ◌&&◌, Bool, true, false, if◌then◌else◌, Option, Some, None, is_some, option_map, option_and_then, unwrap_or, inl, inr, List, [], ◌∷◌, length, get_or, set, replicate, refl, sym, ap, ◌∙◌, subst, arith, eq-eqb}
use Rattle.std.proofs.{lemmas.Bool.{cases_eq, eqb-true, false≢true, true≢false}, lemmas.Option.{none-some, same_Some}}
use Rattle.std.proofs.lemmas.List.{set-get_or, get_or-set_same, get_or-set_other, length-set}
use Rattle.std.proofs.lemmas.List.Sums.{sum_by-cons, sum_by-set}
use Rattle.std.specs.List.{sum_by}
use Rattle.mh_model.specs.Classes.{slots_in}
use Rattle.mh_model.specs.Pages.{Page, Table, page_number, slot_number, page_at, block_in, block_at, flag_at, free_pages, is_dense, empty_slot, open_slot, page_with, with_block, page_for, with_taken}
use Rattle.mh_model.specs.Openings.{LeavesFlagged}
use Rattle.mh_table_laws.specs.Auxiliary.{GivesNone}
use Rattle.mh_table_laws.proofs.Lists.{below_length, get_or-set_either}
use Rattle.mh_table_laws.proofs.placing.Places.{with_block-self, block_at-with_block_other, block_at-with_taken_other}

if-room : (dense : Bool) (old new : ℕ) → old ≤ new + 1 → (if dense then old else 0) ≤ (if dense then new else 0) + 1
if-room dense old new few = grind arith

module _ {X : Type 0} where
  -- how many of these slots have no block
  abbrev pub empties : List (Option X) → ℕ
  empties [] = 0
  empties (None ∷ slots) = suc (empties slots)
  empties (Some block ∷ slots) = empties slots

  -- how many blocks of a class a page has room for, if it isn't flagged
  abbrev pub room_in : ℕ → Option (Page X) → ℕ
  room_in size None = 0
  room_in size (Some page) = if is_dense size page then empties page.slots else 0

  -- the room of a class in all pages in use that aren't flagged
  abbrev pub dense_room : Table X → ℕ → ℕ
  dense_room table size = sum_by (room_in size) table

  abbrev pub if_free : Option (Page X) → ℕ
  if_free None = 1
  if_free (Some page) = 0

  -- Slots ----------------------------------------------------------------------------------------

  -- one block takes one slot at most
  empties-set : (slots : List (Option X)) (slot : ℕ) (block : X) → empties slots ≤ empties (set slots slot (Some block)) + 1
  empties-set (None ∷ slots) (suc slot) block = omega (arith, empties-set slots slot block)
  empties-set (Some other ∷ slots) (suc slot) block = empties-set slots slot block
  empties-set slots slot block = omega arith

  -- a block exchanged for another takes none
  empties-same : (slots : List (Option X)) (slot : ℕ) (content : Option X) → is_some content ≡ is_some (get_or slots slot None) → empties (set slots slot content) ≡ empties slots
  empties-same (None ∷ slots) (suc slot) content same = ap suc (empties-same slots slot content same)
  empties-same (Some other ∷ slots) (suc slot) content same = empties-same slots slot content same
  empties-same slots slot content same = grind (arith, false≢true)

  empties-none : (slots : List (Option X)) → empty_slot slots ≡ None → empties slots ≡ 0
  empties-none [] none = refl
  empties-none (None ∷ slots) none = absurd (none-some 0 (sym none))
  empties-none (Some block ∷ slots) none = grind (arith, none-some, empties-none slots)

  -- Pages ----------------------------------------------------------------------------------------

  room-page_with : (size slot : ℕ) (block : X) (page : Page X) → room_in size (Some page) ≤ room_in size (Some (page_with slot (Some block) page)) + 1
  room-page_with size slot block page = if-room (is_dense size page) (empties page.slots) (empties (set page.slots slot (Some block))) (empties-set page.slots slot block)

  -- a page has no room for another class
  room-other : (size : ℕ) (page : Page X) → page.class_size ≢ size → room_in size (Some page) ≡ 0
  room-other size page other = grind (arith, eqb-true)

  room-same : (size slot : ℕ) (content : Option X) (page : Page X) → is_some content ≡ is_some (block_in slot page) → room_in size (Some (page_with slot content page)) ≡ room_in size (Some page)
  room-same size slot content page same = ap (λ n. if is_dense size page then n else 0) (empties-same page.slots slot content same)

  room-none : (size : ℕ) (content : Option (Page X)) → open_slot (is_dense size) content ≡ None → room_in size content ≡ 0
  room-none size content none = grind (arith, empties-none)

-- a page that was free has the slots of its class
module _ (X : Type 0) where
  empties-replicate : (count : ℕ) → empties (replicate {A = Option X} count None) ≡ count
  empties-replicate zero = refl
  empties-replicate (suc count) = omega (arith, empties-replicate count)

  room-fresh : (size : ℕ) → room_in {X = X} size (Some (page_for size None)) ≡ slots_in size
  room-fresh size = ap (λ b. if b && true then empties (replicate {A = Option X} (slots_in size) None) else 0) (eq-eqb size size refl) ∙ empties-replicate (slots_in size)

-- Tables -----------------------------------------------------------------------------------------

module _ {X : Type 0} where
  free_pages-sum : (table : Table X) → free_pages table ≡ sum_by if_free table
  free_pages-sum [] = refl
  free_pages-sum (None ∷ table) = omega (arith, free_pages-sum table, sum_by-cons if_free None table)
  free_pages-sum (Some page ∷ table) = omega (arith, free_pages-sum table, sum_by-cons if_free (Some page) table)

  pub free_pages-set : (table : Table X) (number : ℕ) (new : Option (Page X)) → number < length table → free_pages (set table number new) + if_free (page_at table number) ≡ free_pages table + if_free new
  free_pages-set table number new inside = omega (arith, free_pages-sum table, free_pages-sum (set table number new), sum_by-set if_free table number new None inside)

  pub dense_room-set : (table : Table X) (number : ℕ) (new : Option (Page X)) (size : ℕ) → number < length table → dense_room (set table number new) size + room_in size (page_at table number) ≡ dense_room table size + room_in size new
  dense_room-set table number new size inside = sum_by-set (room_in size) table number new None inside

  -- If the first tier gives no place, there is no room
  pub dense_room-none : (table : Table X) (size : ℕ) → GivesNone (open_slot (is_dense size)) table → dense_room table size ≡ 0
  dense_room-none [] size none = refl
  dense_room-none (page ∷ table) size none =
      omega (arith, sum_by-cons (room_in size) page table, room-none size page (none 0 (omega arith)), dense_room-none table size (λ number inside. none (suc number) (omega arith)))

  -- a place taken in a page in use opens none, and takes one place of its class at most
  pub record TakesRoom (size : ℕ) (old new : Table X) : Type 0 where
    pub free : free_pages new ≡ free_pages old
    pub own : dense_room old size ≤ dense_room new size + 1
    pub others : (other : ℕ) → other ≢ size → dense_room old other ≤ dense_room new other

  pub taken-in_use : (table : Table X) (size place : ℕ) (block : X) (page : Page X) → page_at table (page_number place) ≡ Some page → page.class_size ≡ size → TakesRoom size table (with_taken table size place block)
  taken-in_use table size place block page at of_class = record {
    free = omega (arith, free_pages-set table number new inside, ap if_free at);
    own = omega (arith, dense_room-set table number new size inside, old_room size, new_room size, room-page_with size (slot_number place) block page);
    others = λ other apart. omega (arith, dense_room-set table number new other inside, old_room other, room-other other page (λ e. apart (sym e ∙ of_class)));
  }
    where
      number : ℕ
      number = page_number place

      new : Option (Page X)
      new = Some (page_with (slot_number place) (Some block) (page_for size (page_at table number)))

      inside : number < length table
      inside = below_length table number page at

      old_room : (other : ℕ) → room_in other (page_at table number) ≡ room_in other (Some page)
      old_room other = ap (room_in other) at

      new_room : (other : ℕ) → room_in other new ≡ room_in other (Some (page_with (slot_number place) (Some block) page))
      new_room other = ap (λ content. room_in other (Some (page_with (slot_number place) (Some block) (page_for size content)))) at

  -- a place taken in a free page opens that, with room for all but one of its slots
  pub record OpensPage (size : ℕ) (old new : Table X) : Type 0 where
    pub free : free_pages old ≡ suc (free_pages new)
    pub own : dense_room old size + slots_in size ≤ dense_room new size + 1
    pub others : (other : ℕ) → dense_room old other ≤ dense_room new other

  pub taken-fresh : (table : Table X) (size place : ℕ) (block : X) → page_number place < length table → page_at table (page_number place) ≡ None → OpensPage size table (with_taken table size place block)
  taken-fresh table size place block inside at = record {
    free = omega (arith, free_pages-set table number new inside, ap if_free at);
    own = omega (arith, dense_room-set table number new size inside, old_room size, new_room size, room-page_with size (slot_number place) block (page_for size None), room-fresh X size);
    others = λ other. omega (arith, dense_room-set table number new other inside, old_room other);
  }
    where
      number : ℕ
      number = page_number place

      new : Option (Page X)
      new = Some (page_with (slot_number place) (Some block) (page_for size (page_at table number)))

      old_room : (other : ℕ) → room_in other (page_at table number) ≡ 0
      old_room other = ap (room_in other) at

      new_room : (other : ℕ) → room_in other new ≡ room_in other (Some (page_with (slot_number place) (Some block) (page_for size None)))
      new_room other = ap (λ content. room_in other (Some (page_with (slot_number place) (Some block) (page_for size content)))) at

  -- Flagged pages -------------------------------------------------------------------------------

  -- a page with the class and as many slots as another, and no block where that has none
  pub record IsNoFuller (old new : Page X) : Type 0 where
    pub class : new.class_size ≡ old.class_size
    pub slots : length new.slots ≡ length old.slots
    pub empty : (slot : ℕ) → block_in slot old ≡ None → block_in slot new ≡ None

  -- a page of this number was flagged, and is no fuller now
  pub record WasFlagged (old : Table X) (number : ℕ) (page : Page X) : Type 0 where
    pub before : Page X
    pub in_use : page_at old number ≡ Some before
    pub flag : before.is_flagged ≡ true
    pub fuller : IsNoFuller before page

  -- flagged pages are left alone, and there are no others
  pub record LeavesAlone (old new : Table X) : Type 0 where
    pub flagged : LeavesFlagged old new
    pub only : (number : ℕ) (page : Page X) → page_at new number ≡ Some page → page.is_flagged ≡ true → WasFlagged old number page

  no_fuller-same : (page : Page X) → IsNoFuller page page
  no_fuller-same page = record { class = refl; slots = refl; empty = λ slot none. none }

  pub alone-same : (table : Table X) → LeavesAlone table table
  alone-same table = grind (arith, no_fuller-same)

  pub alone-then : (first second third : Table X) → LeavesAlone first second → LeavesAlone second third → LeavesAlone first third
  alone-then first second third one two = record {
    flagged = grind arith;
    only = λ number page at flag.
        let later = two.only number page at flag in
        let earlier = one.only number later.before later.in_use later.flag in
        grind arith;
  }

  -- a place that is taken in a page that isn't flagged
  pub alone-taken : (table : Table X) (size place : ℕ) (block : X) → flag_at table (page_number place) ≡ false → LeavesAlone table (with_taken table size place block)
  alone-taken table size place block unflagged = record {
    flagged = grind (arith, flag_of, get_or-set_other, apart, block_at-with_taken_other);
    only = λ number page at flag. grind (arith, get_or-set_either, true≢false, is_flagged_page, same_Some, taken_flag, no_fuller-same);
  }
    where
      flag_of : Option (Page X) → Bool
      flag_of content = unwrap_or (option_map (λ used. used.is_flagged) content) false

      is_flagged_page : Page X → Bool
      is_flagged_page page = page.is_flagged

      taken_flag : (content : Option (Page X)) → flag_of content ≡ false → (page_for size content).is_flagged ≡ false
      taken_flag content e = grind arith

      apart : (number : ℕ) → flag_at table number ≡ true → number ≢ page_number place
      apart number flag same = false≢true (sym unflagged ∙ ap (flag_at table) (sym same) ∙ flag)

  -- Blocks exchanged ------------------------------------------------------------------------------

  -- a page of this number had its class
  pub record HadClass (old : Table X) (number : ℕ) (page : Page X) : Type 0 where
    pub before : Page X
    pub in_use : page_at old number ≡ Some before
    pub class : page.class_size ≡ before.class_size

  -- Tables with as many free pages, as much room and the same flags and classes, in which no block is new
  pub record HasSameRoom (old new : Table X) : Type 0 where
    pub classes : (number : ℕ) (page : Page X) → page_at new number ≡ Some page → HadClass old number page
    pub free : free_pages new ≡ free_pages old
    pub room : (size : ℕ) → dense_room new size ≡ dense_room old size
    pub flagged : LeavesAlone old new

  pub same_room : (table : Table X) → HasSameRoom table table
  same_room table = record { classes = λ number page at. record { before = page; in_use = at; class = refl }; free = refl; room = λ size. refl; flagged = alone-same table }

  pub same_room-then : (first second third : Table X) → HasSameRoom first second → HasSameRoom second third → HasSameRoom first third
  same_room-then first second third one two = record {
    classes = λ number page at. let later = two.classes number page at in let earlier = one.classes number later.before later.in_use in record { before = earlier.before; in_use = earlier.in_use; class = later.class ∙ earlier.class };
    free = two.free ∙ one.free;
    room = λ size. two.room size ∙ one.room size;
    flagged = alone-then first second third one.flagged two.flagged;
  }

  is_none-of : (content : Option X) → is_some content ≡ false → content ≡ None
  is_none-of content none = grind (arith, false≢true)

  exchanged-empty : (table : Table X) (place : ℕ) (content : Option X) → is_some content ≡ is_some (block_at table place) → (other : ℕ) → block_at table other ≡ None → block_at (with_block table place content) other ≡ None
  exchanged-empty table place content same other none = grind (arith, cases_eq, is_none-of, with_block-self, block_at-with_block_other)

  exchanged-flags : (table : Table X) (number slot : ℕ) (content : Option X) (other : ℕ) → flag_at (set table number (option_map (page_with slot content) (page_at table number))) other ≡ flag_at table other
  exchanged-flags (page ∷ table) (suc number) slot content (suc other) = exchanged-flags table number slot content other
  exchanged-flags table number slot content other = grind arith

  exchanged-slot : (slots : List (Option X)) (slot : ℕ) (content : Option X) (other : ℕ) → is_some content ≡ is_some (get_or slots slot None) → get_or slots other None ≡ None → get_or (set slots slot content) other None ≡ None
  exchanged-slot (old ∷ slots) (suc slot) content (suc other) same none = exchanged-slot slots slot content other same none
  exchanged-slot slots slot content other same none = grind (arith, is_none-of)

  exchanged-only : (table : Table X) (number slot : ℕ) (content : Option X) (page : Page X) → page_at table number ≡ Some page → is_some content ≡ is_some (block_in slot page)
      → (other : ℕ) (now : Page X) → page_at (set table number (Some (page_with slot content page))) other ≡ Some now → now.is_flagged ≡ true → WasFlagged table other now
  exchanged-only table number slot content page at same other now is flag = elim (cases_eq other number) [
    | inl here ↦ grind (arith, same_Some, get_or-set_same, below_length, length-set, exchanged-slot)
    | inr apart ↦ record { before = now; in_use = sym (get_or-set_other table number other (Some (page_with slot content page)) None apart) ∙ is; flag = flag; fuller = no_fuller-same now }
  ]

  exchanged-class : (table : Table X) (number slot : ℕ) (content : Option X) (page : Page X) → page_at table number ≡ Some page → (other : ℕ) (now : Page X) → page_at (set table number (Some (page_with slot content page))) other ≡ Some now → HadClass table other now
  exchanged-class table number slot content page at other now is = grind (arith, cases_eq, same_Some, get_or-set_same, below_length, get_or-set_other)

  -- A block exchanged for another
  pub same_room-with_block : (table : Table X) (place : ℕ) (content : Option X) → is_some content ≡ is_some (block_at table place) → HasSameRoom table (with_block table place content)
  same_room-with_block table place content same = grind (arith, go, number, exchanged-flags, exchanged-empty)
    where
      number : ℕ
      number = page_number place

      go : (old : Option (Page X)) → page_at table number ≡ old → is_some content ≡ is_some (option_and_then (block_in (slot_number place)) old) → LeavesFlagged table (with_block table place content)
          → HasSameRoom table (set table number (option_map (page_with (slot_number place) content) old))
      go None at e leaves = subst (HasSameRoom table) (sym (set-get_or table number None) ∙ ap (set table number) at) (same_room table)
      go (Some page) at e leaves =
          let new : Option (Page X) = Some (page_with (slot_number place) content page) in
          let inside : number < length table = below_length table number page at in
          record {
            classes = exchanged-class table number (slot_number place) content page at;
            free = omega (arith, free_pages-set table number new inside, ap if_free at);
            room = λ size. omega (arith, dense_room-set table number new size inside, ap (room_in size) at, room-same size (slot_number place) content page e);
            flagged = grind (arith, number, exchanged-only);
          }
