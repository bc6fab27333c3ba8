-- Parts that find a place in unflagged or free pages, if as many pages were free as they may open.
use Rattle.std.proofs.Common.{◌≡◌, ℕ, suc, ◌+◌, ◌<◌, ◌≤◌, Bool, true, false, Option, Some, None, IsSome, is_some, option_map, option_and_then, unwrap_or, List, [], ◌∷◌, length, slice_get, refl, ap, ◌∙◌, arith}
use Rattle.std.proofs.lemmas.Option.{none-some, same_Some}
use Rattle.mh_model.specs.Classes.{Part, class_sizes, class_of, part_words, is_class_size}
use Rattle.mh_model.specs.Pages.{Page, Table, page_number, page_at, flag_at, free_pages, is_dense, open_slot, fresh_slot, least, least_dense_place, least_place, with_taken, HaveTheirSlots}
use Rattle.mh_model.specs.Table.{Block, Made, MadeParts, new_block, made_in_class, made_parts, linked_parts, group_of, made_group}
use Rattle.mh_model.specs.Openings.{class_parts}
use Rattle.mh_table_laws.proofs.Lists.{from_some}
use Rattle.mh_table_laws.proofs.placing.Places.{shaped-slots, least-is, least-some, least-none, least_dense_place-page}
use Rattle.mh_table_laws.proofs.tables.PageSlots.{class_of-class_size}
use Rattle.mh_laws.proofs.rooms.Rooms.{LeavesAlone, dense_room-none, alone-same, alone-then, alone-taken}
use Rattle.mh_laws.proofs.rooms.{FirstParts.taken-slots, KeptRoom.linked_parts-room}
use Rattle.mh_size_laws.proofs.openings.MadeParts.{one_of, IsOpened, opened-taken, class_parts-cons, among-classes, pages_of, pages_of-more, room-left}

-- One part ---------------------------------------------------------------------------------------

-- the least place of a class is there, and not in a flagged page
pub record HasPlace {X : Type 0} (table : Table X) (size : ℕ) : Type 0 where
  pub place : ℕ
  pub least : least_place table size ≡ Some place
  pub unflagged : flag_at table (page_number place) ≡ false

-- the flag of a page's content
abbrev flag_of : {X : Type 0} → Option (Page X) → Bool
flag_of content = unwrap_or (option_map (λ page. page.is_flagged) content) false

-- a table with a free page has a free one of some number
pub free-number : {X : Type 0} (table : Table X) → 0 < free_pages table → (number : ℕ) × (number < length table) × (page_at table number ≡ None)
free-number (Some page ∷ table) some = let (number, inside, free) = free-number table some in (suc number, omega arith, free)
free-number table some = grind arith

fresh-small : {X : Type 0} (table : Table X) (number slot : ℕ) → fresh_slot (page_at table number) ≡ Some slot → (page_at table number ≡ None) × (slot < 64)
fresh-small {X = X} table number slot e = grind (arith, same_Some, none-some)

pub free-place : {X : Type 0} (table : Table X) (size : ℕ) → least_dense_place table size ≡ None → 0 < free_pages table → HasPlace table size
free-place table size none some =
    let (number, inside, free) = free-number table some in
    let (place, is) = from_some (least fresh_slot table) (least-some fresh_slot table number inside (ap (λ content. is_some (fresh_slot content)) free)) in
    grind (arith, least-is, fresh-small, place)

pub dense-place : {X : Type 0} (table : Table X) (size place : ℕ) → HaveTheirSlots table → least_dense_place table size ≡ Some place → HasPlace table size
dense-place table size place slots found =
    let (page, at, of_class, unflagged, empty) = least_dense_place-page table size (shaped-slots table slots) place found in
    grind (arith, place, ap flag_of at ∙ unflagged)

-- A class has a place in an unflagged or a free page, if one more block of it would open no more pages than were free
pub place-found : (asked : ℕ → ℕ) (start now : Table Block) (size : ℕ) → is_class_size size ≡ true → HaveTheirSlots now → IsOpened class_sizes asked start now → pages_of (λ k. asked k + one_of size k) class_sizes ≤ free_pages start → HasPlace now size
place-found asked start now size class slots is fits = go (least_dense_place now size) refl
  where
    go : (dense : Option ℕ) → least_dense_place now size ≡ dense → HasPlace now size
    go None none = free-place now size none (room-left asked start now size class is (dense_room-none now size (least-none (open_slot (is_dense size)) now none)) fits)
    go (Some place) found = dense-place now size place slots found

-- Parts in order ---------------------------------------------------------------------------------

-- each of these parts has a class
abbrev pub HaveClasses : List Part → Type 0
HaveClasses list = (i : ℕ) (part : Part) → slice_get list i ≡ Some part → IsSome (class_of (part_words part))

-- parts that are all made, none of them in a flagged page
pub record AreFound (now : Table Block) (birth stamp index : ℕ) (list : List Part) : Type 0 where
  pub made : MadeParts
  pub is : made_parts now birth stamp index list ≡ Some made
  pub count : length made.places ≡ length list
  pub flagged : LeavesAlone now made.table

-- Parts are all made if they open no more pages than were free
pub parts-found : (list : List Part) (asked : ℕ → ℕ) (start now : Table Block) (birth stamp index : ℕ) → HaveClasses list → HaveTheirSlots now → IsOpened class_sizes asked start now
    → pages_of (λ k. asked k + class_parts k list) class_sizes ≤ free_pages start → AreFound now birth stamp index list
parts-found [] asked start now birth stamp index classes slots is fits = record { made = record { places = []; table = now }; is = refl; count = refl; flagged = alone-same now }
parts-found (part ∷ list) asked start now birth stamp index classes slots is fits =
    let (size, of_class) = from_some (class_of (part_words part)) (classes 0 part refl) in
    let class : is_class_size size ≡ true = class_of-class_size (part_words part) size of_class in
    let cons : (k : ℕ) → class_parts k (part ∷ list) ≡ one_of size k + class_parts k list = λ k. class_parts-cons size k part list of_class in
    let here = pages_of-more (λ k. asked k + one_of size k) (λ k. asked k + class_parts k (part ∷ list)) (λ k. omega (arith, cons k)) in
    let place = place-found asked start now size class slots is (omega (arith, here, fits)) in
    let block : Block = new_block birth stamp index part in
    let next : Table Block = with_taken now size place.place block in
    let one = opened-taken class_sizes asked start now size place.place block slots class (among-classes size class) place.least is in
    let later = pages_of-more (λ k. asked k + one_of size k + class_parts k list) (λ k. asked k + class_parts k (part ∷ list)) (λ k. omega (arith, cons k)) in
    let rest = parts-found list (λ k. asked k + one_of size k) start next birth stamp (suc index) (λ i p at. classes (suc i) p at) (taken-slots now size place.place block class slots) one (omega (arith, later, fits)) in
    whole size of_class place rest
  where
    whole : (size : ℕ) → class_of (part_words part) ≡ Some size → (place : HasPlace now size) → AreFound (with_taken now size place.place (new_block birth stamp index part)) birth stamp (suc index) list → AreFound now birth stamp index (part ∷ list)
    whole size of_class place rest =
        let block : Block = new_block birth stamp index part in
        let next : Table Block = with_taken now size place.place block in
        record {
          made = record { places = place.place ∷ rest.made.places; table = rest.made.table };
          is =
              ap (λ (o : Option Made). option_and_then (λ (first : Made). option_map (λ (r : MadeParts). record { places = first.place ∷ r.places; table = r.table }) (made_parts first.table birth stamp (suc index) list)) o)
              (ap (option_and_then (made_in_class now block)) of_class ∙ ap (option_map (λ p. record { place = p; table = with_taken now size p block })) place.least)
              ∙ ap (option_map (λ (r : MadeParts). record { places = place.place ∷ r.places; table = r.table })) rest.is;
          count = ap suc rest.count;
          flagged = alone-then now next rest.made.table (alone-taken now size place.place block place.unflagged) rest.flagged;
        }

-- Objects ----------------------------------------------------------------------------------------

-- an object that is made, with no part in a flagged page
pub record IsFoundWhole (now : Table Block) (birth stamp : ℕ) (list : List Part) : Type 0 where
  pub made : Made
  pub is : made_group now birth stamp list ≡ Some made
  pub flagged : LeavesAlone now made.table

pub group-found : (list : List Part) (asked : ℕ → ℕ) (start now : Table Block) (birth stamp : ℕ) → 0 < length list → HaveClasses list → HaveTheirSlots now → IsOpened class_sizes asked start now
    → pages_of (λ k. asked k + class_parts k list) class_sizes ≤ free_pages start → IsFoundWhole now birth stamp list
group-found list asked start now birth stamp some classes slots is fits =
    let all = parts-found list asked start now birth stamp 0 classes slots is fits in
    go all.made.places all.made.table all.is (omega (arith, all.count, some)) all.flagged
  where
    go : (places : List ℕ) (table : Table Block) → made_parts now birth stamp 0 list ≡ Some (record { places = places; table = table }) → 0 < length places → LeavesAlone now table → IsFoundWhole now birth stamp list
    go [] table made none flagged = absurd (omega arith)
    go (place ∷ places) table made there flagged =
        let linked : Table Block = linked_parts (place ∷ places) table (place ∷ places) list in
        record {
          made = record { place = place; table = linked };
          is = ap (option_and_then (λ (m : MadeParts). group_of m.table m.places list)) made;
          flagged = alone-then now table linked flagged (linked_parts-room (place ∷ places) (place ∷ places) list table).flagged;
        }
