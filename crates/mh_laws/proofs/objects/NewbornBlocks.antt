-- The blocks of an object as it is born: its parts in order, at places that had none, and the references of each part to its children.
use Rattle.std.proofs.Common.{◌≡◌, ℕ, suc, ◌+◌, ◌<◌, ◌≤◌, false, ◌⊎◌, List, [], ◌∷◌, length, get_or, map, take, drop, set, replicate, slice_get, Option, Some, None, option_map, option_and_then, refl, sym, ap, ◌∙◌, subst, arith}
use Rattle.std.proofs.lemmas.Option.{none-some, same_Some, slice_get_within}
use Rattle.std.proofs.lemmas.List.{length-take, length-drop, length-replicate}
use Rattle.mh_model.specs.{declared.shape.Shape.Shape, Classes.{Part, parts, class_of, part_words}}
use Rattle.mh_model.specs.Pages.{Page, Table, page_number, slot_number, page_at, block_at, least_place, page_with, page_for, with_taken}
use Rattle.mh_model.specs.Table.{Block, Made, MadeParts, new_block, made_in_class, made_parts, with_block_change, words_of, linked_block, linked_parts, group_of, made_group}
use Rattle.mh_model.specs.Invariant.{IsPartOf, first_child}
use Rattle.mh_table_laws.specs.Auxiliary.{IsGroup}
use Rattle.mh_table_laws.proofs.{placing.Places.IsShaped, objects.Parts.{slice_there, child_is, children_inside}}
use Rattle.mh_table_laws.proofs.objects.MadeGroups.{length-words_of, made_parts-shaped, made_group-is}
use Rattle.mh_laws.proofs.marking.BlockChanges.{pages-with_block}

-- Flags ------------------------------------------------------------------------------------------

-- no page is flagged that wasn't
abbrev pub FlagsNone : Table Block → Table Block → Type 0
FlagsNone table table' = (number : ℕ) → ((page : Page Block) → page_at table number ≡ Some page → page.is_flagged ≡ false) → (page : Page Block) → page_at table' number ≡ Some page → page.is_flagged ≡ false

flags-with_taken : (table : Table Block) (size place : ℕ) (block : Block) → FlagsNone table (with_taken table size place block)
flags-with_taken table size place block number unflagged page e = go table (page_number place) number unflagged e
  where
    here : (content : Option (Page Block)) → ((p : Page Block) → content ≡ Some p → p.is_flagged ≡ false) → Some (page_with (slot_number place) (Some block) (page_for size content)) ≡ Some page → page.is_flagged ≡ false
    here content u h = grind (arith, same_Some)

    go : (pages : Table Block) (k m : ℕ) → ((p : Page Block) → page_at pages m ≡ Some p → p.is_flagged ≡ false) → page_at (set pages k (Some (page_with (slot_number place) (Some block) (page_for size (page_at pages k))))) m ≡ Some page → page.is_flagged ≡ false
    go (x ∷ pages) (suc k) (suc m) u h = go pages k m u h
    go pages k m u h = grind (arith, none-some, here)

flags-made_parts : (after_parts : List Part) (table : Table Block) (birth stamp index : ℕ) (made : MadeParts) → made_parts table birth stamp index after_parts ≡ Some made → FlagsNone table made.table
flags-made_parts [] table birth stamp index made e = subst (λ m. FlagsNone table m.table) (same_Some (record { places = []; table = table }) made e) (λ number u. u)
flags-made_parts (part ∷ more) table birth stamp index made e = by_class (class_of (part_words part)) (λ t m k. flags-made_parts more t birth stamp (suc index) m k) e
  where
    block : Block
    block = new_block birth stamp index part

    by_rest : (first : Made) (rest : Option MadeParts) → ((m : MadeParts) → rest ≡ Some m → FlagsNone first.table m.table) → FlagsNone table first.table → option_map (λ (r : MadeParts). record { places = first.place ∷ r.places; table = r.table }) rest ≡ Some made → FlagsNone table made.table
    by_rest first None ih one h = absurd (none-some made h)
    by_rest first (Some rest) ih one h = subst (λ m. FlagsNone table m.table) (same_Some (record { places = first.place ∷ rest.places; table = rest.table }) made h) (λ number u. ih rest refl number (one number u))

    by_place : (size : ℕ) (place : Option ℕ) → ((t : Table Block) (m : MadeParts) → made_parts t birth stamp (suc index) more ≡ Some m → FlagsNone t m.table) → option_and_then (λ (first : Made). option_map (λ (r : MadeParts). record { places = first.place ∷ r.places; table = r.table }) (made_parts first.table birth stamp (suc index) more))
        (option_map (λ p. record { place = p; table = with_taken table size p block }) place) ≡ Some made → FlagsNone table made.table
    by_place size place ih h = search (arith, none-some, by_rest, block, flags-with_taken)

    by_class : (size : Option ℕ) → ((t : Table Block) (m : MadeParts) → made_parts t birth stamp (suc index) more ≡ Some m → FlagsNone t m.table) → option_and_then (λ (first : Made). option_map (λ (r : MadeParts). record { places = first.place ∷ r.places; table = r.table }) (made_parts first.table birth stamp (suc index) more))
        (option_and_then (made_in_class table block) size) ≡ Some made → FlagsNone table made.table
    by_class None ih h = absurd (none-some made h)
    by_class (Some size) ih h = by_place size (least_place table size) ih h

-- Newborn objects --------------------------------------------------------------------------------

-- a block of an object that was just born, whose parts are at these places: its references are to its children, if it has any, and else null, and its numbers are 0
pub record IsNewborn (birth stamp : ℕ) (shape : Shape) (places : List ℕ) (index : ℕ) (block : Block) : Type 0 where
  pub birth_is : block.birth ≡ birth
  pub part_is : block.part ≡ index
  pub stamp_is : block.stamp ≡ stamp
  pub live : block.forward ≡ None
  pub part_of : IsPartOf shape block
  pub words : (i r : ℕ) → get_or block.references i None ≡ Some r → (child : ℕ) × (first_child shape index ≡ Some child) × (slice_get places (child + i) ≡ Some r)
  pub spine : (child : ℕ) → first_child shape index ≡ Some child → (i : ℕ) → i < length block.references → (r : ℕ) × (get_or block.references i None ≡ Some r) × (slice_get places (child + i) ≡ Some r)
  pub zeros : (count : ℕ) × (block.numbers ≡ replicate count 0)

-- An object was born: its parts are new blocks at places that had none, and every other block stays
pub record IsObjectBorn (table : Table Block) (birth stamp : ℕ) (shape : Shape) (made : Made) : Type 0 where
  pub places : List ℕ
  pub count : length places ≡ length (parts shape.references shape.numbers)
  pub first : slice_get places 0 ≡ Some (made.place)
  pub each : (i place : ℕ) → slice_get places i ≡ Some place → (block : Block) × (block_at made.table place ≡ Some block) × IsNewborn birth stamp shape places i block
  pub fresh : (i place : ℕ) → slice_get places i ≡ Some place → block_at table place ≡ None
  pub kept : (place : ℕ) (block : Block) → block_at table place ≡ Some block → block_at made.table place ≡ Some block
  pub only : (place : ℕ) (block : Block) → block_at made.table place ≡ Some block → (block_at table place ≡ Some block) ⊎ ((i : ℕ) × (slice_get places i ≡ Some place))
  pub shaped : IsShaped made.table
  pub flags : FlagsNone table made.table

no_word : (count i r : ℕ) → get_or {A = Option ℕ} (replicate count None) i None ≡ Some r → ⊥
no_word (suc count) (suc i) r e = no_word count i r e
no_word count i r e = none-some r e

spine_word : (xs : List ℕ) (i r : ℕ) → get_or (map Some xs) i None ≡ Some r → slice_get xs i ≡ Some r
spine_word (x ∷ xs) (suc i) r e = spine_word xs i r e
spine_word xs i r e = grind (arith, none-some)

word_there : (xs : List ℕ) (i r : ℕ) → slice_get xs i ≡ Some r → get_or (map {A = ℕ} {B = Option ℕ} Some xs) i None ≡ Some r
word_there (x ∷ xs) (suc i) r e = word_there xs i r e
word_there xs i r e = grind (arith, none-some)

-- an element of some that are taken is one of the list
taken : (count i r : ℕ) (xs : List ℕ) → slice_get (take count xs) i ≡ Some r → slice_get xs i ≡ Some r
taken (suc count) (suc i) r (x ∷ xs) e = taken count i r xs e
taken count i r xs e = grind (arith, none-some)

dropped : (first i : ℕ) (xs : List ℕ) → slice_get (drop first xs) i ≡ slice_get xs (first + i)
dropped (suc first) i (x ∷ xs) = let k : suc first + i ≡ suc (first + i) = omega arith in dropped first i xs ∙ ap (slice_get (x ∷ xs)) (sym k)
dropped first i xs = grind arith

-- what the references of a part are
words-of_part : (places : List ℕ) (count : ℕ) (children : Option ℕ) (i r : ℕ) → get_or (words_of places count children) i None ≡ Some r → (child : ℕ) × (children ≡ Some child) × (slice_get places (child + i) ≡ Some r)
words-of_part places count children i r e = grind (arith, no_word, dropped, taken, spine_word)

spine-of_part : (places : List ℕ) (count child i : ℕ) → i < count → child + count ≤ length places → (r : ℕ) × (get_or (words_of places count (Some child)) i None ≡ Some r) × (slice_get places (child + i) ≡ Some r)
spine-of_part places count child i below inside =
    let (r, e) = slice_there (take count (drop child places)) i (omega (arith, below, inside, length-take {A = ℕ}, length-drop {A = ℕ})) in
    (r, word_there (take count (drop child places)) i r e, sym (dropped child i places) ∙ taken count i r (drop child places) e)

module _ (table : Table Block) (birth stamp : ℕ) (shape : Shape) (made : Made) (group : IsGroup table birth stamp (parts shape.references shape.numbers) made) (narrow : IsShaped made.table) (flags : FlagsNone table made.table) where
  abbrev ps : List Part
  ps = parts shape.references shape.numbers

  newborn : (i : ℕ) (part : Part) → slice_get ps i ≡ Some part → IsNewborn birth stamp shape group.places i (linked_block group.places part (new_block birth stamp i part))
  newborn i part f =
      let child : first_child shape i ≡ part.children = child_is shape i part f in
      record {
        birth_is = refl;
        part_is = refl;
        stamp_is = refl;
        live = refl;
        part_of = record { part = part; is = f; header = refl; references = size; numbers = length-replicate part.numbers 0 };
        words = λ j r e. let (k, is, at) = words-of_part group.places part.references part.children j r e in (k, child ∙ is, at);
        spine = λ k is j below. spine k (sym child ∙ is) j (omega (arith, below, size));
        zeros = (part.numbers, refl);
      }
    where
      inside : (k : ℕ) → part.children ≡ Some k → k + part.references ≤ length group.places
      inside k is = let (after, below) = children_inside shape.references shape.numbers i part k f is in omega (arith, below, group.count)

      size : length (words_of group.places part.references part.children) ≡ part.references
      size = length-words_of group.places part.references part.children inside

      spine : (k : ℕ) → part.children ≡ Some k → (j : ℕ) → j < part.references → (r : ℕ) × (get_or (words_of group.places part.references part.children) j None ≡ Some r) × (slice_get group.places (k + j) ≡ Some r)
      spine k is j below = subst (λ o. (r : ℕ) × (get_or (words_of group.places part.references o) j None ≡ Some r) × (slice_get group.places (k + j) ≡ Some r)) (sym is) (spine-of_part group.places part.references k j below (inside k is))

  object_born : IsObjectBorn table birth stamp shape made
  object_born = record {
    places = group.places;
    count = group.count;
    first = group.first;
    each = λ i place at.
        let (part, f) = slice_there ps i (omega (arith, group.count, slice_get_within group.places i place at)) in
        (linked_block group.places part (new_block birth stamp i part), group.there i place part at f, newborn i part f);
    fresh = group.added.fresh;
    kept = group.added.kept;
    only = group.added.only;
    shaped = narrow;
    flags = flags;
  }

-- references change neither slots nor flags
linked-shaped : (all places : List ℕ) (list : List Part) (table : Table Block) → IsShaped table → IsShaped (linked_parts all table places list)
linked-shaped all (place ∷ places) (part ∷ list) table narrow =
    linked-shaped all places list (with_block_change table place (linked_block all part)) (λ number page e. let (old, at, size, flag) = pages-with_block table place _ number page e in let few = narrow number old at in omega (arith, size, few))
linked-shaped all places list table narrow = narrow

linked-flags : (all places : List ℕ) (list : List Part) (table : Table Block) → FlagsNone table (linked_parts all table places list)
linked-flags all (place ∷ places) (part ∷ list) table number u =
    linked-flags all places list (with_block_change table place (linked_block all part)) number (λ page e. let (old, at, size, flag) = pages-with_block table place _ number page e in flag ∙ u old at)
linked-flags all places list table number u = u

-- A new group is an object born
pub made_group-born : (table : Table Block) (birth stamp : ℕ) (shape : Shape) → IsShaped table → (made : Made) → made_group table birth stamp (parts shape.references shape.numbers) ≡ Some made → IsObjectBorn table birth stamp shape made
made_group-born table birth stamp shape shaped made e = by_parts (made_parts table birth stamp 0 ps') refl e
  where
    ps' : List Part
    ps' = parts shape.references shape.numbers

    by_places : (places : List ℕ) (all : Table Block) → IsShaped all → FlagsNone table all → group_of all places ps' ≡ Some made → IsShaped made.table × FlagsNone table made.table
    by_places [] all narrow flags h = absurd (none-some made h)
    by_places (place ∷ places) all narrow flags h =
        subst (λ (m : Made). IsShaped m.table × FlagsNone table m.table) (same_Some (record { place = place; table = linked_parts (place ∷ places) all (place ∷ places) ps' }) made h)
        (linked-shaped (place ∷ places) (place ∷ places) ps' all narrow, λ number u. linked-flags (place ∷ places) (place ∷ places) ps' all number (flags number u))

    by_parts : (m : Option MadeParts) → made_parts table birth stamp 0 ps' ≡ m → option_and_then (λ made. group_of made.table made.places ps') m ≡ Some made → IsObjectBorn table birth stamp shape made
    by_parts None is h = absurd (none-some made h)
    by_parts (Some m) is h =
        let (narrow, flags) = by_places m.places m.table (made_parts-shaped ps' table birth stamp 0 shaped m is) (flags-made_parts ps' table birth stamp 0 m is) h in
        object_born table birth stamp shape made (made_group-is table birth stamp ps' shaped made e) narrow flags
