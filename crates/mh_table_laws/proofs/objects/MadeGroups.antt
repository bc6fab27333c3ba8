-- The parts of a new object: each is a new block at a place that was free, and every other block stays.
use Rattle.std.proofs.Common.{◌≡◌, ℕ, zero, suc, ◌+◌, ◌⊎◌, ◌≢◌, ◌<◌, ◌≤◌, inl, inr, List, [], ◌∷◌, length, Option, Some, None, option_map, option_and_then, refl, sym, ap, ◌∙◌, subst, arith, add-zero, slice_get}
use Rattle.std.proofs.{lemmas.Bool.cases_eq, lemmas.Option.{none-some, same_Some}}
use Rattle.std.proofs.lemmas.List.{length-set, length-replicate, length-map, length-take, length-drop}
use Rattle.mh_model.specs.Classes.{Part, class_of, slots_in, part_words}
use Rattle.mh_model.specs.Pages.{Page, Table, page_number, slot_number, page_at, block_at, least_place, page_with, page_for, with_taken, IsFreeFor}
use Rattle.mh_model.specs.Table.{Block, Made, MadeParts, new_block, made_in_class, made_part, made_parts, with_block_change, words_of, linked_block, linked_parts, group_of, made_group}
use Rattle.mh_table_laws.specs.Auxiliary.{IsMade, AreMade, IsGroup}
use Rattle.mh_table_laws.proofs.{Lists.get_or-set_either, tables.PageSlots.{slots_in-class_size, class_of-class_size}}
use Rattle.mh_table_laws.proofs.placing.Places.{IsShaped, block_at-with_block_same, block_at-with_block_other, least_place-free, block_at-with_taken_same, block_at-with_taken_other, block-slot}

-- Parts ------------------------------------------------------------------------------------------

-- a page has 1 to 64 slots of the class of so many words
pub slots_in-class_of : (words size : ℕ) → class_of words ≡ Some size → (0 < slots_in size) × (slots_in size ≤ 64)
slots_in-class_of words size is = slots_in-class_size size (class_of-class_size words size is)

-- a place taken for a class leaves no page with more than 64 slots
with_taken-shaped : (table : Table Block) (size place : ℕ) (block : Block) → slots_in size ≤ 64 → IsShaped table → IsShaped (with_taken table size place block)
with_taken-shaped table size place block few shaped number page e = elim (get_or-set_either table (page_number place) number (Some new) None (Some page) e) [
  | inl written ↦ let slots : length new.slots ≡ length old.slots = length-set _ _ _ in rw (← same_Some new page written) (omega (arith, of_page (page_at table (page_number place)) (λ p at. shaped (page_number place) p at)))
  | inr before ↦ shaped number page before
]
  where
    old : Page Block
    old = page_for size (page_at table (page_number place))

    new : Page Block
    new = page_with (slot_number place) (Some block) old

    of_page : (content : Option (Page Block)) → ((p : Page Block) → content ≡ Some p → length p.slots ≤ 64) → length (page_for size content).slots ≤ 64
    of_page content narrow = grind (arith, length-replicate)

-- a part that is made, in a table that stays narrow
one_made : (table : Table Block) (birth stamp index : ℕ) (part : Part) → IsShaped table → (made : Made) → made_part table birth stamp index part ≡ Some made → IsMade table birth stamp index part made × IsShaped made.table
one_made table birth stamp index part shaped made e = by_class (class_of (part_words part)) refl e
  where
    by_place : (size : ℕ) → class_of (part_words part) ≡ Some size → (place : Option ℕ) → least_place table size ≡ place
        → option_map (λ p. record { place = p; table = with_taken table size p (new_block birth stamp index part) }) place ≡ Some made → IsMade table birth stamp index part made × IsShaped made.table
    by_place size is None found h = absurd (none-some made h)
    by_place size is (Some p) found h =
        let (some, few) = slots_in-class_of (part_words part) size is in
        let free : IsFreeFor table size p = least_place-free table size shaped some p found in
        grind (arith, IsShaped, same_Some, block_at-with_taken_same, block_at-with_taken_other, with_taken-shaped)

    by_class : (size : Option ℕ) → class_of (part_words part) ≡ size → option_and_then (made_in_class table (new_block birth stamp index part)) size ≡ Some made → IsMade table birth stamp index part made × IsShaped made.table
    by_class None is h = absurd (none-some made h)
    by_class (Some size) is h = by_place size is (least_place table size) refl h

-- One part is made at a place that was free for its class
pub made_part-is : (table : Table Block) (birth stamp index : ℕ) (part : Part) → IsShaped table → (made : Made) → made_part table birth stamp index part ≡ Some made → IsMade table birth stamp index part made
made_part-is table birth stamp index part shaped made e = (one_made table birth stamp index part shaped made e).0

some_made : (table : Table Block) (birth stamp index : ℕ) (part : Part) (parts : List Part) (first : Made) (rest : MadeParts) → IsMade table birth stamp index part first → AreMade first.table birth stamp (suc index) parts rest
    → AreMade table birth stamp index (part ∷ parts) (record { places = first.place ∷ rest.places; table = rest.table })
some_made table birth stamp index part parts first rest one more = record {
  count = ap suc more.count;
  there = there;
  added = record {
    fresh = fresh;
    kept = λ place block e. more.added.kept place block (first_keeps place block e);
    only = only;
  };
}
  where
    first_keeps : (place : ℕ) (block : Block) → block_at table place ≡ Some block → block_at first.table place ≡ Some block
    first_keeps place block e = grind (arith, cases_eq place first.place)

    there : (i place : ℕ) (p : Part) → slice_get (first.place ∷ rest.places) i ≡ Some place → slice_get (part ∷ parts) i ≡ Some p → block_at rest.table place ≡ Some (new_block birth stamp (index + i) p)
    there i place p at at' = search (arith, same_Some, add-zero)

    fresh : (i place : ℕ) → slice_get (first.place ∷ rest.places) i ≡ Some place → block_at table place ≡ None
    fresh i place at = grind arith

    only : (place : ℕ) (block : Block) → block_at rest.table place ≡ Some block → (block_at table place ≡ Some block) ⊎ ((i : ℕ) × (slice_get (first.place ∷ rest.places) i ≡ Some place))
    only place block e = elim (more.added.only place block e) [
      | inl before ↦ search (arith, cases_eq place first.place)
      | inr at ↦ inr (suc at.0, at.1)
    ]

-- All parts are made or none: if they are, they are new blocks at places that were free
pub made_parts-are : (parts : List Part) (table : Table Block) (birth stamp index : ℕ) → IsShaped table → (made : MadeParts) → made_parts table birth stamp index parts ≡ Some made → AreMade table birth stamp index parts made
made_parts-are [] table birth stamp index shaped made e = grind arith
made_parts-are (part ∷ parts) table birth stamp index shaped made e =
    by_first (made_part table birth stamp index part) refl e (λ t s m h. made_parts-are parts t birth stamp (suc index) s m h)
  where
    by_rest : (first : Made) → IsMade table birth stamp index part first → (rest : Option MadeParts) → made_parts first.table birth stamp (suc index) parts ≡ rest
        → option_map (λ (r : MadeParts). record { places = first.place ∷ r.places; table = r.table }) rest ≡ Some made
        → ((m : MadeParts) → made_parts first.table birth stamp (suc index) parts ≡ Some m → AreMade first.table birth stamp (suc index) parts m) → AreMade table birth stamp index (part ∷ parts) made
    by_rest first one None is h more = absurd (none-some made h)
    by_rest first one (Some rest) is h more =
        subst (AreMade table birth stamp index (part ∷ parts)) (same_Some (record { places = first.place ∷ rest.places; table = rest.table }) made h) (some_made table birth stamp index part parts first rest one (more rest is))

    by_first : (first : Option Made) → made_part table birth stamp index part ≡ first
        → option_and_then (λ (f : Made). option_map (λ (r : MadeParts). record { places = f.place ∷ r.places; table = r.table }) (made_parts f.table birth stamp (suc index) parts)) first ≡ Some made
        → ((t : Table Block) → IsShaped t → (m : MadeParts) → made_parts t birth stamp (suc index) parts ≡ Some m → AreMade t birth stamp (suc index) parts m) → AreMade table birth stamp index (part ∷ parts) made
    by_first None is h more = absurd (none-some made h)
    by_first (Some first) is h more =
        let (one, narrow) = one_made table birth stamp index part shaped first is in
        by_rest first one (made_parts first.table birth stamp (suc index) parts) refl h (more first.table narrow)

-- and the table stays one of at most 64 slots a page
pub made_parts-shaped : (parts : List Part) (table : Table Block) (birth stamp index : ℕ) → IsShaped table → (made : MadeParts) → made_parts table birth stamp index parts ≡ Some made → IsShaped made.table
made_parts-shaped [] table birth stamp index shaped made e = grind arith
made_parts-shaped (part ∷ parts) table birth stamp index shaped made e =
    by_first (made_part table birth stamp index part) refl e (λ t s m h. made_parts-shaped parts t birth stamp (suc index) s m h)
  where
    by_rest : (first : Made) → (rest : Option MadeParts) → made_parts first.table birth stamp (suc index) parts ≡ rest
        → option_map (λ (r : MadeParts). record { places = first.place ∷ r.places; table = r.table }) rest ≡ Some made
        → ((m : MadeParts) → made_parts first.table birth stamp (suc index) parts ≡ Some m → IsShaped m.table) → IsShaped made.table
    by_rest first rest is h more = grind arith

    by_first : (first : Option Made) → made_part table birth stamp index part ≡ first
        → option_and_then (λ (f : Made). option_map (λ (r : MadeParts). record { places = f.place ∷ r.places; table = r.table }) (made_parts f.table birth stamp (suc index) parts)) first ≡ Some made
        → ((t : Table Block) → IsShaped t → (m : MadeParts) → made_parts t birth stamp (suc index) parts ≡ Some m → IsShaped m.table) → IsShaped made.table
    by_first None is h more = absurd (none-some made h)
    by_first (Some first) is h more = by_rest first (made_parts first.table birth stamp (suc index) parts) refl h (more first.table (one_made table birth stamp index part shaped first is).1)

-- Objects ----------------------------------------------------------------------------------------

-- lists of one length have elements at the same numbers
same_count : {X Y : Type 0} (xs : List X) (ys : List Y) (i : ℕ) (x : X) → length xs ≡ length ys → slice_get xs i ≡ Some x → (y : Y) × (slice_get ys i ≡ Some y)
same_count [] ys i x count at = absurd (none-some x at)
same_count (z ∷ xs) [] i x count at = absurd (omega arith)
same_count (z ∷ xs) (y ∷ ys) zero x count at = (y, refl)
same_count (z ∷ xs) (y ∷ ys) (suc i) x count at = same_count xs ys i x (omega arith) at

zero_before : (i : ℕ) → 0 + i ≡ i
zero_before i = omega arith

-- a place is among places, or is none of them
pub find_place : (places : List ℕ) (place : ℕ) → ((i : ℕ) × (slice_get places i ≡ Some place)) ⊎ ((i other : ℕ) → slice_get places i ≡ Some other → place ≢ other)
find_place [] place = inr (λ i other e. absurd (none-some other e))
find_place (first ∷ places) place = elim (cases_eq place first) [
  | inl same ↦ inl (0, ap Some (sym same))
  | inr apart ↦ elim (find_place places place) [
    | inl at ↦ inl (suc at.0, at.1)
    | inr none ↦ inr (go none apart)
  ]
]
  where
    go : ((i other : ℕ) → slice_get places i ≡ Some other → place ≢ other) → place ≢ first → (i other : ℕ) → slice_get (first ∷ places) i ≡ Some other → place ≢ other
    go none apart is other e same = grind arith

-- a part has as many references as it counts, if its children are among the parts
pub length-words_of : (places : List ℕ) (count : ℕ) (children : Option ℕ) → ((child : ℕ) → children ≡ Some child → child + count ≤ length places) → length (words_of places count children) ≡ count
length-words_of places count children inside = grind (arith, length-replicate, length-map, length-take, length-drop)

module _ (all : List ℕ) where
  -- what is at no place of these parts stays
  pub linked-other : (places : List ℕ) (parts : List Part) (table : Table Block) (q : ℕ) → ((i other : ℕ) → slice_get places i ≡ Some other → q ≢ other) → block_at (linked_parts all table places parts) q ≡ block_at table q
  linked-other (place ∷ places) (part ∷ parts) table q apart =
      linked-other places parts (with_block_change table place (linked_block all part)) q (λ i other e. apart (suc i) other e) ∙ block_at-with_block_other table place q _ (apart 0 place refl)
  linked-other places parts table q apart = refl

  -- and each part has its references
  linked-here : (places : List ℕ) (parts : List Part) (table : Table Block) → ((i j q : ℕ) → slice_get places i ≡ Some q → slice_get places j ≡ Some q → i ≡ j) → (i q : ℕ) (part : Part) (block : Block) → slice_get places i ≡ Some q → slice_get parts i ≡ Some part → block_at table q ≡ Some block
      → block_at (linked_parts all table places parts) q ≡ Some (linked_block all part block)
  linked-here [] parts table distinct i q part block at at' is = absurd (none-some q at)
  linked-here (place ∷ places) [] table distinct i q part block at at' is = absurd (none-some part at')
  linked-here (place ∷ places) (first ∷ parts) table distinct zero q part block at at' is =
      linked-other places parts (with_block_change table place (linked_block all first)) q (λ i other e is'. zero_suc i (distinct 0 (suc i) q at (e ∙ ap Some (sym is'))))
      ∙ ap (λ k. block_at (with_block_change table k (linked_block all first)) q) (same_Some place q at)
      ∙ block_at-with_block_same table q (option_map (linked_block all first) (block_at table q)) (block-slot table q block is)
      ∙ ap (option_map (linked_block all first)) is
      ∙ ap (λ p. Some (linked_block all p block)) (same_Some first part at')
    where
      zero_suc : (i : ℕ) → 0 ≡ suc i → ⊥
      zero_suc i e = omega (arith, e)
  linked-here (place ∷ places) (first ∷ parts) table distinct (suc i) q part block at at' is =
      linked-here places parts (with_block_change table place (linked_block all first)) (λ j k r e f. less j k (distinct (suc j) (suc k) r e f)) i q part block at at'
      (block_at-with_block_other table place q _ (λ same. zero_suc i (distinct 0 (suc i) q (ap Some (sym same)) at)) ∙ is)
    where
      zero_suc : (i : ℕ) → 0 ≡ suc i → ⊥
      zero_suc i e = omega (arith, e)

      less : (j k : ℕ) → suc j ≡ suc k → j ≡ k
      less j k e = omega (arith, e)

-- parts that are made and have their references
linked_group : (table before : Table Block) (birth stamp : ℕ) (parts : List Part) (place : ℕ) (rest : List ℕ) → AreMade table birth stamp 0 parts (record { places = place ∷ rest; table = before })
    → IsGroup table birth stamp parts (record { place = place; table = linked_parts (place ∷ rest) before (place ∷ rest) parts })
linked_group table before birth stamp parts place rest are = record {
  places = place ∷ rest;
  first = refl;
  count = are.count;
  there = λ i p part at at'.
      linked-here (place ∷ rest) (place ∷ rest) parts before distinct i p part (new_block birth stamp i part) at at'
      (subst (λ n. block_at before p ≡ Some (new_block birth stamp n part)) (zero_before i) (are.there i p part at at'));
  added = record {
    fresh = are.added.fresh;
    kept = λ p block e. linked-other (place ∷ rest) (place ∷ rest) parts before p (λ i other at same. none-some block (sym (are.added.fresh i other at) ∙ ap (block_at table) (sym same) ∙ e)) ∙ are.added.kept p block e;
    only = λ p block e. elim (find_place (place ∷ rest) p) [
      | inl at ↦ inr at
      | inr none ↦ are.added.only p block (sym (linked-other (place ∷ rest) (place ∷ rest) parts before p none) ∙ e)
    ];
  };
}
  where
    distinct : (i j q : ℕ) → slice_get (place ∷ rest) i ≡ Some q → slice_get (place ∷ rest) j ≡ Some q → i ≡ j
    distinct i j q e f =
        let (one, at_one) = same_count (place ∷ rest) parts i q are.count e in
        let (two, at_two) = same_count (place ∷ rest) parts j q are.count f in
        let there : block_at before q ≡ Some (new_block birth stamp (0 + i) one) = are.there i q one e at_one in
        let there' : block_at before q ≡ Some (new_block birth stamp (0 + j) two) = are.there j q two f at_two in
        omega (arith, ap (λ (b : Block). b.part) (same_Some (new_block birth stamp (0 + i) one) (new_block birth stamp (0 + j) two) (sym there ∙ there')))

group_of-is : (table before : Table Block) (birth stamp : ℕ) (parts : List Part) (places : List ℕ) → AreMade table birth stamp 0 parts (record { places = places; table = before }) → (made : Made) → group_of before places parts ≡ Some made → IsGroup table birth stamp parts made
group_of-is table before birth stamp parts places are made e = grind (arith, none-some, same_Some, linked_group)

-- An object is made with all its parts or not at all
pub made_group-is : (table : Table Block) (birth stamp : ℕ) (parts : List Part) → IsShaped table → (made : Made) → made_group table birth stamp parts ≡ Some made → IsGroup table birth stamp parts made
made_group-is table birth stamp parts shaped made e = go (made_parts table birth stamp 0 parts) refl e
  where
    go : (all : Option MadeParts) → made_parts table birth stamp 0 parts ≡ all → option_and_then (λ m. group_of m.table m.places parts) all ≡ Some made → IsGroup table birth stamp parts made
    go None is h = absurd (none-some made h)
    go (Some all) is h = search (arith, group_of-is, made_parts-are)
