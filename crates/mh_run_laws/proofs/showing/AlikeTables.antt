-- Tables that show the same: their blocks differ in stamps alone, and in references that lead to the same places.
use Rattle.std.proofs.Common.{◌≡◌, ℕ, suc, get_or, Bool, false, if◌then◌else◌, List, [], ◌∷◌, ◌++◌, map, flat_map, Option, Some, None, option_map, option_and_then, unwrap_or, inl, inr, refl, sym, ap, ◌∙◌, arith}
use Rattle.std.proofs.{lemmas.Bool.cases_eq, lemmas.List.map-append}
use Rattle.std.specs.Prelude.{option_to_list}
use Rattle.mh_model.specs.{World.Object, Pages.{Table, block_at, with_block}}
use Rattle.mh_model.specs.Table.{Block, references_at, reference_at, resolve, target_of, is_spine, is_tall, is_at, child_place, spine_place, arraylet_place, position_of}
use Rattle.mh_model.specs.Collector.{Collector, Marking, shade_place, shade, marking_of, with_shade}
use Rattle.mh_model.specs.View.{in_sweep, block_named, blocks_named, birth_named, arraylet_words, field_blocks, object_of, object_shown}
use Rattle.mh_model.specs.Invariant.{IsSound}
use Rattle.mh_laws.proofs.marking.MarkSteps.{shade_place-is}
use Rattle.mh_laws.proofs.showing.FoundBlocks.{IsShownAs, IsHeldIn, held_live, live_held, shown-same}
use Rattle.mh_table_laws.proofs.placing.Places.{block_at-with_block_same, block_at-with_block_other, block-slot}

-- The table that is compared with
module _ (first : Table Block) where
  -- a block but for its stamp, with where its references lead
  abbrev pub bare : Block → Block
  bare block = record block { stamp = 0; references = map (option_map (resolve first)) block.references }

  -- at each place a table has the same but for stamps and the ways of references
  abbrev pub IsAlike : Table Block → Type 0
  IsAlike table = (place : ℕ) → option_map bare (block_at table place) ≡ option_map bare (block_at first place)

  -- a block named where references lead
  abbrev named_first : Option ℕ → Option Block
  named_first o = option_and_then (λ r. option_map bare (block_at first r)) o

  abbrev birth_first : Option ℕ → Option ℕ
  birth_first o = option_map (λ (x : Block). x.birth) (named_first o)

  abbrev words_first : Block → List (Option ℕ)
  words_first block = if is_tall block then flat_map (λ (x : Block). x.references) (flat_map (λ o. option_to_list (named_first o)) block.references) else block.references

  abbrev fields_first : Block → List Block
  fields_first block = if is_spine block then flat_map (λ o. option_to_list (named_first o)) (words_first block) else block ∷ []

  -- an object put together of what is bare
  abbrev object_first : Block → Object
  object_first block = record {
    references = flat_map (λ (part : Block). map birth_first part.references) (fields_first block);
    numbers = flat_map (λ (part : Block). part.numbers) (fields_first block);
  }

  module _ (table : Table Block) (alike : IsAlike table) where
    pub resolve-alike : (r : ℕ) → resolve table r ≡ resolve first r
    resolve-alike r = grind arith

    named-alike : (o : Option ℕ) → option_map bare (block_named table o) ≡ named_first (option_map (resolve first) o)
    named-alike o = grind (arith, resolve-alike)

    pub birth-alike : (o : Option ℕ) → birth_named table o ≡ birth_first (option_map (resolve first) o)
    birth-alike o = grind (arith, named-alike)

    pub births-alike : (os : List (Option ℕ)) → map (birth_named table) os ≡ map birth_first (map (option_map (resolve first)) os)
    births-alike [] = refl
    births-alike (o ∷ os) = grind (arith, birth-alike, births-alike os)

    arraylets-alike : (os : List (Option ℕ)) → map bare (flat_map (λ o. option_to_list (block_named table o)) os) ≡ flat_map (λ o. option_to_list (named_first o)) (map (option_map (resolve first)) os)
    arraylets-alike [] = refl
    arraylets-alike (o ∷ os) = grind (arith, map-append, named-alike, arraylets-alike os)

    joined-alike : (ys : List Block) → map (option_map (resolve first)) (flat_map (λ (x : Block). x.references) ys) ≡ flat_map (λ (x : Block). x.references) (map bare ys)
    joined-alike [] = refl
    joined-alike (y ∷ ys) = grind (arith, map-append, joined-alike ys)

    words-alike : (z : Block) → map (option_map (resolve first)) (arraylet_words table z) ≡ words_first (bare z)
    words-alike z = grind (arith, joined-alike (blocks_named table z.references), arraylets-alike z.references)

    fields-alike : (z : Block) → map bare (field_blocks table z) ≡ fields_first (bare z)
    fields-alike z = grind (arith, arraylets-alike, words-alike)

    references-alike : (parts : List Block) → flat_map (λ (part : Block). map (birth_named table) part.references) parts ≡ flat_map (λ (part : Block). map birth_first part.references) (map bare parts)
    references-alike [] = refl
    references-alike (x ∷ parts) = grind (arith, births-alike, references-alike parts)

    numbers-alike : (parts : List Block) → flat_map (λ (part : Block). part.numbers) parts ≡ flat_map (λ (part : Block). part.numbers) (map bare parts)
    numbers-alike [] = refl
    numbers-alike (x ∷ parts) = ap (λ xs. x.numbers ++ xs) (numbers-alike parts)

    object-bare : (z : Block) → object_of table z ≡ object_first (bare z)
    object-bare z =
        ap (λ xs. record { references = xs; numbers = flat_map (λ (part : Block). part.numbers) (field_blocks table z) }) (references-alike (field_blocks table z) ∙ ap (flat_map (λ (part : Block). map birth_first part.references)) (fields-alike z))
        ∙ ap (λ xs. record { references = flat_map (λ (part : Block). map birth_first part.references) (fields_first (bare z)); numbers = xs }) (numbers-alike (field_blocks table z) ∙ ap (flat_map (λ (part : Block). part.numbers)) (fields-alike z))

  pub object-alike : (table : Table Block) → IsAlike table → (z x : Block) → bare z ≡ bare x → object_of table z ≡ object_of first x
  object-alike table alike z x same = grind (arith, object-bare)

  pub roots-alike : (table : Table Block) → IsAlike table → (os : List (Option ℕ)) → map (birth_named table) os ≡ map (birth_named first) os
  roots-alike table alike os = births-alike table alike os ∙ sym (births-alike first (λ place. refl) os)

  -- a block is put in the place of one that is bare the same
  pub alike-with_block : (table : Table Block) (p : ℕ) (b b' : Block) → block_at table p ≡ Some b → bare b' ≡ bare b → IsAlike table → IsAlike (with_block table p (Some b'))
  alike-with_block table p b b' there same alike place = grind (arith, cases_eq, inl, block_at-with_block_same, block-slot, inr, block_at-with_block_other)

  bare-back : (o p : Option Block) → option_map bare o ≡ option_map bare p → (x : Block) → p ≡ Some x → (z : Block) × (o ≡ Some z) × (bare z ≡ bare x)
  bare-back o p same x is = grind arith

  -- the block of an alike table if the first has one, and back
  pub alike-forth : (table : Table Block) → IsAlike table → (p : ℕ) (x : Block) → block_at first p ≡ Some x → (z : Block) × (block_at table p ≡ Some z) × (bare z ≡ bare x)
  alike-forth table alike p x there = bare-back (block_at table p) (block_at first p) (alike p) x there

  -- Shading --------------------------------------------------------------------------------------

  -- a block that is marked is alike
  alike-shade_place : (m : Marking) (place : ℕ) → IsAlike m.table → IsAlike (shade_place m place).table
  alike-shade_place m place alike = search (arith, shade_place-is, alike-with_block)

  pub alike-shade : (m : Marking) (reference : Option ℕ) → IsAlike m.table → IsAlike (shade m reference).table
  alike-shade m reference alike = grind (arith, alike-shade_place)

  -- Where a field lies ---------------------------------------------------------------------------

  pub read-map : (xs : List (Option ℕ)) (i : ℕ) → get_or (map (option_map (resolve first)) xs) i None ≡ option_map (resolve first) (get_or xs i None)
  read-map (x ∷ xs) (suc i) = read-map xs i
  read-map xs i = refl

  module _ (table : Table Block) (alike : IsAlike table) where
    pub birth-same : (o : Option ℕ) → birth_named table o ≡ birth_named first o
    birth-same o = birth-alike table alike o ∙ sym (birth-alike first (λ place. refl) o)

    references-led : (t : Table Block) (q : ℕ) → map (option_map (resolve first)) (references_at t q) ≡ unwrap_or (option_map (λ (b : Block). b.references) (option_map bare (block_at t q))) []
    references-led t q = grind arith

    -- each reference leads to the same place
    target-same : (q i : ℕ) → target_of table (reference_at table q i) ≡ target_of first (reference_at first q i)
    target-same q i = grind (arith, by, read-map, references-led)
      where
        by : (o : Option ℕ) → target_of table o ≡ option_map (resolve first) o
        by o = grind arith

    child-same : (q i : ℕ) → child_place table q i ≡ child_place first q i
    child-same q i = ap (λ o. unwrap_or o q) (target-same q i)

    is_at-same : (test : Block → Bool) → ((b : Block) → test (bare b) ≡ test b) → (q : ℕ) → is_at test table q ≡ is_at test first q
    is_at-same test keeps q = grind arith

    spine-same : (q field : ℕ) → spine_place table q field ≡ spine_place first q field
    spine-same q field = grind (arith, is_at-same, child-same)

    arraylet-same : (q field : ℕ) → arraylet_place table q field ≡ arraylet_place first q field
    arraylet-same q field = grind (arith, spine-same, child-same)

    pub position-same : (q field : ℕ) → position_of table q field ≡ position_of first q field
    position-same q field = search (arith, arraylet-same q field)

-- Outside the sweep two states with alike tables show the same objects
pub alike-shown : (n m : ℕ) (c d : Collector) → IsSound n c → IsSound m d → in_sweep c.phase ≡ false → in_sweep d.phase ≡ false → IsAlike c.table d.table → (birth : ℕ) → object_shown d birth ≡ object_shown c birth
alike-shown n m c d h k no_sweep no_sweep' alike birth = shown-same n m c d h k birth forth back
  where
    forth : IsShownAs (λ object. object) c d birth
    forth place x at = grind (arith, alike-forth, live_held, held_live, object-alike)

    back : IsHeldIn d c birth
    back place z at = grind arith

-- a shaded table is alike
pub with_shade-alike : (c : Collector) (reference : Option ℕ) → IsAlike c.table (with_shade c reference).table
with_shade-alike c reference = alike-shade c.table (marking_of c) reference (λ place. refl)
