-- What each command of a session carries on: roomy pages, the grey list's soundness, what marking still costs, and the classes of pages in use.
-- So no command adds to what is left of a cycle.
use Rattle.std.proofs.Common.{◌≡◌, ℕ, suc, ◌+◌, ◌≤◌, false, inl, inr, List, [], ◌∷◌, length, slice_get, Option, Some, None, option_map, option_and_then, unwrap_or, refl, sym, ap, ◌∙◌, subst, arith}
use Rattle.std.proofs.{lemmas.Bool.{cases_eq, false≢true}, lemmas.List.length-replicate}
use Rattle.std.proofs.lemmas.Option.{none-some, same_Some}
use Rattle.mh_model.specs.{declared.command.Command.Command, Classes.{Part, class_of, part_words, parts}}
use Rattle.mh_model.specs.Pages.{Table, block_at, least_place, with_taken, IsFreeFor}
use Rattle.mh_model.specs.Table.{Block, Made, MadeParts, new_block, made_in_class, made_part, made_parts, with_block_change, words_of, linked_block, linked_parts, group_of, made_group}
use Rattle.mh_model.specs.Collector.{Collector, Marking, marking_of, with_shade}
use Rattle.mh_model.specs.Mutator.{HeapState, in_roots_or_mark, new_group, mutator_step}
use Rattle.mh_model.specs.CycleBounds.{count_at, grey_weight, IsGreySound, IsMarkedIn}
use Rattle.mh_table_laws.specs.Auxiliary.{AreMade}
use Rattle.mh_table_laws.proofs.placing.Places.{block_at-with_block_same, block_at-with_block_other, least_place-free, block_at-with_taken_other, block-slot}
use Rattle.mh_table_laws.proofs.objects.Parts.{children_inside}
use Rattle.mh_table_laws.proofs.objects.MadeGroups.{length-words_of, made_parts-are, slots_in-class_of}
use Rattle.mh_table_laws.proofs.tables.BlockRoom.{IsClass, roomy-shaped, with_taken-roomy, class_of-is, class_of-fits}
use Rattle.mh_table_laws.proofs.marking.GreyList.{Carries, carries_nothing, then_carries, grey_weight-same, all-map, class-with_taken, weight-with_taken, weight-marked, shade-carries, cycle-shade, change-carries, reference-carries}
use Rattle.mh_laws.proofs.commands.EachCommand.{IsKeptByCommands, heap_effect-each, mutator_step-each}

-- New objects ------------------------------------------------------------------------------------

-- a block that is placed with the cycle's number as its stamp
module _ (table : Table Block) (grey : List ℕ) (cycle : ℕ) (size place : ℕ) (block : Block) (free : IsFreeFor table size place) (stamped : block.stamp ≡ cycle) where
  abbrev old : Marking
  old = record { table = table; grey = grey; cycle = cycle }

  abbrev new : Marking
  new = record { table = with_taken table size place block; grey = grey; cycle = cycle }

  kept : (other : ℕ) → IsMarkedIn table cycle other → block_at new.table other ≡ block_at table other
  kept other marked = grind (arith, block_at-with_taken_other, none-some)

  taken-carries : IsClass size → length block.references + 4 ≤ size → IsGreySound old → Carries old new
  taken-carries class fits sound = record {
    sound = record {
      roomy = with_taken-roomy table size place block sound.roomy class free.of_class fits;
      once = sound.once;
      marked = all-map (IsMarkedIn table cycle) (IsMarkedIn new.table cycle) (λ other marked. ap (option_map (λ b. b.stamp)) (kept other marked) ∙ marked) grey sound.marked;
    };
    longer = omega arith;
    settled = λ other s. record { marked = ap (option_map (λ b. b.stamp)) (kept other s.marked) ∙ s.marked; apart = s.apart };
    lighter = λ price.
        let counts : grey_weight price new.table grey ≡ grey_weight price table grey = grey_weight-same price table new.table grey (all-map (IsMarkedIn table cycle) (λ other. count_at new.table other ≡ count_at table other) (λ other marked. ap (λ b. length (unwrap_or (option_map (λ x. x.references) b) [])) (kept other marked)) grey sound.marked) in
        omega (arith, counts, weight-with_taken price cycle table size place block free, weight-marked price cycle block stamped);
    classes = λ number class e. class-with_taken table size place block number class e;
  }

made_part-carries : (table : Table Block) (grey : List ℕ) (birth cycle index : ℕ) (part : Part) → IsGreySound (record { table = table; grey = grey; cycle = cycle }) → (made : Made) → made_part table birth cycle index part ≡ Some made
    → Carries (record { table = table; grey = grey; cycle = cycle }) (record { table = made.table; grey = grey; cycle = cycle })
made_part-carries table grey birth cycle index part sound made e = by_class (class_of (part_words part)) refl e
  where
    block : Block
    block = new_block birth cycle index part

    by_place : (size : ℕ) → class_of (part_words part) ≡ Some size → (place : Option ℕ) → least_place table size ≡ place → option_map (λ p. record { place = p; table = with_taken table size p block }) place ≡ Some made
        → Carries (record { table = table; grey = grey; cycle = cycle }) (record { table = made.table; grey = grey; cycle = cycle })
    by_place size is None found h = absurd (none-some made h)
    by_place size is (Some p) found h =
        let (some, few) = slots_in-class_of (part_words part) size is in
        let free : IsFreeFor table size p = least_place-free table size (roomy-shaped table sound.roomy) some p found in
        let count : length block.references ≡ part.references = length-replicate part.references None in
        let fits : length block.references + 4 ≤ size = omega (arith, count, class_of-fits (part_words part) size is) in
        subst (λ (m : Made). Carries (record { table = table; grey = grey; cycle = cycle }) (record { table = m.table; grey = grey; cycle = cycle })) (same_Some (record { place = p; table = with_taken table size p block }) made h)
        (taken-carries table grey cycle size p block free refl (class_of-is (part_words part) size is) fits sound)

    by_class : (size : Option ℕ) → class_of (part_words part) ≡ size → option_and_then (made_in_class table block) size ≡ Some made → Carries (record { table = table; grey = grey; cycle = cycle }) (record { table = made.table; grey = grey; cycle = cycle })
    by_class None is h = absurd (none-some made h)
    by_class (Some size) is h = by_place size is (least_place table size) refl h

made_parts-carries : (list : List Part) (table : Table Block) (grey : List ℕ) (birth cycle index : ℕ) → IsGreySound (record { table = table; grey = grey; cycle = cycle }) → (made : MadeParts) → made_parts table birth cycle index list ≡ Some made
    → Carries (record { table = table; grey = grey; cycle = cycle }) (record { table = made.table; grey = grey; cycle = cycle })
made_parts-carries [] table grey birth cycle index sound made e = grind arith
made_parts-carries (part ∷ list) table grey birth cycle index sound made e =
    by_first (made_part table birth cycle index part) refl e (λ t s m h. made_parts-carries list t grey birth cycle (suc index) s m h)
  where
    by_rest : (first : Made) → Carries (record { table = table; grey = grey; cycle = cycle }) (record { table = first.table; grey = grey; cycle = cycle }) → (rest : Option MadeParts) → made_parts first.table birth cycle (suc index) list ≡ rest
        → option_map (λ (r : MadeParts). record { places = first.place ∷ r.places; table = r.table }) rest ≡ Some made
        → ((m : MadeParts) → made_parts first.table birth cycle (suc index) list ≡ Some m → Carries (record { table = first.table; grey = grey; cycle = cycle }) (record { table = m.table; grey = grey; cycle = cycle }))
        → Carries (record { table = table; grey = grey; cycle = cycle }) (record { table = made.table; grey = grey; cycle = cycle })
    by_rest first one None is h more = absurd (none-some made h)
    by_rest first one (Some rest) is h more =
        subst (λ (m : MadeParts). Carries (record { table = table; grey = grey; cycle = cycle }) (record { table = m.table; grey = grey; cycle = cycle })) (same_Some (record { places = first.place ∷ rest.places; table = rest.table }) made h)
        (then_carries (record { table = table; grey = grey; cycle = cycle }) (record { table = first.table; grey = grey; cycle = cycle }) (record { table = rest.table; grey = grey; cycle = cycle }) one (more rest is))

    by_first : (first : Option Made) → made_part table birth cycle index part ≡ first
        → option_and_then (λ (f : Made). option_map (λ (r : MadeParts). record { places = f.place ∷ r.places; table = r.table }) (made_parts f.table birth cycle (suc index) list)) first ≡ Some made
        → ((t : Table Block) → IsGreySound (record { table = t; grey = grey; cycle = cycle }) → (m : MadeParts) → made_parts t birth cycle (suc index) list ≡ Some m → Carries (record { table = t; grey = grey; cycle = cycle }) (record { table = m.table; grey = grey; cycle = cycle }))
        → Carries (record { table = table; grey = grey; cycle = cycle }) (record { table = made.table; grey = grey; cycle = cycle })
    by_first None is h more = absurd (none-some made h)
    by_first (Some first) is h more =
        let one = made_part-carries table grey birth cycle index part sound first is in
        by_rest first one (made_parts first.table birth cycle (suc index) list) refl h (more first.table one.sound)

-- the children of each part are among the parts
abbrev HaveChildren : List Part → ℕ → Type 0
HaveChildren list count = (i child : ℕ) (part : Part) → slice_get list i ≡ Some part → part.children ≡ Some child → child + part.references ≤ count

-- at these places are blocks that have as many references as their parts
abbrev AreSized : Table Block → List ℕ → List Part → Type 0
AreSized table places list = (i q : ℕ) (part : Part) → slice_get places i ≡ Some q → slice_get list i ≡ Some part → (block : Block) × (block_at table q ≡ Some block) × (length block.references ≡ part.references)

module _ (grey : List ℕ) (cycle : ℕ) (all : List ℕ) where
  linked_parts-carries : (places : List ℕ) (list : List Part) (table : Table Block) → HaveChildren list (length all) → AreSized table places list → IsGreySound (record { table = table; grey = grey; cycle = cycle })
      → Carries (record { table = table; grey = grey; cycle = cycle }) (record { table = linked_parts all table places list; grey = grey; cycle = cycle })
  linked_parts-carries (place ∷ places) (part ∷ list) table inside sized sound =
      then_carries (record { table = table; grey = grey; cycle = cycle }) (record { table = linked; grey = grey; cycle = cycle }) (record { table = linked_parts all linked places list; grey = grey; cycle = cycle }) one
      (linked_parts-carries places list linked (λ i. inside (suc i)) sized_after one.sound)
    where
      linked : Table Block
      linked = with_block_change table place (linked_block all part)

      words : length (words_of all part.references part.children) ≡ part.references
      words = length-words_of all part.references part.children (λ child e. inside 0 child part refl e)

      first : (block : Block) × (block_at table place ≡ Some block) × (length block.references ≡ part.references)
      first = sized 0 place part refl refl

      kept : (block : Block) → block_at table place ≡ Some block → length block.references ≡ part.references
      kept block at = ap (λ (b : Block). length b.references) (same_Some block first.0 (sym at ∙ first.1)) ∙ first.2

      one : Carries (record { table = table; grey = grey; cycle = cycle }) (record { table = linked; grey = grey; cycle = cycle })
      one = change-carries (record { table = table; grey = grey; cycle = cycle }) place _ (λ block at. (refl, words ∙ sym (kept block at))) sound

      sized_after : AreSized linked places list
      sized_after i q other at at' =
          let (block, is, size) = sized (suc i) q other at at' in
          elim (cases_eq q place) [
            | inr apart ↦ (block, block_at-with_block_other table place q _ apart ∙ is, size)
            | inl same ↦
                let here : block_at table place ≡ Some block = ap (block_at table) (sym same) ∙ is in (
                  linked_block all part block,
                  ap (block_at linked) same ∙ block_at-with_block_same table place (option_map (linked_block all part) (block_at table place)) (block-slot table place block here) ∙ ap (option_map (linked_block all part)) here,
                  words ∙ sym (kept block here) ∙ size,
                )
          ]
  linked_parts-carries places list table inside sized sound = grind (arith, carries_nothing)

group_of-carries : (table first : Table Block) (grey : List ℕ) (birth cycle : ℕ) (list : List Part) (places : List ℕ) → AreMade first birth cycle 0 list (record { places = places; table = table }) → HaveChildren list (length list)
    → IsGreySound (record { table = table; grey = grey; cycle = cycle }) → (made : Made) → group_of table places list ≡ Some made → Carries (record { table = table; grey = grey; cycle = cycle }) (record { table = made.table; grey = grey; cycle = cycle })
group_of-carries table first grey birth cycle list [] are children sound made e = absurd (none-some made e)
group_of-carries table first grey birth cycle list (place ∷ places) are children sound made e =
    subst (λ (m : Made). Carries (record { table = table; grey = grey; cycle = cycle }) (record { table = m.table; grey = grey; cycle = cycle })) (same_Some (record { place = place; table = linked_parts (place ∷ places) table (place ∷ places) list }) made e)
    (linked_parts-carries grey cycle (place ∷ places) (place ∷ places) list table (λ i child part at is. omega (arith, children i child part at is, are.count))
    (λ i q part at at'. (new_block birth cycle (0 + i) part, are.there i q part at at', length-replicate part.references None)) sound)

-- A new object carries on what marking keeps
pub made_group-carries : (table : Table Block) (grey : List ℕ) (birth cycle : ℕ) (list : List Part) → HaveChildren list (length list) → IsGreySound (record { table = table; grey = grey; cycle = cycle }) → (made : Made) → made_group table birth cycle list ≡ Some made
    → Carries (record { table = table; grey = grey; cycle = cycle }) (record { table = made.table; grey = grey; cycle = cycle })
made_group-carries table grey birth cycle list children sound made e = go (made_parts table birth cycle 0 list) refl e
  where
    go : (all : Option MadeParts) → made_parts table birth cycle 0 list ≡ all → option_and_then (λ m. group_of m.table m.places list) all ≡ Some made → Carries (record { table = table; grey = grey; cycle = cycle }) (record { table = made.table; grey = grey; cycle = cycle })
    go None is h = absurd (none-some made h)
    go (Some all) is h =
        let one = made_parts-carries list table grey birth cycle 0 sound all is in
        then_carries (record { table = table; grey = grey; cycle = cycle }) (record { table = all.table; grey = grey; cycle = cycle }) (record { table = made.table; grey = grey; cycle = cycle }) one
        (group_of-carries all.table table grey birth cycle list all.places (made_parts-are list table birth cycle 0 (roomy-shaped table sound.roomy) all is) children one.sound made h)

-- Commands ---------------------------------------------------------------------------------------

-- a collector carries on what marking keeps, and shades nothing outside the roots and marking
pub record Carried (old new : Collector) : Type 0 where
  pub carries : Carries (marking_of old) (marking_of new)
  pub grey : in_roots_or_mark old.phase ≡ false → new.grey ≡ old.grey

carried_nothing : (collector : Collector) → IsGreySound (marking_of collector) → Carried collector collector
carried_nothing collector sound = grind arith

-- shading by a collector
pub with_shade-carries : (collector : Collector) (reference : Option ℕ) → IsGreySound (marking_of collector) → Carries (marking_of collector) (marking_of (with_shade collector reference))
with_shade-carries collector reference sound = grind (arith, cycle-shade (marking_of collector) reference, shade-carries (marking_of collector) reference sound)

then_carried : (first second third : Collector) → second.phase ≡ first.phase → Carried first second → Carried second third → Carried first third
then_carried first second third phase one two = grind arith

-- the same phase, and what is carried on if the grey list is sound
abbrev CarriesOn : Collector → Collector → Type 0
CarriesOn old new = (new.phase ≡ old.phase) × (IsGreySound (marking_of old) → Carried old new)

carried_on : IsKeptByCommands CarriesOn
carried_on = record {
  same = λ collector. (refl, carried_nothing collector);
  joined = λ first second third one two. (two.0 ∙ one.0, λ sound. let carried = one.1 sound in then_carried first second third one.0 carried (two.1 carried.carries.sound));
  shaded = λ collector reference inside. (refl, λ sound. record { carries = with_shade-carries collector reference sound; grey = λ outside. absurd (false≢true (sym outside ∙ inside)) });
  rooted = λ collector slot reference. (refl, λ sound. record { carries = carries_nothing (marking_of collector) sound; grey = λ outside. refl });
  referred = λ collector position reference. (refl, λ sound. record { carries = reference-carries (marking_of collector) position.place position.index reference sound; grey = λ outside. refl });
  numbered = λ collector position number. (refl, λ sound. record { carries = change-carries (marking_of collector) position.place _ (λ block at. (refl, refl)) sound; grey = λ outside. refl });
}

-- A command of a session carries on what marking keeps
pub mutator_step-carried : (heap : HeapState) (who : ℕ) (c : Command) → IsGreySound (marking_of heap.collector) → Carried heap.collector (mutator_step heap who c).state.collector
mutator_step-carried heap who c sound = (mutator_step-each CarriesOn carried_on heap who c (λ allowed. heap_effect-each CarriesOn carried_on heap who c placed)).1 sound
  where
    placed : (slot references numbers : ℕ) → c ≡ Command.New slot references numbers → (made : Made) → new_group heap references numbers ≡ Some made → CarriesOn heap.collector (record (heap.collector) { table = made.table })
    placed slot references numbers is made e = (
      refl,
      λ sound. record {
        carries = made_group-carries heap.collector.table heap.collector.grey heap.next_birth heap.collector.cycle (parts references numbers) (λ i child part at is. (children_inside references numbers i part child at is).1) sound made e;
        grey = λ outside. refl;
      },
    )
