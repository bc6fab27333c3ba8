-- A new object on the pages, beside the same in what the heap shows.
use Rattle.std.proofs.Common.{◌≡◌, ℕ, zero, suc, ◌+◌, ◌<◌, false, inl, inr, List, [], ◌∷◌, ◌++◌, length, get_or, set, map, flat_map, replicate, Option, Some, None, option_map, is_none, unwrap_or, refl, sym, ap, ap₂, ◌∙◌, subst, arith}
use Rattle.std.proofs.{lemmas.Bool.{false≢true, ltb-false}, lemmas.Option.{none-some, same_Some}}
use Rattle.mh_model.specs.{declared.command.Command.Command, declared.shape.Shape.Shape}
use Rattle.mh_model.specs.{World.{World, Object, own_slot, shape_of, blank, with_object, tests}, Classes.tabulate}
use Rattle.mh_model.specs.{Pages.block_at, Table.{Block, Made, resolve}, Collector.Collector}
use Rattle.mh_model.specs.Mutator.{HeapState, with_root, new_group, with_born, heap_sight, heap_effect}
use Rattle.mh_model.specs.View.{birth_named, arraylet_words, field_blocks, block_of_birth, object_of, object_shown, heap_view}
use Rattle.mh_model.specs.Invariant.{IsPlainAt, first_child, IsSound, KeepsSnapshot, IsKeeping}
use Rattle.mh_run_laws.specs.Following.{Follows}
use Rattle.mh_laws.proofs.{showing.ObjectsShown.{Has, field_block-back}, marking.BlockChanges.resolve-live}
use Rattle.mh_laws.proofs.objects.NewbornBlocks.{IsNewborn, IsObjectBorn, made_group-born}
use Rattle.mh_laws.proofs.snapshots.NewObjects.{borne, either, new_at, resolve-borne, plain_forth, plain_new, plain_old, sound-borne, snapshot-borne, newborn_root}
use Rattle.mh_laws.proofs.showing.FoundBlocks.{found-first, first-found}
use Rattle.mh_laws.proofs.showing.SamePlainBlocks.{plain-held, held-plain, object-same, roots-same}
use Rattle.mh_laws.proofs.{snapshots.Barriers.IsWritable, snapshots.SessionCommands.each_fails}
use Rattle.mh_table_laws.proofs.objects.JoinedFields.{shape_is, by_header, has_none, an_arraylet, arraylet_count}
use Rattle.mh_table_laws.proofs.Lists.{below_length}
use Rattle.mh_run_laws.proofs.following.SlotCommands.{births_at, shows_root, follows, refused_alike, own_tests}
use Rattle.mh_model.proofs.TabulateLemmas.{length-tabulate}

-- Lists ------------------------------------------------------------------------------------------

-- each element of a list is this one
abbrev Each : {X : Type 0} → X → List X → Type 0
Each d [] = Unit {0}
Each d (x ∷ xs) = (x ≡ d) × Each d xs

each_joined : {X : Type 0} (d : X) (xs ys : List X) → Each d xs → Each d ys → Each d (xs ++ ys)
each_joined d [] ys e f = f
each_joined d (x ∷ xs) ys e f = (e.0, each_joined d xs ys e.1 f)

each_repeats : {X : Type 0} (d : X) (xs : List X) → Each d xs → xs ≡ replicate (length xs) d
each_repeats d [] e = refl
each_repeats d (x ∷ xs) e = ap₂ (λ y ys. y ∷ ys) e.0 (each_repeats d xs e.1)

each_flat : {X : Type 0} (g : Block → List X) (d : X) (ys : List Block) → ((y : Block) → Has ys y → Each d (g y)) → Each d (flat_map g ys)
each_flat g d [] each = tt
each_flat g d (y ∷ ys) each = each_joined d (g y) (flat_map g ys) (each y (zero, refl)) (each_flat g d ys (λ z at. each z (suc at.0, at.1)))

each_null : (f : Option ℕ → Option ℕ) → f None ≡ None → (xs : List (Option ℕ)) → ((i r : ℕ) → get_or xs i None ≡ Some r → ⊥) → Each None (map f xs)
each_null f none [] never = tt
each_null f none (None ∷ xs) never = (none, each_null f none xs (λ i. never (suc i)))
each_null f none (Some r ∷ xs) never = absurd (never zero r refl)

each_zero : (count : ℕ) → Each {X = ℕ} 0 (replicate count 0)
each_zero zero = tt
each_zero (suc count) = (refl, each_zero count)

-- one more at the end of a table whose values below stay
grown : (f g : ℕ → Option Object) (first count : ℕ) → ((i : ℕ) → i < first + count → g i ≡ f i) → tabulate g first (suc count) ≡ tabulate f first count ++ g (first + count) ∷ []
grown f g first zero same = let e : first ≡ first + 0 = omega arith in ap (λ k. g k ∷ []) e
grown f g first (suc count) same =
    let e : suc first + count ≡ first + suc count = omega arith in
    ap₂ (λ x xs. x ∷ xs) (same first (omega arith)) (grown f g (suc first) count (λ i below. same i (omega (arith, below))) ∙ ap (λ k. tabulate f (suc first) count ++ g k ∷ []) e)

-- Objects ----------------------------------------------------------------------------------------

module _ (snapshot : World) (n : ℕ) (c : Collector) (shape : Shape) (made : Made) (h : KeepsSnapshot snapshot n c) (born : IsObjectBorn c.table n c.cycle shape made) where
  abbrev d : Collector
  d = borne snapshot n c shape made h born

  sound : IsSound (n + 1) d
  sound = sound-borne snapshot n c shape made h born

  leads_on : (r : ℕ) (y : Block) → block_at c.table (resolve c.table r) ≡ Some y → block_at d.table (resolve d.table r) ≡ Some y
  leads_on r y e = ap (block_at d.table) (resolve-borne snapshot n c shape made h born r) ∙ born.kept (resolve c.table r) y e

  -- what was born before shows as it did
  old_shown : (birth : ℕ) → birth < n → object_shown d birth ≡ object_shown c birth
  old_shown birth below = go (block_of_birth c birth) (block_of_birth d birth) refl refl
    where
      go : (o p : Option Block) → block_of_birth c birth ≡ o → block_of_birth d birth ≡ p → object_shown d birth ≡ object_shown c birth
      go None None e f = grind arith
      go None (Some y) e f =
          let (q, at) = found-first (n + 1) d sound birth y f in
          elim (either snapshot n c shape made h born q y at.there) [
            | inl old ↦
                let plain = plain_old snapshot n c shape made h born q y old (held-plain (n + 1) d sound q y at.there at.held) in
                absurd (none-some y (sym e ∙ first-found n c h.sound birth q y (record { there = old; held = plain-held c q y plain; birth_is = at.birth_is; first = at.first })))
            | inr new ↦ absurd (omega (arith, below, at.birth_is, new.newborn.birth_is))
          ]
      go (Some x) p e f =
          let (q, at) = found-first n c h.sound birth x e in
          let plain = held-plain n c h.sound q x at.there at.held in
          let plain' = plain_forth snapshot n c shape made h born q x plain in
          ap (option_map (object_of d.table)) (first-found (n + 1) d sound birth q x (record { there = plain'.there; held = plain-held d q x plain'; birth_is = at.birth_is; first = at.first }))
          ∙ ap Some (object-same n c d h.sound (λ p x plain i r e y leads. leads_on r y leads.there) q x plain)
          ∙ ap (option_map (object_of c.table)) (sym e)

  module _ (x : Block) (there : block_at d.table made.place ≡ Some x) (newborn : IsNewborn n c.cycle shape born.places 0 x) where
    plain_x : IsPlainAt d made.place x
    plain_x = plain_new snapshot n c shape made h born 0 made.place x there newborn

    -- its header is its shape
    born_header : x.header ≡ record { references = shape.references; numbers = shape.numbers }
    born_header = grind arith

    -- a block of its fields is newborn, and has no children
    field_newborn : (y : Block) → Has (field_blocks d.table x) y → (index : ℕ) × IsNewborn n c.cycle shape born.places index y × (first_child shape index ≡ None)
    field_newborn y has = elim (field_block-back d.table x y has) [
      | inl own ↦ grind (arith, ltb-false, by_header, sound, plain_x, has_none, IsNewborn, born_header)
      | inr far ↦
          let (k, r, e, at) = far.1 in
          let count = arraylet_count (n + 1) d sound made.place x plain_x newborn.part_is far.0 in
          let a = an_arraylet (n + 1) d sound made.place x plain_x newborn.part_is far.0 k (omega (arith, count, below_length (arraylet_words d.table x) k r e)) in
          let same_r : a.reference ≡ r = same_Some a.reference r (sym a.word ∙ e) in
          let same : a.block ≡ y = same_Some a.block y (sym a.leads.there ∙ ap (λ w. block_at d.table (resolve d.table w)) same_r ∙ at) in
          let birth_y : y.birth ≡ n = ap (λ (z : Block). z.birth) (sym same) ∙ a.birth ∙ newborn.birth_is in
          let flat : first_child x.header y.part ≡ None = ap (λ (z : Block). first_child x.header z.part) (sym same) ∙ by_header (n + 1) d sound made.place x plain_x newborn.part_is a.block a.birth a.flat in
          elim (either snapshot n c shape made h born (resolve d.table r) y at) [
            | inl old ↦ absurd (omega (arith, h.sound.births (resolve d.table r) y old, birth_y))
            | inr new ↦ (new.index, new.newborn, ap (first_child shape) (sym new.newborn.part_is) ∙ ap (λ (s : Shape). first_child s y.part) (sym born_header) ∙ flat)
          ]
    ]

    -- the object that was born is blank
    is_blank : object_of d.table x ≡ blank shape.references shape.numbers
    is_blank =
        let shaped : shape_of (object_of d.table x) ≡ record { references = shape.references; numbers = shape.numbers } = shape_is (n + 1) d sound made.place x plain_x newborn.part_is ∙ born_header in
        grind (arith, each_repeats, nulls, zeros)
      where
        nulls : Each None (object_of d.table x).references
        nulls = each_flat (λ (y : Block). map (birth_named d.table) y.references) None (field_blocks d.table x) (λ y has.
            let (index, new, flat) = field_newborn y has in
            each_null (birth_named d.table) refl y.references (λ i r e. let (child, is, at) = new.words i r e in none-some child (sym flat ∙ is)))

        zeros : Each {X = ℕ} 0 (object_of d.table x).numbers
        zeros = each_flat (λ (y : Block). y.numbers) 0 (field_blocks d.table x) (λ y has.
            let (index, new, flat) = field_newborn y has in
            subst (Each {X = ℕ} 0) (sym new.zeros.1) (each_zero new.zeros.0))

    born_shown : object_shown d n ≡ Some (blank shape.references shape.numbers)
    born_shown = ap (option_map (object_of d.table)) (first-found (n + 1) d sound n made.place x (record { there = there; held = plain-held d made.place x plain_x; birth_is = newborn.birth_is; first = newborn.part_is })) ∙ ap Some is_blank

    born_named : birth_named d.table (Some made.place) ≡ Some n
    born_named = grind arith

  old_births : births_at d ≡ births_at c
  old_births = roots-same c.table d.table c.slots (search (arith, resolve-live, leads_on))

-- The command ------------------------------------------------------------------------------------

module _ (heap : HeapState) (keeping : IsKeeping heap) where
  abbrev n : ℕ
  n = heap.next_birth

  view_born : (slot : ℕ) (shape : Shape) (made : Made) → IsObjectBorn heap.collector.table n heap.collector.cycle shape made → heap_view (with_born heap slot made) ≡ with_object (heap_view heap) slot (blank shape.references shape.numbers)
  unfolding heap_view
  view_born slot shape made born =
      let c = heap.collector in
      let grown_heap : HeapState = record heap { collector = d keeping.0 n c shape made keeping.1 born; next_birth = n + 1 } in
      let (x, there, newborn) = new_at keeping.0 n c shape made keeping.1 born 0 made.place born.first in
      let (z, plain, first, kept) = newborn_root keeping.0 n c shape made keeping.1 born in
      let writable : IsWritable keeping.0 (n + 1) grown_heap.collector (Some made.place) = record { leads = λ r f. let to = same_Some made.place r f in (z, subst (λ q. IsPlainAt grown_heap.collector q z) to plain, first, λ m. kept) } in
      let shows = shows_root keeping.0 grown_heap grown_heap.collector slot (Some made.place) (snapshot-borne keeping.0 n c shape made keeping.1 born) writable in
      let after : Collector = with_root grown_heap.collector slot (Some made.place) in
      let more : n + 1 ≡ suc n = omega arith in
      let last : 0 + n ≡ n = omega arith in
      ap₂ (λ objects slots. record { config = heap.config; objects = objects; slots = slots; ended = heap.ended })
      (ap (tabulate (object_shown after) 0) more
      ∙ grown (object_shown c) (object_shown after) 0 n (λ i below. shows.objects i ∙ old_shown keeping.0 n c shape made keeping.1 born i (omega (arith, below)))
      ∙ ap (λ o. tabulate (object_shown c) 0 n ++ o ∷ []) (ap (object_shown after) last ∙ shows.objects n ∙ born_shown keeping.0 n c shape made keeping.1 born x there newborn))
      (shows.slots ∙ ap₂ (λ slots name. set slots slot name) (old_births keeping.0 n c shape made keeping.1 born) (born_named keeping.0 n c shape made keeping.1 born x there newborn ∙ ap Some (sym (length-tabulate (object_shown c) 0 n))))

  pub new-follows : (who slot references numbers : ℕ) → Follows heap who (Command.New slot references numbers)
  unfolding heap_effect
  new-follows who slot references numbers = follows heap who (Command.New slot references numbers) (refused_alike heap keeping who (Command.New slot references numbers)) (λ e.
      let fails = each_fails (tests (heap_sight heap) who (Command.New slot references numbers)) (own_tests heap keeping who (Command.New slot references numbers) e) in
      record { reply = refl; state = by_group (new_group heap references numbers) refl fails.1.1.0 })
    where
      by_group : (made : Option Made) → new_group heap references numbers ≡ made → is_none (new_group heap references numbers) ≡ false → heap_view (unwrap_or (option_map (with_born heap (own_slot who slot)) (new_group heap references numbers)) heap) ≡ with_object (heap_view heap) (own_slot who slot) (blank references numbers)
      by_group None is some = absurd (false≢true (sym some ∙ ap is_none is))
      by_group (Some made) is some =
          let born = made_group-born heap.collector.table n heap.collector.cycle (record { references = references; numbers = numbers }) keeping.1.sound.narrow made is in
          ap (λ o. heap_view (unwrap_or (option_map (with_born heap (own_slot who slot)) o) heap)) is ∙ view_born (own_slot who slot) (record { references = references; numbers = numbers }) made born
