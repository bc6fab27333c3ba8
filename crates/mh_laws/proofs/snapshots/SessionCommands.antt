-- Commands of sessions keep the snapshot of a running cycle.
use Rattle.std.proofs.Common.{◌≡◌, ℕ, ◌+◌, ◌/◌, ◌%◌, ◌<◌, nat_le, if◌then◌else◌, Bool, true, false, List, [], ◌∷◌, get_or, Option, Some, None, option_map, option_and_then, unwrap_or, refl, sym, ap, ◌∙◌, subst, arith}
use Rattle.std.proofs.{lemmas.Bool.{false≢true, leb-false}, lemmas.Option.{none-some, same_Some}}
use Rattle.mh_model.specs.{declared.command.Command.Command, declared.shape.Shape.Shape, declared.reply.Refusal.Refusal}
use Rattle.mh_model.specs.declared.reply.Refusal.TheVariants.{Ended, TooManySessions}
use Rattle.mh_model.specs.World.{World, own_slot, board_slot, first_refusal, is_null, lacks_reference, tests, refusal, unless_refused}
use Rattle.mh_model.specs.Pages.{block_at}
use Rattle.mh_model.specs.Table.{Block, Made, Position, resolve, target_of, is_spine, is_tall, is_at, child_place, spine_place, arraylet_place, position_of, reference_in, loaded_reference}
use Rattle.mh_model.specs.Collector.{Collector}
use Rattle.mh_model.specs.Mutator.{HeapState, in_roots_or_mark, root_at, shape_at, field_of, number_field, new_group, with_born, heap_sight, heap_effect, mutator_step}
use Rattle.mh_model.specs.{Snapshot.IsKept, Invariant.{IsPlainAt, KeepsSnapshot}}
use Rattle.mh_laws.proofs.{marking.BlockChanges.resolve-live, marking.MarkSteps.leads}
use Rattle.mh_laws.proofs.snapshots.Barriers.{IsWritable, HasFields, nothing_writable, root_writable, snapshot-with_root, snapshot-with_session_cleared, snapshot-with_reference_stored, snapshot-with_number_stored}
use Rattle.mh_laws.proofs.objects.NewbornBlocks.{made_group-born}
use Rattle.mh_laws.proofs.snapshots.NewObjects.{snapshot-borne, newborn_root, borne}
use Rattle.mh_table_laws.proofs.objects.{Headers.flat_of, JoinedFields.{laid, has_fields}}

-- Refusals ---------------------------------------------------------------------------------------

-- each of these tests fails
abbrev pub EachFails : List (Bool × Refusal) → Type 0
EachFails [] = Unit {0}
EachFails (test ∷ list) = (test.0 ≡ false) × EachFails list

pub each_fails : (list : List (Bool × Refusal)) → first_refusal list ≡ None → EachFails list
each_fails [] e = tt
each_fails (test ∷ list) e = go test.0 refl e (λ f. each_fails list f)
  where
    go : (b : Bool) → test.0 ≡ b → (if b then Some test.1 else first_refusal list) ≡ None → (first_refusal list ≡ None → EachFails list) → (test.0 ≡ false) × EachFails list
    go b is f ih = grind (arith, none-some)

-- if a field lies, by whether the block is a spine
abbrev position_if : Collector → ℕ → ℕ → Bool → Position
position_if collector place field spine = if spine then record { place = arraylet_place collector.table place field; index = field % 60 } else record { place = place; index = field }

pub not_null : (shape : Option Shape) → is_null shape ≡ false → (s : Shape) × (shape ≡ Some s)
not_null shape e = grind (arith, false≢true)

pub has_reference : (shape : Option Shape) (field : ℕ) (s : Shape) → shape ≡ Some s → lacks_reference shape field ≡ false → field < s.references
has_reference shape field s e lacks = grind (arith, none-some, same_Some, leb-false)

module _ (snapshot : World) (heap : HeapState) (h : KeepsSnapshot snapshot heap.next_birth heap.collector) where
  abbrev c : Collector
  c = heap.collector

  -- the object that a root holds
  pub record IsHeldBy (slot : ℕ) (s : Shape) : Type 0 where
    pub place : ℕ
    pub block : Block
    pub root : root_at heap slot ≡ Some place
    pub plain : IsPlainAt heap.collector place block
    pub first : block.part ≡ 0
    pub kept : in_roots_or_mark heap.collector.phase ≡ true → IsKept snapshot heap.next_birth block.birth
    pub header : block.header ≡ s

  pub held_by : (slot : ℕ) (s : Shape) → shape_at heap slot ≡ Some s → IsHeldBy slot s
  held_by slot s e = go (root_at heap slot) refl e
    where
      at_block : (r : ℕ) → root_at heap slot ≡ Some r → (o : Option Block) → block_at c.table r ≡ o → option_map (λ (x : Block). x.header) o ≡ Some s → IsHeldBy slot s
      at_block r root None there f = absurd (none-some s f)
      at_block r root (Some x) there f =
          let (y, plain, first) = h.sound.slots slot r root in
          let self : resolve c.table r ≡ r = resolve-live c.table r y plain.there plain.original in
          let same : y ≡ x = same_Some y x (sym plain.there ∙ there) in
          record { place = r; block = y; root = root; plain = plain; first = first; kept = λ m. h.cycle.slots m slot r y root (ap (block_at c.table) self ∙ plain.there); header = ap (λ z. z.header) same ∙ same_Some x.header s f }

      go : (o : Option ℕ) → root_at heap slot ≡ o → option_map (λ (x : Block). x.header) (option_and_then (block_at c.table) o) ≡ Some s → IsHeldBy slot s
      go None root f = absurd (none-some s f)
      go (Some r) root f = at_block r root (block_at c.table r) refl f

  -- if a reference's field lies: in a block that has fields
  fields_at : (place : ℕ) (x : Block) → IsPlainAt c place x → x.part ≡ 0 → (in_roots_or_mark c.phase ≡ true → IsKept snapshot heap.next_birth x.birth) → (field : ℕ) → field < x.header.references → HasFields snapshot heap.next_birth c (position_of c.table place field).place
  fields_at place x plain first kept field below =
      let l = laid heap.next_birth c h.sound place x plain first field (omega (arith, below)) in
      record { block = l.block; has = has_fields heap.next_birth c h.sound place x plain first field l; kept = λ m. subst (IsKept snapshot heap.next_birth) (sym l.birth) (kept m) }

  -- if a reference of a plain block leads there is one
  child_plain : (q : ℕ) (y : Block) (i : ℕ) → IsPlainAt c q y → (x : Block) × IsPlainAt c (child_place c.table q i) x
  child_plain q y i plain = go (get_or y.references i None) refl
    where
      at_word : (o : Option ℕ) → get_or y.references i None ≡ o → child_place c.table q i ≡ unwrap_or (target_of c.table o) q
      at_word o e = ap (λ b. unwrap_or (target_of c.table (get_or (unwrap_or (option_map (λ (z : Block). z.references) b) []) i None)) q) plain.there ∙ ap (λ w. unwrap_or (target_of c.table w) q) e

      go : (o : Option ℕ) → get_or y.references i None ≡ o → (x : Block) × IsPlainAt c (child_place c.table q i) x
      go None e = (y, subst (λ k. IsPlainAt c k y) (sym (at_word None e)) plain)
      go (Some r) e = let (x, plain') = leads heap.next_birth c h.sound q y plain i r e in (x, subst (λ k. IsPlainAt c k x) (sym (at_word (Some r) e)) plain')

  -- if any field lies there is a block
  block_of_field : (place : ℕ) (x : Block) → IsPlainAt c place x → (field : ℕ) → (y : Block) × (block_at c.table (position_of c.table place field).place ≡ Some y) × (y.forward ≡ None)
  block_of_field place x plain field = go (is_at is_spine c.table place)
    where
      of_spine : (b : Bool) → (y : Block) × IsPlainAt c (if b then child_place c.table place (field / 3600) else place) y
      of_spine true = child_plain place x (field / 3600) plain
      of_spine false = (x, plain)

      go : (b : Bool) → (y : Block) × (block_at c.table (position_if c place field b).place ≡ Some y) × (y.forward ≡ None)
      go true =
          let (y, plain_y) = of_spine (is_at is_tall c.table place) in
          let (w, plain_w) = child_plain (spine_place c.table place field) y (field / 60 % 60) plain_y in
          (w, plain_w.there, plain_w.original)
      go false = (x, plain.there, plain.original)

  -- what is loaded from a field may be written
  pub loaded_writable : (position : Position) → HasFields snapshot heap.next_birth c position.place → IsWritable snapshot heap.next_birth c (loaded_reference c.table position)
  loaded_writable position f = record { leads = λ r e. go (reference_in c.table position) refl r e }
    where
      go : (o : Option ℕ) → reference_in c.table position ≡ o → (r : ℕ) → target_of c.table o ≡ Some r → (x : Block) × IsPlainAt c r x × (x.part ≡ 0) × (in_roots_or_mark c.phase ≡ true → IsKept snapshot heap.next_birth x.birth)
      go None e r g = absurd (none-some r g)
      go (Some s) e r g =
          let word : get_or f.block.references position.index None ≡ Some s = ap (λ o. get_or (unwrap_or (option_map (λ (z : Block). z.references) o) []) position.index None) (sym f.has.plain.there) ∙ e in
          let (x, plain, first) = h.sound.fields position.place f.block f.has.plain (flat_of heap.next_birth c h.sound position.place f.block f.has) position.index s word in
          let to : resolve c.table s ≡ r = same_Some (resolve c.table s) r g in
          (x, subst (λ z. IsPlainAt c z x) to plain, first, λ m. h.cycle.references m position.place f.block position.index s x f.has.plain.there f.has.plain.original (f.kept m) word plain.there)

  pub field_held : (slot field : ℕ) (s : Shape) → shape_at heap slot ≡ Some s → field < s.references → HasFields snapshot heap.next_birth c (field_of heap slot field).place
  field_held slot field s e below =
      let held = held_by slot s e in
      let size : held.block.header.references ≡ s.references = ap (λ (z : Shape). z.references) held.header in
      subst (λ o. HasFields snapshot heap.next_birth c (position_of c.table (unwrap_or o 0) field).place) (sym held.root) (fields_at held.place held.block held.plain held.first held.kept field (omega (arith, below, size)))

  number_held : (slot index : ℕ) (s : Shape) → shape_at heap slot ≡ Some s → (y : Block) × (block_at c.table (number_field heap slot index).place ≡ Some y) × (y.forward ≡ None)
  number_held slot index s e =
      let held = held_by slot s e in
      subst (λ o. (y : Block) × (block_at c.table (position_of c.table (unwrap_or o 0) (unwrap_or (option_map (λ (z : Shape). z.references) (shape_at heap slot)) 0 + index)).place ≡ Some y) × (y.forward ≡ None)) (sym held.root)
      (block_of_field held.place held.block held.plain (unwrap_or (option_map (λ (z : Shape). z.references) (shape_at heap slot)) 0 + index))

  -- What a command does that isn't refused
  snapshot-heap_effect : (who : ℕ) (command : Command) → first_refusal (tests (heap_sight heap) who command) ≡ None
      → KeepsSnapshot snapshot (heap_effect heap who command).state.next_birth (heap_effect heap who command).state.collector
  unfolding heap_effect
  snapshot-heap_effect who (Command.New slot references numbers) e = go (new_group heap references numbers) refl
    where
      go : (made : Option Made) → new_group heap references numbers ≡ made → KeepsSnapshot snapshot (unwrap_or (option_map (with_born heap (own_slot who slot)) made) heap).next_birth (unwrap_or (option_map (with_born heap (own_slot who slot)) made) heap).collector
      go None is = h
      go (Some made) is =
          let shape : Shape = record { references = references; numbers = numbers } in
          let born = made_group-born c.table heap.next_birth c.cycle shape h.sound.narrow made is in
          let (x, plain, first, kept) = newborn_root snapshot heap.next_birth c shape made h born in
          snapshot-with_root snapshot (heap.next_birth + 1) (borne snapshot heap.next_birth c shape made h born) (own_slot who slot) (Some made.place)
          (record { leads = λ r f. let to = same_Some made.place r f in (x, subst (λ z. IsPlainAt (borne snapshot heap.next_birth c shape made h born) z x) to plain, first, λ m. kept) })
          (snapshot-borne snapshot heap.next_birth c shape made h born)
  snapshot-heap_effect who (Command.Get slot source field) e =
      let fails = each_fails (tests (heap_sight heap) who (Command.Get slot source field)) e in
      let n = fails.1.1.0 in
      let l = fails.1.1.1.0 in
      let (s, is) = not_null (shape_at heap (own_slot who source)) n in
      let f = field_held (own_slot who source) field s is (has_reference (shape_at heap (own_slot who source)) field s is l) in
      snapshot-with_root snapshot heap.next_birth c (own_slot who slot) (loaded_reference c.table (field_of heap (own_slot who source) field)) (loaded_writable (field_of heap (own_slot who source) field) f) h
  snapshot-heap_effect who (Command.Put slot field value) e =
      let fails = each_fails (tests (heap_sight heap) who (Command.Put slot field value)) e in
      let n = fails.1.1.0 in
      let l = fails.1.1.1.0 in
      let (s, is) = not_null (shape_at heap (own_slot who slot)) n in
      let f = field_held (own_slot who slot) field s is (has_reference (shape_at heap (own_slot who slot)) field s is l) in
      snapshot-with_reference_stored snapshot heap.next_birth c (field_of heap (own_slot who slot) field) (root_at heap (own_slot who value)) f (root_writable snapshot heap.next_birth c (own_slot who value) h) h
  snapshot-heap_effect who (Command.Copy slot source) e = snapshot-with_root snapshot heap.next_birth c (own_slot who slot) (root_at heap (own_slot who source)) (root_writable snapshot heap.next_birth c (own_slot who source) h) h
  snapshot-heap_effect who (Command.Clear slot) e = snapshot-with_root snapshot heap.next_birth c (own_slot who slot) None (nothing_writable snapshot heap.next_birth c) h
  snapshot-heap_effect who (Command.Write slot index number) e =
      let fails = each_fails (tests (heap_sight heap) who (Command.Write slot index number)) e in
      let n = fails.1.0 in
      let (s, is) = not_null (shape_at heap (own_slot who slot)) n in
      let (y, there, live) = number_held (own_slot who slot) index s is in
      snapshot-with_number_stored snapshot heap.next_birth c (number_field heap (own_slot who slot) index) number y there live h
  snapshot-heap_effect who (Command.Post board slot) e = snapshot-with_root snapshot heap.next_birth c (board_slot board) (root_at heap (own_slot who slot)) (root_writable snapshot heap.next_birth c (own_slot who slot) h) h
  snapshot-heap_effect who (Command.Take slot board) e = snapshot-with_root snapshot heap.next_birth c (own_slot who slot) (root_at heap (board_slot board)) (root_writable snapshot heap.next_birth c (board_slot board) h) h
  snapshot-heap_effect who Command.End e = snapshot-with_session_cleared snapshot heap.next_birth c who h
  snapshot-heap_effect who command e = h

  -- A command keeps the snapshot
  pub snapshot-mutator_step : (who : ℕ) (command : Command) → KeepsSnapshot snapshot (mutator_step heap who command).state.next_birth (mutator_step heap who command).state.collector
  unfolding mutator_step
  snapshot-mutator_step who command = go (refusal (heap_sight heap) who command) refl
    where
      go : (refused : Option Refusal) → refusal (heap_sight heap) who command ≡ refused → KeepsSnapshot snapshot (unless_refused refused heap (heap_effect heap who command)).state.next_birth (unless_refused refused heap (heap_effect heap who command)).state.collector
      go (Some refused) e = h
      go None e = search (arith, snapshot-heap_effect, after, nat_le)
        where
          after : (a b : Bool) → (if a then Some TooManySessions else (if b then Some Ended else first_refusal (tests (heap_sight heap) who command))) ≡ None → first_refusal (tests (heap_sight heap) who command) ≡ None
          after a b f = grind (arith, none-some)
