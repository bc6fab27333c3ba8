-- Commands on the pages, beside the same commands on what the heap shows.
use Rattle.std.proofs.Common.{◌≡◌, ℕ, zero, suc, ◌+◌, ◌<◌, nat_le, ◌==◌, if◌then◌else◌, Bool, true, false, List, [], ◌∷◌, get_or, set, map, Option, Some, None, option_map, refl, sym, ap, ap₂, ◌∙◌, arith, subst, eq-eqb, eqb-true, unwrap_or, length, ◌-◌}
use Rattle.std.proofs.{lemmas.Bool.false≢true, lemmas.Option.same_Some}
use Rattle.mh_model.specs.{declared.command.Command.Command, declared.reply.Refusal.Refusal, declared.reply.Reply.Reply}
use Rattle.mh_model.specs.{declared.reply.Refusal.TheVariants.{Ended, TooManySessions}, declared.shape.Shape.Shape}
use Rattle.mh_model.specs.World.{World, own_slot, slot_at, cleared, with_slot, with_end, names_same, object_at, object_in, object_named, shape_of, first_refusal, lacks_number, refusal, sight_of, effect, heap_step, unless_refused, tests, number_of, reference_of}
use Rattle.mh_model.specs.Table.{Block, target_of, position_of, reference_in, number_in, loaded_reference}
use Rattle.mh_model.specs.Collector.{Collector, with_shade}
use Rattle.mh_model.specs.Mutator.{HeapState, in_roots, with_root, with_roots_cleared, with_session_cleared, root_at, shape_at, heap_sight, heap_effect, mutator_step, field_of, number_field}
use Rattle.mh_model.specs.View.{birth_named, object_of, object_shown, heap_view}
use Rattle.mh_model.specs.Invariant.{IsPlainAt, IsSound, KeepsSnapshot, IsKeeping}
use Rattle.mh_run_laws.specs.Following.{has_no_place, Follows}
use Rattle.mh_model.proofs.TabulateLemmas.{get_or-tabulate}
use Rattle.mh_table_laws.proofs.objects.JoinedFields.{shape_is, laid, number_read, reference_read}
use Rattle.mh_laws.proofs.marking.BlockChanges.{resolve-live, roots_mark, no_sweep}
use Rattle.mh_laws.proofs.snapshots.SessionCommands.{each_fails, not_null, has_reference, loaded_writable, field_held}
use Rattle.mh_laws.proofs.snapshots.Barriers.{IsWritable, nothing_writable, root_writable, snapshot-with_root}
use Rattle.mh_laws.proofs.{showing.FoundBlocks.{first-found, tabulate-same}, showing.SamePlainBlocks.plain-held}
use Rattle.mh_run_laws.proofs.showing.AlikeTables.{with_shade-alike, roots-alike, alike-shown}

-- Lists ------------------------------------------------------------------------------------------

pub map-put : {X Y : Type 0} (f : X → Y) (xs : List X) (i : ℕ) (x : X) → map f (set xs i x) ≡ set (map f xs) i (f x)
map-put f (y ∷ xs) (suc i) x = ap (λ ys. f y ∷ ys) (map-put f xs i x)
map-put f xs i x = refl

pub map-read : {X Y : Type 0} (f : Option X → Option Y) → f None ≡ None → (xs : List (Option X)) (i : ℕ) → get_or (map f xs) i None ≡ f (get_or xs i None)
map-read f none (x ∷ xs) (suc i) = map-read f none xs i
map-read f none xs i = grind arith

-- Roots ------------------------------------------------------------------------------------------

-- what a collector shows: its objects, and the births at its roots
abbrev pub births_at : Collector → List (Option ℕ)
births_at c = map (birth_named c.table) c.slots

-- a root overwritten, with its barrier or without
abbrev root_after : Collector → ℕ → Option ℕ → Bool → Collector
root_after c slot reference shades = let shaded = (if shades then with_shade c (get_or c.slots slot None) else c) in record shaded { slots = set shaded.slots slot reference }

module _ (snapshot : World) (heap : HeapState) where
  -- A root overwritten after its barrier shows as that slot alone
  pub record ShowsRoot (c d : Collector) (slot : ℕ) (reference : Option ℕ) : Type 0 where
    pub objects : (birth : ℕ) → object_shown d birth ≡ object_shown c birth
    pub slots : births_at d ≡ set (births_at c) slot (birth_named c.table reference)

  pub shows_root : (c : Collector) (slot : ℕ) (reference : Option ℕ) → KeepsSnapshot snapshot heap.next_birth c → IsWritable snapshot heap.next_birth c reference → ShowsRoot c (with_root c slot reference) slot reference
  shows_root c slot reference h w = go (in_roots c.phase) refl (snapshot-with_root snapshot heap.next_birth c slot reference w h).sound
    where
      by_shade : (d : Collector) → d ≡ root_after c slot reference true → in_roots c.phase ≡ true → IsSound heap.next_birth d → ShowsRoot c (root_after c slot reference true) slot reference
      by_shade d is e sound =
          let same = with_shade-alike c (get_or c.slots slot None) in
          record {
            objects = alike-shown heap.next_birth heap.next_birth c (root_after c slot reference true) h.sound (subst (IsSound heap.next_birth) is sound) (no_sweep c.phase (roots_mark c.phase e)) (no_sweep c.phase (roots_mark c.phase e)) same;
            slots = roots-alike c.table (with_shade c (get_or c.slots slot None)).table same (set (with_shade c (get_or c.slots slot None)).slots slot reference) ∙ map-put (birth_named c.table) c.slots slot reference;
          }

      go : (b : Bool) → in_roots c.phase ≡ b → IsSound heap.next_birth (with_root c slot reference) → ShowsRoot c (with_root c slot reference) slot reference
      go true e sound = grind (arith, by_shade (with_root c slot reference) (ap (root_after c slot reference) e) e sound)
      go false e sound = subst (λ d. ShowsRoot c d slot reference) (ap (root_after c slot reference) (sym e)) (record { objects = λ birth. refl; slots = map-put (birth_named c.table) c.slots slot reference })

  record ShowsCleared (c d : Collector) (slot count : ℕ) : Type 0 where
    objects : (birth : ℕ) → object_shown d birth ≡ object_shown c birth
    slots : births_at d ≡ cleared (births_at c) slot count

  shows_cleared : (count : ℕ) (c : Collector) (slot : ℕ) → KeepsSnapshot snapshot heap.next_birth c → ShowsCleared c (with_roots_cleared c slot count) slot count
  shows_cleared zero c slot h = record { objects = λ birth. refl; slots = refl }
  shows_cleared (suc count) c slot h =
      let none = nothing_writable snapshot heap.next_birth c in
      let first = shows_root c slot None h none in
      let rest = shows_cleared count (with_root c slot None) (suc slot) (snapshot-with_root snapshot heap.next_birth c slot None none h) in
      record { objects = λ birth. rest.objects birth ∙ first.objects birth; slots = rest.slots ∙ ap (λ slots. cleared slots (suc slot) count) first.slots }

-- One command ------------------------------------------------------------------------------------

-- what a command does that isn't refused
pub record EffectFollows (heap : HeapState) (who : ℕ) (command : Command) : Type 0 where
  pub reply : (heap_effect heap who command).reply ≡ (effect (heap_view heap) who command).reply
  pub state : heap_view (heap_effect heap who command).state ≡ (effect (heap_view heap) who command).state

-- the replies, and what is left, by the refusals
abbrev Both : HeapState → ℕ → Command → Option Refusal → Option Refusal → Type 0
Both heap who command o o' = ((unless_refused o heap (heap_effect heap who command)).reply ≡ (unless_refused o' (heap_view heap) (effect (heap_view heap) who command)).reply) × (heap_view (unless_refused o heap (heap_effect heap who command)).state ≡ (unless_refused o' (heap_view heap) (effect (heap_view heap) who command)).state)

-- a command that is refused alike, and does the same if it isn't
pub follows : (heap : HeapState) (who : ℕ) (command : Command) → refusal (heap_sight heap) who command ≡ refusal (sight_of (has_no_place heap) (heap_view heap)) who command
    → (refusal (heap_sight heap) who command ≡ None → EffectFollows heap who command) → Follows heap who command
unfolding mutator_step heap_step
follows heap who command refused done = grind arith

-- Slots ------------------------------------------------------------------------------------------

module _ (heap : HeapState) (keeping : IsKeeping heap) where
  abbrev c : Collector
  c = heap.collector

  birth_at : (slot : ℕ) → birth_named c.table (root_at heap slot) ≡ get_or (births_at c) slot None
  birth_at slot = sym (map-read (birth_named c.table) refl c.slots slot)

  -- a root that gets what another root holds, or nothing
  copied : (slot source : ℕ) → ShowsRoot keeping.0 heap c (with_root c slot (root_at heap source)) slot (root_at heap source)
  copied slot source = search (arith, shows_root, root_writable)

  view_copied : (slot source : ℕ) → heap_view (record heap { collector = with_root c slot (root_at heap source) }) ≡ with_slot (heap_view heap) slot (slot_at (heap_view heap) source)
  unfolding heap_view
  view_copied slot source = grind (arith, copied, tabulate-same, birth_at)

  view_cleared : (slot : ℕ) → heap_view (record heap { collector = with_root c slot None }) ≡ with_slot (heap_view heap) slot None
  unfolding heap_view
  view_cleared slot = grind (arith, shows_root keeping.0 heap c slot None keeping.1 (nothing_writable keeping.0 heap.next_birth c))

  view_ended : (who : ℕ) → heap_view (record heap { collector = with_session_cleared c who; ended = set heap.ended who true }) ≡ with_end (heap_view heap) who
  unfolding heap_view with_session_cleared
  view_ended who = grind (arith, shows_cleared keeping.0 heap 16 c (own_slot who 0) keeping.1)

  refused_copy : (who slot source : ℕ) → refusal (heap_sight heap) who (Command.Copy slot source) ≡ refusal (sight_of (has_no_place heap) (heap_view heap)) who (Command.Copy slot source)
  unfolding heap_view
  refused_copy who slot source = refl

  refused_clear : (who slot : ℕ) → refusal (heap_sight heap) who (Command.Clear slot) ≡ refusal (sight_of (has_no_place heap) (heap_view heap)) who (Command.Clear slot)
  unfolding heap_view
  refused_clear who slot = refl

  refused_post : (who board slot : ℕ) → refusal (heap_sight heap) who (Command.Post board slot) ≡ refusal (sight_of (has_no_place heap) (heap_view heap)) who (Command.Post board slot)
  unfolding heap_view
  refused_post who board slot = refl

  refused_take : (who slot board : ℕ) → refusal (heap_sight heap) who (Command.Take slot board) ≡ refusal (sight_of (has_no_place heap) (heap_view heap)) who (Command.Take slot board)
  unfolding heap_view
  refused_take who slot board = refl

  refused_end : (who : ℕ) → refusal (heap_sight heap) who Command.End ≡ refusal (sight_of (has_no_place heap) (heap_view heap)) who Command.End
  unfolding heap_view
  refused_end who = refl

  refused_same : (who left right : ℕ) → refusal (heap_sight heap) who (Command.Same left right) ≡ refusal (sight_of (has_no_place heap) (heap_view heap)) who (Command.Same left right)
  unfolding heap_view
  refused_same who left right = refl

  pub copy-follows : (who slot source : ℕ) → Follows heap who (Command.Copy slot source)
  unfolding heap_effect
  copy-follows who slot source = grind (arith, follows, refused_copy, view_copied)

  pub clear-follows : (who slot : ℕ) → Follows heap who (Command.Clear slot)
  unfolding heap_effect
  clear-follows who slot = grind (arith, follows, refused_clear, view_cleared)

  pub post-follows : (who board slot : ℕ) → Follows heap who (Command.Post board slot)
  unfolding heap_effect
  post-follows who board slot = grind (arith, follows, refused_post, view_copied)

  pub take-follows : (who slot board : ℕ) → Follows heap who (Command.Take slot board)
  unfolding heap_effect
  take-follows who slot board = grind (arith, follows, refused_take, view_copied)

  pub end-follows : (who : ℕ) → Follows heap who Command.End
  unfolding heap_effect
  end-follows who = follows heap who Command.End (refused_end who) (λ e. record { reply = refl; state = view_ended who })

  -- two roots hold the same place just when the same birth shows at them
  names_alike : (left right : ℕ) → names_same (root_at heap left) (root_at heap right) ≡ names_same (birth_named c.table (root_at heap left)) (birth_named c.table (root_at heap right))
  names_alike left right = go (root_at heap left) refl (root_at heap right) refl
    where
      sound : IsSound heap.next_birth c
      sound = keeping.1.sound

      born : (slot r : ℕ) → root_at heap slot ≡ Some r → (x : Block) × IsPlainAt c r x × (x.part ≡ 0) × (birth_named c.table (Some r) ≡ Some x.birth)
      born slot r e = grind arith

      go : (l : Option ℕ) → root_at heap left ≡ l → (r : Option ℕ) → root_at heap right ≡ r → names_same l r ≡ names_same (birth_named c.table l) (birth_named c.table r)
      go None e None f = refl
      go None e (Some r) f = let (x, plain, first, is) = born right r f in ap (names_same None) (sym is)
      go (Some l) e None f = search (arith, born)
      go (Some l) e (Some r) f =
          let (x, plain_x, first_x, is_x) = born left l e in
          let (y, plain_y, first_y, is_y) = born right r f in
          by_place l r x y plain_x plain_y first_x first_y (l == r) refl (x.birth == y.birth) refl ∙ sym (ap₂ names_same is_x is_y)
        where
          by_place : (l r : ℕ) (x y : Block) → IsPlainAt c l x → IsPlainAt c r y → x.part ≡ 0 → y.part ≡ 0 → (b : Bool) → (l == r) ≡ b → (b' : Bool) → (x.birth == y.birth) ≡ b' → (l == r) ≡ (x.birth == y.birth)
          by_place l r x y px py fx fy b e b' f = search (arith, same_Some, eqb-true, false≢true, eq-eqb)

  pub slot_shown : (slot : ℕ) → birth_named c.table (root_at heap slot) ≡ slot_at (heap_view heap) slot
  unfolding heap_view
  slot_shown slot = birth_at slot

  pub same-follows : (who left right : ℕ) → Follows heap who (Command.Same left right)
  unfolding heap_effect
  same-follows who left right = grind (arith, follows, refused_same, names_alike, slot_shown)

  -- Objects ----------------------------------------------------------------------------------------

  -- the object that a root holds is shown
  pub record IsAtRoot (slot place : ℕ) (z : Block) : Type 0 where
    pub root : root_at heap slot ≡ Some place
    pub plain : IsPlainAt c place z
    pub first : z.part ≡ 0
    pub birth : slot_at (heap_view heap) slot ≡ Some z.birth
    pub object : object_at (heap_view heap) z.birth ≡ Some (object_of c.table z)

  pub object_view : (birth : ℕ) → birth < heap.next_birth → object_at (heap_view heap) birth ≡ object_shown c birth
  unfolding heap_view
  object_view birth below = grind (arith, get_or-tabulate)

  pub shown_plain : (p : ℕ) (z : Block) → IsPlainAt c p z → z.part ≡ 0 → object_at (heap_view heap) z.birth ≡ Some (object_of c.table z)
  shown_plain p z plain first =
      object_view z.birth (keeping.1.sound.births p z plain.there)
      ∙ ap (option_map (object_of c.table)) (first-found heap.next_birth c keeping.1.sound z.birth p z (record { there = plain.there; held = plain-held c p z plain; birth_is = refl; first = first }))

  pub at_root : (slot place : ℕ) → root_at heap slot ≡ Some place → (z : Block) × IsAtRoot slot place z
  at_root slot place e =
      let (z, plain, first) = keeping.1.sound.slots slot place e in (
        z,
        grind (arith, slot_shown slot, resolve-live c.table place z plain.there plain.original, shown_plain place z plain first),
      )

  pub shape_view : (slot : ℕ) → shape_at heap slot ≡ option_map shape_of (object_in (heap_view heap) slot)
  shape_view slot = go (root_at heap slot) refl
    where
      go : (o : Option ℕ) → root_at heap slot ≡ o → shape_at heap slot ≡ option_map shape_of (object_in (heap_view heap) slot)
      go None e = grind (arith, slot_shown slot)
      go (Some place) e =
          let (z, is) = at_root slot place e in
          grind (arith, shape_is heap.next_birth c keeping.1.sound place z is.plain is.first)

  again : (who : ℕ) (here there : List (Bool × Refusal)) → here ≡ there → first_refusal ((nat_le 8 who, TooManySessions) ∷ (get_or heap.ended who false, Ended) ∷ here) ≡ first_refusal ((nat_le 8 who, TooManySessions) ∷ (get_or heap.ended who false, Ended) ∷ there)
  again who here there e = grind arith

  -- A command is refused on the pages as it is on what the heap shows
  pub refused_alike : (who : ℕ) (command : Command) → refusal (heap_sight heap) who command ≡ refusal (sight_of (has_no_place heap) (heap_view heap)) who command
  unfolding heap_view
  refused_alike who asked = grind (arith, again, shape_view)

  pub shape-follows : (who slot : ℕ) → Follows heap who (Command.Shape slot)
  unfolding heap_effect
  shape-follows who slot = search (arith, follows, refused_alike, shape_view)

  -- Fields -----------------------------------------------------------------------------------------

  -- what a command that names a field finds at its root: the object, and the block in which the field lies
  pub record IsObjectAt (slot : ℕ) (shape : Shape) : Type 0 where
    pub place : ℕ
    pub block : Block
    pub at : IsAtRoot slot place block
    pub header : block.header ≡ shape

  pub object_at_root : (slot : ℕ) (shape : Shape) → shape_at heap slot ≡ Some shape → IsObjectAt slot shape
  object_at_root slot shape e = go (root_at heap slot) refl
    where
      go : (o : Option ℕ) → root_at heap slot ≡ o → IsObjectAt slot shape
      go None is = grind arith
      go (Some place) is = grind (arith, at_root slot place is)

  object_in_view : (slot place : ℕ) (z : Block) → IsAtRoot slot place z → object_in (heap_view heap) slot ≡ Some (object_of c.table z)
  object_in_view slot place z at = ap (object_named (heap_view heap)) at.birth ∙ at.object

  pub has_number : (shape : Option Shape) (index : ℕ) (s : Shape) → shape ≡ Some s → lacks_number shape index ≡ false → index < s.numbers
  has_number shape index s e lacks = grind arith

  -- the tests of the command alone, if it isn't refused
  pub own_tests : (who : ℕ) (command : Command) → refusal (heap_sight heap) who command ≡ None → first_refusal (tests (heap_sight heap) who command) ≡ None
  own_tests who command e = grind arith

  pub number_place : (slot index : ℕ) (s : Shape) (o : IsObjectAt slot s) → number_field heap slot index ≡ position_of c.table o.place (o.block.header.references + index)
  number_place slot index s o = grind arith

  number_shown : (slot index : ℕ) (s : Shape) → shape_at heap slot ≡ Some s → index < s.numbers → number_in c.table (number_field heap slot index) ≡ number_of (object_in (heap_view heap) slot) index
  number_shown slot index s e below =
      let o = object_at_root slot s e in
      let size : o.block.header.numbers ≡ s.numbers = ap (λ (x : Shape). x.numbers) o.header in
      let l = laid heap.next_birth c keeping.1.sound o.place o.block o.at.plain o.at.first (o.block.header.references + index) (omega (arith, size, below)) in
      let position = position_of c.table o.place (o.block.header.references + index) in
      ap (number_in c.table) (number_place slot index s o)
      ∙ ap (λ (b : Option Block). get_or (unwrap_or (option_map (λ (x : Block). x.numbers) b) []) (position.index - length (unwrap_or (option_map (λ (x : Block). x.references) b) [])) 0) l.lies.there
      ∙ sym (number_read heap.next_birth c keeping.1.sound o.place o.block o.at.plain o.at.first index (omega (arith, size, below)) l)
      ∙ sym (ap (λ x. number_of x index) (object_in_view slot o.place o.block o.at))

  pub read-follows : (who slot index : ℕ) → Follows heap who (Command.Read slot index)
  unfolding heap_effect
  read-follows who slot index = follows heap who (Command.Read slot index) (refused_alike who (Command.Read slot index)) (λ e.
      let fails = each_fails (tests (heap_sight heap) who (Command.Read slot index)) (own_tests who (Command.Read slot index) e) in
      let (s, is) = not_null (shape_at heap (own_slot who slot)) fails.1.0 in
      record { reply = ap (λ n. Reply.Number n) (number_shown (own_slot who slot) index s is (has_number (shape_at heap (own_slot who slot)) index s is fails.1.1.0)); state = refl })

  -- the birth to which a field refers
  reference_shown : (slot field : ℕ) (s : Shape) → shape_at heap slot ≡ Some s → field < s.references → birth_named c.table (reference_in c.table (field_of heap slot field)) ≡ reference_of (object_in (heap_view heap) slot) field
  reference_shown slot field s e below =
      let o = object_at_root slot s e in
      let size : o.block.header.references ≡ s.references = ap (λ (x : Shape). x.references) o.header in
      let l = laid heap.next_birth c keeping.1.sound o.place o.block o.at.plain o.at.first field (omega (arith, size, below)) in
      let position = position_of c.table o.place field in
      ap (λ r. birth_named c.table (reference_in c.table (position_of c.table (unwrap_or r 0) field))) o.at.root
      ∙ ap (λ (b : Option Block). birth_named c.table (get_or (unwrap_or (option_map (λ (x : Block). x.references) b) []) position.index None)) l.lies.there
      ∙ sym (map-read (birth_named c.table) refl l.block.references position.index)
      ∙ sym (reference_read heap.next_birth c keeping.1.sound o.place o.block o.at.plain o.at.first field (omega (arith, size, below)) l)
      ∙ sym (ap (λ x. reference_of x field) (object_in_view slot o.place o.block o.at))

  -- a reference names the same birth after it is forwarded
  birth_loaded : (o : Option ℕ) → IsWritable keeping.0 heap.next_birth c (target_of c.table o) → birth_named c.table (target_of c.table o) ≡ birth_named c.table o
  birth_loaded o w = grind arith

  view_rooted : (slot : ℕ) (reference : Option ℕ) → IsWritable keeping.0 heap.next_birth c reference → heap_view (record heap { collector = with_root c slot reference }) ≡ with_slot (heap_view heap) slot (birth_named c.table reference)
  unfolding heap_view
  view_rooted slot reference w = grind (arith, shows_root keeping.0 heap c slot reference keeping.1 w)

  pub get-follows : (who slot source field : ℕ) → Follows heap who (Command.Get slot source field)
  unfolding heap_effect
  get-follows who slot source field = follows heap who (Command.Get slot source field) (refused_alike who (Command.Get slot source field)) (λ e.
      let fails = each_fails (tests (heap_sight heap) who (Command.Get slot source field)) (own_tests who (Command.Get slot source field) e) in
      let (s, is) = not_null (shape_at heap (own_slot who source)) fails.1.1.0 in
      let below = has_reference (shape_at heap (own_slot who source)) field s is fails.1.1.1.0 in
      let w = loaded_writable keeping.0 heap keeping.1 (field_of heap (own_slot who source) field) (field_held keeping.0 heap keeping.1 (own_slot who source) field s is below) in
      record {
        reply = refl;
        state = view_rooted (own_slot who slot) (loaded_reference c.table (field_of heap (own_slot who source) field)) w
            ∙ ap (with_slot (heap_view heap) (own_slot who slot)) (birth_loaded (reference_in c.table (field_of heap (own_slot who source) field)) w ∙ reference_shown (own_slot who source) field s is below);
      })
