-- A cycle starts: it keeps what is reachable in the view of the heap at its start.
use Rattle.std.proofs.Common.{◌≡◌, ◌≢◌, ℕ, zero, suc, ◌+◌, ◌<◌, ◌≤◌, Bool, true, false, ◌⊎◌, inl, inr, List, [], ◌∷◌, length, get_or, map, slice_get, Option, Some, None, option_map, refl, sym, ap, ap₂, ◌∙◌, subst, arith}
use Rattle.std.proofs.lemmas.Bool.{false≢true, ltb-true, ltb-false}
use Rattle.std.proofs.lemmas.Option.{none-some, same_Some, slice_get_within}
use Rattle.mh_model.specs.{declared.shape.Shape.Shape, World.{Object, World, births, object_at, slot_at, reference_of}}
use Rattle.mh_model.specs.{Paths.{IsPath, Reachable}, Classes.{Part, run_count, middle_count, parts}}
use Rattle.mh_model.specs.{Pages.{Table, block_at}, Table.{Block, resolve, is_spine}}
use Rattle.mh_model.specs.{Collector.{Collector, cycle_start}, Mutator.HeapState}
use Rattle.mh_model.specs.View.{in_sweep, block_of_birth, birth_named, arraylet_words, object_of, object_shown, heap_view}
use Rattle.mh_model.specs.Invariant.{IsPlainAt, IsPartOf, first_child, IsSound, IsMarkedAt, WillBeMarked, IsWhole, KeepsSnapshot}
use Rattle.mh_laws.proofs.marking.BlockChanges.{resolve-live, live_plain}
use Rattle.mh_laws.proofs.showing.FoundBlocks.{live_held, first-found, IsFirstAt}
use Rattle.mh_laws.proofs.showing.ObjectsShown.{IsFieldBlock, named-back, named-forth, refers-back, refers-forth, tabulate-read}
use Rattle.mh_table_laws.proofs.{objects.Parts.{later_part, IsChild, parent_of, child_is}, objects.Headers.header_is}
use Rattle.mh_table_laws.proofs.objects.JoinedFields.{has_children, has_none, an_arraylet, arraylet_count}
use Rattle.mh_table_laws.proofs.Lists.{below_length}
use Rattle.mh_model.proofs.TabulateLemmas.{length-tabulate, get_or-tabulate}

pub births-view : (heap : HeapState) → births (heap_view heap) ≡ heap.next_birth
unfolding heap_view
births-view heap = length-tabulate (object_shown heap.collector) 0 heap.next_birth

pub slot-view : (heap : HeapState) (slot : ℕ) → slot_at (heap_view heap) slot ≡ get_or (map (birth_named heap.collector.table) heap.collector.slots) slot None
unfolding heap_view
slot-view heap slot = refl

pub object-view : (heap : HeapState) (birth : ℕ) → birth < heap.next_birth → object_at (heap_view heap) birth ≡ object_shown heap.collector birth
unfolding heap_view
object-view heap birth below = let e : 0 + birth ≡ birth = omega arith in get_or-tabulate (object_shown heap.collector) 0 heap.next_birth birth None below ∙ ap (object_shown heap.collector) e

pub view-shown : (heap : HeapState) (birth : ℕ) (object : Object) → object_at (heap_view heap) birth ≡ Some object → object_shown heap.collector birth ≡ Some object
unfolding heap_view
view-shown heap birth object e = let k : birth ≡ 0 + birth = omega arith in ap (object_shown heap.collector) k ∙ tabulate-read (object_shown heap.collector) 0 heap.next_birth birth object e

-- the object of a held part 0 is shown
pub first-view : (heap : HeapState) → IsSound heap.next_birth heap.collector → (birth p : ℕ) (z : Block) → IsFirstAt heap.collector birth p z → object_at (heap_view heap) birth ≡ Some (object_of heap.collector.table z)
first-view heap h birth p z at =
    object-view heap birth (subst (λ b. b < heap.next_birth) at.birth_is (h.births p z at.there)) ∙ ap (option_map (object_of heap.collector.table)) (first-found heap.next_birth heap.collector h birth p z at)

module _ (heap : HeapState) (no_sweep : in_sweep heap.collector.phase ≡ false) (h : IsSound heap.next_birth heap.collector) where
  abbrev c : Collector
  c = heap.collector

  abbrev t₀ : Table Block
  t₀ = heap.collector.table

  abbrev started : Collector
  started = cycle_start heap.collector

  abbrev view : World
  view = heap_view heap

  pub plain_of : (q : ℕ) (x : Block) → block_at t₀ q ≡ Some x → x.forward ≡ None → IsPlainAt c q x
  plain_of = live_plain heap.collector no_sweep

  plain_then : (q : ℕ) (x : Block) → IsPlainAt c q x → IsPlainAt started q x
  plain_then q x plain = record { there = plain.there; original = plain.original; surviving = λ s. absurd (false≢true s) }

  plain_now : (q : ℕ) (x : Block) → IsPlainAt started q x → IsPlainAt c q x
  plain_now q x plain = plain_of q x plain.there plain.original

  unmarked : (q : ℕ) (x : Block) → block_at t₀ q ≡ Some x → x.stamp ≢ c.cycle + 1
  unmarked q x there stamp = omega (arith, h.stamps q x there, stamp)

  sound-started : IsSound heap.next_birth started
  sound-started = record {
    narrow = h.narrow;
    roots = h.roots;
    births = h.births;
    stamps = λ q x e. omega (arith, h.stamps q x e);
    shapes = h.shapes;
    parts = h.parts;
    one = h.one;
    slots = λ i r e. let (x, plain, first) = h.slots i r e in (x, plain_then r x plain, first);
    fields = λ q x plain flat i r e. let (y, plain', first) = h.fields q x (plain_now q x plain) flat i r e in (y, plain_then (resolve t₀ r) y plain', first);
    spines = λ q x child plain spine i below. let (r, e, (y, plain', birth, part)) = h.spines q x child (plain_now q x plain) spine i below in (r, e, (y, plain_then (resolve t₀ r) y plain', birth, part));
    grey = λ q is. absurd is;
    quiet = λ no. refl;
    original = λ t q x e s. absurd (unmarked q x e s);
    straight = λ t q x e s. absurd (unmarked q x e s);
    swept = λ t. absurd (false≢true t);
    marked = λ t. absurd (false≢true t);
    dense = λ t. absurd (false≢true t);
  }

  -- The block that the view shows ------------------------------------------------------------------

  shown : (p : ℕ) (z : Block) → block_at t₀ p ≡ Some z → z.forward ≡ None → z.part ≡ 0 → block_of_birth c z.birth ≡ Some z
  shown p z there live first = first-found heap.next_birth c h z.birth p z (record { there = there; held = live_held c p z no_sweep live; birth_is = refl; first = first })

  pub shown_object : (birth p : ℕ) (z : Block) → block_at t₀ p ≡ Some z → z.forward ≡ None → z.part ≡ 0 → z.birth ≡ birth → object_at view birth ≡ Some (object_of t₀ z)
  shown_object birth p z there live first is = search (arith, object-view, shown)

  -- What is reachable is promised ------------------------------------------------------------------

  record IsReached (birth : ℕ) : Type 0 where
    place : ℕ
    block : Block
    there : block_at t₀ place ≡ Some block
    live : block.forward ≡ None
    birth_is : block.birth ≡ birth
    first : block.part ≡ 0
    promised : WillBeMarked started place

  further : (p : ℕ) (b : Block) → block_at t₀ p ≡ Some b → b.forward ≡ None → WillBeMarked started p → (i r : ℕ) → get_or b.references i None ≡ Some r → WillBeMarked started (resolve t₀ r)
  further p b there live promised i r e = (p ∷ promised.0, ((b, there, live, unmarked p b there), (b, i, r, there, e, refl), promised.1))

  -- a part of an object that is reached
  record IsPartReached (birth number : ℕ) : Type 0 where
    place : ℕ
    block : Block
    plain : IsPlainAt c place block
    birth_is : block.birth ≡ birth
    part_is : block.part ≡ number
    promised : WillBeMarked started place

  abbrev parts_of : ℕ → List Part
  parts_of birth = parts (h.shapes birth).references (h.shapes birth).numbers

  -- each is promised, by the part of which it is a child
  reached_part : (bound birth number : ℕ) → IsReached birth → number < bound → number < length (parts_of birth) → IsPartReached birth number
  reached_part (suc bound) birth (suc number) f less below =
      let s : Shape = h.shapes birth in
      let k = parent_of s.references s.numbers number below in
      by_parent k (reached_part bound birth k.parent f (omega (arith, k.before, less)) (slice_get_within _ _ _ k.at))
    where
      by_parent : (k : IsChild (h.shapes birth).references (h.shapes birth).numbers (suc number)) → IsPartReached birth k.parent → IsPartReached birth (suc number)
      by_parent k r =
          let same : h.shapes r.block.birth ≡ h.shapes birth = ap h.shapes r.birth_is in
          let children : first_child (h.shapes r.block.birth) r.block.part ≡ Some k.child =
          ap₂ (λ (x : Shape) number. first_child x number) same r.part_is ∙ child_is (h.shapes birth) k.parent k.part k.at ∙ k.children in
          let part_r : IsPartOf (h.shapes r.block.birth) r.block = h.parts r.place r.block r.plain.there in
          let at : slice_get (parts_of birth) k.parent ≡ Some part_r.part = ap₂ (λ (x : Shape) number. slice_get (parts x.references x.numbers) number) (sym same) (sym r.part_is) ∙ part_r.is in
          let size : length r.block.references ≡ k.part.references = part_r.references ∙ ap (λ (x : Part). x.references) (same_Some part_r.part k.part (sym at ∙ k.at)) in
          let (w, e, (y, plain_y, birth_y, part_y)) = h.spines r.place r.block k.child r.plain children k.index (omega (arith, size, k.inside)) in
          record { place = resolve t₀ w; block = y; plain = plain_y; birth_is = birth_y ∙ r.birth_is; part_is = part_y ∙ k.number_is; promised = further r.place r.block r.plain.there r.plain.original r.promised k.index w e }
  reached_part bound birth number f less below = grind (arith, plain_of)

  -- a block of an object that is reached is its part
  reached_block : (q : ℕ) (x : Block) → block_at t₀ q ≡ Some x → x.forward ≡ None → IsReached x.birth → WillBeMarked started q
  reached_block q x there live f =
      let part_x : IsPartOf (h.shapes x.birth) x = h.parts q x there in
      let r = reached_part (suc x.part) x.birth x.part f (omega arith) (slice_get_within _ _ _ part_x.is) in
      subst (WillBeMarked started) (h.one r.place q r.block x r.plain.there there r.plain.original live r.birth_is r.part_is) r.promised

  found : (path : List ℕ) (birth : ℕ) → IsPath view birth path → IsReached birth
  found [] birth (slot, e) =
      let (r, t, at, there, is) = named-back t₀ birth c.slots slot (sym (slot-view heap slot) ∙ e) in
      let (x, plain, first) = h.slots slot r at in
      let self : resolve t₀ r ≡ r = resolve-live t₀ r x plain.there plain.original in
      let same : x ≡ t = same_Some x t (sym plain.there ∙ ap (block_at t₀) (sym self) ∙ there) in
      record { place = r; block = x; there = plain.there; live = plain.original; birth_is = ap (λ z. z.birth) same ∙ is; first = first; promised = ([], inl (refl, (slot, r, omega arith, at, self))) }
  found (nearest ∷ path) birth ((field, e), after) = go (found path nearest after)
    where
      onward : (q : ℕ) (y : Block) → block_at t₀ q ≡ Some y → y.forward ≡ None → first_child (h.shapes y.birth) y.part ≡ None → WillBeMarked started q → (j r : ℕ) (t : Block) → get_or y.references j None ≡ Some r → block_at t₀ (resolve t₀ r) ≡ Some t → t.birth ≡ birth → IsReached birth
      onward q y there live flat promised j r t word there_t is =
          let (x, plain, first) = h.fields q y (plain_of q y there live) flat j r word in
          let same : x ≡ t = same_Some x t (sym plain.there ∙ there_t) in
          record { place = resolve t₀ r; block = x; there = plain.there; live = plain.original; birth_is = ap (λ z. z.birth) same ∙ is; first = first; promised = further q y there live promised j r word }

      go : IsReached nearest → IsReached birth
      go f =
          let shown_f : object_at view nearest ≡ Some (object_of t₀ f.block) = shown_object nearest f.place f.block f.there f.live f.first f.birth_is in
          let plain_f : IsPlainAt c f.place f.block = plain_of f.place f.block f.there f.live in
          let (y, is_field, (j, r, t, word, there_t, is)) = refers-back t₀ f.block field birth (ap (λ o. reference_of o field) (sym shown_f) ∙ e) in
          elim is_field [
            | inl k ↦
                let few : f.block.header.references + f.block.header.numbers ≤ 60 = omega (arith, ltb-false 60 (f.block.header.references + f.block.header.numbers) k.0) in
                let flat = ap (λ (z : Block). first_child (h.shapes z.birth) z.part) k.1 ∙ has_none heap.next_birth c h f.place f.block plain_f f.first few in
                onward f.place y (f.there ∙ ap Some (sym k.1)) (ap (λ z. z.forward) k.1 ∙ f.live) flat f.promised j r t word there_t is
            | inr k ↦
                let (i, w, word_w, there_y) = k.1 in
                let count = arraylet_count heap.next_birth c h f.place f.block plain_f f.first k.0 in
                let a = an_arraylet heap.next_birth c h f.place f.block plain_f f.first k.0 i (omega (arith, count, below_length (arraylet_words t₀ f.block) i w word_w)) in
                let same_w : a.reference ≡ w = same_Some a.reference w (sym a.word ∙ word_w) in
                let same : a.block ≡ y = same_Some a.block y (sym a.leads.there ∙ ap (λ z. block_at t₀ (resolve t₀ z)) same_w ∙ there_y) in
                let live_y : y.forward ≡ None = ap (λ (z : Block). z.forward) (sym same) ∙ a.leads.original in
                let birth_y : y.birth ≡ nearest = ap (λ (z : Block). z.birth) (sym same) ∙ a.birth ∙ f.birth_is in
                onward (resolve t₀ w) y there_y live_y (ap (λ (z : Block). first_child (h.shapes z.birth) z.part) (sym same) ∙ a.flat)
                (reached_block (resolve t₀ w) y there_y live_y (subst IsReached (sym birth_y) f)) j r t word there_t is
          ]

  -- each block of an object that is reachable
  path-started : (q : ℕ) (x : Block) → block_at t₀ q ≡ Some x → x.forward ≡ None → Reachable view x.birth → IsMarkedAt started q ⊎ WillBeMarked started q
  path-started q x there live (path, is_path) = inr (reached_block q x there live (found path x.birth is_path))

  whole-started : (birth : ℕ) → Reachable view birth → IsWhole started birth
  whole-started birth (path, is_path) =
      let f = found path birth is_path in
      (f.place, f.block, plain_then f.place f.block (plain_of f.place f.block f.there f.live), f.birth_is, f.first, λ i below. each f i below)
    where
      each : (f : IsReached birth) (i : ℕ) → i < length (parts f.block.header.references f.block.header.numbers) → (q : ℕ) × (x : Block) × IsPlainAt started q x × (x.birth ≡ birth) × (x.part ≡ i)
      each f i below =
          let header = header_is heap.next_birth c h f.place f.block f.there f.first in
          let below_f : i < length (parts_of f.block.birth) = subst (λ (k : Shape). i < length (parts k.references k.numbers)) header below in
          let r = reached_part (suc i) birth i f (omega arith) (subst (λ b. i < length (parts_of b)) f.birth_is below_f) in
          (r.place, r.block, plain_then r.place r.block r.plain, r.birth_is, r.part_is)

  -- nothing is born since
  none_since : (birth : ℕ) → births view ≤ birth → birth < heap.next_birth → ⊥
  none_since birth since below = omega (arith, births-view heap, since, below)

  references-started : (q : ℕ) (x : Block) (i r : ℕ) (t : Block) → block_at t₀ q ≡ Some x → x.forward ≡ None → Reachable view x.birth → get_or x.references i None ≡ Some r → block_at t₀ (resolve t₀ r) ≡ Some t → Reachable view t.birth
  references-started q x i r t there live (path, is_path) e there_t = by_children (first_child (h.shapes x.birth) x.part) refl (found path x.birth is_path)
    where
      refers : (f : IsReached x.birth) → IsFieldBlock t₀ f.block x → Reachable view t.birth
      refers f is_field =
          let (field, g) = refers-forth t₀ f.block x i r t is_field e there_t in
          let shown_f : object_at view x.birth ≡ Some (object_of t₀ f.block) = shown_object x.birth f.place f.block f.there f.live f.first f.birth_is in
          (x.birth ∷ path, ((field, ap (λ o. reference_of o field) shown_f ∙ g), is_path))

      -- a part without children has fields of its object
      fields : (f : IsReached x.birth) → first_child (h.shapes x.birth) x.part ≡ None → (number : ℕ) → x.part ≡ number → Reachable view t.birth
      fields f flat zero part =
          let same : f.place ≡ q = h.one f.place q f.block x f.there there f.live live f.birth_is (f.first ∙ sym part) in
          let is : f.block ≡ x = same_Some f.block x (sym f.there ∙ ap (block_at t₀) same ∙ there) in
          refers f (inl (by_test (is_spine f.block) refl is, sym is))
        where
          by_test : (b : Bool) → is_spine f.block ≡ b → f.block ≡ x → is_spine f.block ≡ false
          by_test false e is = e
          by_test true e is =
              let children = has_children heap.next_birth c h f.place f.block (plain_of f.place f.block f.there f.live) f.first (ltb-true 60 (f.block.header.references + f.block.header.numbers) e) in
              absurd (none-some 1 (sym flat ∙ ap (λ (z : Block). first_child (h.shapes z.birth) z.part) (sym is) ∙ children))
      fields f flat (suc number) part =
          let s : Shape = h.shapes x.birth in
          let part_x : IsPartOf s x = h.parts q x there in
          let at : slice_get (parts_of x.birth) (suc number) ≡ Some part_x.part = ap (slice_get (parts_of x.birth)) (sym part) ∙ part_x.is in
          let later = later_part s.references s.numbers number part_x.part at in
          let plain_f : IsPlainAt c f.place f.block = plain_of f.place f.block f.there f.live in
          let header : f.block.header ≡ record { references = s.references; numbers = s.numbers } = header_is heap.next_birth c h f.place f.block f.there f.first ∙ ap (λ b. record { references = (h.shapes b).references; numbers = (h.shapes b).numbers }) f.birth_is in
          let sum : s.references + s.numbers ≡ f.block.header.references + f.block.header.numbers = ap (λ (k : Shape). k.references + k.numbers) (sym header) in
          let spine : is_spine f.block ≡ true = by_test (is_spine f.block) refl (omega (arith, later.many, sum)) in
          elim later.case [
            | inl k ↦ absurd (none-some _ (sym flat ∙ child_is s x.part part_x.part part_x.is ∙ ap (λ (z : Part). z.children) k.1))
            | inr k ↦
                let (j, number_is, inside, same) = k in
                let a = an_arraylet heap.next_birth c h f.place f.block plain_f f.first spine j (subst (λ z. j < run_count z) sum inside) in
                let number_a : a.block.part ≡ x.part = a.number ∙ ap (λ z. 1 + middle_count z + j) (sym sum) ∙ omega (arith, number_is, part) in
                let to : resolve t₀ a.reference ≡ q = h.one (resolve t₀ a.reference) q a.block x a.leads.there there a.leads.original live (a.birth ∙ f.birth_is) number_a in
                refers f (inr (spine, (j, a.reference, a.word, ap (block_at t₀) to ∙ there)))
          ]
        where
          by_test : (b : Bool) → is_spine f.block ≡ b → 60 < f.block.header.references + f.block.header.numbers → is_spine f.block ≡ true
          by_test b e many = grind (arith, ltb-false)

      by_children : (child : Option ℕ) → first_child (h.shapes x.birth) x.part ≡ child → IsReached x.birth → Reachable view t.birth
      by_children None flat f = fields f flat x.part refl
      by_children (Some child) spine f =
          let (w, word, (y, plain, birth_y, part_y)) = h.spines q x child (plain_of q x there live) spine i (below_length x.references i r e) in
          grind (arith, same_Some, plain)

  -- The cycle that starts keeps what is reachable in the view at its start
  pub snapshot-started : KeepsSnapshot (heap_view heap) heap.next_birth (cycle_start heap.collector)
  snapshot-started = record {
    sound = sound-started;
    before = omega (arith, births-view heap);
    cycle = record {
      path = λ m. path-started;
      marked = λ m q x e s. absurd (unmarked q x e s);
      whole = λ m birth kept. elim kept [ inl reached ↦ whole-started birth reached | inr since ↦ absurd (none_since birth since.0 since.1) ];
      born = λ m q x e since. absurd (none_since x.birth since (h.births q x e));
      slots = λ m i r t e f. inl ([], (i, slot-view heap i ∙ named-forth t₀ c.slots i r t e f));
      references = λ m q x i r t e live kept f g. elim kept [
        | inl reached ↦ inl (references-started q x i r t e live reached f g)
        | inr since ↦ absurd (none_since x.birth since.0 since.1)
      ];
    };
  }
