-- A field written on the pages, beside the same field written in what the heap shows.
use Rattle.std.proofs.Common.{◌≡◌, ℕ, zero, suc, ◌+◌, ◌-◌, ◌/◌, ◌%◌, ◌<◌, if◌then◌else◌, Bool, true, false, List, [], ◌∷◌, ◌++◌, length, get_or, set, map, flat_map, slice_get, Option, Some, None, option_map, unwrap_or, refl, sym, ap, ap₂, ◌∙◌, subst, arith}
use Rattle.std.proofs.{lemmas.Bool.{cases_eq, false≢true, ltb-true}, lemmas.Option.{none-some, same_Some}}
use Rattle.std.specs.Prelude.{option_to_list}
use Rattle.mh_model.specs.{declared.shape.Shape.Shape, declared.command.Command.Command}
use Rattle.mh_model.specs.World.{Object, own_slot, with_change, with_number, with_reference, tests}
use Rattle.mh_model.specs.{Classes.{run_count, middle_count}, Pages.{Table, block_at, with_block}}
use Rattle.mh_model.specs.Table.{Block, Position, resolve, is_spine, is_tall, position_of, number_index, with_number_at, with_reference_at, reference_in}
use Rattle.mh_model.specs.Collector.{Collector, with_shade}
use Rattle.mh_model.specs.Mutator.{HeapState, in_roots_or_mark, root_at, shape_at, field_of, heap_sight, heap_effect, with_number_stored, with_reference_stored}
use Rattle.mh_model.specs.Snapshot.{IsKept}
use Rattle.mh_model.specs.View.{in_sweep, block_named, blocks_named, birth_named, arraylet_words, field_blocks, object_of, object_shown, heap_view}
use Rattle.mh_model.specs.Invariant.{IsPlainAt, HasFieldsAt, first_child, IsSound, IsKeeping}
use Rattle.mh_model.proofs.TabulateLemmas.{tabulate-set}
use Rattle.mh_run_laws.specs.Following.{Follows}
use Rattle.mh_table_laws.proofs.placing.Places.{block_at-with_block_same, block_at-with_block_other, block-slot}
use Rattle.mh_table_laws.proofs.objects.JoinedFields.{AreSameBut, SetsNumber, SetsReference, a_middle, IsArraylet, an_arraylet, arraylet_count, IsLaid, are_runs, laid, has_fields, named_at, write_numbers, write_references}
use Rattle.mh_table_laws.proofs.objects.Headers.{flat_of}
use Rattle.mh_laws.proofs.marking.BlockChanges.{resolve-live, no_sweep}
use Rattle.mh_laws.proofs.snapshots.SessionCommands.{each_fails, not_null, has_reference, field_held}
use Rattle.mh_laws.proofs.snapshots.Barriers.{HasFields, root_writable, snapshot-with_number_stored, snapshot-with_reference_stored}
use Rattle.mh_laws.proofs.marking.MarkSteps.{IsGuarded, guarded, leads}
use Rattle.mh_laws.proofs.showing.SamePlainBlocks.{plain-held, held-plain}
use Rattle.mh_laws.proofs.showing.FoundBlocks.{shown-changed, shown-same}
use Rattle.mh_run_laws.proofs.showing.AlikeTables.{IsAlike, position-same, birth-same, with_shade-alike}
use Rattle.mh_run_laws.proofs.following.SlotCommands.{map-put, slot_shown, follows, own_tests, has_number, number_place, object_view, object_at_root, refused_alike}
use Rattle.mh_run_laws.proofs.showing.MarkingShows.{alike-view}

weaker : (A B : Block → Block → Type 0) → ((x x' : Block) → A x x' → B x x') → (i : ℕ) (ys ys' : List Block) → AreSameBut A i ys ys' → AreSameBut B i ys ys'
weaker A B turn zero (x ∷ ys) (x' ∷ ys') (is, same) = (turn x x' is, same)
weaker A B turn (suc i) (x ∷ ys) (x' ∷ ys') (is, same) = (is, weaker A B turn i ys ys' same)
weaker A B turn i is ys' same = absurd same

taken-kept : {X : Type 0} (f : Block → List X) (i : ℕ) (ys ys' : List Block) → AreSameBut (λ x x'. f x' ≡ f x) i ys ys' → flat_map f ys' ≡ flat_map f ys
taken-kept f zero (x ∷ ys) (x' ∷ ys') (is, same) = ap₂ (λ a b. a ++ flat_map f b) is same
taken-kept f (suc i) (x ∷ ys) (x' ∷ ys') (is, same) = ap₂ (λ (a : Block) b. f a ++ b) is (taken-kept f i ys ys' same)
taken-kept f i ys ys' same = absurd same

-- Arraylets, of which one is another -------------------------------------------------------------

module _ (g g' : Option ℕ → Option Block) where
  abbrev listed : (Option ℕ → Option Block) → List (Option ℕ) → List Block
  listed f rs = flat_map (λ o. option_to_list (f o)) rs

  listed-same : (rs : List (Option ℕ)) → ((i : ℕ) → i < length rs → g' (get_or rs i None) ≡ g (get_or rs i None)) → listed g' rs ≡ listed g rs
  listed-same [] same = refl
  listed-same (o ∷ rs) same = ap₂ (λ a b. option_to_list a ++ b) (same 0 (omega arith)) (listed-same rs (λ i below. same (suc i) (omega (arith, below))))

  module _ (Changes : Block → Block → Type 0) (old new : Block) (changes : Changes old new) where
    named-but : (rs : List (Option ℕ)) (k : ℕ) → k < length rs → ((i : ℕ) → i < length rs → (y : Block) × (g (get_or rs i None) ≡ Some y)) → ((i : ℕ) → i < length rs → (i ≡ k → ⊥) → g' (get_or rs i None) ≡ g (get_or rs i None))
        → g (get_or rs k None) ≡ Some old → g' (get_or rs k None) ≡ Some new → AreSameBut Changes k (listed g rs) (listed g' rs)
    named-but [] k inside each same is is' = absurd (omega (arith, inside))
    named-but (o ∷ rs) zero inside each same is is' =
        subst (λ b. AreSameBut Changes 0 (option_to_list b ++ listed g rs) (option_to_list (g' o) ++ listed g' rs)) (sym is)
        (subst (λ b. AreSameBut Changes 0 (old ∷ listed g rs) (option_to_list b ++ listed g' rs)) (sym is')
        (changes, listed-same rs (λ i below. same (suc i) (omega (arith, below)) (λ e. omega (arith, e)))))
    named-but (o ∷ rs) (suc k) inside each same is is' =
        let (y, e) = each 0 (omega arith) in
        let rest = named-but rs k (omega (arith, inside)) (λ i below. each (suc i) (omega (arith, below))) (λ i below apart. same (suc i) (omega (arith, below)) (λ e. apart (omega (arith, e)))) is is' in
        subst (λ b. AreSameBut Changes (suc k) (option_to_list b ++ listed g rs) (option_to_list (g' o) ++ listed g' rs)) (sym e)
        (subst (λ b. AreSameBut Changes (suc k) (y ∷ listed g rs) (option_to_list b ++ listed g' rs)) (sym (same 0 (omega arith) (λ e. omega (arith, e)) ∙ e))
        (refl, rest))

listed-inside : (g : Option ℕ → Option Block) (rs : List (Option ℕ)) (k : ℕ) (x : Block) → slice_get (flat_map (λ o. option_to_list (g o)) rs) k ≡ Some x → k < length rs
listed-inside g [] k x e = absurd (none-some x e)
listed-inside g (o ∷ rs) k x e = by (g o) k e (λ j f. listed-inside g rs j x f)
  where
    by : (b : Option Block) (k : ℕ) → slice_get (option_to_list b ++ flat_map (λ o. option_to_list (g o)) rs) k ≡ Some x → ((j : ℕ) → slice_get (flat_map (λ o. option_to_list (g o)) rs) j ≡ Some x → j < length rs) → k < suc (length rs)
    by b k e rest = grind arith

-- One block is another, of the same part of the same object ---------------------------------------

-- the blocks of the fields, by whether a block is a spine
abbrev blocks_if : Table Block → Block → Bool → List Block
blocks_if table x b = if b then blocks_named table (arraylet_words table x) else x ∷ []

abbrev changed : Collector → ℕ → Block → Collector
changed c q new = record c { table = with_block c.table q (Some new) }

record IsAlso (old new : Block) : Type 0 where
  birth : new.birth ≡ old.birth
  part : new.part ≡ old.part
  header : new.header ≡ old.header
  stamp : new.stamp ≡ old.stamp
  forward : new.forward ≡ old.forward

module _ (n : ℕ) (c : Collector) (h : IsSound n c) (q : ℕ) (old new : Block) (has_q : HasFieldsAt c q old) (also : IsAlso old new) (h' : IsSound n (changed c q new)) where
  plain_q : IsPlainAt c q old
  plain_q = has_q.plain

  abbrev t : Table Block
  t = c.table

  abbrev t' : Table Block
  t' = with_block c.table q (Some new)

  here : block_at t' q ≡ Some new
  here = block_at-with_block_same t q (Some new) (block-slot t q old plain_q.there)

  away : (p : ℕ) → (p ≡ q → ⊥) → block_at t' p ≡ block_at t p
  away p apart = block_at-with_block_other t q p (Some new) apart

  resolve-kept : (r : ℕ) → resolve t' r ≡ resolve t r
  resolve-kept r = grind (arith, cases_eq, resolve-live, here, away)

  birth-kept : (o : Option ℕ) → birth_named t' o ≡ birth_named t o
  birth-kept o = search (arith, resolve-kept, cases_eq, here, away)

  births-kept : (os : List (Option ℕ)) → map (birth_named t') os ≡ map (birth_named t) os
  births-kept os = grind (arith, birth-kept)

  fields-kept : (ys : List Block) → flat_map (λ (y : Block). map (birth_named t') y.references) ys ≡ flat_map (λ (y : Block). map (birth_named t) y.references) ys
  fields-kept ys = grind (arith, births-kept)

  -- a block of another part or of another object
  apart_by : (p : ℕ) (x : Block) → block_at t p ≡ Some x → ((x.birth ≡ old.birth) × (x.part ≡ old.part) → ⊥) → p ≡ q → ⊥
  apart_by p x there differs e = grind arith

  named-away : (r : ℕ) (x : Block) → block_at t (resolve t r) ≡ Some x → ((x.birth ≡ old.birth) × (x.part ≡ old.part) → ⊥) → block_named t' (Some r) ≡ block_named t (Some r)
  named-away r x there differs = ap (block_at t') (resolve-kept r) ∙ away (resolve t r) (apart_by (resolve t r) x there differs)

  -- a part with children isn't the block that changes
  named-spine : (r child : ℕ) (x : Block) → block_at t (resolve t r) ≡ Some x → first_child (h.shapes x.birth) x.part ≡ Some child → block_named t' (Some r) ≡ block_named t (Some r)
  named-spine r child x there children = named-away r x there (λ is. none-some child (sym (flat_of n c h q old has_q) ∙ ap₂ (λ birth part. first_child (h.shapes birth) part) (sym is.0) (sym is.1) ∙ children))

  -- so spines refer to the same arraylets
  words-kept : (p : ℕ) (x : Block) → IsPlainAt c p x → x.part ≡ 0 → arraylet_words t' x ≡ arraylet_words t x
  words-kept p x plain first = go (is_tall x) refl
    where
      go : (b : Bool) → is_tall x ≡ b → (if b then flat_map (λ (y : Block). y.references) (blocks_named t' x.references) else x.references) ≡ (if b then flat_map (λ (y : Block). y.references) (blocks_named t x.references) else x.references)
      go false low = refl
      go true high =
          let tall : 3600 < x.header.references + x.header.numbers = ltb-true 3600 (x.header.references + x.header.numbers) high in
          ap (flat_map (λ (y : Block). y.references)) (listed-same (block_named t) (block_named t') x.references (λ i below.
          let m = a_middle n c h p x plain first tall i below in
          ap (block_named t') m.word ∙ named-spine m.reference _ m.block m.leads.there m.children ∙ sym (ap (block_named t) m.word)))

  -- an object of another birth is the same
  object-away : (p : ℕ) (x : Block) → IsPlainAt c p x → x.part ≡ 0 → (x.birth ≡ old.birth → ⊥) → object_of t' x ≡ object_of t x
  object-away p x plain first differs =
      ap (λ ys. record { references = flat_map (λ (y : Block). map (birth_named t') y.references) ys; numbers = flat_map (λ (y : Block). y.numbers) ys }) (go (is_spine x) refl)
      ∙ ap (λ xs. record { references = xs; numbers = flat_map (λ (y : Block). y.numbers) (field_blocks t x) }) (fields-kept (field_blocks t x))
    where
      go : (b : Bool) → is_spine x ≡ b → blocks_if t' x b ≡ blocks_if t x b
      go false flat = refl
      go true spine =
          let count = arraylet_count n c h p x plain first spine in
          ap (blocks_named t') (words-kept p x plain first) ∙ listed-same (block_named t) (block_named t') (arraylet_words t x) (λ i below.
          let a = an_arraylet n c h p x plain first spine i (omega (arith, below, count)) in
          ap (block_named t') a.word ∙ named-away a.reference a.block a.leads.there (λ is. differs (sym a.birth ∙ is.0)) ∙ sym (ap (block_named t) a.word))

  -- the part 0 of the object of which a block is another, and the blocks of its fields
  record IsHere (Changes : Block → Block → Type 0) (p : ℕ) (z : Block) (k : ℕ) : Type 0 where
    block : Block
    plain : IsPlainAt (changed c q new) p block
    same : old.birth ≡ z.birth
    birth : block.birth ≡ z.birth
    part : block.part ≡ z.part
    blocks : AreSameBut Changes k (field_blocks t z) (field_blocks t' block)

  -- if the block has its fields itself, it is the one that changes
  here_itself : (Changes : Block → Block → Type 0) → Changes old new → (p : ℕ) (z : Block) → IsPlainAt c p z → z.part ≡ 0 → (k : ℕ) → slice_get (field_blocks t z) k ≡ Some old → is_spine z ≡ false → IsHere Changes p z k
  here_itself Changes changes p z plain first k at flat =
      let (k_is, z_is) = only k (ap (λ b. slice_get (blocks_if t z b) k) (sym flat) ∙ at) in
      let place : p ≡ q = h.one p q z old plain.there plain_q.there plain.original plain_q.original (ap (λ (x : Block). x.birth) z_is) (ap (λ (x : Block). x.part) z_is) in
      let flat' : is_spine new ≡ false = ap (λ (s : Shape). is_spine (record new { header = s })) (also.header ∙ ap (λ (x : Block). x.header) (sym z_is)) ∙ flat in
      let in_one : AreSameBut Changes 0 (old ∷ []) (new ∷ []) = (changes, refl) in
      search (arith, here, AreSameBut)
    where
      only : (k : ℕ) → slice_get (z ∷ []) k ≡ Some old → (k ≡ 0) × (z ≡ old)
      only k e = grind arith

  is_here : (Changes : Block → Block → Type 0) → Changes old new → (p : ℕ) (z : Block) → IsPlainAt c p z → z.part ≡ 0 → (k : ℕ) → slice_get (field_blocks t z) k ≡ Some old → IsHere Changes p z k
  is_here Changes changes p z plain first k at = go (is_spine z) refl
    where
      go : (b : Bool) → is_spine z ≡ b → IsHere Changes p z k
      go false flat = here_itself Changes changes p z plain first k at flat
      go true spine = by_arraylet (an_arraylet n c h p z plain first spine k (omega (arith, inside, count)))
        where
          words : List (Option ℕ)
          words = arraylet_words t z

          listed_at : slice_get (blocks_named t (arraylet_words t z)) k ≡ Some old
          listed_at = ap (λ b. slice_get (blocks_if t z b) k) (sym spine) ∙ at

          count : length (arraylet_words t z) ≡ run_count (z.header.references + z.header.numbers)
          count = arraylet_count n c h p z plain first spine

          each : (i : ℕ) → i < length (arraylet_words t z) → (r : ℕ) × (y : Block) × (get_or (arraylet_words t z) i None ≡ Some r) × (block_at t (resolve t r) ≡ Some y)
          each i below = let a = an_arraylet n c h p z plain first spine i (omega (arith, below, count)) in (a.reference, a.block, a.word, a.leads.there)

          inside : k < length (arraylet_words t z)
          inside = listed-inside (block_named t) (arraylet_words t z) k old listed_at

          by_arraylet : IsArraylet n c h p z plain first k → IsHere Changes p z k
          by_arraylet a =
              let y_is : a.block ≡ old = same_Some a.block old (sym (named_at t (arraylet_words t z) each k a.reference a.block a.word a.leads.there) ∙ listed_at) in
              let old_part : old.part ≡ 1 + middle_count (z.header.references + z.header.numbers) + k = ap (λ (x : Block). x.part) (sym y_is) ∙ a.number in
              let to : resolve t a.reference ≡ q = h.one (resolve t a.reference) q a.block old a.leads.there plain_q.there a.leads.original plain_q.original (ap (λ (x : Block). x.birth) y_is) (ap (λ (x : Block). x.part) y_is) in
              record {
                block = z;
                plain = record { there = away p (apart_by p z plain.there (λ is. omega (arith, is.1, first, old_part))) ∙ plain.there; original = plain.original; surviving = plain.surviving };
                same = ap (λ (x : Block). x.birth) (sym y_is) ∙ a.birth;
                birth = refl;
                part = refl;
                blocks = subst (λ b. AreSameBut Changes k (blocks_if t z b) (blocks_if t' z b)) (sym spine)
                    (subst (λ rs. AreSameBut Changes k (blocks_named t (arraylet_words t z)) (blocks_named t' rs)) (sym (words-kept p z plain first))
                    (named-but (block_named t) (block_named t') Changes old new changes (arraylet_words t z) k inside
                    (λ i below. let (s, w, e_s, there) = each i below in (w, ap (block_named t) e_s ∙ there))
                    (λ i below apart.
                    let w = an_arraylet n c h p z plain first spine i (omega (arith, below, count)) in
                    ap (block_named t') w.word ∙ named-away w.reference w.block w.leads.there (λ is. apart (omega (arith, is.1, w.number, old_part))) ∙ sym (ap (block_named t) w.word))
                    (ap (block_named t) a.word ∙ a.leads.there ∙ ap Some y_is)
                    (ap (block_named t') a.word ∙ ap (block_at t') (resolve-kept a.reference ∙ to) ∙ here)));
              }

  -- what is shown of a birth, by what is shown of the object of which a block is another
  module _ (p : ℕ) (z : Block) (plain : IsPlainAt c p z) (first : z.part ≡ 0) (z' : Block) (plain' : IsPlainAt (changed c q new) p z') (birth' : z'.birth ≡ z.birth) (part' : z'.part ≡ z.part) (change : Object → Object) (object : object_of t' z' ≡ change (object_of t z)) where
    shown_here : object_shown (changed c q new) z.birth ≡ option_map change (object_shown c z.birth)
    shown_here = shown-changed n n c (changed c q new) h h' z.birth change
        (λ o x is.
        let place : o ≡ p = h.one o p x z is.there plain.there (held-plain n c h o x is.there is.held).original plain.original is.birth_is (is.first ∙ sym first) in
        let x_is : x ≡ z = same_Some x z (sym is.there ∙ ap (block_at t) place ∙ plain.there) in
        (o, z', record { there = ap (block_at t') place ∙ plain'.there; held = plain-held (changed c q new) o z' (subst (λ k. IsPlainAt (changed c q new) k z') (sym place) plain'); birth_is = birth'; first = part' ∙ first }, object ∙ ap (λ x. change (object_of t x)) (sym x_is)))
        (λ o x is.
        let place : o ≡ p = h'.one o p x z' is.there plain'.there (held-plain n (changed c q new) h' o x is.there is.held).original plain'.original (is.birth_is ∙ sym birth') (is.first ∙ sym (part' ∙ first)) in
        (o, z, record { there = ap (block_at t) place ∙ plain.there; held = plain-held c o z (subst (λ k. IsPlainAt c k z) (sym place) plain); birth_is = refl; first = first }))

  -- what is shown of another birth
  shown_away : (birth : ℕ) → (birth ≡ old.birth → ⊥) → object_shown (changed c q new) birth ≡ object_shown c birth
  shown_away birth differs = shown-same n n c (changed c q new) h h' birth
      (λ o x is.
      let plain = held-plain n c h o x is.there is.held in
      (o, x, record { there = away o (apart_by o x is.there (λ e. differs (sym is.birth_is ∙ e.0))) ∙ is.there; held = is.held; birth_is = is.birth_is; first = is.first }, object-away o x plain is.first (λ e. differs (sym is.birth_is ∙ e))))
      (λ o x is. (o, x, record { there = sym (away o (λ e. differs (sym is.birth_is ∙ ap (λ (y : Block). y.birth) (same_Some x new (sym is.there ∙ ap (block_at t') e ∙ here)) ∙ also.birth))) ∙ is.there; held = is.held; birth_is = is.birth_is; first = is.first }))

-- Numbers ----------------------------------------------------------------------------------------

-- an object's number is another if one number of the block in which it lies is another
abbrev NumberChanges : ℕ → ℕ → Block → Block → Type 0
NumberChanges j number x x' = SetsNumber j number x x' × (x'.references ≡ x.references)

module _ (heap : HeapState) (keeping : IsKeeping heap) where
  abbrev c : Collector
  c = heap.collector

  -- what one object changed makes of the view
  view_changed : (d : Collector) (birth : ℕ) (change : Object → Object) → birth < heap.next_birth → map (birth_named d.table) d.slots ≡ map (birth_named c.table) c.slots → object_shown d birth ≡ option_map change (object_shown c birth) → ((other : ℕ) → (other ≡ birth → ⊥) → object_shown d other ≡ object_shown c other)
      → heap_view (record heap { collector = d }) ≡ with_change (heap_view heap) (Some birth) change
  unfolding heap_view
  view_changed d birth change below slots at other = grind (arith, tabulate-set, at, object_view)

  module _ (place : ℕ) (z : Block) (plain : IsPlainAt c place z) (first : z.part ≡ 0) (index number : ℕ) (below : index < z.header.numbers) where
    abbrev field : ℕ
    field = z.header.references + index

    abbrev position : Position
    position = position_of c.table place field

    l : IsLaid heap.next_birth c keeping.1.sound place z plain first field
    l = grind (arith, laid)

    abbrev new : Block
    new = record (l.block) { numbers = set l.block.numbers (number_index c.table position) number }

    has : HasFieldsAt c position.place l.block
    has = has_fields heap.next_birth c keeping.1.sound place z plain first field l

    also : IsAlso l.block new
    also = grind arith

    table_is : with_block c.table position.place (Some new) ≡ with_number_at c.table position.place (number_index c.table position) number
    table_is = search arith

    sound : IsSound heap.next_birth (changed c position.place new)
    sound = subst (λ t. IsSound heap.next_birth (record c { table = t })) (sym table_is) (snapshot-with_number_stored keeping.0 heap.next_birth c position number l.block l.lies.there l.lies.original keeping.1).sound

    changes : NumberChanges (field % 60) number l.block new
    changes = (ap (λ i. set l.block.numbers i number) (ap₂ (λ i (o : Option Block). i - length (unwrap_or (option_map (λ (x : Block). x.references) o) [])) l.index l.lies.there), refl)

    is : IsHere heap.next_birth c keeping.1.sound position.place l.block new has also sound (NumberChanges (field % 60) number) place z (field / 60)
    is = is_here heap.next_birth c keeping.1.sound position.place l.block new has also sound (NumberChanges (field % 60) number) changes place z plain first (field / 60) l.at

    object : object_of (changed c position.place new).table is.block ≡ with_number index number (object_of c.table z)
    object =
        let blocks = field_blocks c.table z in
        let blocks' = field_blocks (changed c position.place new).table is.block in
        ap₂ (λ rs ns. record { references = rs; numbers = ns })
        (fields-kept heap.next_birth c keeping.1.sound position.place l.block new has also sound blocks'
        ∙ taken-kept (λ (y : Block). map (birth_named c.table) y.references) (field / 60) blocks blocks' (weaker (NumberChanges (field % 60) number) (λ x x'. map (birth_named c.table) x'.references ≡ map (birth_named c.table) x.references) (λ x x' change. ap (map (birth_named c.table)) change.1) (field / 60) blocks blocks' is.blocks))
        (write_numbers z.header.references z.header.numbers 0 blocks blocks' (are_runs heap.next_birth c keeping.1.sound place z plain first) (field / 60) (field % 60) number (omega arith) (omega arith) (omega (arith, below))
        (weaker (NumberChanges (field % 60) number) (SetsNumber (field % 60) number) (λ x x' change. change.0) (field / 60) blocks blocks' is.blocks)
        ∙ ap (λ m. set (flat_map (λ (y : Block). y.numbers) blocks) m number) (omega arith))

    number_written : heap_view (record heap { collector = with_number_stored c position number }) ≡ with_change (heap_view heap) (Some z.birth) (with_number index number)
    number_written =
        subst (λ t. heap_view (record heap { collector = record c { table = t } }) ≡ with_change (heap_view heap) (Some z.birth) (with_number index number)) table_is
        (view_changed (changed c position.place new) z.birth (with_number index number) (keeping.1.sound.births place z plain.there)
        (births-kept heap.next_birth c keeping.1.sound position.place l.block new has also sound c.slots)
        (shown_here heap.next_birth c keeping.1.sound position.place l.block new has also sound place z plain first is.block is.plain is.birth is.part (with_number index number) object)
        (λ other differs. shown_away heap.next_birth c keeping.1.sound position.place l.block new has also sound other (λ f. differs (f ∙ is.same))))

  pub write-follows : (who slot index number : ℕ) → Follows heap who (Command.Write slot index number)
  unfolding heap_effect
  write-follows who slot index number = follows heap who (Command.Write slot index number) (refused_alike heap keeping who (Command.Write slot index number)) (λ e.
      let fails = each_fails (tests (heap_sight heap) who (Command.Write slot index number)) (own_tests heap keeping who (Command.Write slot index number) e) in
      let (s, is) = not_null (shape_at heap (own_slot who slot)) fails.1.0 in
      let below = has_number heap keeping (shape_at heap (own_slot who slot)) index s is fails.1.1.0 in
      let o = object_at_root heap keeping (own_slot who slot) s is in
      let size : o.block.header.numbers ≡ s.numbers = ap (λ (x : Shape). x.numbers) o.header in
      record {
        reply = refl;
        state = ap (λ p. heap_view (record heap { collector = with_number_stored c p number })) (number_place heap keeping (own_slot who slot) index s o)
            ∙ number_written o.place o.block o.at.plain o.at.first index number (omega (arith, size, below))
            ∙ ap (λ b. with_change (heap_view heap) b (with_number index number)) (sym o.at.birth);
      })

-- References -------------------------------------------------------------------------------------

-- an object's reference is another if one reference of the block in which it lies is another
abbrev ReferenceChanges : (Option ℕ → Option ℕ) → ℕ → Option ℕ → Block → Block → Type 0
ReferenceChanges g j name x x' = SetsReference g j name x x' × (x'.numbers ≡ x.numbers)

abbrev with_stored : Collector → Position → Option ℕ → Collector
with_stored c position reference = record c { table = with_reference_at c.table position.place position.index reference }

module _ (heap : HeapState) (keeping : IsKeeping heap) (place : ℕ) (z : Block) (plain : IsPlainAt heap.collector place z) (first : z.part ≡ 0) (field : ℕ) (reference : Option ℕ) (below : field < z.header.references)
    (sound_after : IsSound heap.next_birth (with_stored heap.collector (position_of heap.collector.table place field) reference)) where
  abbrev collector_before : Collector
  collector_before = heap.collector

  abbrev written_at : Position
  written_at = position_of collector_before.table place field

  abbrev name_written : Option ℕ
  name_written = birth_named collector_before.table reference

  laid_before : IsLaid heap.next_birth collector_before keeping.1.sound place z plain first field
  laid_before = grind (arith, laid)

  abbrev block_after : Block
  block_after = record (laid_before.block) { references = set laid_before.block.references written_at.index reference }

  has_before : HasFieldsAt collector_before written_at.place laid_before.block
  has_before = has_fields heap.next_birth collector_before keeping.1.sound place z plain first field laid_before

  also_after : IsAlso laid_before.block block_after
  also_after = grind arith

  table_after : with_block collector_before.table written_at.place (Some block_after) ≡ with_reference_at collector_before.table written_at.place written_at.index reference
  table_after = search arith

  sound_changed : IsSound heap.next_birth (changed collector_before written_at.place block_after)
  sound_changed = grind (arith, table_after)

  abbrev Rewrites : Block → Block → Type 0
  Rewrites = ReferenceChanges (birth_named collector_before.table) (field % 60) name_written

  rewrites : Rewrites laid_before.block block_after
  rewrites = grind (arith, map-put)

  is_rewritten : IsHere heap.next_birth collector_before keeping.1.sound written_at.place laid_before.block block_after has_before also_after sound_changed Rewrites place z (field / 60)
  is_rewritten = is_here heap.next_birth collector_before keeping.1.sound written_at.place laid_before.block block_after has_before also_after sound_changed Rewrites rewrites place z plain first (field / 60) laid_before.at

  object_after : object_of (changed collector_before written_at.place block_after).table is_rewritten.block ≡ with_reference field name_written (object_of collector_before.table z)
  object_after =
      let blocks = field_blocks collector_before.table z in
      let blocks' = field_blocks (changed collector_before written_at.place block_after).table is_rewritten.block in
      ap₂ (λ rs ns. record { references = rs; numbers = ns })
      (fields-kept heap.next_birth collector_before keeping.1.sound written_at.place laid_before.block block_after has_before also_after sound_changed blocks'
      ∙ write_references z.header.references z.header.numbers (birth_named collector_before.table) 0 blocks blocks' (are_runs heap.next_birth collector_before keeping.1.sound place z plain first) (field / 60) (field % 60) name_written (omega arith) (omega (arith, below))
      (weaker Rewrites (SetsReference (birth_named collector_before.table) (field % 60) name_written) (λ x x' change. change.0) (field / 60) blocks blocks' is_rewritten.blocks)
      ∙ ap (λ m. set (flat_map (λ (y : Block). map (birth_named collector_before.table) y.references) blocks) m name_written) (omega arith))
      (taken-kept (λ (y : Block). y.numbers) (field / 60) blocks blocks' (weaker Rewrites (λ x x'. x'.numbers ≡ x.numbers) (λ x x' change. change.1) (field / 60) blocks blocks' is_rewritten.blocks))

  reference_written : heap_view (record heap { collector = with_stored collector_before written_at reference }) ≡ with_change (heap_view heap) (Some z.birth) (with_reference field name_written)
  reference_written =
      subst (λ t. heap_view (record heap { collector = record collector_before { table = t } }) ≡ with_change (heap_view heap) (Some z.birth) (with_reference field name_written)) table_after
      (view_changed heap keeping (changed collector_before written_at.place block_after) z.birth (with_reference field name_written) (keeping.1.sound.births place z plain.there)
      (births-kept heap.next_birth collector_before keeping.1.sound written_at.place laid_before.block block_after has_before also_after sound_changed collector_before.slots)
      (shown_here heap.next_birth collector_before keeping.1.sound written_at.place laid_before.block block_after has_before also_after sound_changed place z plain first is_rewritten.block is_rewritten.plain is_rewritten.birth is_rewritten.part (with_reference field name_written) object_after)
      (λ other differs. shown_away heap.next_birth collector_before keeping.1.sound written_at.place laid_before.block block_after has_before also_after sound_changed other (λ f. differs (f ∙ is_rewritten.same))))

-- After a barrier --------------------------------------------------------------------------------

module _ (heap : HeapState) (keeping : IsKeeping heap) where
  abbrev unshaded : Collector
  unshaded = heap.collector

  -- a shaded state shows the same
  view_shaded : (d : Collector) (o : Option ℕ) → IsGuarded keeping.0 heap.next_birth unshaded d o → in_roots_or_mark unshaded.phase ≡ true → IsAlike unshaded.table d.table → heap_view (record heap { collector = d }) ≡ heap_view heap
  view_shaded d o g marks same = grind (arith, alike-view, no_sweep)

  stored_shaded : (d : Collector) (o : Option ℕ) → IsGuarded keeping.0 heap.next_birth unshaded d o → in_roots_or_mark unshaded.phase ≡ true → IsAlike unshaded.table d.table → (place : ℕ) (z : Block) → IsPlainAt unshaded place z → z.part ≡ 0 → (field : ℕ) (reference : Option ℕ) → field < z.header.references
      → IsSound heap.next_birth (with_stored d (position_of unshaded.table place field) reference)
      → heap_view (record heap { collector = with_stored d (position_of unshaded.table place field) reference }) ≡ with_change (heap_view heap) (Some z.birth) (with_reference field (birth_named unshaded.table reference))
  stored_shaded d o g marks same place z plain first field reference below sound =
      let (s, there) = g.blocks place z plain.there in
      let at = position-same unshaded.table d.table same place field in
      let outside : in_sweep d.phase ≡ false = ap in_sweep g.phase ∙ no_sweep unshaded.phase marks in
      ap (λ p. heap_view (record heap { collector = with_stored d p reference })) (sym at)
      ∙ reference_written (record heap { collector = d }) (keeping.0, g.keeps) place (record z { stamp = s }) (record { there = there; original = plain.original; surviving = λ e. absurd (false≢true (sym outside ∙ e)) }) first field reference below
      (subst (λ p. IsSound heap.next_birth (with_stored d p reference)) (sym at) sound)
      ∙ ap₂ (λ w name. with_change w (Some z.birth) (with_reference field name)) (view_shaded d o g marks same) (birth-same unshaded.table d.table same reference)

  abbrev stored_if : Position → Option ℕ → Bool → Collector
  stored_if position reference shades = with_stored (if shades then with_shade unshaded (reference_in unshaded.table position) else unshaded) position reference

  stored : (place : ℕ) (z : Block) → IsPlainAt unshaded place z → z.part ≡ 0 → (field : ℕ) (reference : Option ℕ) → field < z.header.references → HasFields keeping.0 heap.next_birth unshaded (position_of unshaded.table place field).place
      → IsSound heap.next_birth (with_reference_stored unshaded (position_of unshaded.table place field) reference)
      → heap_view (record heap { collector = with_reference_stored unshaded (position_of unshaded.table place field) reference }) ≡ with_change (heap_view heap) (Some z.birth) (with_reference field (birth_named unshaded.table reference))
  stored place z plain first field reference below f sound = go (in_roots_or_mark unshaded.phase) refl sound
    where
      position : Position
      position = position_of unshaded.table place field

      target : in_roots_or_mark unshaded.phase ≡ true → (r : ℕ) (x : Block) → reference_in unshaded.table position ≡ Some r → block_at unshaded.table (resolve unshaded.table r) ≡ Some x → (x.forward ≡ None) × IsKept keeping.0 heap.next_birth x.birth
      target marks r x e there =
          let read : get_or f.block.references position.index None ≡ Some r = ap (λ o. get_or (unwrap_or (option_map (λ (x : Block). x.references) o) []) position.index None) (sym f.has.plain.there) ∙ e in
          let (y, plain) = leads heap.next_birth unshaded keeping.1.sound position.place f.block f.has.plain position.index r read in
          (ap (λ z. z.forward) (same_Some x y (sym there ∙ plain.there)) ∙ plain.original, keeping.1.cycle.references marks position.place f.block position.index r x f.has.plain.there f.has.plain.original (f.kept marks) read there)

      go : (b : Bool) → in_roots_or_mark unshaded.phase ≡ b → IsSound heap.next_birth (stored_if position reference b) → heap_view (record heap { collector = stored_if position reference b }) ≡ with_change (heap_view heap) (Some z.birth) (with_reference field (birth_named unshaded.table reference))
      go false e sound = reference_written heap keeping place z plain first field reference below sound
      go true marks sound = stored_shaded (with_shade unshaded (reference_in unshaded.table position)) (reference_in unshaded.table position)
          (guarded keeping.0 heap.next_birth unshaded (reference_in unshaded.table position) marks (target marks) keeping.1) marks (with_shade-alike unshaded (reference_in unshaded.table position)) place z plain first field reference below sound

  pub put-follows : (who slot field value : ℕ) → Follows heap who (Command.Put slot field value)
  unfolding heap_effect
  put-follows who slot field value = follows heap who (Command.Put slot field value) (refused_alike heap keeping who (Command.Put slot field value)) (λ e.
      let fails = each_fails (tests (heap_sight heap) who (Command.Put slot field value)) (own_tests heap keeping who (Command.Put slot field value) e) in
      let (s, is) = not_null (shape_at heap (own_slot who slot)) fails.1.1.0 in
      let below = has_reference (shape_at heap (own_slot who slot)) field s is fails.1.1.1.0 in
      let o = object_at_root heap keeping (own_slot who slot) s is in
      let size : o.block.header.references ≡ s.references = ap (λ (x : Shape). x.references) o.header in
      let reference = root_at heap (own_slot who value) in
      let at : field_of heap (own_slot who slot) field ≡ position_of unshaded.table o.place field = ap (λ r. position_of unshaded.table (unwrap_or r 0) field) o.at.root in
      let f = subst (λ p. HasFields keeping.0 heap.next_birth unshaded p.place) at (field_held keeping.0 heap keeping.1 (own_slot who slot) field s is below) in
      let sound = (snapshot-with_reference_stored keeping.0 heap.next_birth unshaded (position_of unshaded.table o.place field) reference f (root_writable keeping.0 heap.next_birth unshaded (own_slot who value) keeping.1) keeping.1).sound in
      record {
        reply = refl;
        state = ap (λ p. heap_view (record heap { collector = with_reference_stored unshaded p reference })) at
            ∙ stored o.place o.block o.at.plain o.at.first field reference (omega (arith, size, below)) f sound
            ∙ ap₂ (λ b name. with_change (heap_view heap) b (with_reference field name)) (sym o.at.birth) (slot_shown heap keeping (own_slot who value));
      })
