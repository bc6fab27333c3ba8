-- An object born in a running cycle: it is whole and marked, and what the cycle keeps stays.
use Rattle.std.proofs.Common.{◌≡◌, ◌≢◌, ℕ, ◌+◌, ◌<◌, ◌==◌, if◌then◌else◌, true, false, ◌⊎◌, inl, inr, [], length, get_or, slice_get, Option, Some, None, option_and_then, unwrap_or, refl, sym, ap, ◌∙◌, subst, arith, eq-eqb, eqb-true}
use Rattle.std.proofs.{lemmas.Bool.cases_lt, lemmas.Option.{none-some, same_Some}}
use Rattle.mh_model.specs.{declared.shape.Shape.Shape, World.World, Paths.Reachable, Classes.parts, Pages.block_at}
use Rattle.mh_model.specs.{Table.{Block, Made, resolve}, Collector.{Collector, is_idle}, Mutator.in_roots_or_mark}
use Rattle.mh_model.specs.Snapshot.{IsKept}
use Rattle.mh_model.specs.Invariant.{IsPlainAt, IsPartOf, first_child, IsSound, Links, IsWhole, KeepsCycle, KeepsSnapshot}
use Rattle.mh_laws.proofs.{marking.MarkingPaths.{Keeps, promises_stay}, marking.BlockChanges.{resolve-live, not_sweep}}
use Rattle.mh_laws.proofs.{marking.MarkSteps.leads, objects.NewbornBlocks.{IsNewborn, IsObjectBorn}}
use Rattle.mh_table_laws.proofs.objects.Parts.{first_part, slice_there}

pub kept_on : (snapshot : World) (n birth : ℕ) → IsKept snapshot n birth → IsKept snapshot (n + 1) birth
kept_on snapshot n birth is = grind arith

module _ (snapshot : World) (n : ℕ) (c : Collector) (shape : Shape) (made : Made) (h : KeepsSnapshot snapshot n c) (born : IsObjectBorn c.table n c.cycle shape made) where
  abbrev pub borne : Collector
  borne = record c { table = made.table }

  abbrev At : ℕ → Block → Type 0
  At q x = block_at borne.table q ≡ Some x

  -- a block is old or newborn
  pub record IsNew (q : ℕ) (x : Block) : Type 0 where
    pub index : ℕ
    pub at : slice_get born.places index ≡ Some q
    pub newborn : IsNewborn n c.cycle shape born.places index x

  pub either : (q : ℕ) (x : Block) → At q x → (block_at c.table q ≡ Some x) ⊎ IsNew q x
  either q x e = elim (born.only q x e) [
    | inl old ↦ inl old
    | inr new ↦
        let (y, there, newborn) = born.each new.0 q new.1 in
        inr (record { index = new.0; at = new.1; newborn = subst (IsNewborn n c.cycle shape born.places new.0) (same_Some y x (sym there ∙ e)) newborn })
  ]

  pub new_at : (index q : ℕ) → slice_get born.places index ≡ Some q → (x : Block) × At q x × IsNewborn n c.cycle shape born.places index x
  new_at index q e = born.each index q e

  old_birth : (q : ℕ) (x : Block) → block_at c.table q ≡ Some x → x.birth ≢ n
  old_birth q x e same = omega (arith, h.sound.births q x e, same)

  pub resolve-borne : (r : ℕ) → resolve borne.table r ≡ resolve c.table r
  resolve-borne r = go (block_at c.table r) refl
    where
      fresh : block_at c.table r ≡ None → (o : Option Block) → block_at borne.table r ≡ o → unwrap_or (option_and_then (λ x. x.forward) o) r ≡ r
      fresh is o e = search (arith, either, none-some)

      go : (o : Option Block) → block_at c.table r ≡ o → resolve borne.table r ≡ resolve c.table r
      go o is = search (arith, fresh)

  pub plain_forth : (q : ℕ) (x : Block) → IsPlainAt c q x → IsPlainAt borne q x
  plain_forth q x plain = record { there = born.kept q x plain.there; original = plain.original; surviving = plain.surviving }

  pub plain_new : (index q : ℕ) (x : Block) → At q x → IsNewborn n c.cycle shape born.places index x → IsPlainAt borne q x
  plain_new index q x e newborn = record { there = e; original = newborn.live; surviving = λ s. newborn.stamp_is }

  pub plain_old : (q : ℕ) (x : Block) → block_at c.table q ≡ Some x → IsPlainAt borne q x → IsPlainAt c q x
  plain_old q x e plain = record { there = e; original = plain.original; surviving = plain.surviving }

  -- a newborn part's reference leads straight to its child
  pub new_word : (index q : ℕ) (x : Block) → IsNewborn n c.cycle shape born.places index x → (i r : ℕ) → get_or x.references i None ≡ Some r → (child : ℕ) × (first_child shape index ≡ Some child) × ((y : Block) × IsPlainAt borne r y × (resolve borne.table r ≡ r) × IsNewborn n c.cycle shape born.places (child + i) y)
  new_word index q x newborn i r e =
      let (child, spine, at) = newborn.words i r e in
      grind (arith, new_at, at, plain_new, resolve-live)

  shapes : ℕ → Shape
  shapes birth = if birth == n then shape else h.sound.shapes birth

  shape_new : (birth : ℕ) → birth ≡ n → (if birth == n then shape else h.sound.shapes birth) ≡ shape
  shape_new birth same = ap (λ b. if b then shape else h.sound.shapes birth) (eq-eqb birth n same)

  shape_old : (birth : ℕ) → birth ≢ n → (if birth == n then shape else h.sound.shapes birth) ≡ h.sound.shapes birth
  shape_old birth apart = grind (arith, eqb-true)

  -- parts have the children that they had, and those of the object that was born its shape's
  child_old : (q : ℕ) (x : Block) → block_at c.table q ≡ Some x → first_child (h.sound.shapes x.birth) x.part ≡ first_child (if x.birth == n then shape else h.sound.shapes x.birth) x.part
  child_old q x old = ap (λ (s : Shape). first_child s x.part) (sym (shape_old x.birth (old_birth q x old)))

  child_new : (index q : ℕ) (x : Block) → IsNewborn n c.cycle shape born.places index x → first_child (if x.birth == n then shape else h.sound.shapes x.birth) x.part ≡ first_child shape index
  child_new index q x newborn = ap (λ (s : Shape). first_child s x.part) (shape_new x.birth newborn.birth_is) ∙ ap (first_child shape) newborn.part_is

  pub sound-borne : IsSound (n + 1) borne
  sound-borne = record {
    narrow = born.shaped;
    roots = h.sound.roots;
    births = λ q x e. elim (either q x e) [ inl old ↦ omega (arith, h.sound.births q x old) | inr new ↦ omega (arith, new.newborn.birth_is) ];
    stamps = λ q x e. elim (either q x e) [ inl old ↦ h.sound.stamps q x old | inr new ↦ omega (arith, new.newborn.stamp_is) ];
    shapes = λ birth. if birth == n then shape else h.sound.shapes birth;
    parts = λ q x e. elim (either q x e) [
      | inl old ↦ subst (λ s. IsPartOf s x) (sym (shape_old x.birth (old_birth q x old))) (h.sound.parts q x old)
      | inr new ↦ subst (λ s. IsPartOf s x) (sym (shape_new x.birth new.newborn.birth_is)) new.newborn.part_of
    ];
    one = λ q r x y e f live live' birth part. elim (either q x e) [
      | inl old ↦ search (arith, either, old_birth)
      | inr new ↦ elim (either r y f) [
        | inl old' ↦ absurd (old_birth r y old' (sym birth ∙ new.newborn.birth_is))
        | inr new' ↦ grind (arith, same_Some)
      ]
    ];
    slots = λ i r e. let (x, plain, first) = h.sound.slots i r e in (x, plain_forth r x plain, first);
    fields = λ q x plain flat i r e. elim (either q x plain.there) [
      | inl old ↦ let (y, plain', first) = h.sound.fields q x (plain_old q x old plain) (child_old q x old ∙ flat) i r e in (y, subst (λ z. IsPlainAt borne z y) (sym (resolve-borne r)) (plain_forth (resolve c.table r) y plain'), first)
      | inr new ↦ let (child, is, at) = new.newborn.words i r e in absurd (none-some child (sym flat ∙ child_new new.index q x new.newborn ∙ is))
    ];
    spines = λ q x child plain spine i below. elim (either q x plain.there) [
      | inl old ↦ let (r, e, (y, plain', birth, part)) = h.sound.spines q x child (plain_old q x old plain) (child_old q x old ∙ spine) i below in (r, e, (y, subst (λ z. IsPlainAt borne z y) (sym (resolve-borne r)) (plain_forth (resolve c.table r) y plain'), birth, part))
      | inr new ↦
          let (r, e, at) = new.newborn.spine child (sym (child_new new.index q x new.newborn) ∙ spine) i below in
          let (y, there', newborn) = new_at (child + i) r at in
          (r, e, (y, subst (λ z. IsPlainAt borne z y) (sym (resolve-live borne.table r y there' newborn.live)) (plain_new (child + i) r y there' newborn), newborn.birth_is ∙ sym new.newborn.birth_is, newborn.part_is))
    ];
    grey = λ q is. let (x, at, live, stamp) = h.sound.grey q is in (x, born.kept q x at, live, stamp);
    quiet = h.sound.quiet;
    original = λ t q x e s. elim (either q x e) [ inl old ↦ h.sound.original t q x old s | inr new ↦ new.newborn.live ];
    straight = λ t q x e s. elim (either q x e) [
      | inl old ↦ elim (h.sound.straight t q x old s) [ inl is ↦ inl is | inr is ↦ inr (λ i r f. resolve-borne r ∙ is i r f) ]
      | inr new ↦ inr (λ i r f. let (child, spine, (y, plain', self, newborn)) = new_word new.index q x new.newborn i r f in self)
    ];
    swept = λ t q x e below. elim (either q x e) [ inl old ↦ h.sound.swept t q x old below | inr new ↦ new.newborn.stamp_is ];
    marked = λ t q x e. elim (either q x e) [ inl old ↦ h.sound.marked t q x old | inr new ↦ new.newborn.stamp_is ];
    dense = λ t q target x e f. search (arith, either, none-some);
  }

  links : (q t : ℕ) → Links c.table q t → Links borne.table q t
  links q t (x, i, r, there, e, to) = (x, i, r, born.kept q x there, e, resolve-borne r ∙ to)

  keeps : Keeps c borne
  keeps = record {
    cycle = refl;
    blocks = λ q x e. (x, born.kept q x e, refl, refl, inl refl);
    back = λ q x e. elim (either q x e) [ inl old ↦ inl (x, old) | inr new ↦ inr new.newborn.stamp_is ];
    roots = λ t x e from. let (i, r, after, at, to) = from.1 in inr ([], inl (from.0, (i, r, after, at, resolve-borne r ∙ to)));
    grey = λ t x e from. inr ([], inr (from.0, from.1, links from.0 t from.2));
    links = λ q t x e l. inr (links q t l);
  }

  kept_new : (birth : ℕ) → birth ≡ n → IsKept snapshot (n + 1) birth
  kept_new birth same = inr (omega (arith, h.before, same), omega (arith, same))

  kept_old : (q : ℕ) (x : Block) → block_at c.table q ≡ Some x → IsKept snapshot (n + 1) x.birth → IsKept snapshot n x.birth
  kept_old q x e (inl reached) = inl reached
  kept_old q x e (inr since) = inr (since.0, h.sound.births q x e)

  whole_forth : (birth : ℕ) → IsWhole c birth → IsWhole borne birth
  whole_forth birth (q, x, plain, is, first, each) = (q, x, plain_forth q x plain, is, first, λ i below. let (r, y, plain', is', part) = each i below in (r, y, plain_forth r y plain', is', part))

  whole_new : (birth : ℕ) → birth ≡ n → IsWhole borne birth
  whole_new birth same =
      let (x, there, newborn) = new_at 0 made.place born.first in
      let header = (first_part shape.references shape.numbers newborn.part_of.part (ap (slice_get (parts shape.references shape.numbers)) (sym newborn.part_is) ∙ newborn.part_of.is)).header in
      let of_shape : x.header ≡ record { references = shape.references; numbers = shape.numbers } = newborn.part_of.header ∙ header in (
        made.place,
        x,
        plain_new 0 made.place x there newborn,
        newborn.birth_is ∙ sym same,
        newborn.part_is,
        λ i below.
            let inside : i < length (parts shape.references shape.numbers) = subst (λ (s : Shape). i < length (parts s.references s.numbers)) of_shape below in
            let (q, at) = slice_there born.places i (omega (arith, inside, born.count)) in
            let (y, there', newborn') = new_at i q at in
            (q, y, plain_new i q y there' newborn', newborn'.birth_is ∙ sym same, newborn'.part_is),
      )

  pub cycle-borne : KeepsCycle snapshot (n + 1) borne
  cycle-borne = record {
    path = λ m. promises_stay (Reachable snapshot) c borne keeps (h.cycle.path m);
    marked = λ m q x e s. elim (either q x e) [ inl old ↦ kept_on snapshot n x.birth (h.cycle.marked m q x old s) | inr new ↦ kept_new x.birth new.newborn.birth_is ];
    whole = λ m birth kept. whole m birth kept;
    born = λ m q x e since. elim (either q x e) [ inl old ↦ h.cycle.born m q x old since | inr new ↦ new.newborn.stamp_is ];
    slots = λ m i r t e f.
        let (y, plain, first) = h.sound.slots i r e in
        let self : resolve c.table r ≡ r = resolve-live c.table r y plain.there plain.original in
        let at : block_at c.table (resolve c.table r) ≡ Some y = ap (block_at c.table) self ∙ plain.there in
        subst (λ z. IsKept snapshot (n + 1) z.birth) (same_Some y t (sym (born.kept (resolve c.table r) y at) ∙ ap (block_at borne.table) (sym (resolve-borne r)) ∙ f)) (kept_on snapshot n y.birth (h.cycle.slots m i r y e at));
    references = λ m q x i r t e live kept f g. references m q x i r t e live kept f g;
  }
    where
      whole : is_idle c.phase ≡ false → (birth : ℕ) → IsKept snapshot (n + 1) birth → IsWhole borne birth
      whole m birth (inl reached) = whole_forth birth (h.cycle.whole m birth (inl reached))
      whole m birth (inr since) = elim (cases_lt birth n) [
        | inl below ↦ whole_forth birth (h.cycle.whole m birth (inr (since.0, below)))
        | inr past ↦ whole_new birth (omega (arith, since.1, past))
      ]

      references : in_roots_or_mark c.phase ≡ true → (q : ℕ) (x : Block) (i r : ℕ) (t : Block) → At q x → x.forward ≡ None → IsKept snapshot (n + 1) x.birth → get_or x.references i None ≡ Some r → block_at borne.table (resolve borne.table r) ≡ Some t → IsKept snapshot (n + 1) t.birth
      references m q x i r t e live kept f g = elim (either q x e) [
        | inr new ↦
            let (child, spine, (y, plain', self, newborn)) = new_word new.index q x new.newborn i r f in
            subst (λ z. IsKept snapshot (n + 1) z.birth) (same_Some y t (sym plain'.there ∙ ap (block_at borne.table) (sym self) ∙ g)) (kept_new y.birth newborn.birth_is)
        | inl old ↦
            let plain : IsPlainAt c q x = record { there = old; original = live; surviving = λ s. absurd (not_sweep c.phase m s) } in
            let (y, plain') = leads n c h.sound q x plain i r f in
            let is : y ≡ t = same_Some y t (sym (born.kept (resolve c.table r) y plain'.there) ∙ ap (block_at borne.table) (sym (resolve-borne r)) ∙ g) in
            subst (λ z. IsKept snapshot (n + 1) z.birth) is (kept_on snapshot n y.birth (h.cycle.references m q x i r y old live (kept_old q x old kept) f plain'.there))
      ]

  pub snapshot-borne : KeepsSnapshot snapshot (n + 1) borne
  snapshot-borne = record { sound = sound-borne; before = omega (arith, h.before); cycle = cycle-borne }

  -- the place of the object's part 0, which a root may hold
  pub newborn_root : (x : Block) × IsPlainAt borne made.place x × (x.part ≡ 0) × IsKept snapshot (n + 1) x.birth
  newborn_root =
      let (x, there, newborn) = new_at 0 made.place born.first in
      (x, plain_new 0 made.place x there newborn, newborn.part_is, kept_new x.birth newborn.birth_is)
