-- One block changed, its stamp or its fields, with what is grey: promises stay.
use Rattle.std.proofs.Common.{◌≡◌, ◌≢◌, ℕ, zero, suc, ◌+◌, ◌<◌, ◌≤◌, Bool, true, false, ◌⊎◌, inl, inr, List, [], ◌∷◌, length, get_or, set, Option, Some, None, option_map, refl, sym, ap, ◌∙◌, subst, arith}
use Rattle.std.proofs.{lemmas.Bool.cases_eq, lemmas.Option.{none-some, same_Some}, lemmas.List.length-set}
use Rattle.mh_model.specs.{declared.cycle.Phase.Phase, declared.shape.Shape.Shape, World.{World, births}, Classes.parts}
use Rattle.mh_model.specs.Pages.{Page, Table, page_number, slot_number, page_at, block_at, page_with, with_block}
use Rattle.mh_model.specs.{Table.{Block, resolve}, Collector.{Collector, is_idle}, Mutator.{in_roots_or_mark, in_roots}}
use Rattle.mh_model.specs.{View.in_sweep, Paths.Reachable, Snapshot.IsKept}
use Rattle.mh_model.specs.Invariant.{IsIn, IsPlainAt, LeadsToObject, LeadsToPart, IsStraight, IsPartOf, first_child, in_trace, IsSound, IsMarkedAt, Links, IsWhole, KeepsCycle, KeepsSnapshot}
use Rattle.mh_table_laws.proofs.placing.Places.{block_at-with_block_same, block_at-with_block_other, block-slot}
use Rattle.mh_laws.proofs.marking.MarkingPaths.{Keeps, promises_stay}

-- Reading ----------------------------------------------------------------------------------------

-- a place leads to itself if its block is no forwarder, and else to where that leads
pub resolve-live : (table : Table Block) (place : ℕ) (block : Block) → block_at table place ≡ Some block → block.forward ≡ None → resolve table place ≡ place
resolve-live table place block there live = grind arith

pub not_sweep : (phase : Phase) → in_roots_or_mark phase ≡ true → in_sweep phase ≡ true → ⊥
not_sweep other m s = grind arith

pub no_sweep : (phase : Phase) → in_roots_or_mark phase ≡ true → in_sweep phase ≡ false
no_sweep other m = grind arith

pub roots_mark : (phase : Phase) → in_roots phase ≡ true → in_roots_or_mark phase ≡ true
roots_mark other m = grind arith

-- outside the sweep what is no forwarder is plain
pub live_plain : (c : Collector) → in_sweep c.phase ≡ false → (q : ℕ) (x : Block) → block_at c.table q ≡ Some x → x.forward ≡ None → IsPlainAt c q x
live_plain c out q x there live = grind arith

-- the change of a page in one slot, with the number of its slots and its flag
pub pages-with_block : (table : Table Block) (place : ℕ) (content : Option Block) (number : ℕ) (page : Page Block) → page_at (with_block table place content) number ≡ Some page
    → (old : Page Block) × (page_at table number ≡ Some old) × (length page.slots ≡ length old.slots) × (page.is_flagged ≡ old.is_flagged)
pages-with_block table place content number page e = go table (page_number place) number e
  where
    here : (content' : Option (Page Block)) → option_map (page_with (slot_number place) content) content' ≡ Some page → (old : Page Block) × (content' ≡ Some old) × (length page.slots ≡ length old.slots) × (page.is_flagged ≡ old.is_flagged)
    here content' h = grind (arith, none-some, same_Some, length-set)

    go : (pages : Table Block) (n m : ℕ) → page_at (set pages n (option_map (page_with (slot_number place) content) (page_at pages n))) m ≡ Some page
        → (old : Page Block) × (page_at pages m ≡ Some old) × (length page.slots ≡ length old.slots) × (page.is_flagged ≡ old.is_flagged)
    go [] n m h = absurd (none-some page h)
    go (x ∷ pages) zero zero h = here x h
    go (x ∷ pages) (suc n) (suc m) h = go pages n m h
    go pages n m h = (page, h, refl, refl)

-- Changes ----------------------------------------------------------------------------------------

-- blocks that differ in their stamps and in what their fields are alone
pub record Alike (b b' : Block) : Type 0 where
  pub birth : b'.birth ≡ b.birth
  pub part : b'.part ≡ b.part
  pub header : b'.header ≡ b.header
  pub forward : b'.forward ≡ b.forward
  pub references : length b'.references ≡ length b.references
  pub numbers : length b'.numbers ≡ length b.numbers

pub alike_refl : (b : Block) → Alike b b
alike_refl b = grind arith

child_alike : (shapes : ℕ → Shape) (b b' : Block) → Alike b b' → first_child (shapes b'.birth) b'.part ≡ first_child (shapes b.birth) b.part
child_alike shapes b b' alike = grind arith

-- The block at a place changes: it may be marked, and each of its references leads if one did or, if its fields are rewritten, to an object
pub record IsChange (c : Collector) (p : ℕ) (b b' : Block) (grey' : List ℕ) : Type 0 where
  pub here : block_at c.table p ≡ Some b
  pub alike : Alike b b'
  pub stamp : (b'.stamp ≡ b.stamp) ⊎ ((in_roots_or_mark c.phase ≡ true) × (b'.stamp ≡ c.cycle) × IsIn p grey')
  pub grows : (q : ℕ) → IsIn q c.grey → IsIn q grey'
  pub listed : (q : ℕ) → IsIn q grey' → IsIn q c.grey ⊎ ((q ≡ p) × (b'.stamp ≡ c.cycle) × (b.forward ≡ None))
  pub quiet : in_roots_or_mark c.phase ≡ false → grey' ≡ []
  pub rewrites : Bool
  pub words : (i r : ℕ) → get_or b'.references i None ≡ Some r → ((s : ℕ) × (get_or b.references i None ≡ Some s) × (resolve c.table r ≡ resolve c.table s)) ⊎ ((rewrites ≡ true) × LeadsToObject c r)
  pub spine : rewrites ≡ false → (i s : ℕ) → get_or b.references i None ≡ Some s → (r : ℕ) × (get_or b'.references i None ≡ Some r) × (resolve c.table r ≡ resolve c.table s)
  pub original : in_trace c.phase ≡ true → b'.stamp ≡ c.cycle → b.forward ≡ None
  pub straight : in_trace c.phase ≡ true → b'.stamp ≡ c.cycle → IsIn p grey' ⊎ IsStraight c.table b'

module _ (c : Collector) (p : ℕ) (b b' : Block) (grey' : List ℕ) (change : IsChange c p b b' grey') where
  abbrev pub changed : Collector
  changed = record c { table = with_block c.table p (Some b'); grey = grey' }

  pub at_here : block_at changed.table p ≡ Some b'
  at_here = block_at-with_block_same c.table p (Some b') (block-slot c.table p b change.here)

  pub at_other : (q : ℕ) → q ≢ p → block_at changed.table q ≡ block_at c.table q
  at_other q apart = block_at-with_block_other c.table p q (Some b') apart

  -- how a block at a place is before and after
  pub record Pair (q : ℕ) (x x' : Block) : Type 0 where
    pub old : block_at c.table q ≡ Some x
    pub new : block_at changed.table q ≡ Some x'
    pub alike : Alike x x'
    pub case : ((q ≡ p) × (x ≡ b) × (x' ≡ b')) ⊎ (x' ≡ x)

  pub forth : (q : ℕ) (x : Block) → block_at c.table q ≡ Some x → (x' : Block) × Pair q x x'
  forth q x there = elim (cases_eq q p) [
    | inl same ↦ grind (arith, same_Some, at_here)
    | inr apart ↦ (x, record { old = there; new = at_other q apart ∙ there; alike = alike_refl x; case = inr refl })
  ]

  pub back : (q : ℕ) (x' : Block) → block_at changed.table q ≡ Some x' → (x : Block) × Pair q x x'
  back q x' there = grind (arith, cases_eq, same_Some, at_here, at_other, alike_refl)

  pub resolve-changed : (r : ℕ) → resolve changed.table r ≡ resolve c.table r
  resolve-changed r = grind (arith, forth, cases_eq, none-some, at_other)

  -- stamps
  stamp_of : (q : ℕ) (x x' : Block) → Pair q x x' → (x'.stamp ≡ x.stamp) ⊎ ((in_roots_or_mark c.phase ≡ true) × (x'.stamp ≡ c.cycle) × IsIn q grey')
  stamp_of q x x' pair = grind arith

  marked_still : (q : ℕ) (x x' : Block) → Pair q x x' → x.stamp ≡ c.cycle → x'.stamp ≡ c.cycle
  marked_still q x x' pair s = grind arith

  plain_forth : (q : ℕ) (x : Block) → IsPlainAt c q x → (x' : Block) × Alike x x' × IsPlainAt changed q x'
  plain_forth q x plain = grind (arith, forth q x plain.there)

  plain_back : (q : ℕ) (x' : Block) → IsPlainAt changed q x' → (x : Block) × Pair q x x' × IsPlainAt c q x
  plain_back q x' plain = grind (arith, back q x' plain.there)

  object_forth : (r s : ℕ) → resolve c.table r ≡ resolve c.table s → LeadsToObject c s → LeadsToObject changed r
  object_forth r s e (x, plain, is) = grind (arith, plain_forth (resolve c.table s) x plain, resolve-changed r)

  part_forth : (r s birth part : ℕ) → resolve c.table r ≡ resolve c.table s → LeadsToPart c s birth part → LeadsToPart changed r birth part
  part_forth r s birth part e (x, plain, is, is') = grind (arith, plain_forth (resolve c.table s) x plain, resolve-changed r)

  -- The state alone ------------------------------------------------------------------------------

  -- what is rewritten has fields itself
  abbrev pub IsFlat : (ℕ → Shape) → Type 0
  IsFlat shapes = change.rewrites ≡ true → first_child (shapes b.birth) b.part ≡ None

  pub sound-changed : (n : ℕ) (h : IsSound n c) → IsFlat h.shapes → IsSound n changed
  sound-changed n h is_flat = record {
    narrow = λ number page e. let (old, at, same, flag) = pages-with_block c.table p (Some b') number page e in let few = h.narrow number old at in omega (arith, same, few);
    roots = h.roots;
    births = λ q x' e. let (x, pair) = back q x' e in subst (λ z. z < n) (sym pair.alike.birth) (h.births q x pair.old);
    stamps = λ q x' e. let (x, pair) = back q x' e in elim (stamp_of q x x' pair) [ inl same ↦ subst (λ z. z ≤ c.cycle) (sym same) (h.stamps q x pair.old) | inr anew ↦ omega (arith, anew.1) ];
    shapes = h.shapes;
    parts = λ q x' e. let (x, pair) = back q x' e in part_still x x' pair.alike (h.parts q x pair.old);
    one = λ q r x' y' e f live live' births parts.
        let (x, pair) = back q x' e in
        let (y, pair') = back r y' f in
        h.one q r x y pair.old pair'.old (sym pair.alike.forward ∙ live) (sym pair'.alike.forward ∙ live') (sym pair.alike.birth ∙ births ∙ pair'.alike.birth) (sym pair.alike.part ∙ parts ∙ pair'.alike.part);
    slots = λ i r e. let (x, plain, is) = h.slots i r e in let (x', alike, plain') = plain_forth r x plain in (x', plain', alike.part ∙ is);
    fields = λ q x' plain flat i r e. let (x, pair, old) = plain_back q x' plain in fields q x x' pair old flat i r e;
    spines = λ q x' child plain spine i below. let (x, pair, old) = plain_back q x' plain in spines q x x' child pair old spine i below;
    grey = λ q is. elim (change.listed q is) [
      | inl before ↦ let (x, at, live, s) = h.grey q before in let (x', pair) = forth q x at in (x', pair.new, pair.alike.forward ∙ live, marked_still q x x' pair s)
      | inr here ↦ (b', ap (block_at changed.table) here.0 ∙ at_here, change.alike.forward ∙ here.2, here.1)
    ];
    quiet = change.quiet;
    original = λ t q x' e s. let (x, pair) = back q x' e in pair.alike.forward ∙ original t q x x' pair s;
    straight = λ t q x' e s. let (x, pair) = back q x' e in straight t q x x' pair s;
    swept = λ t q x' e below. let (x, pair) = back q x' e in marked_still q x x' pair (h.swept t q x pair.old below);
    marked = λ t q x' e. let (x, pair) = back q x' e in marked_still q x x' pair (h.marked t q x pair.old);
    dense = λ t q y x' e f page g.
        let (x, pair) = back q x' e in
        let (old, at, same, flag) = pages-with_block c.table p (Some b') (page_number y) page g in
        flag ∙ h.dense t q y x pair.old (sym pair.alike.forward ∙ f) old at;
  }
    where
      part_still : (x x' : Block) → Alike x x' → IsPartOf (h.shapes x.birth) x → IsPartOf (h.shapes x'.birth) x'
      part_still x x' alike is = grind arith

      fields : (q : ℕ) (x x' : Block) → Pair q x x' → IsPlainAt c q x → first_child (h.shapes x'.birth) x'.part ≡ None → (i r : ℕ) → get_or x'.references i None ≡ Some r → LeadsToObject changed r
      fields q x x' pair old flat i r e = elim pair.case [
        | inr same ↦ object_forth r r refl (h.fields q x old (sym (child_alike h.shapes x x' pair.alike) ∙ flat) i r (ap (λ z. get_or z.references i None) (sym same) ∙ e))
        | inl k ↦ elim (change.words i r (ap (λ z. get_or z.references i None) (sym k.2) ∙ e)) [
          | inr new ↦ object_forth r r refl new.1
          | inl word ↦ object_forth r word.0 word.2 (h.fields q x old (sym (child_alike h.shapes x x' pair.alike) ∙ flat) i word.0 (ap (λ z. get_or z.references i None) k.1 ∙ word.1))
        ]
      ]

      -- the changed block isn't rewritten if it has children
      not_rewritten : (child : ℕ) → first_child (h.shapes b.birth) b.part ≡ Some child → change.rewrites ≡ false
      not_rewritten child spine = grind arith

      spines : (q : ℕ) (x x' : Block) (child : ℕ) → Pair q x x' → IsPlainAt c q x → first_child (h.shapes x'.birth) x'.part ≡ Some child → (i : ℕ) → i < length x'.references → (r : ℕ) × (get_or x'.references i None ≡ Some r) × LeadsToPart changed r x'.birth (child + i)
      spines q x x' child pair old spine i below =
          let spine_x = sym (child_alike h.shapes x x' pair.alike) ∙ spine in
          let (s, e, leads) = h.spines q x child old spine_x i (omega (arith, pair.alike.references, below)) in
          let birth = pair.alike.birth in
          elim pair.case [
            | inr same ↦ (s, ap (λ z. get_or z.references i None) same ∙ e, subst (λ z. LeadsToPart changed s z (child + i)) (sym birth) (part_forth s s x.birth (child + i) refl leads))
            | inl k ↦
                let (r, f, same) = change.spine (not_rewritten child (ap (λ (z : Block). first_child (h.shapes z.birth) z.part) (sym k.1) ∙ spine_x)) i s (ap (λ z. get_or z.references i None) (sym k.1) ∙ e) in
                (r, ap (λ z. get_or z.references i None) k.2 ∙ f, subst (λ z. LeadsToPart changed r z (child + i)) (sym birth) (part_forth r s x.birth (child + i) same leads))
          ]

      original : in_trace c.phase ≡ true → (q : ℕ) (x x' : Block) → Pair q x x' → x'.stamp ≡ c.cycle → x.forward ≡ None
      original t q x x' pair s = grind arith

      straight_still : (x : Block) → IsStraight c.table x → IsStraight changed.table x
      straight_still x is i r e = resolve-changed r ∙ is i r e

      straight : in_trace c.phase ≡ true → (q : ℕ) (x x' : Block) → Pair q x x' → x'.stamp ≡ c.cycle → IsIn q grey' ⊎ IsStraight changed.table x'
      straight t q x x' pair s = grind (arith, inr, inl, straight_still)

  -- The running cycle ----------------------------------------------------------------------------

  -- a link of the changed block is lost only to a marked block
  abbrev LosesOnlyMarked : Type 0
  LosesOnlyMarked = (i s : ℕ) → get_or b.references i None ≡ Some s → ((r : ℕ) × (get_or b'.references i None ≡ Some r) × (resolve c.table r ≡ resolve c.table s)) ⊎ IsMarkedAt c (resolve c.table s)

  pub marked_at : (q : ℕ) → IsMarkedAt c q → IsMarkedAt changed q
  marked_at q (x, there, s) = let (x', pair) = forth q x there in (x', pair.new, marked_still q x x' pair s)

  links-changed : LosesOnlyMarked → (q t : ℕ) → Links c.table q t → IsMarkedAt changed t ⊎ Links changed.table q t
  links-changed loses q t (x, i, s, there, e, to) =
      let (x', pair) = forth q x there in
      grind (arith, inr, resolve-changed, inl, marked_at)

  pub keeps-changed : LosesOnlyMarked → Keeps c changed
  keeps-changed loses = record {
    cycle = refl;
    blocks = λ q x e. let (x', pair) = forth q x e in (x', pair.new, pair.alike.birth, pair.alike.forward, elim (stamp_of q x x' pair) [ inl same ↦ inl same | inr anew ↦ inr (anew.1, anew.2) ]);
    back = λ q x' e. let (x, pair) = back q x' e in inl (x, pair.old);
    roots = λ t x e from. let (i, r, after, at, to) = from.1 in inr ([], inl (from.0, (i, r, after, at, resolve-changed r ∙ to)));
    grey = λ t x e from. elim (links-changed loses from.0 t from.2) [ inl marked ↦ inl marked | inr links ↦ inr ([], inr (from.0, change.grows from.0 from.1, links)) ];
    links = λ q t x e links. links-changed loses q t links;
  }

  -- what has to be kept of the changed block: itself if it is marked, and if its new references lead
  pub record IsKeptChange (snapshot : World) (n : ℕ) : Type 0 where
    pub loses : in_roots_or_mark c.phase ≡ true → LosesOnlyMarked
    pub kept : is_idle c.phase ≡ false → b'.stamp ≡ c.cycle → IsKept snapshot n b.birth
    pub words : in_roots_or_mark c.phase ≡ true → IsKept snapshot n b.birth → (i r : ℕ) (t : Block) → get_or b'.references i None ≡ Some r → block_at c.table (resolve c.table r) ≡ Some t → IsKept snapshot n t.birth

  pub cycle-changed : (snapshot : World) (n : ℕ) → IsKeptChange snapshot n → KeepsCycle snapshot n c → KeepsCycle snapshot n changed
  cycle-changed snapshot n k h = record {
    path = λ m. promises_stay (Reachable snapshot) c changed (keeps-changed (k.loses m)) (h.path m);
    marked = λ m q x' e s. let (x, pair) = back q x' e in subst (IsKept snapshot n) (sym pair.alike.birth) (elim pair.case [
      | inr same ↦ h.marked m q x pair.old (sym (ap (λ z. z.stamp) same) ∙ s)
      | inl j ↦ subst (λ z. IsKept snapshot n z.birth) (sym j.1) (k.kept m (sym (ap (λ z. z.stamp) j.2) ∙ s))
    ]);
    whole = λ m birth is. whole birth (h.whole m birth is);
    born = λ m q x' e since. let (x, pair) = back q x' e in marked_still q x x' pair (h.born m q x pair.old (subst (λ z. births snapshot ≤ z) pair.alike.birth since));
    slots = λ m i r t e f. let (y, pair) = back (resolve c.table r) t (ap (block_at changed.table) (sym (resolve-changed r)) ∙ f) in subst (IsKept snapshot n) (sym pair.alike.birth) (h.slots m i r y e pair.old);
    references = λ m q x' i r t e live is f g.
        let (x, pair) = back q x' e in
        let (y, pair') = back (resolve c.table r) t (ap (block_at changed.table) (sym (resolve-changed r)) ∙ g) in
        let is_old : IsKept snapshot n x.birth = subst (IsKept snapshot n) pair.alike.birth is in
        subst (IsKept snapshot n) (sym pair'.alike.birth) (elim pair.case [
          | inr same ↦ h.references m q x i r y pair.old (sym pair.alike.forward ∙ live) is_old (ap (λ z. get_or z.references i None) (sym same) ∙ f) pair'.old
          | inl j ↦ k.words m (subst (λ z. IsKept snapshot n z.birth) j.1 is_old) i r y (ap (λ z. get_or z.references i None) (sym j.2) ∙ f) pair'.old
        ]);
  }
    where
      whole : (birth : ℕ) → IsWhole c birth → IsWhole changed birth
      whole birth (q, x, plain, is, first, each) =
          let (x', alike, plain') = plain_forth q x plain in (
            q,
            x',
            plain',
            alike.birth ∙ is,
            alike.part ∙ first,
            λ i below.
                let (r, y, plain_y, is_y, part_y) = each i (subst (λ (z : Shape). i < length (parts z.references z.numbers)) alike.header below) in
                let (y', alike_y, plain_y') = plain_forth r y plain_y in
                (r, y', plain_y', alike_y.birth ∙ is_y, alike_y.part ∙ part_y),
          )

  pub snapshot-changed : (snapshot : World) (n : ℕ) → IsKeptChange snapshot n → (h : KeepsSnapshot snapshot n c) → IsFlat h.sound.shapes → KeepsSnapshot snapshot n changed
  snapshot-changed snapshot n k h is_flat = search (arith, sound-changed, cycle-changed)
