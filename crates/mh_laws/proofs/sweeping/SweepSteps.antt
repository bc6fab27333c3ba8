-- The passage from marking to the sweep, at which all promises have been met; sweep steps, which free nothing that is kept; and the passage to defragmentation.
use Rattle.std.proofs.Common.{◌≡◌, ℕ, ◌<◌, true, inl, inr, List, [], ◌∷◌, length, get_or, Some, None, refl, sym, ap, ◌∙◌, subst, arith}
use Rattle.std.proofs.{lemmas.Bool.{false≢true, leb-true}, lemmas.Option.{none-some, same_Some}}
use Rattle.mh_model.specs.{declared.cycle.Phase.TheVariants.{Mark, Sweep, Defrag}, World.World}
use Rattle.mh_model.specs.{Pages.{page_number, block_at}, Table.{Block, resolve}}
use Rattle.mh_model.specs.{Collector.{Collector, with_phase, after_mark, sweep_step, is_past}, Mutator.in_roots_or_mark}
use Rattle.mh_model.specs.{View.in_sweep, Snapshot.IsKept}
use Rattle.mh_model.specs.Invariant.{IsIn, IsPlainAt, in_trace, in_defrag, IsSound, IsFromRoot, KeepsSnapshot}
use Rattle.mh_laws.proofs.{marking.MarkingPaths.nothing_promised, marking.BlockChanges.{resolve-live, not_sweep}}
use Rattle.mh_laws.proofs.{marking.SameTable.snapshot-turned, marking.MarkSteps.{traces, runs, leads}}
use Rattle.mh_laws.proofs.sweeping.SweptTables.{IsSwept, swept-is}
use Rattle.mh_table_laws.proofs.Lists.{below_length}

-- When marking ends ------------------------------------------------------------------------------

module _ (snapshot : World) (n : ℕ) (c : Collector) (marks : in_roots_or_mark c.phase ≡ true) (no_grey : c.grey ≡ []) (no_root : (q : ℕ) → IsFromRoot c q → ⊥) (h : KeepsSnapshot snapshot n c) where
  -- each block of what is kept is marked
  pub kept_marked : (q : ℕ) (x : Block) → block_at c.table q ≡ Some x → x.forward ≡ None → IsKept snapshot n x.birth → x.stamp ≡ c.cycle
  kept_marked q x there live (inr since) = h.cycle.born (runs c.phase marks) q x there since.0
  kept_marked q x there live (inl reached) = elim (h.cycle.path marks q x there live reached) [
    | inl marked ↦ ap (λ z. z.stamp) (same_Some x marked.0 (sym there ∙ marked.1)) ∙ marked.2
    | inr promised ↦ absurd (nothing_promised c no_grey no_root q promised)
  ]

  abbrev sweeping : Collector
  sweeping = with_phase c Sweep 0

  plain_then : (q : ℕ) (x : Block) → IsPlainAt c q x → IsKept snapshot n x.birth → IsPlainAt sweeping q x
  plain_then q x plain kept = record { there = plain.there; original = plain.original; surviving = λ s. kept_marked q x plain.there plain.original kept }

  plain_now : (q : ℕ) (x : Block) → IsPlainAt sweeping q x → IsPlainAt c q x
  plain_now q x plain = record { there = plain.there; original = plain.original; surviving = λ s. absurd (not_sweep c.phase marks s) }

  kept_then : (q : ℕ) (x : Block) → IsPlainAt sweeping q x → IsKept snapshot n x.birth
  kept_then q x plain = h.cycle.marked (runs c.phase marks) q x plain.there (plain.surviving refl)

  referred : (q : ℕ) (x : Block) → IsPlainAt sweeping q x → (i r : ℕ) → get_or x.references i None ≡ Some r → (y : Block) → IsPlainAt c (resolve c.table r) y → IsPlainAt sweeping (resolve c.table r) y
  referred q x plain i r e y plain' = plain_then (resolve c.table r) y plain' (h.cycle.references marks q x i r y plain.there plain.original (kept_then q x plain) e plain'.there)

  sound-sweeping : IsSound n sweeping
  sound-sweeping = record {
    narrow = h.sound.narrow;
    roots = h.sound.roots;
    births = h.sound.births;
    stamps = h.sound.stamps;
    shapes = h.sound.shapes;
    parts = h.sound.parts;
    one = h.sound.one;
    slots = λ i r e.
        let (x, plain, first) = h.sound.slots i r e in
        let self : resolve c.table r ≡ r = resolve-live c.table r x plain.there plain.original in
        (x, plain_then r x plain (h.cycle.slots marks i r x e (ap (block_at c.table) self ∙ plain.there)), first);
    fields = λ q x plain flat i r e. let (y, plain', first) = h.sound.fields q x (plain_now q x plain) flat i r e in (y, referred q x plain i r e y plain', first);
    spines = λ q x child plain spine i below. let (r, e, (y, plain', birth, part)) = h.sound.spines q x child (plain_now q x plain) spine i below in (r, e, (y, referred q x plain i r e y plain', birth, part));
    grey = h.sound.grey;
    quiet = λ no. no_grey;
    original = λ t. h.sound.original (traces c.phase marks);
    straight = λ t. h.sound.straight (traces c.phase marks);
    swept = λ t q x e below. absurd (omega arith);
    marked = λ t. absurd (false≢true t);
    dense = λ t. absurd (false≢true t);
  }

  -- The sweep begins with what is kept marked
  pub snapshot-sweeping : KeepsSnapshot snapshot n sweeping
  snapshot-sweeping = record {
    sound = sound-sweeping;
    before = h.before;
    cycle = record {
      path = λ m. absurd (false≢true m);
      marked = λ m. h.cycle.marked (runs c.phase marks);
      whole = λ m birth kept.
          let (q, x, plain, is, first, each) = h.cycle.whole (runs c.phase marks) birth kept in
          (q, x, plain_then q x plain (subst (IsKept snapshot n) (sym is) kept), is, first, λ i below. let (r, y, plain', is', part) = each i below in (r, y, plain_then r y plain' (subst (IsKept snapshot n) (sym is') kept), is', part));
      born = λ m. h.cycle.born (runs c.phase marks);
      slots = λ m. absurd (false≢true m);
      references = λ m. absurd (false≢true m);
    };
  }

-- marking goes on or ends, if no root is left
pub snapshot-after_mark : (snapshot : World) (n : ℕ) (c : Collector) → in_roots_or_mark c.phase ≡ true → ((q : ℕ) → IsFromRoot c q → ⊥) → KeepsSnapshot snapshot n c → KeepsSnapshot snapshot n (after_mark c c.grey)
snapshot-after_mark snapshot n c marks no_root h = go c.grey refl
  where
    go : (grey : List ℕ) → c.grey ≡ grey → KeepsSnapshot snapshot n (after_mark c grey)
    go [] is = snapshot-sweeping snapshot n c marks is no_root h
    go (g ∷ grey) is = snapshot-turned c c.slots Mark 0 c.grey c.is_asked c.quanta (grind (arith, false≢true, not_sweep, traces)) snapshot n (record {
      runs = λ r. runs c.phase marks;
      marks = λ t. marks;
      from_root = λ t q x e from. absurd (no_root q from);
      from_grey = λ t q x e from. inr from;
      slots = λ t. h.cycle.slots marks;
    }) h

-- Sweep steps ------------------------------------------------------------------------------------

module _ (snapshot : World) (n : ℕ) (c : Collector) (sweeps : c.phase ≡ Sweep) (h : KeepsSnapshot snapshot n c) where
  abbrev swept : Collector
  swept = sweep_step c

  in_it : in_sweep c.phase ≡ true
  in_it = ap in_sweep sweeps

  is_swept : IsSwept c.cycle c.table c.cursor swept.table swept.cursor
  is_swept = swept-is c.cycle c.table c.cursor

  no_mark : {X : Type 0} → in_roots_or_mark c.phase ≡ true → X
  no_mark m = absurd (not_sweep c.phase m in_it)

  no_grey_now : c.grey ≡ []
  no_grey_now = h.sound.quiet (ap in_roots_or_mark sweeps)

  pub plain_forth : (q : ℕ) (x : Block) → IsPlainAt c q x → IsPlainAt swept q x
  plain_forth q x plain = record { there = is_swept.kept q x plain.there (plain.surviving in_it) plain.original; original = plain.original; surviving = plain.surviving }

  pub plain_back : (q : ℕ) (x : Block) → IsPlainAt swept q x → IsPlainAt c q x
  plain_back q x plain = record { there = is_swept.only q x plain.there; original = plain.original; surviving = plain.surviving }

  -- a reference of a plain block leads straight to where it leads, before and after the step
  straight_now : (q : ℕ) (x : Block) → IsPlainAt c q x → (i r : ℕ) → get_or x.references i None ≡ Some r → resolve c.table r ≡ r
  straight_now q x plain i r e = grind (arith, in_it, no_grey_now)

  straight_then : (q : ℕ) (x : Block) → IsPlainAt c q x → (i r : ℕ) → get_or x.references i None ≡ Some r → resolve swept.table r ≡ r
  straight_then q x plain i r e =
      let (y, plain') = leads n c h.sound q x plain i r e in
      grind (arith, plain_forth, straight_now, resolve-live)

  pub referred_then : (q : ℕ) (x : Block) → IsPlainAt c q x → (i r : ℕ) → get_or x.references i None ≡ Some r → (y : Block) → IsPlainAt c (resolve c.table r) y → IsPlainAt swept (resolve swept.table r) y
  referred_then q x plain i r e y plain' = subst (λ z. IsPlainAt swept z y) (sym (straight_then q x plain i r e)) (plain_forth r y (subst (λ z. IsPlainAt c z y) (straight_now q x plain i r e) plain'))

  -- a marked block is plain
  plain_marked : (q : ℕ) (x : Block) → block_at c.table q ≡ Some x → x.stamp ≡ c.cycle → IsPlainAt c q x
  plain_marked q x there stamp = record { there = there; original = h.sound.original (ap in_trace sweeps) q x there stamp; surviving = λ s. stamp }

  sound-swept : IsSound n swept
  sound-swept = record {
    narrow = λ number page e. let (old, at, same) = is_swept.narrow number page e in let few = h.sound.narrow number old at in omega (arith, same, few);
    roots = h.sound.roots;
    births = λ q x e. h.sound.births q x (is_swept.only q x e);
    stamps = λ q x e. h.sound.stamps q x (is_swept.only q x e);
    shapes = h.sound.shapes;
    parts = λ q x e. h.sound.parts q x (is_swept.only q x e);
    one = λ q r x y e f. h.sound.one q r x y (is_swept.only q x e) (is_swept.only r y f);
    slots = λ i r e. let (x, plain, first) = h.sound.slots i r e in (x, plain_forth r x plain, first);
    fields = λ q x plain flat i r e. let (y, plain', first) = h.sound.fields q x (plain_back q x plain) flat i r e in (y, referred_then q x (plain_back q x plain) i r e y plain', first);
    spines = λ q x child plain spine i below. let (r, e, (y, plain', birth, part)) = h.sound.spines q x child (plain_back q x plain) spine i below in (r, e, (y, referred_then q x (plain_back q x plain) i r e y plain', birth, part));
    grey = λ q is. absurd (subst (IsIn q) no_grey_now is);
    quiet = h.sound.quiet;
    original = λ t q x e. h.sound.original t q x (is_swept.only q x e);
    straight = λ t q x e s. inr (λ i r f. straight_then q x (plain_marked q x (is_swept.only q x e) s) i r f);
    swept = λ t q x e below. elim (is_swept.passed q x e below) [
      | inl before ↦ h.sound.swept t q x (is_swept.only q x e) before
      | inr same ↦ is_swept.here q x e same
    ];
    marked = λ t q x e. h.sound.marked t q x (is_swept.only q x e);
    dense = λ t. absurd (false≢true (ap in_defrag (sym sweeps) ∙ t));
  }

  -- A sweep step keeps the snapshot: it frees no block of what is kept
  pub snapshot-sweep_step : KeepsSnapshot snapshot n swept
  snapshot-sweep_step = record {
    sound = sound-swept;
    before = h.before;
    cycle = record {
      path = λ m. no_mark m;
      marked = λ m q x e. h.cycle.marked m q x (is_swept.only q x e);
      whole = λ m birth kept.
          let (q, x, plain, is, first, each) = h.cycle.whole m birth kept in
          (q, x, plain_forth q x plain, is, first, λ i below. let (r, y, plain', is', part) = each i below in (r, y, plain_forth r y plain', is', part));
      born = λ m q x e. h.cycle.born m q x (is_swept.only q x e);
      slots = λ m. no_mark m;
      references = λ m. no_mark m;
    };
  }

-- The end of the sweep -----------------------------------------------------------------------------

-- After the sweep of the last page, defragmentation begins with each block marked and none forwarded
pub snapshot-after_sweep : (snapshot : World) (n : ℕ) (c : Collector) → c.phase ≡ Sweep → is_past c.table c.cursor ≡ true → KeepsSnapshot snapshot n c → KeepsSnapshot snapshot n (with_phase c Defrag 0)
snapshot-after_sweep snapshot n c sweeps past h = snapshot-turned c c.slots Defrag 0 c.grey c.is_asked c.quanta (record {
  enters = λ s. absurd (false≢true s);
  leaves = λ no s. all_marked;
  roots = h.sound.roots;
  slots = h.sound.slots;
  listed = λ q is. is;
  quiet = λ no. h.sound.quiet (ap in_roots_or_mark sweeps);
  traces = λ t. absurd (false≢true t);
  left = λ t q x is e. inl is;
  swept = λ t. absurd (false≢true t);
  marked = λ t. all_marked;
  dense = λ t q target x e f. absurd (none-some target (sym (h.sound.original (ap in_trace sweeps) q x e (all_marked q x e)) ∙ f));
}) snapshot n (grind (arith, runs, false≢true)) h
  where
    page_inside : (q : ℕ) (x : Block) → block_at c.table q ≡ Some x → page_number q < length c.table
    page_inside q x e = grind (arith, none-some, below_length)

    all_marked : (q : ℕ) (x : Block) → block_at c.table q ≡ Some x → x.stamp ≡ c.cycle
    all_marked q x e = search (arith, page_inside, leb-true)
