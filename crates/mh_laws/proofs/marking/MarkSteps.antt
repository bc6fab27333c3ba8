-- What shading, the roots step and the mark step keep, put together from one block's change and from tables left as they are.
use Rattle.std.proofs.Common.{◌≡◌, ◌≢◌, ℕ, zero, suc, ◌+◌, ◌-◌, ◌<◌, true, false, ◌⊎◌, inl, inr, List, [], ◌∷◌, ◌++◌, length, get_or, set, Option, Some, None, option_map, refl, sym, ap, ◌∙◌, subst, arith}
use Rattle.std.proofs.{lemmas.Bool.{cases_eq, cases_lt, false≢true}, lemmas.Option.{none-some, same_Some}}
use Rattle.std.proofs.lemmas.List.{get_or-set_same, get_or-set_other, get_or_past, length-set, append_assoc}
use Rattle.mh_model.specs.{declared.cycle.Phase.Phase, declared.cycle.Phase.TheVariants.Roots, World.World}
use Rattle.mh_model.specs.{Pages.{Table, block_at, with_block}, Table.{Block, references_at, resolve, target_of}}
use Rattle.mh_model.specs.Collector.{Collector, Marking, with_grey, shade_place, shade, mark_reference, mark_references, mark_first, mark_step, marking_of, with_marking, with_shade, with_phase, roots_step, is_idle}
use Rattle.mh_model.specs.{Mutator.in_roots_or_mark, Snapshot.IsKept}
use Rattle.mh_model.specs.Invariant.{IsIn, IsPlainAt, first_child, in_trace, IsSound, IsMarkedAt, IsFromGrey, KeepsSnapshot}
use Rattle.mh_laws.proofs.marking.MarkingPaths.{is_in-left, is_in-last, is_in-either}
use Rattle.mh_laws.proofs.marking.BlockChanges.{IsChange, IsKeptChange, forth, at_here, resolve-changed, snapshot-changed, resolve-live, marked_at}
use Rattle.mh_laws.proofs.marking.SameTable.{IsTurn, turned, snapshot-turned}
use Rattle.mh_table_laws.proofs.Lists.{below_length}

pub traces : (phase : Phase) → in_roots_or_mark phase ≡ true → in_trace phase ≡ true
traces other m = grind arith

pub runs : (phase : Phase) → in_roots_or_mark phase ≡ true → is_idle phase ≡ false
runs other m = grind arith

-- Shading ----------------------------------------------------------------------------------------

-- a place is shaded: either nothing is there that isn't marked, or its block becomes marked and grey
pub record IsShaded (m : Marking) (place : ℕ) : Type 0 where
  pub case : ((shade_place m place ≡ m) × ((block : Block) → block_at m.table place ≡ Some block → block.stamp ≡ m.cycle)) ⊎ ((block : Block) × (block_at m.table place ≡ Some block) × (block.stamp ≢ m.cycle) × (shade_place m place ≡ with_grey m place block))

pub shade_place-is : (m : Marking) (place : ℕ) → IsShaded m place
shade_place-is m place = grind arith

-- a collector with what marking works on, and with these places grey before
abbrev pub scanning : Collector → List ℕ → Marking → Collector
scanning c front m = record c { table = m.table; grey = front ++ m.grey }

-- what shading leaves of a block: all but its mark
pub record Shades (m m' : Marking) (place : ℕ) : Type 0 where
  pub cycle : m'.cycle ≡ m.cycle
  pub blocks : (q : ℕ) (x : Block) → block_at m.table q ≡ Some x → (s : ℕ) × (block_at m'.table q ≡ Some (record x { stamp = s })) × (x.stamp ≡ m.cycle → s ≡ m.cycle)
  pub resolves : (r : ℕ) → resolve m'.table r ≡ resolve m.table r
  pub target : (x : Block) → block_at m.table place ≡ Some x → (x' : Block) × (block_at m'.table place ≡ Some x') × (x'.stamp ≡ m.cycle)

-- A place of a block that is kept is shaded
module _ (snapshot : World) (n : ℕ) (c : Collector) (front : List ℕ) (m : Marking) (same : m.cycle ≡ c.cycle) (marks : in_roots_or_mark c.phase ≡ true) (place : ℕ) where
  abbrev KeepsTarget : Type 0
  KeepsTarget = (x : Block) → block_at m.table place ≡ Some x → (x.forward ≡ None) × IsKept snapshot n x.birth

  module _ (kept : KeepsTarget) (h : KeepsSnapshot snapshot n (scanning c front m)) (b : Block) (there : block_at m.table place ≡ Some b) where
    abbrev d : Collector
    d = scanning c front m

    abbrev b' : Block
    b' = record b { stamp = m.cycle }

    abbrev grey' : List ℕ
    grey' = (front ++ m.grey) ++ place ∷ []

    change : IsChange d place b b' grey'
    change = grind (arith, is_in-last, is_in-left, is_in-either, false≢true)

    keeps : IsKeptChange d place b b' grey' change snapshot n
    keeps = grind (arith, inl)

    shades : Shades m (with_grey m place b) place
    shades = record {
      cycle = refl;
      blocks = λ q x f. let (x', pair) = forth d place b b' grey' change q x f in search arith;
      resolves = resolve-changed d place b b' grey' change;
      target = λ x f. (b', at_here d place b b' grey' change, refl);
    }

    anew : KeepsSnapshot snapshot n (scanning c front (with_grey m place b)) × Shades m (with_grey m place b) place
    unfolding change
    anew =
        let e : (front ++ m.grey) ++ place ∷ [] ≡ front ++ (m.grey ++ place ∷ []) = append_assoc front m.grey (place ∷ []) in
        (subst (λ g. KeepsSnapshot snapshot n (record c { table = with_block m.table place (Some (record b { stamp = m.cycle })); grey = g })) e (snapshot-changed d place b b' grey' change snapshot n keeps h (λ t. absurd (false≢true t))), shades)

  pub shade-keeps : KeepsTarget → KeepsSnapshot snapshot n (scanning c front m) → KeepsSnapshot snapshot n (scanning c front (shade_place m place)) × Shades m (shade_place m place) place
  shade-keeps kept h = go (shade_place-is m place).case
    where
      go : ((shade_place m place ≡ m) × ((block : Block) → block_at m.table place ≡ Some block → block.stamp ≡ m.cycle)) ⊎ ((block : Block) × (block_at m.table place ≡ Some block) × (block.stamp ≢ m.cycle) × (shade_place m place ≡ with_grey m place block)) → KeepsSnapshot snapshot n (scanning c front (shade_place m place)) × Shades m (shade_place m place) place
      go (inl (e, marked)) = subst (λ m'. KeepsSnapshot snapshot n (scanning c front m') × Shades m m' place) (sym e) (h, record { cycle = refl; blocks = λ q x f. (x.stamp, f, λ s. s); resolves = λ r. refl; target = λ x f. (x, f, marked x f) })
      go (inr (b, there, white, e)) = grind (arith, anew kept h b there)

-- One reference of the block that is scanned -----------------------------------------------------

-- a reference of a plain block leads to a plain block
pub leads : (n : ℕ) (c : Collector) → IsSound n c → (q : ℕ) (b : Block) → IsPlainAt c q b → (i s : ℕ) → get_or b.references i None ≡ Some s → (x : Block) × IsPlainAt c (resolve c.table s) x
leads n c h q b plain i s e = go (first_child (h.shapes b.birth) b.part) refl
  where
    go : (child : Option ℕ) → first_child (h.shapes b.birth) b.part ≡ child → (x : Block) × IsPlainAt c (resolve c.table s) x
    go None is = let (x, plain', first) = h.fields q b plain is i s e in (x, plain')
    go (Some child) is = grind (arith, h.spines q b child plain is i (below_length b.references i s e))

-- the block that is scanned, up to one of its references: those before it lead straight to marked blocks
pub record IsScanned (m : Marking) (g index : ℕ) (refs : List (Option ℕ)) : Type 0 where
  pub block : Block
  pub there : block_at m.table g ≡ Some block
  pub live : block.forward ≡ None
  pub black : block.stamp ≡ m.cycle
  pub ahead : (k : ℕ) → get_or block.references (index + k) None ≡ get_or refs k None
  pub passed : (i r : ℕ) → i < index → get_or block.references i None ≡ Some r → (resolve m.table r ≡ r) × ((x : Block) × (block_at m.table r ≡ Some x) × (x.stamp ≡ m.cycle))

read_stored : (xs : List (Option ℕ)) (index r : ℕ) (t : Option ℕ) → get_or (set xs index t) index None ≡ Some r → t ≡ Some r
read_stored (x ∷ xs) (suc index) r t e = read_stored xs index r t e
read_stored xs index r t e = grind (arith, none-some)

target_back : (table : Table Block) (o : Option ℕ) (r : ℕ) → target_of table o ≡ Some r → (s : ℕ) × (o ≡ Some s) × (resolve table s ≡ r)
target_back table o r e = grind arith

module _ (snapshot : World) (n : ℕ) (c : Collector) (g : ℕ) (marks : in_roots_or_mark c.phase ≡ true) where
  module _ (m : Marking) (same : m.cycle ≡ c.cycle) (index : ℕ) (o : Option ℕ) (refs : List (Option ℕ)) (scan : IsScanned m g index (o ∷ refs)) (h : KeepsSnapshot snapshot n (scanning c (g ∷ []) m)) where
    abbrev e₀ : Collector
    e₀ = scanning c (g ∷ []) m

    abbrev old : Block
    old = scan.block

    abbrev stored : Block
    stored = record old { references = set scan.block.references index (target_of m.table o) }

    plain : IsPlainAt e₀ g old
    plain = grind arith

    read_ahead : get_or old.references index None ≡ o
    read_ahead = grind (arith, scan.ahead zero)

    twice : (i s : ℕ) → get_or old.references i None ≡ Some s → resolve m.table (resolve m.table s) ≡ resolve m.table s
    twice i s e = grind (arith, leads n e₀ h.sound g old plain i s e)

    words : (i r : ℕ) → get_or stored.references i None ≡ Some r → (s : ℕ) × (get_or old.references i None ≡ Some s) × (resolve m.table r ≡ resolve m.table s)
    words i r e = grind (arith, cases_eq, inr, get_or-set_other, inl, read_stored, target_back, read_ahead, twice)

    words_kept : (i s : ℕ) → get_or old.references i None ≡ Some s → (r : ℕ) × (get_or stored.references i None ≡ Some r) × (resolve m.table r ≡ resolve m.table s)
    words_kept i s e = elim (cases_eq i index) [
      | inr apart ↦ (s, get_or-set_other old.references index i (target_of m.table o) None apart ∙ e, refl)
      | inl is ↦
          let inside : index < length old.references = below_length old.references index s (ap (λ k. get_or old.references k None) (sym is) ∙ e) in
          let f : o ≡ Some s = sym read_ahead ∙ ap (λ k. get_or old.references k None) (sym is) ∙ e in
          (resolve m.table s, ap (λ k. get_or stored.references k None) is ∙ get_or-set_same old.references index (target_of m.table o) None inside ∙ ap (target_of m.table) f, twice i s e)
    ]

    store_change : IsChange e₀ g old stored (g ∷ m.grey)
    store_change = grind (arith, length-set, false≢true, words, words_kept)

    store_keeps : IsKeptChange e₀ g old stored (g ∷ m.grey) store_change snapshot n
    store_keeps = grind (arith, inl, words_kept, words)

    abbrev m₁ : Marking
    m₁ = record m { table = with_block m.table g (Some (record (scan.block) { references = set scan.block.references index (target_of m.table o) })) }

    store_snapshot : KeepsSnapshot snapshot n (scanning c (g ∷ []) m₁)
    unfolding store_change
    store_snapshot = snapshot-changed e₀ g old stored (g ∷ m.grey) store_change snapshot n store_keeps h (λ t. absurd (false≢true t))

    store_scanned : IsScanned m₁ g index (target_of m.table o ∷ refs)
    store_scanned = record {
      block = stored;
      there = at_here e₀ g old stored (g ∷ m.grey) store_change;
      live = scan.live;
      black = scan.black;
      ahead = ahead;
      passed = λ i r below e.
          let apart : i ≢ index = omega arith in
          let (self, (x, at, black)) = scan.passed i r below (sym (get_or-set_other old.references index i (target_of m.table o) None apart) ∙ e) in
          let (x', at', black') = marked_at e₀ g old stored (g ∷ m.grey) store_change r (x, at, black ∙ same) in
          (resolve-changed e₀ g old stored (g ∷ m.grey) store_change r ∙ self, (x', at', black' ∙ sym same));
    }
      where
        at_index : (t : Option ℕ) → o ≡ t → get_or (set old.references index (target_of m.table t)) index None ≡ target_of m.table t
        at_index t is = grind (arith, cases_lt, get_or-set_same, length-set, get_or_past, below_length, read_ahead)

        ahead : (k : ℕ) → get_or stored.references (index + k) None ≡ get_or (target_of m.table o ∷ refs) k None
        ahead k = grind (arith, at_index, get_or-set_other)

    -- the target shaded, which the reference leads straight to now
    abbrev m₂ : Marking
    m₂ = shade m₁ (target_of m.table o)

    scanned_on : (m' m'' : Marking) (t : Option ℕ) → IsScanned m' g index (t ∷ refs) → (m''.cycle ≡ m'.cycle)
        → ((q : ℕ) (x : Block) → block_at m'.table q ≡ Some x → (s : ℕ) × (block_at m''.table q ≡ Some (record x { stamp = s })) × (x.stamp ≡ m'.cycle → s ≡ m'.cycle))
        → ((r : ℕ) → resolve m''.table r ≡ resolve m'.table r)
        → ((r : ℕ) → t ≡ Some r → (resolve m'.table r ≡ r) × ((x : Block) × (block_at m''.table r ≡ Some x) × (x.stamp ≡ m'.cycle)))
        → IsScanned m'' g (suc index) refs
    scanned_on m' m'' t s cycle blocks resolves target =
        let (stamp, there', black) = blocks g s.block s.there in
        record {
          block = record (s.block) { stamp = stamp };
          there = there';
          live = s.live;
          black = black s.black ∙ sym cycle;
          ahead = λ k. let e : suc index + k ≡ index + suc k = omega arith in ap (λ z. get_or s.block.references z None) e ∙ s.ahead (suc k);
          passed = passed;
        }
      where
        passed : (i r : ℕ) → i < suc index → get_or s.block.references i None ≡ Some r → (resolve m''.table r ≡ r) × ((x : Block) × (block_at m''.table r ≡ Some x) × (x.stamp ≡ m''.cycle))
        passed i r below e = elim (cases_eq i index) [
          | inl is ↦
              let at : index + 0 ≡ index = omega arith in
              let f : t ≡ Some r = sym (ap (λ k. get_or s.block.references k None) (sym at) ∙ s.ahead zero) ∙ ap (λ k. get_or s.block.references k None) (sym is) ∙ e in
              let (self, (x, there, stamp)) = target r f in
              (resolves r ∙ self, (x, there, stamp ∙ sym cycle))
          | inr apart ↦
              let (self, (x, there, stamp)) = s.passed i r (omega arith) e in
              let (stamp', there', black) = blocks r x there in
              (resolves r ∙ self, (record x { stamp = stamp' }, there', black stamp ∙ sym cycle))
        ]

    pub reference_marked : KeepsSnapshot snapshot n (scanning c (g ∷ []) m₂) × IsScanned m₂ g (suc index) refs × (m₂.cycle ≡ c.cycle)
    reference_marked = go o read_ahead
      where
        none : (t : Option ℕ) → target_of m.table o ≡ t → t ≡ None → KeepsSnapshot snapshot n (scanning c (g ∷ []) (shade m₁ t)) × IsScanned (shade m₁ t) g (suc index) refs × ((shade m₁ t).cycle ≡ c.cycle)
        none None is e = (store_snapshot, scanned_on m₁ m₁ None (subst (λ t. IsScanned m₁ g index (t ∷ refs)) is store_scanned) refl (λ q x f. (x.stamp, f, λ s. s)) (λ r. refl) (λ r f. absurd (none-some r f)), same)
        none (Some r) is e = absurd (none-some r (sym e))

        some : (s : ℕ) → get_or old.references index None ≡ Some s → (t : Option ℕ) → target_of m.table o ≡ t → t ≡ Some (resolve m.table s)
            → (place : ℕ) → place ≡ resolve m₁.table (resolve m.table s) → KeepsSnapshot snapshot n (scanning c (g ∷ []) (shade_place m₁ place)) × IsScanned (shade_place m₁ place) g (suc index) refs × ((shade_place m₁ place).cycle ≡ c.cycle)
        some s e t is is' place at =
            let p : ℕ = resolve m.table s in
            let self₁ : resolve m₁.table p ≡ p = resolve-changed e₀ g old stored (g ∷ m.grey) store_change p ∙ twice index s e in
            let here : place ≡ p = at ∙ self₁ in
            let (x, plain_x) = leads n e₀ h.sound g old plain index s e in
            let (x₁, pair) = forth e₀ g old stored (g ∷ m.grey) store_change p x plain_x.there in
            let kept : (y : Block) → block_at m₁.table place ≡ Some y → (y.forward ≡ None) × IsKept snapshot n y.birth = λ y f.
            let one : x₁ ≡ y = same_Some x₁ y (sym pair.new ∙ ap (block_at m₁.table) (sym here) ∙ f) in
            let k : IsKept snapshot n x.birth = h.cycle.references marks g old index s x scan.there scan.live (h.cycle.marked (runs c.phase marks) g old scan.there (scan.black ∙ same)) e plain_x.there in
            (ap (λ z. z.forward) (sym one) ∙ pair.alike.forward ∙ plain_x.original, subst (λ z. IsKept snapshot n z.birth) one (subst (IsKept snapshot n) (sym pair.alike.birth) k)) in
            let (snap, shades) = shade-keeps snapshot n c (g ∷ []) m₁ same marks place kept store_snapshot in
            let there₁ : block_at m₁.table place ≡ Some x₁ = ap (block_at m₁.table) here ∙ pair.new in
            let scanned : IsScanned (shade_place m₁ place) g (suc index) refs = scanned_on m₁ (shade_place m₁ place) t (subst (λ z. IsScanned m₁ g index (z ∷ refs)) is store_scanned) shades.cycle shades.blocks shades.resolves (λ r f.
            let r_is : p ≡ r = same_Some p r (sym is' ∙ f) in
            (subst (λ z. resolve m₁.table z ≡ z) r_is self₁, subst (λ z. (y : Block) × (block_at (shade_place m₁ place).table z ≡ Some y) × (y.stamp ≡ m₁.cycle)) (here ∙ r_is) (shades.target x₁ there₁))) in
            (snap, scanned, shades.cycle ∙ same)

        go : (w : Option ℕ) → get_or old.references index None ≡ w → KeepsSnapshot snapshot n (scanning c (g ∷ []) m₂) × IsScanned m₂ g (suc index) refs × (m₂.cycle ≡ c.cycle)
        go None e = none (target_of m.table o) refl (ap (target_of m.table) (sym read_ahead ∙ e))
        go (Some s) e =
            let is : target_of m.table o ≡ Some (resolve m.table s) = ap (target_of m.table) (sym read_ahead ∙ e) in
            grind (arith, some s e (target_of m.table o) refl is (resolve m₁.table (resolve m.table s)) refl)

  -- all references from one on
  references_marked : (refs : List (Option ℕ)) (m : Marking) (index : ℕ) → m.cycle ≡ c.cycle → IsScanned m g index refs → KeepsSnapshot snapshot n (scanning c (g ∷ []) m)
      → KeepsSnapshot snapshot n (scanning c (g ∷ []) (mark_references m g index refs)) × ((last : ℕ) × IsScanned (mark_references m g index refs) g last [] × ((mark_references m g index refs).cycle ≡ c.cycle))
  references_marked [] m index same scan h = (h, (index, scan, same))
  references_marked (o ∷ refs) m index same scan h =
      let (h', scan', same') = reference_marked m same index o refs scan h in
      let e : shade (record m { table = with_block m.table g (Some (record (scan.block) { references = set scan.block.references index (target_of m.table o) })) }) (target_of m.table o) ≡ mark_reference m g index o =
      ap (λ b. shade (record m { table = with_block m.table g (option_map (λ (x : Block). record x { references = set x.references index (target_of m.table o) }) b) }) (target_of m.table o)) (sym scan.there) in
      subst (λ m'. KeepsSnapshot snapshot n (scanning c (g ∷ []) (mark_references m' g (suc index) refs)) × ((last : ℕ) × IsScanned (mark_references m' g (suc index) refs) g last [] × ((mark_references m' g (suc index) refs).cycle ≡ c.cycle))) e
      (references_marked refs (shade (record m { table = with_block m.table g (Some (record (scan.block) { references = set scan.block.references index (target_of m.table o) })) }) (target_of m.table o)) (suc index) same' scan' h')

  -- the block that was scanned is no longer grey
  scanned_off : (m : Marking) (last : ℕ) → m.cycle ≡ c.cycle → IsScanned m g last [] → KeepsSnapshot snapshot n (scanning c (g ∷ []) m) → KeepsSnapshot snapshot n (scanning c [] m)
  scanned_off m last same scan h = snapshot-turned d d.slots d.phase d.cursor m.grey d.is_asked d.quanta turn snapshot n (record {
    runs = λ r. r;
    marks = λ t. t;
    from_root = λ t q x e from. inr from;
    from_grey = λ t q x e from. from_grey q from;
    slots = λ t. h.cycle.slots t;
  }) h
    where
      d : Collector
      d = scanning c (g ∷ []) m

      word : (i r : ℕ) → get_or scan.block.references i None ≡ Some r → (resolve m.table r ≡ r) × ((x : Block) × (block_at m.table r ≡ Some x) × (x.stamp ≡ m.cycle))
      word i r e = elim (cases_lt i last) [
        | inl below ↦ scan.passed i r below e
        | inr past ↦ grind (arith, scan.ahead (i - last))
      ]

      turn : IsTurn d d.slots d.phase d.cursor m.grey d.is_asked d.quanta
      turn = grind (arith, false≢true, traces, word, same_Some)

      from_grey : (q : ℕ) → IsFromGrey d q → IsMarkedAt d q ⊎ IsFromGrey (turned d d.slots d.phase d.cursor m.grey d.is_asked d.quanta) q
      from_grey q (place, inr after, links) = inr (place, after, links)
      from_grey q (place, inl here, (b, i, r, there, e, to)) = grind (arith, word, same_Some, d)

-- A mark step keeps the snapshot
pub snapshot-mark_step : (snapshot : World) (n : ℕ) (c : Collector) → in_roots_or_mark c.phase ≡ true → KeepsSnapshot snapshot n c → KeepsSnapshot snapshot n (with_marking c (mark_step (marking_of c)))
snapshot-mark_step snapshot n c marks h = go c.grey refl
  where
    go : (grey : List ℕ) → c.grey ≡ grey → KeepsSnapshot snapshot n (with_marking c (mark_first (marking_of c) grey))
    go [] is = h
    go (g ∷ grey) is =
        let m : Marking = record (marking_of c) { grey = grey } in
        let (b, there, live, black) = h.sound.grey g (subst (IsIn g) (sym is) (inl refl)) in
        let scan : IsScanned m g 0 (references_at c.table g) = grind arith in
        let (h', (last, scan', same)) = references_marked snapshot n c g marks (references_at c.table g) m 0 refl scan (subst (λ z. KeepsSnapshot snapshot n (record c { grey = z })) is h) in
        scanned_off snapshot n c g marks (mark_references m g 0 (references_at c.table g)) last same scan' h'

-- Shading by the collector -----------------------------------------------------------------------

-- what a barrier or a roots step leaves: a state that keeps the snapshot, with the target marked and every other block but for its mark
pub record IsGuarded (snapshot : World) (n : ℕ) (c d : Collector) (reference : Option ℕ) : Type 0 where
  pub keeps : KeepsSnapshot snapshot n d
  pub slots : d.slots ≡ c.slots
  pub phase : d.phase ≡ c.phase
  pub cursor : d.cursor ≡ c.cursor
  pub cycle : d.cycle ≡ c.cycle
  pub blocks : (q : ℕ) (x : Block) → block_at c.table q ≡ Some x → (s : ℕ) × (block_at d.table q ≡ Some (record x { stamp = s }))
  pub resolves : (r : ℕ) → resolve d.table r ≡ resolve c.table r
  pub target : (r : ℕ) (x : Block) → reference ≡ Some r → block_at c.table (resolve c.table r) ≡ Some x → IsMarkedAt d (resolve c.table r)

pub unguarded : (snapshot : World) (n : ℕ) (c : Collector) → KeepsSnapshot snapshot n c → IsGuarded snapshot n c c None
unguarded snapshot n c h = record { keeps = h; slots = refl; phase = refl; cursor = refl; cycle = refl; blocks = λ q x e. (x.stamp, e); resolves = λ r. refl; target = λ r x e. absurd (none-some r e) }

-- a reference is shaded that leads to a block that is kept
pub guarded : (snapshot : World) (n : ℕ) (c : Collector) (reference : Option ℕ) → in_roots_or_mark c.phase ≡ true
    → ((r : ℕ) (x : Block) → reference ≡ Some r → block_at c.table (resolve c.table r) ≡ Some x → (x.forward ≡ None) × IsKept snapshot n x.birth)
    → KeepsSnapshot snapshot n c → IsGuarded snapshot n c (with_shade c reference) reference
guarded snapshot n c None marks kept h = unguarded snapshot n c h
guarded snapshot n c (Some r) marks kept h =
    let (h', shades) = shade-keeps snapshot n c [] (marking_of c) refl marks (resolve c.table r) (λ x e. kept r x refl e) h in
    record {
      keeps = h';
      slots = refl;
      phase = refl;
      cursor = refl;
      cycle = refl;
      blocks = λ q x e. let (s, there, black) = shades.blocks q x e in (s, there);
      resolves = shades.resolves;
      target = λ s x is e. let (x', there, black) = shades.target x (ap (λ z. block_at c.table (resolve c.table z)) (same_Some r s is) ∙ e) in subst (λ z. IsMarkedAt (with_shade c (Some r)) (resolve c.table z)) (same_Some r s is) (x', there, black);
    }

-- the target of a root is a block that is kept
pub root_target : (snapshot : World) (n : ℕ) (c : Collector) → in_roots_or_mark c.phase ≡ true → KeepsSnapshot snapshot n c → (slot r : ℕ) (x : Block) → get_or c.slots slot None ≡ Some r → block_at c.table (resolve c.table r) ≡ Some x → (x.forward ≡ None) × IsKept snapshot n x.birth
root_target snapshot n c marks h slot r x e there = grind (arith, h.sound.slots slot r e, h.cycle.slots marks slot r x e there)

-- A roots step keeps the snapshot
pub snapshot-roots_step : (snapshot : World) (n : ℕ) (c : Collector) → c.phase ≡ Roots → KeepsSnapshot snapshot n c → KeepsSnapshot snapshot n (roots_step c)
snapshot-roots_step snapshot n c phase h = go (with_shade c (get_or c.slots c.cursor None)) (guarded snapshot n c (get_or c.slots c.cursor None) (ap in_roots_or_mark phase) (λ r x e there. root_target snapshot n c (ap in_roots_or_mark phase) h c.cursor r x e there) h)
  where
    go : (d : Collector) → IsGuarded snapshot n c d (get_or c.slots c.cursor None) → KeepsSnapshot snapshot n (with_phase d Roots (c.cursor + 1))
    go d g = snapshot-turned d d.slots Roots (c.cursor + 1) d.grey d.is_asked d.quanta (grind arith) snapshot n (record {
      runs = λ r. ap is_idle (g.phase ∙ phase);
      marks = λ t. ap in_roots_or_mark (g.phase ∙ phase);
      from_root = λ t q x e from. let (i, r, after, at, to) = from.1 in elim (cases_eq i c.cursor) [
        | inl is ↦
            let at' : get_or c.slots c.cursor None ≡ Some r = ap (λ z. get_or z c.cursor None) (sym g.slots) ∙ ap (λ k. get_or d.slots k None) (sym is) ∙ at in
            let (y, plain, first) = h.sound.slots c.cursor r at' in
            let self : resolve c.table r ≡ r = resolve-live c.table r y plain.there plain.original in
            inl (subst (IsMarkedAt d) (sym (g.resolves r) ∙ to) (g.target r y at' (ap (block_at c.table) self ∙ plain.there)))
        | inr apart ↦ inr (refl, (i, r, omega (arith, g.cursor, after, apart), at, to))
      ];
      from_grey = λ t q x e from. inr from;
      slots = λ t. g.keeps.cycle.slots (ap in_roots_or_mark (g.phase ∙ phase));
    }) g.keeps
