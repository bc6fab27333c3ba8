-- Roots and fields overwritten after their barriers.
use Rattle.std.proofs.Common.{◌≡◌, ℕ, zero, suc, if◌then◌else◌, Bool, true, false, inl, inr, [], get_or, set, Option, Some, None, option_map, unwrap_or, refl, sym, ap, ◌∙◌, subst, arith}
use Rattle.std.proofs.{lemmas.Bool.{cases_eq, false≢true}, lemmas.Option.{none-some, same_Some}}
use Rattle.std.proofs.lemmas.List.{get_or-set_other, length-set}
use Rattle.mh_model.specs.{World.{World, own_slot}, Pages.{block_at, with_block}}
use Rattle.mh_model.specs.Table.{Block, Position, with_reference_at, with_number_at, number_index, resolve, reference_in}
use Rattle.mh_model.specs.Collector.{Collector, with_shade}
use Rattle.mh_model.specs.Mutator.{in_roots, in_roots_or_mark, with_root, with_roots_cleared, with_session_cleared, with_reference_stored, with_number_stored}
use Rattle.mh_model.specs.{Snapshot.IsKept, Invariant.{IsPlainAt, HasFieldsAt, IsSound, IsMarkedAt, KeepsSnapshot}}
use Rattle.mh_table_laws.proofs.{Lists.get_or-set_either, objects.Headers.flat_of}
use Rattle.mh_laws.proofs.marking.BlockChanges.{IsChange, IsKeptChange, snapshot-changed, resolve-live, not_sweep, roots_mark}
use Rattle.mh_laws.proofs.marking.SameTable.{snapshot-turned}
use Rattle.mh_laws.proofs.marking.MarkSteps.{IsGuarded, guarded, unguarded, root_target, leads}

module _ (snapshot : World) (n : ℕ) where
  -- what may be written: nothing, or the place of an object that is kept
  pub record IsWritable (c : Collector) (reference : Option ℕ) : Type 0 where
    pub leads : (r : ℕ) → reference ≡ Some r → (x : Block) × IsPlainAt c r x × (x.part ≡ 0) × (in_roots_or_mark c.phase ≡ true → IsKept snapshot n x.birth)

  -- it may be written after a barrier too
  writable_after : (c d : Collector) (o reference : Option ℕ) → in_roots_or_mark c.phase ≡ true → IsGuarded snapshot n c d o → IsWritable c reference → IsWritable d reference
  writable_after c d o reference marks g w = grind (arith, leads, not_sweep)

  -- Roots ----------------------------------------------------------------------------------------

  write_root : (c d : Collector) (o : Option ℕ) (slot : ℕ) (reference : Option ℕ) → (in_roots d.phase ≡ true → o ≡ get_or c.slots slot None) → IsGuarded snapshot n c d o → IsSound n c → IsWritable d reference → KeepsSnapshot snapshot n (record d { slots = set d.slots slot reference })
  write_root c d o slot reference shaded g hc w = snapshot-turned d (set d.slots slot reference) d.phase d.cursor d.grey d.is_asked d.quanta (record {
    enters = λ s. s;
    leaves = λ no s. absurd (false≢true (sym no ∙ s));
    roots = length-set _ _ _ ∙ g.keeps.sound.roots;
    slots = λ i r e. elim (get_or-set_either d.slots slot i reference None (Some r) e) [
      | inl new ↦ let (x, plain, first, kept) = w.leads r new in (x, plain, first)
      | inr old ↦ g.keeps.sound.slots i r old
    ];
    listed = λ q is. is;
    quiet = g.keeps.sound.quiet;
    traces = λ t. t;
    left = λ t q x is e. inl is;
    swept = g.keeps.sound.swept;
    marked = g.keeps.sound.marked;
    dense = g.keeps.sound.dense;
  }) snapshot n (record {
    runs = λ r. r;
    marks = λ m. m;
    from_root = λ t q x e from. let (i, r, after, at, to) = from.1 in elim (cases_eq i slot) [
      | inl is ↦
          let at' : get_or c.slots slot None ≡ Some r = ap (λ z. get_or z slot None) (sym g.slots) ∙ ap (λ k. get_or d.slots k None) (sym is) ∙ at in
          let (y, plain, first) = hc.slots slot r at' in
          let self : resolve c.table r ≡ r = resolve-live c.table r y plain.there plain.original in
          inl (subst (IsMarkedAt d) (sym (g.resolves r) ∙ to) (g.target r y (shaded (ap in_roots from.0) ∙ at') (ap (block_at c.table) self ∙ plain.there)))
      | inr apart ↦ inr (from.0, (i, r, after, get_or-set_other d.slots slot i reference None apart ∙ at, to))
    ];
    from_grey = λ t q x e from. inr from;
    slots = λ m i r x e f. elim (get_or-set_either d.slots slot i reference None (Some r) e) [
      | inl new ↦
          let (y, plain, first, kept) = w.leads r new in
          let self : resolve d.table r ≡ r = resolve-live d.table r y plain.there plain.original in
          subst (λ z. IsKept snapshot n z.birth) (same_Some y x (sym plain.there ∙ ap (block_at d.table) (sym self) ∙ f)) (kept m)
      | inr old ↦ g.keeps.cycle.slots m i r x old f
    ];
  }) g.keeps

  -- A root overwritten after its barrier
  pub snapshot-with_root : (c : Collector) (slot : ℕ) (reference : Option ℕ) → IsWritable c reference → KeepsSnapshot snapshot n c → KeepsSnapshot snapshot n (with_root c slot reference)
  snapshot-with_root c slot reference w h = go (in_roots c.phase) refl
    where
      go : (b : Bool) → in_roots c.phase ≡ b → KeepsSnapshot snapshot n (let shaded = (if b then with_shade c (get_or c.slots slot None) else c) in record shaded { slots = set shaded.slots slot reference })
      go true e =
          let marks = roots_mark c.phase e in
          let g = guarded snapshot n c (get_or c.slots slot None) marks (λ r x at there. root_target snapshot n c marks h slot r x at there) h in
          write_root c (with_shade c (get_or c.slots slot None)) (get_or c.slots slot None) slot reference (λ t. refl) g h.sound (writable_after c (with_shade c (get_or c.slots slot None)) (get_or c.slots slot None) reference marks g w)
      go false e = write_root c c None slot reference (λ t. absurd (false≢true (sym e ∙ t))) (unguarded snapshot n c h) h.sound w

  pub nothing_writable : (c : Collector) → IsWritable c None
  nothing_writable c = record { leads = λ r e. absurd (none-some r e) }

  snapshot-with_roots_cleared : (count : ℕ) (c : Collector) (slot : ℕ) → KeepsSnapshot snapshot n c → KeepsSnapshot snapshot n (with_roots_cleared c slot count)
  snapshot-with_roots_cleared zero c slot h = h
  snapshot-with_roots_cleared (suc count) c slot h = snapshot-with_roots_cleared count (with_root c slot None) (suc slot) (snapshot-with_root c slot None (nothing_writable c) h)

  -- All roots of a session emptied, each after its barrier
  pub snapshot-with_session_cleared : (c : Collector) (who : ℕ) → KeepsSnapshot snapshot n c → KeepsSnapshot snapshot n (with_session_cleared c who)
  unfolding with_session_cleared
  snapshot-with_session_cleared c who h = snapshot-with_roots_cleared 16 c (own_slot who 0) h

  -- what a root holds may be written
  pub root_writable : (c : Collector) (slot : ℕ) → KeepsSnapshot snapshot n c → IsWritable c (get_or c.slots slot None)
  root_writable c slot h = grind (arith, leads, resolve-live)

  -- Fields ---------------------------------------------------------------------------------------

  -- a place that has fields of an object that is kept
  pub record HasFields (c : Collector) (place : ℕ) : Type 0 where
    pub block : Block
    pub has : HasFieldsAt c place block
    pub kept : in_roots_or_mark c.phase ≡ true → IsKept snapshot n block.birth

  -- it has them after a barrier too
  fields_after : (c d : Collector) (o : Option ℕ) → in_roots_or_mark c.phase ≡ true → IsGuarded snapshot n c d o → (place : ℕ) (block : Block) (stamp : ℕ) → block_at d.table place ≡ Some (record block { stamp = stamp }) → HasFieldsAt c place block → HasFieldsAt d place (record block { stamp = stamp })
  fields_after c d o marks g place block stamp there f =
      let (s, there_first) = g.blocks f.first_place f.first f.first_plain.there in
      search (arith, not_sweep)

  module _ (c d : Collector) (o : Option ℕ) (position : Position) (reference : Option ℕ) (shaded : in_roots_or_mark d.phase ≡ true → o ≡ reference_in c.table position) (g : IsGuarded snapshot n c d o) (f : HasFields d position.place)
      (w : IsWritable d reference) where
    abbrev place : ℕ
    place = position.place

    abbrev index : ℕ
    index = position.index

    abbrev old : Block
    old = f.block

    abbrev new : Block
    new = record old { references = set f.block.references position.index reference }

    change : IsChange d place old new d.grey
    change = record {
      here = f.has.plain.there;
      alike = record { birth = refl; part = refl; header = refl; forward = refl; references = length-set _ _ _; numbers = refl };
      stamp = inl refl;
      grows = λ q is. is;
      listed = λ q is. inl is;
      quiet = g.keeps.sound.quiet;
      rewrites = true;
      words = λ i r e. elim (get_or-set_either old.references index i reference None (Some r) e) [
        | inl is ↦ grind (arith, resolve-live)
        | inr was ↦ inl (r, was, refl)
      ];
      spine = λ s. absurd (false≢true (sym s));
      original = λ t s. f.has.plain.original;
      straight = λ t s. elim (g.keeps.sound.straight t place old f.has.plain.there s) [
        | inl is ↦ inl is
        | inr is ↦ inr (λ i r e. elim (get_or-set_either old.references index i reference None (Some r) e) [
          | inl now ↦ let (x, plain, first, kept) = w.leads r now in resolve-live d.table r x plain.there plain.original
          | inr was ↦ is i r was
        ])
      ];
    }

    keeps : (in_roots_or_mark d.phase ≡ true → (i s : ℕ) → i ≡ index → get_or old.references i None ≡ Some s → IsMarkedAt d (resolve d.table s)) → IsKeptChange d place old new d.grey change snapshot n
    keeps old_marked = record {
      loses = λ m i s e. elim (cases_eq i index) [
        | inl is ↦ inr (old_marked m i s is e)
        | inr apart ↦ inl (s, get_or-set_other old.references index i reference None apart ∙ e, refl)
      ];
      kept = λ m s. g.keeps.cycle.marked m place old f.has.plain.there s;
      words = λ m kept i r t e there. elim (get_or-set_either old.references index i reference None (Some r) e) [
        | inl is ↦
            let (x, plain, first, kept_x) = w.leads r is in
            let self : resolve d.table r ≡ r = resolve-live d.table r x plain.there plain.original in
            subst (λ z. IsKept snapshot n z.birth) (same_Some x t (sym plain.there ∙ ap (block_at d.table) (sym self) ∙ there)) (kept_x m)
        | inr was ↦ g.keeps.cycle.references m place old i r t f.has.plain.there f.has.plain.original kept was there
      ];
    }

    write_field : (in_roots_or_mark d.phase ≡ true → (i s : ℕ) → i ≡ index → get_or old.references i None ≡ Some s → IsMarkedAt d (resolve d.table s)) → KeepsSnapshot snapshot n (record d { table = with_reference_at d.table place index reference })
    write_field old_marked =
        let e : with_block d.table place (Some new) ≡ with_reference_at d.table place index reference = ap (λ b. with_block d.table place (option_map (λ (x : Block). record x { references = set x.references index reference }) b)) (sym f.has.plain.there) in
        subst (λ t. KeepsSnapshot snapshot n (record d { table = t })) e (snapshot-changed d place old new d.grey change snapshot n (keeps old_marked) g.keeps (λ t. flat_of n d g.keeps.sound place old f.has))

  -- A field overwritten after its barrier
  pub snapshot-with_reference_stored : (c : Collector) (position : Position) (reference : Option ℕ) → HasFields c position.place → IsWritable c reference → KeepsSnapshot snapshot n c → KeepsSnapshot snapshot n (with_reference_stored c position reference)
  snapshot-with_reference_stored c position reference f w h = go (in_roots_or_mark c.phase) refl
    where
      read : (r : ℕ) → reference_in c.table position ≡ Some r → get_or f.block.references position.index None ≡ Some r
      read r e = ap (λ o. get_or (unwrap_or (option_map (λ (x : Block). x.references) o) []) position.index None) (sym f.has.plain.there) ∙ e

      target : in_roots_or_mark c.phase ≡ true → (r : ℕ) (x : Block) → reference_in c.table position ≡ Some r → block_at c.table (resolve c.table r) ≡ Some x → (x.forward ≡ None) × IsKept snapshot n x.birth
      target marks r x e there =
          let (y, plain) = leads n c h.sound position.place f.block f.has.plain position.index r (read r e) in
          (ap (λ z. z.forward) (same_Some x y (sym there ∙ plain.there)) ∙ plain.original, h.cycle.references marks position.place f.block position.index r x f.has.plain.there f.has.plain.original (f.kept marks) (read r e) there)

      go : (b : Bool) → in_roots_or_mark c.phase ≡ b → KeepsSnapshot snapshot n (let shaded = (if b then with_shade c (reference_in c.table position) else c) in record shaded { table = with_reference_at shaded.table position.place position.index reference })
      go false e = write_field c c None position reference (λ t. absurd (false≢true (sym e ∙ t))) (unguarded snapshot n c h) f w (λ t. absurd (false≢true (sym e ∙ t)))
      go true marks =
          after (with_shade c (reference_in c.table position)) (guarded snapshot n c (reference_in c.table position) marks (target marks) h)
        where
          after : (d : Collector) → IsGuarded snapshot n c d (reference_in c.table position) → KeepsSnapshot snapshot n (record d { table = with_reference_at d.table position.place position.index reference })
          after d g =
              let (s, there) = g.blocks position.place f.block f.has.plain.there in
              write_field c d (reference_in c.table position) position reference (λ t. refl) g (record {
                block = record (f.block) { stamp = s };
                has = fields_after c d (reference_in c.table position) marks g position.place f.block s there f.has;
                kept = λ m. f.kept marks;
              }) (writable_after c d (reference_in c.table position) reference marks g w) (λ m i r is e.
              let old : get_or f.block.references position.index None ≡ Some r = ap (λ k. get_or f.block.references k None) (sym is) ∙ e in
              let word : reference_in c.table position ≡ Some r = ap (λ o. get_or (unwrap_or (option_map (λ (x : Block). x.references) o) []) position.index None) f.has.plain.there ∙ old in
              let (y, plain) = leads n c h.sound position.place f.block f.has.plain position.index r old in
              subst (IsMarkedAt d) (sym (g.resolves r)) (g.target r y word plain.there))

  -- A number overwritten
  pub snapshot-with_number_stored : (c : Collector) (position : Position) (number : ℕ) (block : Block) → block_at c.table position.place ≡ Some block → block.forward ≡ None → KeepsSnapshot snapshot n c → KeepsSnapshot snapshot n (with_number_stored c position number)
  snapshot-with_number_stored c position number block there live h =
      let e : with_block c.table position.place (Some new) ≡ with_number_at c.table position.place index number = ap (λ b. with_block c.table position.place (option_map (λ (x : Block). record x { numbers = set x.numbers index number }) b)) (sym there) in
      subst (λ t. KeepsSnapshot snapshot n (record c { table = t })) e (snapshot-changed c position.place block new c.grey change' snapshot n (record {
        loses = λ m i s f. inl (s, f, refl);
        kept = λ m s. h.cycle.marked m position.place block there s;
        words = λ m kept i r t f there'. h.cycle.references m position.place block i r t there live kept f there';
      }) h (λ t. absurd (false≢true t)))
    where
      index : ℕ
      index = number_index c.table position

      new : Block
      new = record block { numbers = set block.numbers index number }

      change' : IsChange c position.place block new c.grey
      change' = record {
        here = there;
        alike = record { birth = refl; part = refl; header = refl; forward = refl; references = refl; numbers = length-set _ _ _ };
        stamp = inl refl;
        grows = λ q is. is;
        listed = λ q is. inl is;
        quiet = h.sound.quiet;
        rewrites = false;
        words = λ i r f. inl (r, f, refl);
        spine = λ s i r f. (r, f, refl);
        original = λ t s. h.sound.original t position.place block there s;
        straight = λ t s. h.sound.straight t position.place block there s;
      }
