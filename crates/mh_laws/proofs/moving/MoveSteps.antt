-- Steps of defragmentation: a block that moves with all its roots, and the end of the cycle.
-- A move leaves an equal block, a forwarder in a flagged page, and roots that lead straight.
-- One hop is enough because a flagged page receives no move.
use Rattle.std.proofs.Common.{◌≡◌, ◌≢◌, ℕ, suc, ◌<◌, ◌≤◌, true, false, ◌⊎◌, inl, inr, List, ◌∷◌, length, get_or, Option, Some, None, refl, sym, ap, ◌∙◌, subst, arith}
use Rattle.std.proofs.{lemmas.Bool.{cases_eq, false≢true}, lemmas.Option.{none-some, same_Some}, lemmas.List.length-map}
use Rattle.mh_model.specs.{declared.cycle.Phase.TheVariants.{Idle, Defrag}, World.{World, births}}
use Rattle.mh_model.specs.Pages.{Page, Table, page_number, slot_number, page_at, block_at, with_block, with_taken}
use Rattle.mh_model.specs.Table.{Block, resolve, target_of}
use Rattle.mh_model.specs.Collector.{Collector, Move, flagged_page, next_move, moved_table, forwarded_slots, with_phase, with_move, defrag_step, next_place, is_idle, cycle_end}
use Rattle.mh_model.specs.{Mutator.in_roots_or_mark, View.in_sweep, Snapshot.IsKept}
use Rattle.mh_model.specs.Invariant.{IsIn, IsPlainAt, IsUnflagged, in_defrag, IsSound, KeepsSnapshot, IsFinished}
use Rattle.mh_laws.proofs.moving.NextMove.{next_move-is}
use Rattle.mh_laws.proofs.marking.BlockChanges.{resolve-live, pages-with_block, live_plain}
use Rattle.mh_laws.proofs.marking.SameTable.{snapshot-turned}
use Rattle.mh_table_laws.proofs.placing.Places.{IsShaped, least_dense_place-page, block_at-with_block_same, block_at-with_block_other, block-slot}

-- The move that a step makes ---------------------------------------------------------------------

-- a block that is no forwarder moves from a flagged page to a slot without a block in a page that isn't
pub record IsMove (table : Table Block) (place : ℕ) (move : Move) : Type 0 where
  pub page : Page Block
  pub from : page_at table (page_number place) ≡ Some page
  pub flagged : page.is_flagged ≡ true
  pub there : block_at table place ≡ Some (move.block)
  pub live : move.block.forward ≡ None
  pub into : Page Block
  pub to : page_at table (page_number (move.target)) ≡ Some into
  pub unflagged : into.is_flagged ≡ false
  pub inside : slot_number (move.target) < length into.slots
  pub free : block_at table (move.target) ≡ None

pub move-is : (table : Table Block) (place : ℕ) → IsShaped table → (move : Move) → next_move table place ≡ Some move → IsMove table place move
move-is table place shaped move e =
    let is = next_move-is table place move e in
    let (into, to, of_class, unflagged, empty) = least_dense_place-page table move.class_size shaped move.target is.target in
    grind arith

-- a root forwarded leads to where a root led
forwarded-root : (table : Table Block) (slots : List (Option ℕ)) (i r : ℕ) → get_or (forwarded_slots table slots) i None ≡ Some r → (s : ℕ) × (get_or slots i None ≡ Some s) × (resolve table s ≡ r)
forwarded-root table (o ∷ slots) (suc i) r e = forwarded-root table slots i r e
forwarded-root table slots i r e = grind (arith, none-some, same_Some)

-- A move -----------------------------------------------------------------------------------------

module _ (snapshot : World) (n : ℕ) (c : Collector) (defrags : c.phase ≡ Defrag) (h : KeepsSnapshot snapshot n c) (move : Move) (is : IsMove c.table c.cursor move) (cursor' : ℕ) where
  abbrev p : ℕ
  p = c.cursor

  abbrev q : ℕ
  q = move.target

  abbrev b : Block
  b = move.block

  abbrev table' : Table Block
  table' = moved_table c.table c.cursor move

  abbrev moved : Collector
  moved = record c { table = table'; slots = forwarded_slots table' c.slots; phase = Defrag; cursor = cursor' }

  taken : with_taken c.table move.class_size q b ≡ with_block c.table q (Some b)
  taken = grind arith

  abbrev forwarder : Block
  forwarder = record b { forward = Some q }

  as_written : table' ≡ with_block (with_block c.table q (Some b)) p (Some forwarder)
  as_written = ap (λ t. with_block t p (Some forwarder)) taken

  apart : p ≢ q
  apart e = none-some b (sym is.free ∙ ap (block_at c.table) (sym e) ∙ is.there)

  p_there : block_at (with_block c.table q (Some b)) p ≡ Some b
  p_there = block_at-with_block_other c.table q p (Some b) apart ∙ is.there

  at_p : block_at table' p ≡ Some forwarder
  at_p = ap (λ t. block_at t p) as_written ∙ block_at-with_block_same (with_block c.table q (Some b)) p (Some forwarder) (block-slot (with_block c.table q (Some b)) p b p_there)

  at_q : block_at table' q ≡ Some b
  at_q = grind (arith, as_written, block_at-with_block_other, apart, block_at-with_block_same)

  at_other : (x : ℕ) → x ≢ p → x ≢ q → block_at table' x ≡ block_at c.table x
  at_other x i j = grind (arith, as_written, block_at-with_block_other)

  pages : (number : ℕ) (page : Page Block) → page_at table' number ≡ Some page → (old : Page Block) × (page_at c.table number ≡ Some old) × (length page.slots ≡ length old.slots) × (page.is_flagged ≡ old.is_flagged)
  pages number page e = grind (arith, pages-with_block, as_written)

  -- a place with a block isn't the target, and one in a page that isn't flagged isn't if the block was
  not_q : (x : ℕ) (y : Block) → block_at c.table x ≡ Some y → x ≢ q
  not_q x y e k = none-some y (sym is.free ∙ ap (block_at c.table) (sym k) ∙ e)

  in_it : in_defrag c.phase ≡ true
  in_it = ap in_defrag defrags

  -- what is led to is the same block as before
  pub follows : (r : ℕ) (y : Block) → block_at c.table (resolve c.table r) ≡ Some y → y.forward ≡ None → block_at table' (resolve table' r) ≡ Some y
  follows r y e live = elim (cases_eq r p) [
    | inl same ↦ grind (arith, resolve-live, same_Some, at_p, at_q)
    | inr not_here ↦ elim (cases_eq r q) [
      | inl same ↦ grind arith
      | inr not_there ↦ grind (arith, at_other, end, not_q)
    ]
  ]
    where
      end : (r : ℕ) → r ≢ p → resolve c.table r ≢ p
      end r k = grind arith

  -- if a block is from
  record IsFrom (x : ℕ) (y : Block) : Type 0 where
    place : ℕ
    old : Block
    there : block_at c.table place ≡ Some old
    case : ((y ≡ old) × (((place ≡ x) × (x ≢ p)) ⊎ ((x ≡ q) × (place ≡ p)))) ⊎ ((y ≡ record old { forward = Some q }) × (x ≡ p))

  from : (x : ℕ) (y : Block) → block_at table' x ≡ Some y → IsFrom x y
  from x y e = elim (cases_eq x p) [
    | inl same ↦ record { place = p; old = b; there = is.there; case = inr (same_Some y forwarder (sym e ∙ ap (block_at table') same ∙ at_p), same) }
    | inr not_here ↦ elim (cases_eq x q) [
      | inl same ↦ record { place = p; old = b; there = is.there; case = inl (same_Some y b (sym e ∙ ap (block_at table') same ∙ at_q), inr (same, refl)) }
      | inr not_there ↦ record { place = x; old = y; there = sym (at_other x not_here not_there) ∙ e; case = inl (refl, inl (refl, not_here)) }
    ]
  ]

  abbrev SameBut : Block → Block → Type 0
  SameBut y old = (y.birth ≡ old.birth) × (y.stamp ≡ old.stamp) × (y.part ≡ old.part) × (y.header ≡ old.header) × (y.references ≡ old.references) × (y.numbers ≡ old.numbers)

  same_but : (x : ℕ) (y : Block) (f : IsFrom x y) → SameBut y f.old
  same_but x y f = grind arith

  -- a block that is no forwarder was one that was none
  pub live_from : (x : ℕ) (y : Block) → block_at table' x ≡ Some y → y.forward ≡ None → (place : ℕ) × (block_at c.table place ≡ Some y) × (((place ≡ x) × (x ≢ p)) ⊎ ((x ≡ q) × (place ≡ p)))
  live_from x y e live = grind (arith, from x y e)

  pub live_forth : (x : ℕ) (y : Block) → block_at c.table x ≡ Some y → y.forward ≡ None → (x' : ℕ) × (block_at table' x' ≡ Some y)
  live_forth x y e live = grind (arith, cases_eq, inl, at_q, inr, at_other, not_q)

  plain_then : (x : ℕ) (y : Block) → block_at table' x ≡ Some y → y.forward ≡ None → IsPlainAt moved x y
  plain_then x y e live = grind arith

  sound-moved : IsSound n moved
  sound-moved = record {
    narrow = λ number page e. let (old, at, size, flag) = pages number page e in let few = h.sound.narrow number old at in omega (arith, size, few);
    roots = length-map c.slots (target_of table') ∙ h.sound.roots;
    births = λ x y e. let f = from x y e in subst (λ z. z < n) (sym (same_but x y f).0) (h.sound.births f.place f.old f.there);
    stamps = λ x y e. let f = from x y e in subst (λ z. z ≤ c.cycle) (sym (same_but x y f).1) (h.sound.stamps f.place f.old f.there);
    shapes = h.sound.shapes;
    parts = λ x y e. let f = from x y e in grind (arith, h.sound.parts f.place f.old f.there);
    one = one;
    slots = λ i r e.
        let (s, f, to) = forwarded-root table' c.slots i r e in
        let (y, plain, first) = h.sound.slots i s f in
        let there = follows s y (ap (block_at c.table) (resolve-live c.table s y plain.there plain.original) ∙ plain.there) plain.original in
        (y, plain_then r y (ap (block_at table') (sym to) ∙ there) plain.original, first);
    fields = λ x y plain flat i r e.
        let (place, there, k) = live_from x y plain.there plain.original in
        let (z, plain', first) = h.sound.fields place y (live_plain c (ap in_sweep defrags) place y there plain.original) flat i r e in
        (z, plain_then (resolve table' r) z (follows r z plain'.there plain'.original) plain'.original, first);
    spines = λ x y child plain spine i below.
        let (place, there, k) = live_from x y plain.there plain.original in
        let (r, e, (z, plain', birth, part)) = h.sound.spines place y child (live_plain c (ap in_sweep defrags) place y there plain.original) spine i below in
        (r, e, (z, plain_then (resolve table' r) z (follows r z plain'.there plain'.original) plain'.original, birth, part));
    grey = λ x k. absurd (subst (IsIn x) (h.sound.quiet (ap in_roots_or_mark defrags)) k);
    quiet = λ no. h.sound.quiet (ap in_roots_or_mark defrags);
    original = λ t. absurd (false≢true t);
    straight = λ t. absurd (false≢true t);
    swept = λ t. absurd (false≢true t);
    marked = λ t x y e. let f = from x y e in (same_but x y f).1 ∙ h.sound.marked in_it f.place f.old f.there;
    dense = λ t x target y e g page at.
        let (old, at', size, flag) = pages (page_number target) page at in
        flag ∙ dense x target y e g old at';
  }
    where
      one : (x x' : ℕ) (y y' : Block) → block_at table' x ≡ Some y → block_at table' x' ≡ Some y' → y.forward ≡ None → y'.forward ≡ None → y.birth ≡ y'.birth → y.part ≡ y'.part → x ≡ x'
      one x x' y y' e e' live live' birth part = search (arith, live_from)

      dense : (x target : ℕ) (y : Block) → block_at table' x ≡ Some y → y.forward ≡ Some target → IsUnflagged c.table target
      dense x target y e g = search (arith, from x y e)

  -- A move keeps the snapshot
  pub snapshot-moved : KeepsSnapshot snapshot n moved
  snapshot-moved = record {
    sound = sound-moved;
    before = h.before;
    cycle = record {
      path = λ m. absurd (false≢true m);
      marked = λ m x y e s. let f = from x y e in let same = same_but x y f in subst (IsKept snapshot n) (sym same.0) (h.cycle.marked (ap is_idle defrags) f.place f.old f.there (sym same.1 ∙ s));
      whole = λ m birth kept.
          let (x, y, plain, is_birth, first, each) = h.cycle.whole (ap is_idle defrags) birth kept in
          let (x', there) = live_forth x y plain.there plain.original in (
            x',
            y,
            plain_then x' y there plain.original,
            is_birth,
            first,
            λ i below.
                let (r, z, plain', is', part) = each i below in
                let (r', there') = live_forth r z plain'.there plain'.original in
                (r', z, plain_then r' z there' plain'.original, is', part),
          );
      born = λ m x y e since. let f = from x y e in let same = same_but x y f in same.1 ∙ h.cycle.born (ap is_idle defrags) f.place f.old f.there (subst (λ z. births snapshot ≤ z) same.0 since);
      slots = λ m. absurd (false≢true m);
      references = λ m. absurd (false≢true m);
    };
  }

-- A step of defragmentation keeps the snapshot
pub snapshot-defrag_step : (snapshot : World) (n : ℕ) (c : Collector) → c.phase ≡ Defrag → KeepsSnapshot snapshot n c → KeepsSnapshot snapshot n (defrag_step c)
snapshot-defrag_step snapshot n c defrags h = go (next_move c.table c.cursor) refl
  where
    cursor' : ℕ
    cursor' = next_place c.cursor (flagged_page c.table c.cursor)

    go : (move : Option Move) → next_move c.table c.cursor ≡ move → KeepsSnapshot snapshot n (with_phase (with_move c move) Defrag (next_place c.cursor (flagged_page c.table c.cursor)))
    go (Some move) e = search (arith, snapshot-moved, move-is)
    go None e = snapshot-turned c c.slots Defrag (next_place c.cursor (flagged_page c.table c.cursor)) c.grey c.is_asked c.quanta (record {
      enters = λ s. absurd (false≢true s);
      leaves = λ no s. absurd (false≢true (ap in_sweep (sym defrags) ∙ s));
      roots = h.sound.roots;
      slots = h.sound.slots;
      listed = λ q is. is;
      quiet = λ no. h.sound.quiet (ap in_roots_or_mark defrags);
      traces = λ t. absurd (false≢true t);
      left = λ t. absurd (false≢true t);
      swept = λ t. absurd (false≢true t);
      marked = λ t. h.sound.marked (ap in_defrag defrags);
      dense = λ t. h.sound.dense (ap in_defrag defrags);
    }) snapshot n (grind arith) h

-- The end of the cycle ---------------------------------------------------------------------------

pub snapshot-cycle_end : (snapshot : World) (n : ℕ) (c : Collector) → c.phase ≡ Defrag → KeepsSnapshot snapshot n c → KeepsSnapshot snapshot n (cycle_end c)
snapshot-cycle_end snapshot n c defrags h = snapshot-turned c c.slots Idle 0 c.grey c.is_asked 0 (grind arith) snapshot n (record {
  runs = λ r. absurd (false≢true (sym r));
  marks = λ t. absurd (false≢true t);
  from_root = λ t. absurd (false≢true t);
  from_grey = λ t. absurd (false≢true t);
  slots = λ t. absurd (false≢true t);
}) h

-- What the cycle leaves as it ends
pub finished-cycle_end : (snapshot : World) (n : ℕ) (c : Collector) → c.phase ≡ Defrag → KeepsSnapshot snapshot n c → IsFinished snapshot n (cycle_end c)
finished-cycle_end snapshot n c defrags h = record {
  only = λ x y e live. h.cycle.marked (ap is_idle defrags) x y e (h.sound.marked (ap in_defrag defrags) x y e);
  whole = λ birth kept.
      let (x, y, plain, is, first, each) = h.cycle.whole (ap is_idle defrags) birth kept in
      (x, y, plain_then x y plain, is, first, λ i below. let (r, z, plain', is', part) = each i below in (r, z, plain_then r z plain', is', part));
  stamped = λ x y e. h.sound.marked (ap in_defrag defrags) x y e;
}
  where
    plain_then : (x : ℕ) (y : Block) → IsPlainAt c x y → IsPlainAt (cycle_end c) x y
    plain_then x y plain = grind arith
