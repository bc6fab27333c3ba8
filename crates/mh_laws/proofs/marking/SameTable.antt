-- A collector that turns to other roots, to another place or phase or to another grey list, with its table and its cycle: promises stay.
use Rattle.std.proofs.Common.{◌≡◌, ℕ, ◌<◌, Bool, true, false, ◌⊎◌, inl, inr, List, [], length, get_or, Option, Some, None, refl, arith}
use Rattle.mh_model.specs.{declared.cycle.Phase.Phase, World.World, Paths.Reachable, Pages.block_at}
use Rattle.mh_model.specs.{Table.{Block, resolve}, Collector.{Collector, is_idle}, Mutator.in_roots_or_mark}
use Rattle.mh_model.specs.{View.in_sweep, Snapshot.IsKept}
use Rattle.mh_model.specs.Invariant.{IsIn, IsPlainAt, IsStraight, IsUnflagged, in_trace, in_defrag, IsSound, IsMarkedAt, IsFromRoot, IsFromGrey, IsWhole, KeepsCycle, KeepsSnapshot}
use Rattle.mh_model.specs.Limits.{root_slots}
use Rattle.mh_laws.proofs.marking.MarkingPaths.{Keeps, promises_stay}

module _ (c : Collector) (slots' : List (Option ℕ)) (phase' : Phase) (cursor' : ℕ) (grey' : List ℕ) (asked' : Bool) (quanta' : ℕ) where
  abbrev pub turned : Collector
  turned = record { table = c.table; slots = slots'; phase = phase'; cursor = cursor'; grey = grey'; cycle = c.cycle; is_asked = asked'; quanta = quanta' }

  -- what the state alone asks of it
  pub record IsTurn : Type 0 where
    pub enters : in_sweep phase' ≡ true → in_sweep c.phase ≡ true
    pub leaves : in_sweep phase' ≡ false → in_sweep c.phase ≡ true → (q : ℕ) (x : Block) → block_at c.table q ≡ Some x → x.stamp ≡ c.cycle
    pub roots : length slots' ≡ root_slots
    pub slots : (i r : ℕ) → get_or slots' i None ≡ Some r → (x : Block) × IsPlainAt c r x × (x.part ≡ 0)
    pub listed : (q : ℕ) → IsIn q grey' → IsIn q c.grey
    pub quiet : in_roots_or_mark phase' ≡ false → grey' ≡ []
    pub traces : in_trace phase' ≡ true → in_trace c.phase ≡ true
    pub left : in_trace phase' ≡ true → (q : ℕ) (x : Block) → IsIn q c.grey → block_at c.table q ≡ Some x → IsIn q grey' ⊎ IsStraight c.table x
    pub swept : in_sweep phase' ≡ true → (q : ℕ) (x : Block) → block_at c.table q ≡ Some x → q < cursor' → x.stamp ≡ c.cycle
    pub marked : in_defrag phase' ≡ true → (q : ℕ) (x : Block) → block_at c.table q ≡ Some x → x.stamp ≡ c.cycle
    pub dense : in_defrag phase' ≡ true → (q target : ℕ) (x : Block) → block_at c.table q ≡ Some x → x.forward ≡ Some target → IsUnflagged c.table target

  module _ (turn : IsTurn) where
    plain_forth : (q : ℕ) (x : Block) → IsPlainAt c q x → IsPlainAt turned q x
    plain_forth q x plain = grind arith

    plain_back : (q : ℕ) (x : Block) → IsPlainAt turned q x → IsPlainAt c q x
    plain_back q x plain = grind arith

    pub sound-turned : (n : ℕ) → IsSound n c → IsSound n turned
    sound-turned n h = record {
      narrow = h.narrow;
      roots = turn.roots;
      births = h.births;
      stamps = h.stamps;
      shapes = h.shapes;
      parts = h.parts;
      one = h.one;
      slots = λ i r e. let (x, plain, first) = turn.slots i r e in (x, plain_forth r x plain, first);
      fields = λ q x plain flat i r e. let (y, plain', first) = h.fields q x (plain_back q x plain) flat i r e in (y, plain_forth (resolve c.table r) y plain', first);
      spines = λ q x child plain spine i below. let (r, e, (y, plain', birth, part)) = h.spines q x child (plain_back q x plain) spine i below in (r, e, (y, plain_forth (resolve c.table r) y plain', birth, part));
      grey = λ q is. h.grey q (turn.listed q is);
      quiet = turn.quiet;
      original = λ t. h.original (turn.traces t);
      straight = λ t q x e s. elim (h.straight (turn.traces t) q x e s) [ inl is ↦ turn.left t q x is e | inr is ↦ inr is ];
      swept = turn.swept;
      marked = turn.marked;
      dense = turn.dense;
    }

    -- and what the running cycle does
    pub record IsKeptTurn (snapshot : World) (n : ℕ) : Type 0 where
      pub runs : is_idle phase' ≡ false → is_idle c.phase ≡ false
      pub marks : in_roots_or_mark phase' ≡ true → in_roots_or_mark c.phase ≡ true
      pub from_root : in_roots_or_mark phase' ≡ true → (q : ℕ) (x : Block) → block_at c.table q ≡ Some x → IsFromRoot c q → IsMarkedAt c q ⊎ IsFromRoot turned q
      pub from_grey : in_roots_or_mark phase' ≡ true → (q : ℕ) (x : Block) → block_at c.table q ≡ Some x → IsFromGrey c q → IsMarkedAt c q ⊎ IsFromGrey turned q
      pub slots : in_roots_or_mark phase' ≡ true → (i r : ℕ) (x : Block) → get_or slots' i None ≡ Some r → block_at c.table (resolve c.table r) ≡ Some x → IsKept snapshot n x.birth

    pub cycle-turned : (snapshot : World) (n : ℕ) → IsKeptTurn snapshot n → KeepsCycle snapshot n c → KeepsCycle snapshot n turned
    cycle-turned snapshot n k h = record {
      path = λ m. promises_stay (Reachable snapshot) c turned (keeps m) (h.path (k.marks m));
      marked = λ m. h.marked (k.runs m);
      whole = λ m birth is. whole birth (h.whole (k.runs m) birth is);
      born = λ m. h.born (k.runs m);
      slots = k.slots;
      references = λ m. h.references (k.marks m);
    }
      where
        keeps : in_roots_or_mark phase' ≡ true → Keeps c turned
        keeps m = record {
          cycle = refl;
          blocks = λ q x e. (x, e, refl, refl, inl refl);
          back = λ q x e. inl (x, e);
          roots = λ q x e from. elim (k.from_root m q x e from) [ inl is ↦ inl is | inr is ↦ inr ([], inl is) ];
          grey = λ q x e from. elim (k.from_grey m q x e from) [ inl is ↦ inl is | inr is ↦ inr ([], inr is) ];
          links = λ q t x e links. inr links;
        }

        whole : (birth : ℕ) → IsWhole c birth → IsWhole turned birth
        whole birth (q, x, plain, is, first, each) = (q, x, plain_forth q x plain, is, first, λ i below. let (r, y, plain', is', part) = each i below in (r, y, plain_forth r y plain', is', part))

    pub snapshot-turned : (snapshot : World) (n : ℕ) → IsKeptTurn snapshot n → KeepsSnapshot snapshot n c → KeepsSnapshot snapshot n turned
    snapshot-turned snapshot n k h = grind (arith, sound-turned, cycle-turned)
