-- The longest front taken off place by place, and the batch that it is marked as.
use Rattle.std.proofs.Common.{◌≡◌, ℕ, zero, suc, ◌+◌, ◌-◌, ◌<◌, ◌≤◌, ◌==◌, ◌||◌, true, if◌then◌else◌, List, [], ◌∷◌, ◌++◌, length, get_or, slice_get, Some, IsSome, refl, sym, ap, ◌∙◌, subst, arith, append_assoc, eq-eqb}
use Rattle.std.proofs.{Math.Seq.drop-append_seam, lemmas.Bool.{le-leb, lt-leb, or_right}, lemmas.Bool.Decides.nat_tests}
use Rattle.std.proofs.{lemmas.List.append-nil, lemmas.List.Sums.{sum_by-append, sum_by-cons}, lemmas.Option.same_Some}
use Rattle.std.specs.List.{IsDistinct}
use Rattle.mh_model.specs.{Pages.{Table, block_at}, Table.{Block, references_at, found_in}}
use Rattle.mh_model.specs.Collector.{Marking, mark_cost}
use Rattle.mh_model.specs.Batches.{longest_front, batch_cost, batch_written, NoneTwice}
use Rattle.mh_table_laws.proofs.marking.BatchMarking.{none_twice-front, first_marked, mark_step-front, batch_written-first}
use Rattle.mh_grey.specs.{Queue.{Queue, is_in}, Shading.marking}
use Rattle.mh_mark.specs.{Walkable.IsWalkable, Auxiliary.{AreMarkable, blocks_marked}, Batched.front_marked}

front-more : (table : Table Block) (more left place : ℕ) (grey : List ℕ) → mark_cost table place ≤ left → longest_front (suc more) table left (place ∷ grey) ≡ place ∷ longest_front more table (left - mark_cost table place) grey
unfolding longest_front
front-more table more left place grey fits = ap (λ b. if b then place ∷ longest_front more table (left - mark_cost table place) grey else []) (le-leb (mark_cost table place) left fits)

front-dear : (table : Table Block) (more left place : ℕ) (grey : List ℕ) → left < mark_cost table place → longest_front more table left (place ∷ grey) ≡ []
unfolding longest_front
front-dear table zero left place grey dear = refl
front-dear table (suc more) left place grey dear = ap (λ b. if b then place ∷ longest_front more table (left - mark_cost table place) grey else []) (lt-leb (mark_cost table place) left dear)

front-none : (table : Table Block) (more left : ℕ) → longest_front more table left [] ≡ []
unfolding longest_front
front-none table zero left = refl
front-none table (suc more) left = refl

front-full : (table : Table Block) (left : ℕ) (grey : List ℕ) → longest_front 0 table left grey ≡ []
unfolding longest_front
front-full table left grey = refl

-- a front taken so far, of so many places at such a cost
pub record IsFrontOn (table : Table Block) (most left : ℕ) (old batch grey : List ℕ) (count cost : ℕ) : Type 0 where
  pub front : longest_front most table left old ≡ batch ++ longest_front (most - count) table (left - cost) grey
  pub rest : old ≡ batch ++ grey
  pub spent : cost ≡ batch_cost table batch
  pub fits : cost ≤ left
  pub few : length batch ≡ count
  pub there : (place : ℕ) → is_in place grey ≡ true → IsSome (block_at table place)

pub front-starts : (table : Table Block) (most left : ℕ) (old : List ℕ) → ((place : ℕ) → is_in place old ≡ true → IsSome (block_at table place)) → IsFrontOn table most left old [] old 0 0
front-starts table most left old there =
    let a : most - 0 ≡ most = omega arith in
    let b : left - 0 ≡ left = omega arith in
    record { front = rw (a, b) refl; rest = refl; spent = refl; fits = omega arith; few = refl; there = there }

pub front-goes : (table : Table Block) (most left : ℕ) (old batch grey : List ℕ) (count cost : ℕ) (front place : ℕ) (rest : List ℕ) (one : ℕ) → IsFrontOn table most left old batch grey count cost → count < most
    → slice_get grey 0 ≡ Some front → grey ≡ place ∷ rest → one ≡ 1 + length (references_at table front) → one ≤ left - cost → IsFrontOn table most left old (batch ++ place ∷ []) rest (count + 1) (cost + one)
front-goes table most left old batch grey count cost front place rest one on below at is price fits =
    let same : front ≡ place = same_Some front place (sym at ∙ ap (λ g. slice_get g 0) is) in
    let cost_is : one ≡ mark_cost table place = price ∙ ap (mark_cost table) same in
    let more : most - count ≡ suc (most - (count + 1)) = omega arith in
    let left_is : left - (cost + one) ≡ left - cost - mark_cost table place = omega arith in
    record {
      front =
          on.front
          ∙ ap (λ g. batch ++ longest_front (most - count) table (left - cost) g) is
          ∙ ap (λ n. batch ++ longest_front n table (left - cost) (place ∷ rest)) more
          ∙ ap (λ f. batch ++ f) (front-more table (most - (count + 1)) (left - cost) place rest (omega arith))
          ∙ sym (append_assoc batch (place ∷ []) (longest_front (most - (count + 1)) table (left - cost - mark_cost table place) rest))
          ∙ ap (λ n. (batch ++ place ∷ []) ++ longest_front (most - (count + 1)) table n rest) (sym left_is);
      rest = on.rest ∙ ap (λ g. batch ++ g) is ∙ sym (append_assoc batch (place ∷ []) rest);
      spent = omega (arith, on.spent, cost_is, sum_by-append (mark_cost table) batch (place ∷ []), sum_by-cons (mark_cost table) place []);
      fits = omega (arith, on.fits);
      few = length-snoc batch place ∙ ap (λ n. n + 1) on.few;
      there = λ q h. on.there q (ap (is_in q) is ∙ or_right (q == place) (is_in q rest) h);
    }
  where
    length-snoc : (xs : List ℕ) (x : ℕ) → length (xs ++ x ∷ []) ≡ length xs + 1
    length-snoc [] x = refl
    length-snoc (y ∷ xs) x = ap suc (length-snoc xs x) ∙ omega arith

front-is : (table : Table Block) (most left : ℕ) (old batch grey : List ℕ) (count cost : ℕ) → IsFrontOn table most left old batch grey count cost → longest_front (most - count) table (left - cost) grey ≡ [] → batch ≡ longest_front most table left old
front-is table most left old batch grey count cost on none = sym (on.front ∙ ap (λ f. batch ++ f) none ∙ append-nil batch)

pub front-ends_full : (table : Table Block) (most left : ℕ) (old batch grey : List ℕ) (count cost : ℕ) → IsFrontOn table most left old batch grey count cost → most ≤ count → batch ≡ longest_front most table left old
front-ends_full table most left old batch grey count cost on full = grind (arith, front-is, front-full)

pub front-ends_empty : (table : Table Block) (most left : ℕ) (old batch grey : List ℕ) (count cost : ℕ) → IsFrontOn table most left old batch grey count cost → (length grey == 0) ≡ true → batch ≡ longest_front most table left old
front-ends_empty table most left old batch [] count cost on empty = front-is table most left old batch [] count cost on (front-none table (most - count) (left - cost))
front-ends_empty table most left old batch (place ∷ grey) count cost on empty = absurd (no_zero (length grey) empty)
  where
    no_zero : (n : ℕ) → (suc n == 0) ≡ true → ⊥
    no_zero n e = grind (arith, nat_tests)

pub front-ends_dear : (table : Table Block) (most left : ℕ) (old batch grey : List ℕ) (count cost front one : ℕ) → IsFrontOn table most left old batch grey count cost → slice_get grey 0 ≡ Some front → one ≡ 1 + length (references_at table front) → left - cost < one → batch ≡ longest_front most table left old
front-ends_dear table most left old batch [] count cost front one on at price dear = cc
front-ends_dear table most left old batch (place ∷ grey) count cost front one on at price dear = grind (arith, same_Some, front-is, front-dear)

-- The batch ------------------------------------------------------------------------------------------

-- blocks marked through one by one are the batch, if none stands twice
blocks-batch : (batch : List ℕ) (m : Marking) → NoneTwice batch → blocks_marked m batch ≡ batch_written m batch (found_in m.table batch)
unfolding IsDistinct
blocks-batch [] m once = refl
blocks-batch (place ∷ batch) m (apart, once) =
    ap (λ x. blocks_marked x batch) (mark_step-front place [] m) ∙ blocks-batch batch (first_marked m place) once ∙ batch_written-first place batch m apart

-- what is marked once the front is off the list
pub record IsFront (table : Table Block) (cycle left : ℕ) (old batch rest : List ℕ) : Type 0 where
  pub is : batch ≡ longest_front 1024 table left old
  pub parts : old ≡ batch ++ rest

front-batch : (table : Table Block) (cycle left : ℕ) (old batch rest : List ℕ) → IsFront table cycle left old batch rest → batch_written (marking table rest cycle) batch (found_in table batch) ≡ front_marked left (marking table old cycle)
front-batch table cycle left old batch rest f = grind (arith, drop-append_seam)

pub front-blocks : (table : Table Block) (cycle left : ℕ) (old batch rest : List ℕ) → IsFront table cycle left old batch rest → NoneTwice old → blocks_marked (marking table rest cycle) batch ≡ front_marked left (marking table old cycle)
front-blocks table cycle left old batch rest f once = blocks-batch batch (marking table rest cycle) (none_twice-front batch rest (subst NoneTwice f.parts once)) ∙ front-batch table cycle left old batch rest f

in_front : (batch rest : List ℕ) (index : ℕ) → index < length batch → is_in (get_or batch index 0) (batch ++ rest) ≡ true
in_front [] rest index below = absurd (omega arith)
in_front (place ∷ batch) rest zero below = ap (λ b. b || is_in place (batch ++ rest)) (same place)
  where
    same : (n : ℕ) → (n == n) ≡ true
    same n = grind (arith, nat_tests)
in_front (place ∷ batch) rest (suc index) below = or_right (get_or batch index 0 == place) (is_in (get_or batch index 0) (batch ++ rest)) (in_front batch rest index (omega arith))

pub front-markable : (table : Table Block) (cycle : ℕ) (old batch rest : List ℕ) → old ≡ batch ++ rest → IsWalkable table cycle old → AreMarkable table batch
front-markable table cycle old batch rest parts walk index below =
    let inside : is_in (get_or batch index 0) old ≡ true = rw parts (in_front batch rest index below) in
    record { there = walk.there (get_or batch index 0) inside; lead = walk.lead (get_or batch index 0) inside }

pub in_at : (grey : List ℕ) (index place : ℕ) → slice_get grey index ≡ Some place → is_in place grey ≡ true
in_at [] zero place is = cc
in_at [] (suc index) place is = cc
in_at (first ∷ grey) zero place is = ap (λ b. b || is_in place grey) (eq-eqb place first (sym (same_Some first place is)))
in_at (first ∷ grey) (suc index) place is = or_right (place == first) (is_in place grey) (in_at grey index place is)

pub first_in : (grey : List ℕ) (place : ℕ) → slice_get grey 0 ≡ Some place → is_in place grey ≡ true
first_in grey place is = in_at grey 0 place is

pub queue-as : (q : Queue) (m other : Marking) (pages more : ℕ) → q ≡ record { places = m.grey; pages = pages } → m ≡ other → pages ≡ more → q ≡ record { places = other.grey; pages = more }
queue-as q m other pages more is a b = rw (← a, ← b) is
