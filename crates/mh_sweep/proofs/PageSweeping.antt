-- Several steps of the sweep in one page.
use Rattle.std.proofs.Common.{None, Some, zero, suc, ◌≤◌, ◌≡◌, ◌≢◌, ℕ, ◌+◌, ◌*◌, ◌/◌, ◌%◌, ◌<◌, ◌⊎◌, true, inl, inr, length, is_some, refl, sym, ap, ◌∙◌, subst, arith, add-one, below_more}
use Rattle.std.proofs.lemmas.Bool.{cases_lt, lt-ltb, le-ltb}
use Rattle.mh_model.specs.{Classes.slots_in, Pages.{Table, page_number, slot_number, page_at, class_at, HaveTheirSlots}}
use Rattle.mh_model.specs.Table.{Block}
use Rattle.mh_sweep.specs.Auxiliary.{slot_swept, slots_swept, stretch_end, judged, AreFree}
use Rattle.mh_sweep.specs.Swept.{Sweeping, swept_once, swept_on, IsSweptTo}
use Rattle.mh_sweep.proofs.SweepLemmas.{slot_count_in, used-classed, slots-classed, step-free, step-slot, step-last, swept-class, swept-slots, swept-long}

abbrev pub sweeping : Table Block → ℕ → Sweeping
sweeping table place = record { table = table; place = place }

-- so many slots of a page swept, none of them the last
pub record IsSweepingOn (cycle : ℕ) (table : Table Block) (place size : ℕ) (new : Table Block) (count : ℕ) : Type 0 where
  pub is : sweeping new (place + count) ≡ swept_on cycle count (sweeping table place)
  pub class : class_at new (page_number place) ≡ Some size
  pub slots : slot_count_in new (page_number place) ≡ slots_in size
  pub long : length new ≡ length table
  pub inside : (k : ℕ) → k < count → page_number (swept_on cycle k (sweeping table place)).place < length (swept_on cycle k (sweeping table place)).table

pub sweeping-starts : (cycle : ℕ) (table : Table Block) (place size : ℕ) → HaveTheirSlots table → class_at table (page_number place) ≡ Some size → IsSweepingOn cycle table place size table 0
sweeping-starts cycle table place size all class = let e : place + 0 ≡ place = omega arith in record { is = rw e refl; class = class; slots = slots-classed table (page_number place) size all class; long = refl; inside = λ k below. absurd (omega arith) }

at_parts : (a b : Table Block) (p q : ℕ) → a ≡ b → p ≡ q → sweeping a p ≡ sweeping b q
at_parts a b p q e f = rw (e, f) refl

here : (cycle : ℕ) (table new : Table Block) (place size count : ℕ) → IsSweepingOn cycle table place size new count → page_number place < length table → place % 64 + count < 64
    → (k : ℕ) → k < count + 1 → page_number (swept_on cycle k (sweeping table place)).place < length (swept_on cycle k (sweeping table place)).table
here cycle table new place size count on inside fits = grind (arith, below_more)

pub sweeping-class : (cycle : ℕ) (table new : Table Block) (place size count : ℕ) → IsSweepingOn cycle table place size new count → place % 64 + count < 64 → class_at (slot_swept cycle new (place + count)) (page_number place) ≡ Some size
sweeping-class cycle table new place size count on fits =
    let page : (place + count) / 64 ≡ place / 64 = omega arith in
    sym (ap (class_at (slot_swept cycle new (place + count))) page) ∙ swept-class cycle new (place + count) ∙ ap (class_at new) page ∙ on.class

pub sweeping-goes : (cycle : ℕ) (table new : Table Block) (place size count : ℕ) → IsSweepingOn cycle table place size new count → page_number place < length table → place % 64 + count < 64 → place % 64 + count + 1 ≢ slots_in size
    → IsSweepingOn cycle table place size (slot_swept cycle new (place + count)) (count + 1)
sweeping-goes cycle table new place size count on inside fits more =
    let q : ℕ = place + count in
    let page : (place + count) / 64 ≡ place / 64 = omega arith in
    let slot : (place + count) % 64 ≡ place % 64 + count = omega arith in
    let used : is_some (page_at new (page_number (place + count))) ≡ true = rw page (used-classed new (page_number place) size on.class) in
    let apart : slot_number (place + count) + 1 ≢ slot_count_in new (page_number (place + count)) = λ e. more (ap (λ n. n + 1) (sym slot) ∙ e ∙ ap (slot_count_in new) page ∙ on.slots) in
    let step = step-slot cycle new (place + count) used apart in
    let next : place + (count + 1) ≡ place + count + 1 = omega arith in
    record {
      is = at_parts _ _ _ _ step.0 (next ∙ step.1) ∙ ap (swept_once cycle) on.is ∙ ap (λ n. swept_on cycle n (sweeping table place)) (sym (add-one count));
      class = sweeping-class cycle table new place size count on fits;
      slots = sym (ap (slot_count_in (slot_swept cycle new (place + count))) page) ∙ swept-slots cycle new (place + count) ∙ ap (slot_count_in new) page ∙ on.slots;
      long = swept-long cycle new (place + count) ∙ on.long;
      inside = here cycle table new place size count on inside fits;
    }

pub sweeping-last : (cycle : ℕ) (table new : Table Block) (place size count : ℕ) → IsSweepingOn cycle table place size new count → page_number place < length table → place % 64 + count < 64 → place % 64 + count + 1 ≡ slots_in size
    → IsSweptTo cycle (sweeping table place) (sweeping (judged (slot_swept cycle new (place + count)) (page_number place)) (64 * (place / 64 + 1))) (count + 1)
sweeping-last cycle table new place size count on inside fits last =
    let page : (place + count) / 64 ≡ place / 64 = omega arith in
    let slot : (place + count) % 64 ≡ place % 64 + count = omega arith in
    let used : is_some (page_at new (page_number (place + count))) ≡ true = rw page (used-classed new (page_number place) size on.class) in
    let all : slot_number (place + count) + 1 ≡ slot_count_in new (page_number (place + count)) = ap (λ n. n + 1) slot ∙ last ∙ sym on.slots ∙ sym (ap (slot_count_in new) page) in
    let step = step-last cycle new (place + count) (omega (arith, on.long)) used all in
    record {
      is = at_parts _ _ _ _ (sym (ap (judged (slot_swept cycle new (place + count))) page) ∙ step.0) (sym (ap (λ n. 64 * (n + 1)) page) ∙ step.1) ∙ ap (swept_once cycle) on.is ∙ ap (λ n. swept_on cycle n (sweeping table place)) (sym (add-one count));
      some = omega arith;
      inside = here cycle table new place size count on inside fits;
    }

pub sweeping-ends : (cycle : ℕ) (table new : Table Block) (place size count next : ℕ) → IsSweepingOn cycle table place size new count → 0 < count → next ≡ place + count → IsSweptTo cycle (sweeping table place) (sweeping new next) count
sweeping-ends cycle table new place size count next on some is = record { is = at_parts _ _ _ _ refl is ∙ on.is; some = some; inside = on.inside }

-- Stretches of slots -----------------------------------------------------------------------------------

-- a stretch ends after the last slot of the page, or goes past it
pub end-cases : (slots slot : ℕ) → ((slot < slots) × (stretch_end slots slot ≡ slots)) ⊎ ((slots ≤ slot) × (stretch_end slots slot ≡ 64))
end-cases slots slot = grind (arith, cases_lt, inl, lt-ltb, inr, le-ltb)

-- a stretch that doesn't end after the last slot hasn't that slot, and one that is whole fills the longest page
pub not_last : (slots slot count : ℕ) → slot + count ≤ stretch_end slots slot → slot + count ≢ slots → (k : ℕ) → k < count → slot + k + 1 ≢ slots
not_last slots slot count within apart k below = grind (arith, end-cases, inl, inr)

pub whole : (slots slot count : ℕ) → slot + count ≡ stretch_end slots slot → slot + count ≢ slots → slot + count ≡ 64
whole slots slot count is apart = grind (arith, end-cases, inl, is, inr)

pub sweeping-all : (cycle : ℕ) (table : Table Block) (place size count : ℕ) → HaveTheirSlots table → class_at table (page_number place) ≡ Some size → page_number place < length table → place % 64 + count ≤ 64
    → ((k : ℕ) → k < count → place % 64 + k + 1 ≢ slots_in size) → IsSweepingOn cycle table place size (slots_swept cycle table place count) count
sweeping-all cycle table place size zero all class inside fits more = sweeping-starts cycle table place size all class
sweeping-all cycle table place size (suc count) all class inside fits more =
    subst (IsSweepingOn cycle table place size (slots_swept cycle table place (suc count))) (add-one count)
    (sweeping-goes cycle table (slots_swept cycle table place count) place size count (sweeping-all cycle table place size count all class inside (omega arith) (λ k below. more k (omega arith))) inside (omega arith) (more count (omega arith)))

-- a stretch up to the last slot, and the page judged
pub sweeping-judged : (cycle : ℕ) (table : Table Block) (place size count : ℕ) → HaveTheirSlots table → class_at table (page_number place) ≡ Some size → page_number place < length table → place % 64 + count ≤ 64 → 0 < count → place % 64 + count ≡ slots_in size
    → IsSweptTo cycle (sweeping table place) (sweeping (judged (slots_swept cycle table place count) (page_number place)) (64 * (place / 64 + 1))) count
sweeping-judged cycle table place size zero all class inside fits some last = absurd (omega arith)
sweeping-judged cycle table place size (suc count) all class inside fits some last =
    subst (IsSweptTo cycle (sweeping table place) (sweeping (judged (slots_swept cycle table place (suc count)) (page_number place)) (64 * (place / 64 + 1)))) (add-one count)
    (sweeping-last cycle table (slots_swept cycle table place count) place size count (sweeping-all cycle table place size count all class inside (omega arith) (λ k below same. absurd (omega arith))) inside (omega arith) (omega arith))

-- the page keeps its class, and the table its pages
pub stretch-class : (cycle : ℕ) (table : Table Block) (place count : ℕ) → place % 64 + count ≤ 64 → class_at (slots_swept cycle table place count) (page_number place) ≡ class_at table (page_number place)
stretch-class cycle table place zero fits = refl
stretch-class cycle table place (suc count) fits =
    let page : (place + count) / 64 ≡ place / 64 = omega arith in
    let new : Table Block = slots_swept cycle table place count in
    sym (ap (class_at (slot_swept cycle new (place + count))) page) ∙ swept-class cycle new (place + count) ∙ ap (class_at new) page ∙ stretch-class cycle table place count (omega arith)

pub stretch-long : (cycle : ℕ) (table : Table Block) (place count : ℕ) → length (slots_swept cycle table place count) ≡ length table
stretch-long cycle table place zero = refl
stretch-long cycle table place (suc count) = swept-long cycle (slots_swept cycle table place count) (place + count) ∙ stretch-long cycle table place count

-- Free pages passed ----------------------------------------------------------------------------------

-- a page and the free ones after it passed
passed : (cycle : ℕ) (table : Table Block) (place n : ℕ) → AreFree table (page_number place) (suc n) → swept_on cycle (suc n) (sweeping table place) ≡ sweeping table (64 * (place / 64 + suc n))
passed cycle table place zero free =
    let first : place / 64 + 0 ≡ place / 64 = omega arith in
    grind (arith, step-free, at_parts)
passed cycle table place (suc n) free =
    let q : ℕ = 64 * (place / 64 + suc n) in
    let page : q / 64 ≡ place / 64 + suc n = omega arith in
    let next : 64 * (q / 64 + 1) ≡ 64 * (place / 64 + suc (suc n)) = omega arith in
    let step = step-free cycle table q (ap (class_at table) page ∙ free (suc n) (omega arith)) in
    ap (swept_once cycle) (passed cycle table place n (λ k below. free k (omega arith))) ∙ at_parts _ _ _ _ step.0 (step.1 ∙ next)

pub free-passed : (cycle : ℕ) (table : Table Block) (place n : ℕ) → page_number place < length table → class_at table (page_number place) ≡ None → AreFree table (page_number place + 1) n → page_number place + 1 + n ≤ length table
    → IsSweptTo cycle (sweeping table place) (sweeping table (64 * (place / 64 + (1 + n)))) (1 + n)
free-passed cycle table place n inside is free few =
    let e : 1 + n ≡ suc n = omega arith in
    rw e record { is = sym (passed cycle table place n all); some = omega arith; inside = within }
  where
    all : AreFree table (page_number place) (suc n)
    all zero below = let first : place / 64 + 0 ≡ place / 64 = omega arith in rw first is
    all (suc k) below = let next : place / 64 + suc k ≡ place / 64 + 1 + k = omega arith in rw next (free k (omega arith))

    within : (k : ℕ) → k < suc n → page_number (swept_on cycle k (sweeping table place)).place < length (swept_on cycle k (sweeping table place)).table
    within zero below = inside
    within (suc k) below = subst (λ (s : Sweeping). page_number s.place < length s.table) (sym (passed cycle table place k (λ j under. all j (omega arith)))) (omega arith)
