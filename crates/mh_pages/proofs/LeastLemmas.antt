-- The least place of a table from the least members of sets of its pages.
use Rattle.std.proofs.Common.{◌≡◌, ◌≢◌, ℕ, zero, suc, ◌+◌, ◌*◌, ◌/◌, ◌%◌, ◌^◌, ◌<◌, ◌≤◌, ◌==◌, ◌&&◌, not, Bool, true, false, inl, inr, Option, Some, None, is_some, IsSome, option_map, List, [], ◌∷◌, length, get_or, refl, ap, ◌∙◌, sym, subst, arith}
use Rattle.std.proofs.lemmas.Bool.{cases_eq, cases_lt, ne_eqb, eqb-true, eqb-false, and_left, and_parts, and_cases, false≢true, true≢false, not-false, not-true}
use Rattle.std.proofs.{lemmas.Option.none-some, lemmas.List.{length-replicate, get_or_default, get_or_past}}
use Rattle.std.specs.Int.{w64, trailing_zeros}
use Rattle.mh_model.specs.Classes.{is_class_size, slots_in}
use Rattle.mh_model.specs.Pages.{Page, Table, page_at, empty_slot, open_slot, fresh_slot, first_place, least, is_dense, is_sparse, least_dense_place, IsFreeFor}
use Rattle.mh_bits.specs.{Bits.has_bit, Sets.{has_member, IsEmptySet, IsLeastMember}}
use Rattle.mh_model.proofs.TabulateLemmas.{length-tabulate}
use Rattle.mh_bits.proofs.BitLemmas.{IsLowest, lowest_bit, has_bit-zero}
use Rattle.mh_classes.specs.Numbers.{class_number}
use Rattle.mh_classes.proofs.ClassLemmas.{class_is}
use Rattle.mh_pages.specs.Auxiliary.{shown_slot, shown_slots, page_of, shown_page, page_shown, shown_table, belongs, IsIndexed, ArePages}
use Rattle.mh_pages.proofs.ShownLemmas.{length-shown, page_at-shown, free_page, used_page, empty-slot_shown, taken-slot_shown, slot_at}

-- Tables -----------------------------------------------------------------------------------------

module _ {X : Type 0} where
  pub least_at : (slot_of : Option (Page X) → Option ℕ) (table : Table X) (number slot : ℕ) → number < length table → slot_of (page_at table number) ≡ Some slot → ((other : ℕ) → other < number → slot_of (page_at table other) ≡ None) → least slot_of table ≡ Some (64 * number + slot)
  least_at slot_of (page ∷ table) (suc number) slot within gives none =
      ap (λ s. first_place s (least slot_of table)) (none 0 (omega arith))
      ∙ (ap (option_map (λ place. 64 + place)) (least_at slot_of table number slot (omega arith) gives (λ other l. none (suc other) (omega arith))) ∙ ap Some (omega arith))
  least_at slot_of table number slot within gives none = grind arith

  pub least_none : (slot_of : Option (Page X) → Option ℕ) (table : Table X) → ((number : ℕ) → number < length table → slot_of (page_at table number) ≡ None) → least slot_of table ≡ None
  least_none slot_of [] none = refl
  least_none slot_of (page ∷ table) none =
      ap (λ s. first_place s (least slot_of table)) (none 0 (omega arith))
      ∙ ap (option_map (λ place. 64 + place)) (least_none slot_of table (λ number l. none (suc number) (omega arith)))

  empty_at : (slots : List (Option X)) (k : ℕ) → k < length slots → get_or slots k None ≡ None → ((i : ℕ) → i < k → IsSome (get_or slots i None)) → empty_slot slots ≡ Some k
  empty_at [] k within empty before = absurd (omega arith)
  empty_at slots zero within empty before = grind (arith, none-some)
  empty_at (None ∷ slots) (suc k) within empty before = absurd (false≢true (before 0 (omega arith)))
  empty_at (Some x ∷ slots) (suc k) within empty before = ap (option_map suc) (empty_at slots k (omega arith) empty (λ i l. before (suc i) (omega arith)))

  empty_none : (slots : List (Option X)) → ((i : ℕ) → i < length slots → IsSome (get_or slots i None)) → empty_slot slots ≡ None
  empty_none [] all = refl
  empty_none (None ∷ slots) all = absurd (false≢true (all 0 (omega arith)))
  empty_none (Some x ∷ slots) all = ap (option_map suc) (empty_none slots (λ i l. all (suc i) (omega arith)))

-- One page ---------------------------------------------------------------------------------------

-- the first slot without a block is the lowest bit
pub empty_slot-shown : (free : ℕ) (words : List ℕ) (number size : ℕ) → free ≢ 0 → free < 2 ^ 64 → ((slot : ℕ) → slots_in size ≤ slot → has_bit free slot ≡ false) → empty_slot (shown_slots free words number size) ≡ Some (trailing_zeros w64 free)
empty_slot-shown free words number size some small none = go (trailing_zeros w64 free) (lowest_bit free some small)
  where
    go : (k : ℕ) → IsLowest free k → empty_slot (shown_slots free words number size) ≡ Some k
    go k low =
        let inside : k < slots_in size = elim (cases_lt k (slots_in size)) [ inl within ↦ within | inr past ↦ absurd (true≢false (sym low.is_set ∙ none k past)) ] in
        empty_at (shown_slots free words number size) k (omega (arith, length-tabulate (shown_slot free words number size) 0 (slots_in size), inside))
        (slot_at free words number size k inside ∙ empty-slot_shown free words number size k low.is_set)
        (λ i l. ap is_some (slot_at free words number size i (omega arith) ∙ taken-slot_shown free words number size i (low.none_below i l)))

pub empty_slot-full : (free : ℕ) (words : List ℕ) (number size : ℕ) → free ≡ 0 → empty_slot (shown_slots free words number size) ≡ None
empty_slot-full free words number size none = grind (arith, empty_none, length-tabulate, slot_at, taken-slot_shown, has_bit-zero)

-- a test of a page that says what its head is
abbrev pub TellsHead : (Page (List ℕ) → Bool) → ℕ → Type 0
TellsHead test wanted = (head : ℕ) (slots : List (Option (List ℕ))) → test (page_of (head / 2) (head % 2 == 1) slots) ≡ (head == wanted)

pub dense-tells : (size : ℕ) → TellsHead (is_dense size) (2 * size)
dense-tells size head slots = grind arith

sparse-tells : (size : ℕ) → TellsHead (is_sparse size) (2 * size + 1)
sparse-tells size head slots = grind arith

-- what a page gives of a tier: its lowest free slot, if it has one and its head is the tier's
open-given : (test : Page (List ℕ) → Bool) (wanted : ℕ) → TellsHead test wanted → (head free : ℕ) (words : List ℕ) (number : ℕ) → wanted ≢ 0 → ((head == wanted) && not (free == 0)) ≡ true → free < 2 ^ 64
    → ((slot : ℕ) → slots_in (head / 2) ≤ slot → has_bit free slot ≡ false) → open_slot test (shown_page head free words number) ≡ Some (trailing_zeros w64 free)
open-given test wanted tells head free words number positive is small none = grind (arith, and_parts, used_page, empty_slot-shown, eqb-false, not-true)

open-none : (test : Page (List ℕ) → Bool) (wanted : ℕ) → TellsHead test wanted → (head free : ℕ) (words : List ℕ) (number : ℕ) → ((head == wanted) && not (free == 0)) ≡ false → open_slot test (shown_page head free words number) ≡ None
open-none test wanted tells head free words number is = grind (arith, cases_eq, free_page, used_page, and_cases, empty_slot-full, eqb-true, not-false)

-- Tiers ------------------------------------------------------------------------------------------

module _ (heads frees words : List ℕ) (sets : List Bool) (few : length heads ≤ 4096) where
  -- the least member of a set of the pages that give a slot is the page of the least place
  tier_found : (row : ℕ) (slot_of : Option (Page (List ℕ)) → Option ℕ) (slot : ℕ → ℕ)
      → ((number : ℕ) → number < 4096 → has_member sets row number ≡ true → number < length heads)
      → ((number : ℕ) → number < length heads → has_member sets row number ≡ false → slot_of (page_shown heads frees words number) ≡ None)
      → (page : ℕ) → (page < length heads → has_member sets row page ≡ true → slot_of (page_shown heads frees words page) ≡ Some (slot page))
      → IsLeastMember sets row page → least slot_of (shown_table heads frees words) ≡ Some (64 * page + slot page)
  tier_found row slot_of slot inside skips page gives is =
      let within : page < length heads = inside page is.within is.is_member in
      least_at slot_of (shown_table heads frees words) page (slot page) (omega (arith, within, length-shown heads frees words))
      (ap slot_of (page_at-shown heads frees words page within) ∙ gives within is.is_member)
      (λ other l. ap slot_of (page_at-shown heads frees words other (omega arith)) ∙ skips other (omega arith) (is.none_below other l))

  tier_none : (row : ℕ) (slot_of : Option (Page (List ℕ)) → Option ℕ)
      → ((number : ℕ) → number < length heads → has_member sets row number ≡ false → slot_of (page_shown heads frees words number) ≡ None)
      → IsEmptySet sets row → least slot_of (shown_table heads frees words) ≡ None
  tier_none row slot_of skips none = grind (arith, least_none, length-shown, page_at-shown)

  module _ (are : ArePages heads frees) (so : IsIndexed heads frees sets) where
    -- the slot that a page gives
    abbrev pub low_slot : ℕ → ℕ
    low_slot number = trailing_zeros w64 (get_or frees number 0)

    -- past the pages there is no member
    pub class_inside : (kind size number : ℕ) → kind < 3 → is_class_size size ≡ true → number < 4096 → has_member sets (3 * class_number size + kind) number ≡ true → number < length heads
    class_inside kind size number k class within is = grind (arith, cases_lt, false≢true, past_belongs, get_or_past)
      where
        past_belongs : (n : ℕ) → belongs n 1 (get_or frees number 0) size ≡ false
        past_belongs zero = ne_eqb _ _ (λ e. absurd (omega arith))
        past_belongs (suc zero) = and_left _ _ (ne_eqb 1 (2 * size) (λ e. absurd (omega arith)))
        past_belongs (suc (suc n)) = search (arith, class_is size class)

    free_inside : (number : ℕ) → number < 4096 → has_member sets 60 number ≡ true → number < length heads
    free_inside number within is = grind (arith, cases_lt, true≢false, get_or_past)

    pub class_member : (kind size number : ℕ) (b : Bool) → kind < 3 → is_class_size size ≡ true → number < length heads → has_member sets (3 * class_number size + kind) number ≡ b → belongs kind (get_or heads number 0) (get_or frees number 0) size ≡ b
    class_member kind size number b k class inside is = grind (arith, get_or_default)

    member_inside : (kind size page : ℕ) → kind < 3 → is_class_size size ≡ true → IsLeastMember sets (3 * class_number size + kind) page → page < length heads
    member_inside kind size page k class is = class_inside kind size page k class is.within is.is_member

    pub dense_found : (size page : ℕ) → is_class_size size ≡ true → IsLeastMember sets (3 * class_number size + 1) page → get_or frees page 0 < 2 ^ 64 → least_dense_place (shown_table heads frees words) size ≡ Some (64 * page + low_slot page)
    dense_found size page class is small =
        tier_found (3 * class_number size + 1) (open_slot (is_dense size)) low_slot
        (λ number l m. class_inside 1 size number (omega arith) class l m)
        (λ number l m. open-none (is_dense size) (2 * size) (dense-tells size) _ _ words number (class_member 1 size number false (omega arith) class l m))
        page
        (λ l m. open-given (is_dense size) (2 * size) (dense-tells size) _ _ words page (λ e. absurd (omega (arith, (class_is size class).least))) (class_member 1 size page true (omega arith) class l m) small (are.no_more_slots page))
        is

    pub dense_none : (size : ℕ) → is_class_size size ≡ true → IsEmptySet sets (3 * class_number size + 1) → least_dense_place (shown_table heads frees words) size ≡ None
    dense_none size class none =
        tier_none (3 * class_number size + 1) (open_slot (is_dense size))
        (λ number l m. open-none (is_dense size) (2 * size) (dense-tells size) _ _ words number (class_member 1 size number false (omega arith) class l m)) none

    pub sparse_found : (size page : ℕ) → is_class_size size ≡ true → IsLeastMember sets (3 * class_number size + 2) page → get_or frees page 0 < 2 ^ 64 → least (open_slot (is_sparse size)) (shown_table heads frees words) ≡ Some (64 * page + low_slot page)
    sparse_found size page class is small =
        tier_found (3 * class_number size + 2) (open_slot (is_sparse size)) low_slot
        (λ number l m. class_inside 2 size number (omega arith) class l m)
        (λ number l m. open-none (is_sparse size) (2 * size + 1) (sparse-tells size) _ _ words number (class_member 2 size number false (omega arith) class l m))
        page
        (λ l m. open-given (is_sparse size) (2 * size + 1) (sparse-tells size) _ _ words page (λ e. absurd (omega arith)) (class_member 2 size page true (omega arith) class l m) small (are.no_more_slots page))
        is

    pub sparse_none : (size : ℕ) → is_class_size size ≡ true → IsEmptySet sets (3 * class_number size + 2) → least (open_slot (is_sparse size)) (shown_table heads frees words) ≡ None
    sparse_none size class none =
        tier_none (3 * class_number size + 2) (open_slot (is_sparse size))
        (λ number l m. open-none (is_sparse size) (2 * size + 1) (sparse-tells size) _ _ words number (class_member 2 size number false (omega arith) class l m)) none

    free_head : (number : ℕ) (b : Bool) → number < length heads → has_member sets 60 number ≡ b → (get_or heads number 0 == 0) ≡ b
    free_head number b inside is = grind (arith, get_or_default)

    pub fresh_found : (page : ℕ) → IsLeastMember sets 60 page → least fresh_slot (shown_table heads frees words) ≡ Some (64 * page + 0)
    fresh_found page is =
        tier_found 60 fresh_slot (λ number. 0) free_inside
        (λ number l m. ap fresh_slot (used_page _ _ words number (eqb-false _ _ (free_head number false l m))))
        page
        (λ l m. ap fresh_slot (free_page _ _ words page (eqb-true _ _ (free_head page true l m))))
        is

    pub fresh_none : IsEmptySet sets 60 → least fresh_slot (shown_table heads frees words) ≡ None
    fresh_none none = search (arith, tier_none, used_page, eqb-false, free_head)

    -- Places that are given are free ------------------------------------------------------------------

    -- a slot of a free page is free for a class, and so is a slot of a page of the class whose bit is set
    fresh_free : (size page : ℕ) → is_class_size size ≡ true → page < length heads → get_or heads page 0 ≡ 0 → IsFreeFor (shown_table heads frees words) size (64 * page)
    fresh_free size page class inside none = grind (arith, page_at-shown, free_page, length-shown, class_is, length-replicate)

    used_free : (size page k : ℕ) → page < length heads → get_or heads page 0 ≢ 0 → get_or heads page 0 / 2 ≡ size → k < 64 → k < slots_in size → has_bit (get_or frees page 0) k ≡ true → IsFreeFor (shown_table heads frees words) size (64 * page + k)
    used_free size page k inside used same small within bit = grind (arith, page_at-shown, used_page, length-shown, slot_at, empty-slot_shown, length-tabulate)

    low_free : (size wanted page : ℕ) → wanted / 2 ≡ size → 0 < wanted → page < length heads → ((get_or heads page 0 == wanted) && not (get_or frees page 0 == 0)) ≡ true → get_or frees page 0 < 2 ^ 64 → IsFreeFor (shown_table heads frees words) size (64 * page + low_slot page)
    low_free size wanted page half positive inside is small =
        let (a, b) = and_parts _ _ is in
        let head_is : get_or heads page 0 ≡ wanted = eqb-true _ _ a in
        let low = lowest_bit (get_or frees page 0) (eqb-false _ _ (not-true _ b)) small in
        let same : get_or heads page 0 / 2 ≡ size = omega (arith, head_is, half) in
        used_free size page (low_slot page) inside (λ e. absurd (omega (arith, e, head_is, positive))) same low.within
        (elim (cases_lt (low_slot page) (slots_in size)) [ inl within ↦ within | inr past ↦ absurd (true≢false (sym low.is_set ∙ are.no_more_slots page (low_slot page) (subst (λ s. slots_in s ≤ low_slot page) (sym same) past))) ])
        low.is_set

    pub dense_free : (size page : ℕ) → is_class_size size ≡ true → IsLeastMember sets (3 * class_number size + 1) page → get_or frees page 0 < 2 ^ 64 → IsFreeFor (shown_table heads frees words) size (64 * page + low_slot page)
    dense_free size page class is small =
        let inside = member_inside 1 size page (omega arith) class is in
        low_free size (2 * size) page (omega arith) (omega (arith, (class_is size class).least)) inside (class_member 1 size page true (omega arith) class inside is.is_member) small

    pub sparse_free : (size page : ℕ) → is_class_size size ≡ true → IsLeastMember sets (3 * class_number size + 2) page → get_or frees page 0 < 2 ^ 64 → IsFreeFor (shown_table heads frees words) size (64 * page + low_slot page)
    sparse_free size page class is small =
        let inside = member_inside 2 size page (omega arith) class is in
        low_free size (2 * size + 1) page (omega arith) (omega arith) inside (class_member 2 size page true (omega arith) class inside is.is_member) small

    pub fresh_is_free : (size page : ℕ) → is_class_size size ≡ true → IsLeastMember sets 60 page → IsFreeFor (shown_table heads frees words) size (64 * page)
    fresh_is_free size page class is = search (arith, free_inside, fresh_free, eqb-true, free_head)
