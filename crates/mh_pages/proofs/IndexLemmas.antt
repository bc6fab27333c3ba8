-- The sets of pages after one page is put in those to which it belongs.
use Rattle.std.proofs.Common.{◌≡◌, ◌≢◌, ℕ, zero, suc, ◌+◌, ◌*◌, ◌/◌, ◌%◌, ◌<◌, ◌≤◌, ◌==◌, ◌⊎◌, not, Bool, true, false, inl, inr, List, length, get_or, set, ap, ◌∙◌, sym, arith, get_or-set_same, get_or-set_other}
use Rattle.std.proofs.{lemmas.Bool.{cases_eq, or_parts}, lemmas.List.{length-set, set-get_or, get_or_default}}
use Rattle.mh_model.specs.Classes.{is_class_size, slots_in}
use Rattle.mh_bits.specs.{Bits.has_bit, Sets.has_member}
use Rattle.mh_classes.specs.Numbers.{class_number}
use Rattle.mh_classes.proofs.ClassLemmas.{class_is, class_number-same}
use Rattle.mh_pages.specs.Auxiliary.{belongs, IsIndexed, put_in, indexed_again, indexed_after, is_head, ArePages}

-- what is read within a list doesn't depend on the default
put_same : (sets : List Bool) (row page : ℕ) (value : Bool) → 4096 * row + page < length sets → has_member (put_in sets row page value) row page ≡ value
put_same sets row page value within = get_or-set_same sets (4096 * row + page) value false within

put_other : (sets : List Bool) (row page : ℕ) (value : Bool) (other_row other : ℕ) → page < 4096 → other < 4096 → (other_row ≢ row) ⊎ (other ≢ page) → has_member (put_in sets row page value) other_row other ≡ has_member sets other_row other
put_other sets row page value other_row other small small' apart = grind (arith, get_or-set_other)

length_put : (sets : List Bool) (row page : ℕ) (value : Bool) → length (put_in sets row page value) ≡ length sets
length_put sets row page value = length-set sets (4096 * row + page) value

pub length-indexed_again : (sets : List Bool) (page size head free : ℕ) → length (indexed_again sets page size head free) ≡ length sets
unfolding indexed_again
length-indexed_again sets page size head free = search (arith, length_put)

again_other : (sets : List Bool) (page size head free row other : ℕ) → page < 4096 → other < 4096 → (((row ≢ 60) × (row ≢ 3 * class_number size + 0) × (row ≢ 3 * class_number size + 1) × (row ≢ 3 * class_number size + 2)) ⊎ (other ≢ page))
    → has_member (indexed_again sets page size head free) row other ≡ has_member sets row other
unfolding indexed_again
again_other sets page size head free row other small small' (inl rows) =
    put_other _ _ page _ row other small small' (inl rows.3) ∙ (put_other _ _ page _ row other small small' (inl rows.2) ∙ (put_other _ _ page _ row other small small' (inl rows.1) ∙ put_other sets 60 page _ row other small small' (inl rows.0)))
again_other sets page size head free row other small small' (inr apart) =
    put_other _ _ page _ row other small small' (inr apart) ∙ (put_other _ _ page _ row other small small' (inr apart) ∙ (put_other _ _ page _ row other small small' (inr apart) ∙ put_other sets 60 page _ row other small small' (inr apart)))

again_free : (sets : List Bool) (page size head free : ℕ) → page < 4096 → class_number size < 20 → length sets ≡ 4096 * 61 → has_member (indexed_again sets page size head free) 60 page ≡ (head == 0)
unfolding indexed_again
again_free sets page size head free small few all =
    put_other _ _ page _ 60 page small small (inl (λ e. omega arith)) ∙ (put_other _ _ page _ 60 page small small (inl (λ e. omega arith)) ∙ (put_other _ _ page _ 60 page small small (inl (λ e. omega arith)) ∙ put_same sets 60 page (head == 0) (omega arith)))

again_kind : (sets : List Bool) (page size head free kind : ℕ) → kind < 3 → page < 4096 → class_number size < 20 → length sets ≡ 4096 * 61 → has_member (indexed_again sets page size head free) (3 * class_number size + kind) page ≡ belongs kind head free size
unfolding indexed_again
again_kind sets page size head free zero k small few all =
    put_other _ _ page _ (3 * class_number size + 0) page small small (inl (λ e. omega arith))
    ∙ (put_other _ _ page _ (3 * class_number size + 0) page small small (inl (λ e. omega arith))
    ∙ put_same (put_in sets 60 page (head == 0)) (3 * class_number size + 0) page _ (omega (arith, length_put sets 60 page (head == 0))))
again_kind sets page size head free (suc zero) k small few all =
    put_other _ _ page _ (3 * class_number size + 1) page small small (inl (λ e. omega arith))
    ∙ put_same _ (3 * class_number size + 1) page _ (omega (arith, length_put (put_in sets 60 page (head == 0)) (3 * class_number size + 0) page (belongs 0 head free size), length_put sets 60 page (head == 0)))
again_kind sets page size head free (suc (suc zero)) k small few all = search (arith, put_same, length_put)
again_kind sets page size head free (suc (suc (suc kind))) k small few all = absurd (omega arith)

-- a page of one class doesn't belong to the sets of another
pub other_class : (kind head free size other : ℕ) → ((head ≡ 0) ⊎ (head / 2 ≡ size)) → 4 ≤ other → other ≢ size → belongs kind head free other ≡ false
other_class kind head free size other is_own some apart = grind arith

-- The sets are those of the pages again after one page has changed and was put in the sets to which it belongs
pub indexed-set : (heads frees : List ℕ) (sets : List Bool) (page size head free : ℕ) → IsIndexed heads frees sets → length sets ≡ 4096 * 61 → page < length heads → length heads ≤ 4096 → length frees ≡ length heads
    → is_class_size size ≡ true → ((get_or heads page 0 ≡ 0) ⊎ (get_or heads page 0 / 2 ≡ size)) → ((head ≡ 0) ⊎ (head / 2 ≡ size))
    → IsIndexed (set heads page head) (set frees page free) (indexed_again sets page size head free)
indexed-set heads frees sets page size head free so all within few sizes class old new = record {
  free = λ number small. elim (cases_eq number page) [
    | inl here ↦ grind (arith, again_free, small_page, row, get_or-set_same)
    | inr there ↦ again_other sets page size head free 60 number small_page small (inr there) ∙ (so.free number small ∙ ap (λ h. h == 0) (sym (get_or-set_other heads page number head 1 there)))
  ];
  classes = λ kind other number k is small. elim (cases_eq number page) [
    | inl here ↦ at_page kind other number k is here (cases_eq other size)
    | inr there ↦ grind (arith, again_other, small_page, get_or-set_other)
  ];
}
  where
    small_page : page < 4096
    small_page = omega arith

    row : class_number size < 20
    row = (class_is size class).number

    now_at_page : (kind other number : ℕ) → number ≡ page → belongs kind (get_or (set heads page head) number 1) (get_or (set frees page free) number 0) other ≡ belongs kind head free other
    now_at_page kind other number here = grind (arith, get_or-set_same)

    at_page : (kind other number : ℕ) → kind < 3 → is_class_size other ≡ true → number ≡ page → ((other ≡ size) ⊎ (other ≡ size → ⊥)) → has_member (indexed_again sets page size head free) (3 * class_number other + kind) number ≡ belongs kind (get_or (set heads page head) number 1) (get_or (set frees page free) number 0) other
    at_page kind other number k is here (inl same) = grind (arith, again_kind, small_page, row, now_at_page)
    at_page kind other number k is here (inr apart) =
        let numbers_apart : class_number other ≢ class_number size = λ e. apart (class_number-same other size is class e) in
        let other_row : class_number other < 20 = (class_is other is).number in
        let four : 4 ≤ other = (class_is other is).least in
        grind (arith, again_other, small_page, inl, get_or_default, other_class, now_at_page)

-- The sets are those of the pages if a page that had a free slot has one still
belongs-free : (kind head before after size : ℕ) → (before == 0) ≡ (after == 0) → belongs kind head before size ≡ belongs kind head after size
belongs-free kind head before after size e = grind arith

indexed-kept : (heads frees : List ℕ) (sets : List Bool) (page after : ℕ) → IsIndexed heads frees sets → page < length frees → (get_or frees page 0 == 0) ≡ (after == 0) → IsIndexed heads (set frees page after) sets
indexed-kept heads frees sets page after so within same = grind (arith, cases_eq, belongs-free, get_or-set_same, get_or-set_other)

-- a page of a class that has the flag of a set for pages with a free slot
belongs-own : (kind head free size : ℕ) → head / 2 ≡ size → kind ≡ 1 + head % 2 → belongs kind head free size ≡ not (free == 0)
belongs-own kind head free size class own = grind arith

-- the other sets of its class don't depend on its free slots
belongs-still : (kind head before after size : ℕ) → head / 2 ≡ size → kind < 3 → kind ≢ 1 + head % 2 → belongs kind head before size ≡ belongs kind head after size
belongs-still kind head before after size class few other = grind arith

-- the set of a class for those of its pages with a free slot that have the flag of a head
abbrev set_row : ℕ → ℕ → ℕ
set_row size head = 3 * class_number size + (1 + head % 2)

-- The sets are those of the pages again after a page in use got its first free slot, or lost its last
indexed-slots : (heads frees : List ℕ) (sets : List Bool) (page size after : ℕ) → IsIndexed heads frees sets → length sets ≡ 4096 * 61 → page < length heads → length heads ≤ 4096 → length frees ≡ length heads
    → is_class_size size ≡ true → get_or heads page 0 / 2 ≡ size
    → IsIndexed heads (set frees page after) (put_in sets (set_row size (get_or heads page 0)) page (not (after == 0)))
indexed-slots heads frees sets page size after so all within few sizes class same = record {
  free = λ number small. put_other sets (set_row size (get_or heads page 0)) page (not (after == 0)) 60 number small_page small (inl (λ e. omega (arith, few_rows))) ∙ so.free number small;
  classes = λ kind other number k is small. elim (cases_eq number page) [
    | inl here ↦ ap (has_member (put_in sets (set_row size (get_or heads page 0)) page (not (after == 0))) (3 * class_number other + kind)) here ∙ (at_page kind other k is (cases_eq other size) ∙ sym (now_at_page kind other number here))
    | inr there ↦ grind (arith, put_other, small_page, get_or-set_other)
  ];
}
  where
    small_page : page < 4096
    small_page = omega arith

    few_rows : class_number size < 20
    few_rows = (class_is size class).number

    now_at_page : (kind other number : ℕ) → number ≡ page → belongs kind (get_or heads number 1) (get_or (set frees page after) number 0) other ≡ belongs kind (get_or heads page 0) after other
    now_at_page kind other number here = grind (arith, get_or_default, get_or-set_same)

    was_at_page : (kind other : ℕ) → kind < 3 → is_class_size other ≡ true → has_member sets (3 * class_number other + kind) page ≡ belongs kind (get_or heads page 0) (get_or frees page 0) other
    was_at_page kind other k is = grind (arith, small_page, get_or_default)

    of_class : (kind : ℕ) → kind < 3 → ((kind ≡ 1 + get_or heads page 0 % 2) ⊎ (kind ≡ 1 + get_or heads page 0 % 2 → ⊥)) → has_member (put_in sets (set_row size (get_or heads page 0)) page (not (after == 0))) (3 * class_number size + kind) page ≡ belongs kind (get_or heads page 0) after size
    of_class kind k is = grind (arith, put_same, few_rows, belongs-own, put_other, small_page, was_at_page, belongs-still)

    at_page : (kind other : ℕ) → kind < 3 → is_class_size other ≡ true → ((other ≡ size) ⊎ (other ≡ size → ⊥)) → has_member (put_in sets (set_row size (get_or heads page 0)) page (not (after == 0))) (3 * class_number other + kind) page ≡ belongs kind (get_or heads page 0) after other
    at_page kind other k is e = search (arith, of_class, cases_eq, class_number-same, class_is, put_other, small_page, was_at_page, other_class)

pub indexed-after : (heads frees : List ℕ) (sets : List Bool) (page size after : ℕ) → IsIndexed heads frees sets → length sets ≡ 4096 * 61 → page < length heads → length heads ≤ 4096 → length frees ≡ length heads
    → is_class_size size ≡ true → get_or heads page 0 / 2 ≡ size
    → IsIndexed (set heads page (get_or heads page 0)) (set frees page after) (indexed_after sets page size (get_or heads page 0) (get_or frees page 0) after)
indexed-after heads frees sets page size after so all within few sizes class same = grind (arith, set-get_or, indexed-slots, or_parts, indexed-kept)

pub length-indexed_after : (sets : List Bool) (page size head before after : ℕ) → length (indexed_after sets page size head before after) ≡ length sets
length-indexed_after sets page size head before after = grind (arith, length_put)

-- Heads and free slots stay so after one page has changed
pub pages-set : (heads frees : List ℕ) (page head free : ℕ) → ArePages heads frees → page < length heads → length frees ≡ length heads → is_head head ≡ true → ((slot : ℕ) → slots_in (head / 2) ≤ slot → has_bit free slot ≡ false) → ArePages (set heads page head) (set frees page free)
pages-set heads frees page head free are within sizes is none = grind (arith, cases_eq, get_or-set_same, get_or-set_other)
