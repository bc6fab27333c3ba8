-- Pages before any is taken.
use Rattle.std.proofs.Common.{◌≡◌, ℕ, zero, suc, ◌+◌, ◌*◌, ◌<◌, ◌≤◌, ◌==◌, nat_lt, Bool, true, false, inl, inr, List, None, get_or, set, replicate, refl, ap, ◌∙◌, sym, arith, get_or-set_same, get_or-set_other, eq-eqb}
use Rattle.std.proofs.lemmas.Bool.{cases_eq, cases_lt, ne_eqb, and_right, lt-ltb, le-ltb}
use Rattle.std.proofs.lemmas.List.{length-set, length-replicate, get_or-replicate, get_or_past}
use Rattle.mh_model.specs.Pages.{free_pages}
use Rattle.mh_bits.specs.{Bits.has_bit, Sets.{has_member, empty_sets}}
use Rattle.mh_bits.proofs.{SetLemmas.{length-empty_sets, no_member-empty}, BitLemmas.has_bit-zero}
use Rattle.mh_model.proofs.TabulateLemmas.{tabulate-replicate}
use Rattle.mh_classes.specs.Numbers.{class_number}
use Rattle.mh_classes.proofs.ClassLemmas.{class_is}
use Rattle.mh_pages.specs.Auxiliary.{page_shown, shown_table, belongs, AllFree, is_head, AreStored}
use Rattle.mh_pages.proofs.{ShownLemmas.free_page, CountLemmas.free_pages-all}

same_at : {X : Type 0} (n i : ℕ) (x : X) → get_or (replicate n x) i x ≡ x
same_at (suc n) (suc i) x = same_at n i x
same_at n i x = refl

pub all_free_none : (sets : List Bool) (count : ℕ) → count ≡ 61 → sets ≡ empty_sets count → AllFree sets 0
all_free_none sets count all e = rw e (record {
  lengths = omega (arith, length-empty_sets count);
  free = λ number small. no_member-empty count 60 number ∙ sym (le-ltb number 0 (omega arith));
  others = λ row number a b. no_member-empty count row number;
})

pub all_free_more : (sets : List Bool) (pages : ℕ) → AllFree sets pages → pages < 4096 → AllFree (set sets (4096 * 60 + pages) true) (pages + 1)
all_free_more sets pages so small = grind (arith, length-set, cases_eq, get_or-set_same, lt-ltb, get_or-set_other, cases_lt, le-ltb)

pub shown-open : (pages : ℕ) → shown_table (replicate pages 0) (replicate pages 0) (replicate (256 * pages) 0) ≡ replicate pages None
unfolding shown_table
shown-open pages = grind (arith, length-replicate, tabulate-replicate, free_page, same_at)

pub kept-open : (sets : List Bool) (pages : ℕ) → pages ≤ 4096 → AllFree sets pages → AreStored (replicate pages 0) (replicate pages 0) (replicate (256 * pages) 0) sets pages
kept-open sets pages few so = record {
  sized = grind (arith, length-replicate);
  pages = grind (arith, same_at, has_bit-zero);
  indexed = record {
    free = λ number small. so.free number small ∙ sym (free_head number);
    classes = λ kind size number k class small.
        so.others (3 * class_number size + kind) number (omega (arith, (class_is size class).number)) small
        ∙ sym (ap (λ f. belongs kind (get_or (replicate pages 0) number 1) f size) (same_at pages number 0) ∙ not_there kind size number (class_is size class).least);
  };
  free_count = sym (ap free_pages (shown-open pages) ∙ free_pages-all (List ℕ) pages);
}
  where
    free_head : (number : ℕ) → (get_or (replicate pages 0) number 1 == 0) ≡ nat_lt number pages
    free_head number = grind (arith, cases_lt, eq-eqb, get_or-replicate, lt-ltb, get_or_past, length-replicate, le-ltb)

    small_head : (number : ℕ) → get_or (replicate pages 0) number 1 ≤ 1
    small_head number = grind (arith, cases_lt, get_or-replicate, get_or_past, length-replicate)

    not_there : (kind size number : ℕ) → 4 ≤ size → belongs kind (get_or (replicate pages 0) number 1) 0 size ≡ false
    not_there kind size number four = grind (arith, ne_eqb, small_head, and_right)
