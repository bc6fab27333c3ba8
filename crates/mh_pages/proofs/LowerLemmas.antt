-- Whether a page below another is of a class and unflagged, by the set of those pages.
use Rattle.std.proofs.Common.{◌≡◌, ◌≢◌, ℕ, zero, suc, ◌+◌, ◌*◌, ◌/◌, ◌<◌, ◌≤◌, ◌==◌, Bool, true, false, MatchBool, inl, inr, List, [], ◌∷◌, None, take, length, get_or, refl, ap, ◌∙◌, sym, arith}
use Rattle.std.proofs.lemmas.Bool.{cases_eq, or_left, or_right, or_from, ne_eqb}
use Rattle.std.specs.List.{list_any}
use Rattle.mh_model.specs.{Classes.is_class_size, Pages.{is_dense_page, has_denser}}
use Rattle.mh_bits.specs.Sets.{has_member, HasLower, HasNoLower}
use Rattle.mh_classes.specs.Numbers.{class_number}
use Rattle.mh_classes.proofs.ClassLemmas.{class_is}
use Rattle.mh_pages.specs.Auxiliary.{page_shown, shown_slots, shown_table, IsIndexed, ArePages}
use Rattle.mh_pages.proofs.ShownLemmas.{length-shown, page_at-shown, free_page, used_page}
use Rattle.mh_pages.proofs.LeastLemmas.{dense-tells, class_inside, class_member}

module _ {X : Type 0} where
  any_there : (test : X → Bool) (xs : List X) (k n : ℕ) (d : X) → k < length xs → k < n → test (get_or xs k d) ≡ true → list_any test (take n xs) ≡ true
  any_there test (x ∷ xs) zero (suc n) d within below is = or_left (test x) (list_any test (take n xs)) is
  any_there test (x ∷ xs) (suc k) (suc n) d within below is = or_right (test x) (list_any test (take n xs)) (any_there test xs k n d (omega arith) (omega arith) is)
  any_there test xs k n d within below is = absurd (omega arith)

  any_none : (test : X → Bool) (xs : List X) (n : ℕ) (d : X) → ((j : ℕ) → j < length xs → j < n → test (get_or xs j d) ≡ false) → list_any test (take n xs) ≡ false
  any_none test [] zero d none = refl
  any_none test [] (suc n) d none = refl
  any_none test (x ∷ xs) zero d none = refl
  any_none test (x ∷ xs) (suc n) d none = or_from (test x) (list_any test (take n xs)) (none 0 (omega arith) (omega arith)) (any_none test xs n d (λ j l u. none (suc j) (omega arith) (omega arith)))

-- whether a page is of a class and unflagged, by its head
dense-shown : (heads frees words : List ℕ) (number size : ℕ) → size ≢ 0 → is_dense_page size (page_shown heads frees words number) ≡ (get_or heads number 0 == 2 * size)
dense-shown heads frees words number size some = grind arith

module _ (heads frees words : List ℕ) (sets : List Bool) (few : length heads ≤ 4096) (are : ArePages heads frees) (so : IsIndexed heads frees sets) (size : ℕ) (class : is_class_size size ≡ true) where
  dense_at : (number : ℕ) (b : Bool) → number < length heads → has_member sets (3 * class_number size + 0) number ≡ b → is_dense_page size (get_or (shown_table heads frees words) number None) ≡ b
  dense_at number b inside is =
      ap (is_dense_page size) (page_at-shown heads frees words number inside)
      ∙ (dense-shown heads frees words number size (λ e. absurd (omega (arith, e, (class_is size class).least))) ∙ class_member heads frees words sets few are so 0 size number b (omega arith) class inside is)

  pub denser-told : (page row : ℕ) (b : Bool) → row ≡ 3 * class_number size + 0 → MatchBool b (HasLower sets row page) (HasNoLower sets row page) → b ≡ has_denser (shown_table heads frees words) page size
  denser-told page row true is_row (member, within, below, is) =
      let is_member : has_member sets (3 * class_number size + 0) member ≡ true = ap (λ r. has_member sets r member) (sym is_row) ∙ is in
      let inside = class_inside heads frees words sets few are so 0 size member (omega arith) class within is_member in
      sym (any_there (is_dense_page size) (shown_table heads frees words) member page None (omega (arith, inside, length-shown heads frees words)) below (dense_at member true inside is_member))
  denser-told page row false is_row none =
      sym (any_none (is_dense_page size) (shown_table heads frees words) page None
      (grind (arith, length-shown, dense_at)))
