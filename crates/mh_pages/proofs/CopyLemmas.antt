-- Words copied one after another, and a block copied to a place that was taken for it.
use Rattle.std.proofs.Common.{◌≡◌, ℕ, suc, ◌+◌, ◌*◌, ◌/◌, ◌<◌, ◌≤◌, ◌⊎◌, Bool, inl, inr, Some, is_some, IsSome, unwrap_or, List, [], length, get_or, ap, ◌∙◌, sym, subst, arith}
use Rattle.std.proofs.{lemmas.Bool.{cases_eq, cases_lt, false≢true}, Math.Nat.mul-le-mul_right}
use Rattle.mh_model.specs.Pages.{Table, page_number, slot_number, block_at, class_at, with_block, with_taken, IsFreeFor}
use Rattle.mh_pages.specs.{Auxiliary.{words_from, shown_table, IsCopied, AreApart, AreStored}, Words.words_at}
use Rattle.mh_table_laws.proofs.placing.Places.{block_at-with_taken_there, with_block-with_taken}
use Rattle.mh_pages.proofs.{TableLemmas.{page_of_block, other_class}, ShownLemmas.{IsTaken, block_at-shown}}
use Rattle.mh_pages.proofs.{WriteLemmas.{block_fits, shown-copied}, KeptLemmas.{start, kept-block, block_of}}
use Rattle.mh_pages.proofs.TakenLemmas.{size_shown, place_taken, size_taken}

-- two slots of a size have no word in common
slots_apart : (page slot other_page other_slot size : ℕ) → slot * size + size ≤ 256 → other_slot * size + size ≤ 256 → ((page ≡ other_page) × (slot ≡ other_slot) → ⊥)
    → AreApart (256 * page + slot * size) (256 * other_page + other_slot * size) size
slots_apart page slot other_page other_slot size fits other_fits apart = by_page (cases_eq page other_page)
  where
    by_page : (page ≡ other_page) ⊎ (page ≡ other_page → ⊥) → AreApart (256 * page + slot * size) (256 * other_page + other_slot * size) size
    by_page (inr pages) = grind arith
    by_page (inl one) = elim (cases_lt slot other_slot) [
      | inl below ↦ grind (arith, mul-le-mul_right size below)
      | inr above ↦
          let more : other_slot < slot = omega (arith, λ (e : slot ≡ other_slot). apart (one, e)) in
          inr (omega (arith, mul-le-mul_right size more))
    ]

-- A place taken for a copy of a block of the class
module _ (heads frees words : List ℕ) (sets : List Bool) (free : ℕ) (kept : AreStored heads frees words sets free) (old table : Table (List ℕ)) (size place source : ℕ) (block : List ℕ)
    (shown : shown_table heads frees words ≡ table) (taken : table ≡ with_taken old size place block)
    (is : IsFreeFor old size place) (there : IsSome (block_at old source)) (class : class_at old (page_number source) ≡ Some size) where
  pub copy_taken : IsTaken heads frees place
  copy_taken = place_taken heads frees words sets free kept old table size place block shown taken is

  pub source_taken : IsTaken heads frees source
  source_taken = block_of heads frees words sets free kept table source shown (ap (λ t. is_some (block_at t source)) taken ∙ (ap is_some (block_at-with_taken_there old size place source block is there) ∙ there))

  pub copy_size : get_or heads (page_number place) 0 / 2 ≡ size
  copy_size = size_taken heads frees words sets free kept old table size place block shown taken is

  pub source_size : get_or heads (page_number source) 0 / 2 ≡ size
  source_size =
      size_shown heads frees words sets free kept table size shown source source_taken
      (ap (λ t. class_at t (page_number source)) taken ∙ (other_class old size place block (page_number source) is (ap is_some (page_of_block old source there).is) ∙ class))

  not_there : (page_number source ≡ page_number place) × (slot_number source ≡ slot_number place) → ⊥
  not_there both = grind arith

  fits : (other : ℕ) → IsTaken heads frees other → get_or heads (page_number other) 0 / 2 ≡ size → slot_number other * size + size ≤ 256
  fits other its e = grind arith

  pub blocks_apart : AreApart (256 * page_number source + slot_number source * size) (256 * page_number place + slot_number place * size) size
  blocks_apart = search (arith, slots_apart, fits, source_taken, source_size, copy_taken, copy_size, not_there)

  pub source_within : 256 * page_number source + slot_number source * size + size ≤ length words
  source_within = omega (arith, fits source source_taken source_size, source_taken.inside, kept.sized.as_many_words)

  pub copy_within : 256 * page_number place + slot_number place * size + size ≤ length words
  copy_within = omega (arith, fits place copy_taken copy_size, copy_taken.inside, kept.sized.as_many_words)

  module _ (new : List ℕ) (copied : IsCopied words new (256 * page_number source + slot_number source * size) (256 * page_number place + slot_number place * size) size) where
    of_its_size : IsCopied words new (start heads frees words sets free kept source) (start heads frees words sets free kept place) (get_or heads (page_number place) 0 / 2)
    of_its_size = grind (arith, start, source_size, copy_size)

    pub kept-copied : AreStored heads frees new sets free
    kept-copied = kept-block heads frees words sets free kept place new copy_taken of_its_size.others

    block_copied : Some (words_from words (256 * page_number source + slot_number source * (get_or heads (page_number source) 0 / 2)) (get_or heads (page_number place) 0 / 2)) ≡ Some (words_at old source)
    block_copied =
        ap (λ s. Some (words_from words (256 * page_number source + slot_number source * (get_or heads (page_number source) 0 / 2)) s)) (copy_size ∙ sym source_size)
        ∙ (grind (arith, block_at-shown heads frees words source source_taken, block_at-with_taken_there old size place source block is there))

    pub copied_shown : shown_table heads frees new ≡ with_taken old size place (words_at old source)
    copied_shown =
        shown-copied heads frees words place kept.pages new _ copy_taken of_its_size
        ∙ (grind (arith, block_copied, with_block-with_taken))
