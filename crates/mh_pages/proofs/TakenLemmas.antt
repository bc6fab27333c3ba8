-- A place taken with the words that stood there, and its block's words set to 0.
use Rattle.std.proofs.Common.{◌≡◌, ℕ, ◌+◌, ◌*◌, ◌/◌, ◌≤◌, Bool, Some, is_some, List, length, get_or, replicate, ap, ◌∙◌, sym, subst, arith}
use Rattle.std.proofs.lemmas.Option.{same_Some}
use Rattle.mh_model.specs.Pages.{Table, page_number, slot_number, block_at, class_at, with_block, with_taken, IsFreeFor}
use Rattle.mh_bits.specs.Bits.{IsZeroed}
use Rattle.mh_pages.specs.Auxiliary.{shown_table, AreStored}
use Rattle.mh_table_laws.proofs.placing.Places.{block_at-with_taken_same, with_block-with_taken}
use Rattle.mh_pages.proofs.{TableLemmas.class_taken, ShownLemmas.IsTaken, WriteLemmas.{shown-zeroed, zeroed_inside}}
use Rattle.mh_pages.proofs.KeptLemmas.{start, start_few, block_of, class_shown, kept-block}

-- the words of a place with a block are as many as its page's class
pub size_shown : (heads frees words : List ℕ) (sets : List Bool) (free : ℕ) → AreStored heads frees words sets free → (table : Table (List ℕ)) (size : ℕ) → shown_table heads frees words ≡ table
    → (other : ℕ) → IsTaken heads frees other → class_at table (page_number other) ≡ Some size → get_or heads (page_number other) 0 / 2 ≡ size
size_shown heads frees words sets free kept table size shown other its e =
    same_Some _ _ (sym (class_shown heads frees words sets free kept (page_number other) (record { inside = its.inside; used = its.used })) ∙ (ap (λ t. class_at t (page_number other)) shown ∙ e))

module _ (heads frees words : List ℕ) (sets : List Bool) (free : ℕ) (kept : AreStored heads frees words sets free) (old table : Table (List ℕ)) (size place : ℕ) (block : List ℕ)
    (shown : shown_table heads frees words ≡ table) (taken : table ≡ with_taken old size place block) (is : IsFreeFor old size place) where
  pub place_taken : IsTaken heads frees place
  place_taken = block_of heads frees words sets free kept table place shown (ap (λ t. is_some (block_at t place)) taken ∙ ap is_some (block_at-with_taken_same old size place block is))

  pub size_taken : get_or heads (page_number place) 0 / 2 ≡ size
  size_taken = size_shown heads frees words sets free kept table size shown place place_taken (ap (λ t. class_at t (page_number place)) taken ∙ class_taken old size place block is)

  pub block_within : 256 * page_number place + slot_number place * (get_or heads (page_number place) 0 / 2) + size ≤ length words
  block_within = omega (arith, start_few heads frees words sets free kept place place_taken, size_taken)

  module _ (new : List ℕ) (zeroed : IsZeroed words new (256 * page_number place + slot_number place * (get_or heads (page_number place) 0 / 2)) (256 * page_number place + slot_number place * (get_or heads (page_number place) 0 / 2) + size)) where
    of_its_size : IsZeroed words new (start heads frees words sets free kept place) (start heads frees words sets free kept place + get_or heads (page_number place) 0 / 2)
    of_its_size = grind (arith, start, size_taken)

    pub kept-cleared : AreStored heads frees new sets free
    kept-cleared = kept-block heads frees words sets free kept place new place_taken (zeroed_inside words new _ _ of_its_size)

    pub cleared_shown : shown_table heads frees new ≡ with_taken old size place (replicate size 0)
    cleared_shown = grind (arith, shown-zeroed, place_taken, of_its_size, size_taken, with_block-with_taken)
