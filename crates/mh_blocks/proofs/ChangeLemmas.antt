-- Which blocks a table has after one was changed, put or taken back.
use Rattle.std.proofs.Common.{arith, ◌≡◌, ℕ, ◌⊎◌, inl, inr, Bool, true, false, set, Option, Some, None, option_map, option_and_then, sym, ap, ◌∙◌}
use Rattle.std.proofs.{lemmas.Bool.cases_eq, lemmas.Option.{none-some, same_Some}, lemmas.List.get_or-set_other}
use Rattle.mh_table_laws.proofs.{Lists.get_or-set_either, placing.Places.block_in-page_for}
use Rattle.mh_model.specs.Pages.{Page, Table, page_number, slot_number, page_at, block_in, block_at, page_with, with_block, page_for, with_taken, with_released, flagged_as, with_flag}

module _ {X : Type 0} where
  -- a block of a page that was exchanged is one of the new page, or was there
  in_page : (table : Table X) (number place : ℕ) (page : Option (Page X)) (block : X) → block_at (set table number page) place ≡ Some block
      → (option_and_then (block_in (slot_number place)) page ≡ Some block) × (page_number place ≡ number) ⊎ (block_at table place ≡ Some block)
  in_page table number place page block is = grind (arith, cases_eq, inr, get_or-set_other, inl, get_or-set_either)

  in_used : (slot other : ℕ) (content : Option X) (page : Option (Page X)) (block : X) → option_and_then (block_in other) (option_map (page_with slot content) page) ≡ Some block → (content ≡ Some block) ⊎ (option_and_then (block_in other) page ≡ Some block)
  in_used slot other content None block is = inr is
  in_used slot other content (Some page) block is = get_or-set_either page.slots slot other content None (Some block) is

  in_flagged : (is_flagged : Bool) (slot : ℕ) (page : Option (Page X)) (block : X) → option_and_then (block_in slot) (option_map (flagged_as is_flagged) page) ≡ Some block → option_and_then (block_in slot) page ≡ Some block
  in_flagged is_flagged slot None block is = is
  in_flagged is_flagged slot (Some page) block is = is

  pub after_change : (table : Table X) (place other : ℕ) (content : Option X) (block : X) → block_at (with_block table place content) other ≡ Some block → (content ≡ Some block) ⊎ (block_at table other ≡ Some block)
  after_change table place other content block is = grind (arith, in_page, inr, inl, in_used)

  pub after_taking : (table : Table X) (size place other : ℕ) (new block : X) → block_at (with_taken table size place new) other ≡ Some block → (new ≡ block) ⊎ (block_at table other ≡ Some block)
  after_taking table size place other new block is = elim (in_page table (page_number place) other _ block is) [
    | inr old ↦ inr old
    | inl here ↦ elim (get_or-set_either (page_for size (page_at table (page_number place))).slots (slot_number place) (slot_number other) (Some new) None (Some block) here.0) [
      | inl this ↦ inl (same_Some new block this)
      | inr that ↦ inr (ap (λ number. option_and_then (block_in (slot_number other)) (page_at table number)) here.1 ∙ sym (block_in-page_for (page_at table (page_number place)) size (slot_number other)) ∙ that)
    ]
  ]

  pub after_freeing : (table : Table X) (number other : ℕ) (block : X) → block_at (set table number None) other ≡ Some block → block_at table other ≡ Some block
  after_freeing table number other block is = elim (in_page table number other None block is) [ inl new ↦ absurd (none-some block new.0) | inr old ↦ old ]

  pub after_flagging : (table : Table X) (number other : ℕ) (is_flagged : Bool) (block : X) → block_at (with_flag table number is_flagged) other ≡ Some block → block_at table other ≡ Some block
  after_flagging table number other is_flagged block is = grind (arith, in_page, inr, inl, in_flagged)

  pub after_release : (table : Table X) (place other : ℕ) (frees_page : Bool) (block : X) → block_at (with_released table place frees_page) other ≡ Some block → block_at table other ≡ Some block
  after_release table place other true block is = after_freeing table (page_number place) other block is
  after_release table place other false block is = elim (after_change table place other None block is) [ inl new ↦ absurd (none-some block new) | inr old ↦ old ]
