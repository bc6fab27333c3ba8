-- What tables of any blocks do: one block less, and the classes of pages if a place is taken.
use Rattle.std.proofs.Common.{◌≡◌, ℕ, ◌+◌, ◌<◌, inl, inr, Option, Some, None, is_some, IsSome, option_map, option_and_then, unwrap_or, length, refl, ap, ◌∙◌, sym, arith, get_or-set_same, get_or-set_other}
use Rattle.std.proofs.lemmas.Bool.{cases_eq, false≢true}
use Rattle.mh_table_laws.proofs.{Lists.there_below, placing.Places.{taken_page, block_count-removed}}
use Rattle.mh_model.specs.Pages.{Page, Table, page_number, slot_number, page_at, block_in, block_at, live_in, count_at, class_at, page_with, page_for, with_block, with_taken, IsFreeFor}

module _ {X : Type 0} where
  -- Places ---------------------------------------------------------------------------------------

  -- a place with a block is in a page in use
  pub record HasPage (table : Table X) (place : ℕ) : Type 0 where
    pub page : Page X
    pub is : page_at table (page_number place) ≡ Some page
    pub inside : page_number place < length table
    pub within : slot_number place < length page.slots
    pub there : IsSome (block_in (slot_number place) page)

  pub page_of_block : (table : Table X) (place : ℕ) → IsSome (block_at table place) → HasPage table place
  page_of_block table place some = go (page_at table (page_number place)) refl
    where
      go : (o : Option (Page X)) → page_at table (page_number place) ≡ o → HasPage table place
      go None e = grind arith
      go (Some page) e =
          let there : IsSome (block_in (slot_number place) page) = sym (ap (λ p. is_some (option_and_then (block_in (slot_number place)) p)) e) ∙ some in
          grind (arith, there_below table (page_number place) (ap is_some e), there_below page.slots (slot_number place) there)

  -- the page of a place after a change of its content
  pub page_after : (table : Table X) (place : ℕ) (content : Option X) (has : HasPage table place) → page_at (with_block table place content) (page_number place) ≡ Some (page_with (slot_number place) content has.page)
  page_after table place content has = grind (arith, get_or-set_same)

  -- A page has one block less after one was taken away
  pub count_after : (table : Table X) (place : ℕ) → IsSome (block_at table place) → count_at (with_block table place None) (page_number place) + 1 ≡ count_at table (page_number place)
  count_after table place some =
      let has = page_of_block table place some in
      omega (arith, ap (λ p. unwrap_or (option_map live_in p) 0) (page_after table place None has), block_count-removed has.page.slots (slot_number place) has.there, ap (λ p. unwrap_or (option_map live_in p) 0) has.is)

  -- Places taken ---------------------------------------------------------------------------------

  pub class_taken : (table : Table X) (size place : ℕ) (block : X) → IsFreeFor table size place → class_at (with_taken table size place block) (page_number place) ≡ Some size
  class_taken table size place block is = grind (arith, taken_page)

  -- a page in use keeps its class as a place is taken in another, and in it too
  pub other_class : (table : Table X) (size place : ℕ) (block : X) (other : ℕ) → IsFreeFor table size place → IsSome (page_at table other) → class_at (with_taken table size place block) other ≡ class_at table other
  other_class table size place block other is some = grind (arith, cases_eq, get_or-set_other, false≢true, taken_page)
