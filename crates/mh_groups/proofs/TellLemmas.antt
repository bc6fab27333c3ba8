-- What a making tells of its parts.
use Rattle.std.proofs.Common.{◌≡◌, ◌≢◌, ℕ, zero, suc, ◌+◌, ◌<◌, ◌≤◌, Bool, false, inl, inr, List, [], ◌∷◌, ◌++◌, length, get_or, set, take, slice_get, Option, Some, None, IsSome, is_none, option_map, unwrap_or, refl, ap, ◌∙◌, arith}
use Rattle.std.proofs.lemmas.Bool.{cases_eq}
use Rattle.std.proofs.lemmas.List.{get_or-set_same, get_or-set_other, get_or-take, get_or_append_left, length-take}
use Rattle.std.proofs.lemmas.Option.{none-some, same_Some}
use Rattle.mh_model.specs.{Classes.Part, Deeds.{tier_of, made_deed, make_deeds}}
use Rattle.mh_model.specs.Pages.{Page, Table, page_number, slot_number, page_at, block_at, class_at, flag_at, page_with, page_for, with_taken, IsFreeFor}
use Rattle.mh_model.specs.Table.{Block, Made, made_part}
use Rattle.mh_groups.specs.Auxiliary.{tier_by, tier_at, placed_deed, placed_deeds, AreUnlinked}
use Rattle.mh_table_laws.proofs.{Lists.{from_some, to_some, below_length}, placing.Places.{block-slot, taken_page}}

-- One part ---------------------------------------------------------------------------------------

-- the tier by the page as it was before
tier-before : (table : Table Block) (place : ℕ) (is_fresh : Bool) → is_fresh ≡ is_none (class_at table (page_number place)) → tier_at table place is_fresh ≡ tier_of (page_at table (page_number place))
tier-before table place is_fresh fresh_is = ap (tier_at table place) fresh_is ∙ go (page_at table (page_number place))
  where
    go : (content : Option (Page Block)) → tier_by (unwrap_or (option_map (λ (page : Page Block). page.is_flagged) content) false) (is_none (option_map (λ (page : Page Block). page.class_size) content)) ≡ tier_of content
    go None = refl
    go (Some page) = refl

abbrev flag_in : Option (Page Block) → Bool
flag_in content = unwrap_or (option_map (λ page. page.is_flagged) content) false

-- a block that is put at a place changes no flag
flags-taken : (table : Table Block) (size place : ℕ) (block : Block) → IsFreeFor table size place → (number : ℕ) → flag_at (with_taken table size place block) number ≡ flag_at table number
flags-taken table size place block free number = elim (cases_eq number (page_number place)) [
  | inl same ↦ rw same (ap flag_in (taken_page table size place block free) ∙ go (page_at table (page_number place)))
  | inr apart ↦ ap flag_in (get_or-set_other table (page_number place) number _ None apart)
]
  where
    go : (content : Option (Page Block)) → flag_in (Some (page_with (slot_number place) (Some block) (page_for size content))) ≡ flag_in content
    go None = refl
    go (Some page) = refl

-- Parts so far -----------------------------------------------------------------------------------

-- the same flags tell the same
deeds-flags : (list : List Part) (table new : Table Block) (birth : ℕ) (places : List ℕ) (fresh : List Bool) (index : ℕ) → ((number : ℕ) → flag_at new number ≡ flag_at table number) → placed_deeds new birth places fresh index list ≡ placed_deeds table birth places fresh index list
deeds-flags [] table new birth places fresh index same = refl
deeds-flags (part ∷ list) table new birth places fresh index same = grind arith

-- what is written past so many places changes nothing
deeds-set : (list : List Part) (table : Table Block) (birth : ℕ) (places : List ℕ) (fresh : List Bool) (index at place : ℕ) (is_fresh : Bool) → index + length list ≤ at → placed_deeds table birth (set places at place) (set fresh at is_fresh) index list ≡ placed_deeds table birth places fresh index list
deeds-set [] table birth places fresh index at place is_fresh past = refl
deeds-set (part ∷ list) table birth places fresh index at place is_fresh past =
    let apart : index ≢ at = λ same. absurd (omega arith) in
    rw (get_or-set_other places at index place 0 apart, get_or-set_other fresh at index is_fresh false apart)
    (ap (λ deeds. placed_deed table birth places fresh index part ∷ deeds) (deeds-set list table birth places fresh (suc index) at place is_fresh (omega arith)))

-- the last of so many
pub deeds-last : (list : List Part) (table : Table Block) (birth : ℕ) (places : List ℕ) (fresh : List Bool) (index count number : ℕ) (part : Part) → slice_get list count ≡ Some part → index + count ≡ number
    → placed_deeds table birth places fresh index (take (suc count) list) ≡ placed_deeds table birth places fresh index (take count list) ++ placed_deed table birth places fresh number part ∷ []
deeds-last [] table birth places fresh index count number part at is = absurd (none-some part at)
deeds-last (first ∷ list) table birth places fresh index zero number part at is = grind (arith, same_Some)
deeds-last (first ∷ list) table birth places fresh index (suc count) number part at is =
    ap (λ deeds. placed_deed table birth places fresh index first ∷ deeds) (deeds-last list table birth places fresh (suc index) count number part at (omega arith))

-- one part more
pub deeds-more : (table : Table Block) (birth size place : ℕ) (block : Block) (places : List ℕ) (fresh : List Bool) (list : List Part) (count : ℕ) (part : Part) (is_fresh : Bool) → IsFreeFor table size place → is_fresh ≡ is_none (class_at table (page_number place))
    → count < length places → count < length fresh → slice_get list count ≡ Some part
    → placed_deeds (with_taken table size place block) birth (set places count place) (set fresh count is_fresh) 0 (take (suc count) list) ≡ placed_deeds table birth places fresh 0 (take count list) ++ made_deed table birth count part place ∷ []
deeds-more table birth size place block places fresh list count part is_fresh free fresh_is room room' at =
    deeds-last list new birth (set places count place) (set fresh count is_fresh) 0 count count part at (omega arith)
    ∙ ap (λ deeds. deeds ++ placed_deed new birth (set places count place) (set fresh count is_fresh) count part ∷ [])
    (deeds-set (take count list) new birth places fresh 0 count place is_fresh (omega (arith, length-take count list)) ∙ deeds-flags (take count list) table new birth places fresh 0 flags)
    ∙ ap (λ deed. placed_deeds table birth places fresh 0 (take count list) ++ deed ∷ []) here
  where
    new : Table Block
    new = with_taken table size place block

    flags : (number : ℕ) → flag_at new number ≡ flag_at table number
    flags = flags-taken table size place block free

    here : placed_deed new birth (set places count place) (set fresh count is_fresh) count part ≡ made_deed table birth count part place
    here = grind (arith, get_or-set_same, flags, tier-before)

-- The model's deeds ------------------------------------------------------------------------------

pub make_deeds-more : (table : Table Block) (birth stamp index : ℕ) (part : Part) (parts : List Part) (made : Made) → made_part table birth stamp index part ≡ Some made
    → make_deeds table birth stamp index (part ∷ parts) ≡ made_deed table birth index part made.place ∷ make_deeds made.table birth stamp (suc index) parts
make_deeds-more table birth stamp index part parts made e = grind arith

-- Telling ----------------------------------------------------------------------------------------

-- the page of a block is in the table
pub page-inside : (table : Table Block) (place : ℕ) → IsSome (block_at table place) → page_number place < length table
page-inside table place there = grind (arith, from_some, block-slot, below_length)

found-below : {X : Type 0} (list : List X) (i : ℕ) → i < length list → (x : X) × (slice_get list i ≡ Some x)
found-below [] i below = absurd (omega arith)
found-below (x ∷ list) zero below = (x, refl)
found-below (x ∷ list) (suc i) below = found-below list i (omega arith)

-- each part stands where it was put
pub parts-there : (table : Table Block) (places rest all : List ℕ) (list : List Part) (size : ℕ) → all ≡ take size (places ++ rest) → length list ≤ size → length list ≤ length places → AreUnlinked table places list 0
    → (number : ℕ) → number < length list → IsSome (block_at table (get_or all number 0))
parts-there table places rest all list size is many enough unlinked number below =
    let (part, at) = found-below list number below in
    let one = unlinked number part (omega arith) at in
    grind (arith, get_or-take, get_or_append_left, to_some)
