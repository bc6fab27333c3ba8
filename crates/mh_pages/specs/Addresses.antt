-- Where the words of a block stand among the words of all pages.
use Rattle.std.specs.Prelude.{ℕ, ◌+◌, ◌*◌, unwrap_or}
use Rattle.mh_model.specs.Pages.{Table, page_number, slot_number, class_at}

-- a block's place, and the number of its first word among the words of all pages
pub record Address : Type 0 where
  pub place : ℕ
  pub word : ℕ

-- the address of the block at a place: its first word is word 256 * page + slot * class.
-- A page has 256 words, and its blocks stand one after another from its first
abbrev pub address_in : {X : Type 0} → Table X → ℕ → Address
address_in table place = record { place = place; word = 256 * page_number place + slot_number place * unwrap_or (class_at table (page_number place)) 0 }
