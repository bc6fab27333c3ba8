-- The first of parts that are made, whose place leaves each page the slots of its class.
use Rattle.std.proofs.Common.{◌≡◌, inl, inr, ℕ, suc, true, Option, Some, None, option_map, option_and_then, List, ◌∷◌, refl, ap, subst, arith}
use Rattle.std.proofs.lemmas.Option.{none-some, same_Some}
use Rattle.mh_model.specs.Classes.{Part, class_of, part_words, is_class_size}
use Rattle.mh_model.specs.Pages.{Page, Table, page_number, slot_number, page_at, least_place, page_for, with_taken, HasItsSlots, HaveTheirSlots}
use Rattle.mh_model.specs.Table.{Block, Made, MadeParts, new_block, made_in_class, made_parts}
use Rattle.mh_table_laws.proofs.{Lists.get_or-set_either, tables.PageSlots.{page_with-slots, page_for-slots}}

-- the first of parts that are made, and those after it
pub record IsFirst (table : Table Block) (birth stamp index : ℕ) (part : Part) (after : List Part) (made : MadeParts) : Type 0 where
  pub size : ℕ
  pub class : class_of (part_words part) ≡ Some size
  pub place : ℕ
  pub least : least_place table size ≡ Some place
  pub rest : MadeParts
  pub rest_is : made_parts (with_taken table size place (new_block birth stamp index part)) birth stamp (suc index) after ≡ Some rest
  pub table_is : rest.table ≡ made.table

pub first-made : (table : Table Block) (birth stamp index : ℕ) (part : Part) (after : List Part) (made : MadeParts) → made_parts table birth stamp index (part ∷ after) ≡ Some made → IsFirst table birth stamp index part after made
first-made table birth stamp index part after made e = by_class (class_of (part_words part)) refl e
  where
    block : Block
    block = new_block birth stamp index part

    -- the parts after a first one
    rest_of : Made → Option MadeParts
    rest_of first = option_map (λ (r : MadeParts). record { places = first.place ∷ r.places; table = r.table }) (made_parts first.table birth stamp (suc index) after)

    by_rest : (size : ℕ) → class_of (part_words part) ≡ Some size → (place : ℕ) → least_place table size ≡ Some place → (rest : Option MadeParts) → made_parts (with_taken table size place block) birth stamp (suc index) after ≡ rest
        → option_map (λ (r : MadeParts). record { places = place ∷ r.places; table = r.table }) rest ≡ Some made → IsFirst table birth stamp index part after made
    by_rest size class place least None is h = absurd (none-some made h)
    by_rest size class place least (Some rest) is h = record { size = size; class = class; place = place; least = least; rest = rest; rest_is = is; table_is = ap (λ (m : MadeParts). m.table) (same_Some (record { places = place ∷ rest.places; table = rest.table }) made h) }

    by_place : (size : ℕ) → class_of (part_words part) ≡ Some size → (place : Option ℕ) → least_place table size ≡ place → option_and_then rest_of (option_map (λ p. record { place = p; table = with_taken table size p block }) place) ≡ Some made → IsFirst table birth stamp index part after made
    by_place size class place is h = search (arith, none-some, by_rest, block)

    by_class : (size : Option ℕ) → class_of (part_words part) ≡ size → option_and_then rest_of (option_and_then (made_in_class table block) size) ≡ Some made → IsFirst table birth stamp index part after made
    by_class size is h = search (arith, none-some, by_place)

-- a place that is taken leaves each page the slots of its class
pub taken-slots : {X : Type 0} (table : Table X) (size place : ℕ) (block : X) → is_class_size size ≡ true → HaveTheirSlots table → HaveTheirSlots (with_taken table size place block)
taken-slots {X = X} table size place block class slots number page at = elim (get_or-set_either table (page_number place) number _ None (Some page) at) [
  | inl written ↦ subst HasItsSlots (same_Some _ page written) (page_with-slots old (slot_number place) (Some block) (page_for-slots size (page_at table (page_number place)) class (λ p is. slots (page_number place) p is)))
  | inr before ↦ slots number page before
]
  where
    old : Page X
    old = page_for size (page_at table (page_number place))
