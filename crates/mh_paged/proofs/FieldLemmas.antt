-- What a barrier leaves if it found it, and what holds if a field lies.
use Rattle.std.proofs.Common.{◌≡◌, ℕ, Bool, true, false, if◌then◌else◌, [], Option, Some, None, option_map, unwrap_or, is_some, option_and_then, refl, ap, ◌∙◌, subst}
use Rattle.mh_model.specs.{Pages.{Table, block_at, with_block, Leads}, declared.shape.Shape.Shape}
use Rattle.mh_model.specs.Table.{Block, Position, resolve, references_at, forward_at, position_of, reference_in}
use Rattle.mh_model.specs.Collector.{Collector, Marking, is_marked, with_grey, shade_block, shade, marking_of, with_shade}
use Rattle.mh_model.specs.{Mutator.{in_roots_or_mark, before_field}, Invariant.{HasField, IsSteady}}
use Rattle.mh_laws.specs.Fields.{ReferencesLeadOn}
use Rattle.mh_table_laws.proofs.marking.BatchMarking.{leads_of}
use Rattle.mh_grey.proofs.StampLemmas.{change-view}

-- blocks are if they were, with the references that they had
pub record StaysLaid (old new : Table Block) : Type 0 where
  pub there : (place : ℕ) → is_some (block_at new place) ≡ is_some (block_at old place)
  pub references : (place : ℕ) → references_at new place ≡ references_at old place

stays-refl : (table : Table Block) → StaysLaid table table
stays-refl table = record { there = λ q. refl; references = λ q. refl }

stays-stamped : (table : Table Block) (place : ℕ) (block : Block) (stamp : ℕ) → block_at table place ≡ Some block → StaysLaid table (with_block table place (Some (record block { stamp = stamp })))
stays-stamped table place block stamp at =
    let change = λ (b : Block). record b { stamp = stamp } in
    subst (λ (o : Option Block). StaysLaid table (with_block table place (option_map change o))) at (record {
      there = λ q. change-view is_some change (λ b. refl) table place q;
      references = λ q. change-view (λ (o : Option Block). unwrap_or (option_map (λ b. b.references) o) []) change (λ b. refl) table place q;
    })

stays-shade_block : (m : Marking) (place : ℕ) (content : Option Block) → block_at m.table place ≡ content → StaysLaid m.table (shade_block m place content).table
stays-shade_block m place None at = stays-refl m.table
stays-shade_block m place (Some block) at = go (is_marked m.cycle block)
  where
    go : (b : Bool) → StaysLaid m.table (if b then m else with_grey m place block).table
    go true = stays-refl m.table
    go false = stays-stamped m.table place block m.cycle at

stays-shade : (m : Marking) (reference : Option ℕ) → StaysLaid m.table (shade m reference).table
stays-shade m None = stays-refl m.table
stays-shade m (Some place) = stays-shade_block m (resolve m.table place) (block_at m.table (resolve m.table place)) refl

pub stays-before_field : (c : Collector) (position : Position) → StaysLaid c.table (before_field c position).table
stays-before_field c position = go (in_roots_or_mark c.phase)
  where
    go : (b : Bool) → StaysLaid c.table (if b then with_shade c (reference_in c.table position) else c).table
    go true = stays-shade (marking_of c) (reference_in c.table position)
    go false = stays-refl c.table

pub leads-stays : (old new : Table Block) (reference : Option ℕ) → StaysLaid old new → Leads old reference → Leads new reference
leads-stays old new None stays leads = tt
leads-stays old new (Some place) stays leads = stays.there place ∙ leads

pub field-original : (c : Collector) (place : ℕ) (shape : Shape) (field : ℕ) → HasField c place shape field → forward_at c.table (position_of c.table place field).place ≡ None
field-original c place shape field has = ap (option_and_then (λ (b : Block). b.forward)) has.has.plain.there ∙ has.has.plain.original

pub field-leads : ReferencesLeadOn → (c : Collector) → IsSteady c → (place : ℕ) (shape : Shape) (field : ℕ) → HasField c place shape field → Leads c.table (reference_in c.table (position_of c.table place field))
field-leads law c steady place shape field has =
    let at = position_of c.table place field in
    leads_of c.table (reference_in c.table at) (law.words c steady at.place has.block has.has.plain at.index).on
