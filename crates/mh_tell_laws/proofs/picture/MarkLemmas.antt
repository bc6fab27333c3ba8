-- The deeds of a mark step draw what it changes of a picture.
-- A reference is shaded after it was resolved and written, so where it leads is resolved twice, and the deed names the place of the first time.
-- Both are one place: a grey block's references lead to blocks that are no forwarders (`references_lead_on`).
use Rattle.std.proofs.Common.{◌≡◌, ℕ, suc, if◌then◌else◌, nat_lt, inl, Option, Some, None, option_and_then, List, [], ◌∷◌, length, get_or, drop, set, refl, sym, ap, ◌∙◌, subst, arith}
use Rattle.std.proofs.lemmas.List.{length-set}
use Rattle.mh_model.specs.{declared.cycle.Phase.Phase, Pages.{Table, block_at}}
use Rattle.mh_model.specs.Table.{Block, references_at, with_reference_at, forward_at, resolve, target_of, LeadsHome}
use Rattle.mh_model.specs.Collector.{Collector, Marking, shade, mark_reference, mark_references, mark_first, mark_step, marking_of}
use Rattle.mh_model.specs.{Deeds.{edge_of, reference_deeds, mark_deeds}, Invariant.{IsSteady, IsIn}}
use Rattle.mh_table_laws.proofs.{marking.BatchMarking.written_back-keeps, TableMapLemmas.{block_at-table_map, unseen}}
use Rattle.mh_laws.proofs.fields.FoundFields.{references-lead}
use Rattle.mh_table_laws.specs.TableMaps.{table_map}
use Rattle.mh_tell_laws.specs.Picture.{Picture, Drawn, drawn_of, shaded_at, with_edge, drawn_all}
use Rattle.mh_tell_laws.proofs.picture.ShadingLemmas.{marking_picture, IsShaded, shade-case, edge-drawn}

-- One hop ----------------------------------------------------------------------------------------

-- where a reference leads there is no forwarder
abbrev IsHome : Table Block → Option ℕ → Type 0
IsHome table None = Unit {0}
IsHome table (Some place) = forward_at table (resolve table place) ≡ None

abbrev AreHome : Table Block → List (Option ℕ) → Type 0
AreHome table [] = Unit {0}
AreHome table (reference ∷ references) = IsHome table reference × AreHome table references

-- the forwards of two tables are the same
abbrev SameForwards : Table Block → Table Block → Type 0
SameForwards old new = (place : ℕ) → forward_at new place ≡ forward_at old place

home-same : (old new : Table Block) (reference : Option ℕ) → SameForwards old new → IsHome old reference → IsHome new reference
home-same old new reference same home = grind arith

homes-same : (old new : Table Block) (references : List (Option ℕ)) → SameForwards old new → AreHome old references → AreHome new references
homes-same old new [] same home = tt
homes-same old new (reference ∷ references) same (here, after) = (home-same old new reference same here, homes-same old new references same after)

-- a target leads to itself
target-home : (old new : Table Block) (reference : Option ℕ) → SameForwards old new → IsHome old reference → target_of new (target_of old reference) ≡ target_of old reference
target-home old new reference same home = grind arith

-- forwards are drawn
forward-drawn : (table : Table Block) (place : ℕ) → option_and_then (λ (d : Drawn). d.forward) (block_at (table_map drawn_of table) place) ≡ forward_at table place
forward-drawn table place = grind (arith, block_at-table_map)

forwards-drawn : (old new : Table Block) → table_map drawn_of new ≡ table_map drawn_of old → SameForwards old new
forwards-drawn old new same place = sym (forward-drawn new place) ∙ ap (λ table. option_and_then (λ (d : Drawn). d.forward) (block_at table place)) same ∙ forward-drawn old place

-- References -------------------------------------------------------------------------------------

-- a reference that is written in a block isn't drawn
pub written-unseen : (table : Table Block) (place index : ℕ) (reference : Option ℕ) → table_map drawn_of (with_reference_at table place index reference) ≡ table_map drawn_of table
written-unseen table place index reference = unseen drawn_of table place (λ (block : Block). record block { references = set block.references index reference }) (λ block at. ap (λ count. record (drawn_of block) { fields = record { references = count; numbers = length block.numbers } }) (length-set block.references index reference))

-- One reference
reference-drawn : (phase : Phase) (marking : Marking) (place index : ℕ) (reference : Option ℕ) → IsHome marking.table reference
    → marking_picture phase (mark_reference marking place index reference) ≡ with_edge (marking_picture phase marking) (edge_of marking.table reference marking.grey (mark_reference marking place index reference).grey)
reference-drawn phase marking place index reference home =
    edge-drawn phase written after target (subst (IsShaded phase written after) (target-home marking.table written.table reference (forwards-drawn marking.table written.table unseen_table) home) (shade-case phase written target))
    ∙ ap (λ (picture : Picture). if nat_lt (length marking.grey) (length after.grey) then shaded_at picture target else picture) (ap (λ (table : Table Drawn). record { table = table; grey = marking.grey; cycle = marking.cycle; phase = phase }) unseen_table)
  where
    target : Option ℕ
    target = target_of marking.table reference

    written : Marking
    written = record marking { table = with_reference_at marking.table place index target }

    after : Marking
    after = shade written target

    unseen_table : table_map drawn_of written.table ≡ table_map drawn_of marking.table
    unseen_table = written-unseen marking.table place index target

-- References in order
references-drawn : (references : List (Option ℕ)) (phase : Phase) (marking : Marking) (place index : ℕ) → AreHome marking.table references
    → marking_picture phase (mark_references marking place index references) ≡ drawn_all (marking_picture phase marking) (reference_deeds marking place index references)
references-drawn [] phase marking place index home = refl
references-drawn (reference ∷ references) phase marking place index (here, later) =
    let after : Marking = mark_reference marking place index reference in
    let same : SameForwards marking.table after.table = (written_back-keeps (target_of marking.table reference ∷ []) marking place index).forwards in
    references-drawn references phase after place (suc index) (homes-same marking.table after.table references same later)
    ∙ ap (λ picture. drawn_all picture (reference_deeds after place (suc index) references)) (reference-drawn phase marking place index reference here)

-- Steps ------------------------------------------------------------------------------------------

home-of : (table : Table Block) (reference : Option ℕ) → LeadsHome table reference → IsHome table reference
home-of table reference home = grind arith

homes-of : (table : Table Block) (references : List (Option ℕ)) → ((index : ℕ) → LeadsHome table (get_or references index None)) → AreHome table references
homes-of table [] home = tt
homes-of table (reference ∷ references) home = (home-of table reference (home 0), homes-of table references (λ index. home (suc index)))

-- the references of a grey block lead to blocks that are no forwarders
grey-home : (collector : Collector) → IsSteady collector → (place : ℕ) → IsIn place collector.grey → AreHome collector.table (references_at collector.table place)
grey-home collector steady place listed =
    let (block, plain, stamp) = references-lead.grey collector steady place listed in
    homes-of collector.table (references_at collector.table place) (λ index. (references-lead.words collector steady place block plain index).home)

-- The deeds of a mark step
pub mark-drawn : (phase : Phase) (collector : Collector) → IsSteady collector → marking_picture phase (mark_step (marking_of collector)) ≡ drawn_all (marking_picture phase (marking_of collector)) (mark_deeds (marking_of collector) collector.grey)
mark-drawn phase collector steady = go collector.grey refl
  where
    go : (grey : List ℕ) → collector.grey ≡ grey → marking_picture phase (mark_first (marking_of collector) grey) ≡ drawn_all (marking_picture phase (marking_of collector)) (mark_deeds (marking_of collector) grey)
    go [] is = refl
    go (place ∷ grey) is =
        references-drawn (references_at collector.table place) phase (record (marking_of collector) { grey = grey }) place 0 (grey-home collector steady place (subst (IsIn place) (sym is) (inl refl)))
        ∙ ap (λ rest. drawn_all (record (marking_picture phase (marking_of collector)) { grey = rest }) (reference_deeds (record (marking_of collector) { grey = grey }) place 0 (references_at collector.table place))) (sym (ap (drop 1) is))
