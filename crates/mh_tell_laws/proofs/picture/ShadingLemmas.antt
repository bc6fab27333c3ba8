-- What shading changes of a picture: nothing, or one stamp and the end of the grey list. The edge of a deed says which.
use Rattle.std.proofs.Common.{◌≡◌, ℕ, ◌⊎◌, inl, inr, nat_lt, Bool, true, false, if◌then◌else◌, Option, Some, None, option_map, List, [], ◌∷◌, ◌++◌, length, refl, sym, ap, ◌∙◌, arith}
use Rattle.std.proofs.{lemmas.Bool.{le-ltb, lt-ltb}, lemmas.List.length-append}
use Rattle.mh_model.specs.{declared.cycle.Phase.Phase, declared.deed.Deed.Deed, Pages.{Table, block_at, with_block}}
use Rattle.mh_model.specs.Table.{Block, resolve, target_of}
use Rattle.mh_model.specs.Collector.{Collector, Marking, is_marked, with_grey, shade_block, shade, with_marking}
use Rattle.mh_model.specs.Deeds.{edge_of}
use Rattle.mh_table_laws.specs.TableMaps.{table_map}
use Rattle.mh_tell_laws.specs.Picture.{Picture, Drawn, drawn_of, picture_of, marked_in, shaded, shaded_at, with_edge, drawn, drawn_all}
use Rattle.mh_table_laws.proofs.TableMapLemmas.{block_at-table_map, with_block-table_map}

-- deeds after deeds
pub drawn_all-append : (first second : List Deed) (picture : Picture) → drawn_all picture (first ++ second) ≡ drawn_all (drawn_all picture first) second
drawn_all-append [] second picture = refl
drawn_all-append (deed ∷ first) second picture = drawn_all-append first second (drawn picture deed)

-- what is drawn of a marking, in this phase
abbrev pub marking_picture : Phase → Marking → Picture
marking_picture phase marking = record { table = table_map drawn_of marking.table; grey = marking.grey; cycle = marking.cycle; phase = phase }

pub marked-picture : (collector : Collector) (marking : Marking) → marking.cycle ≡ collector.cycle → picture_of (with_marking collector marking) ≡ marking_picture collector.phase marking
marked-picture collector marking same = ap (λ n. record (marking_picture collector.phase marking) { cycle = n }) (sym same)

-- Shading changes nothing, or marks the block at its target and appends the target to the grey list
pub record IsShaded (phase : Phase) (old new : Marking) (target : Option ℕ) : Type 0 where
  pub case : (new ≡ old) ⊎ ((place : ℕ) × (target ≡ Some place) × (new.grey ≡ old.grey ++ place ∷ []) × (marking_picture phase new ≡ shaded (marking_picture phase old) place))

grey-picture : (phase : Phase) (marking : Marking) (place : ℕ) (block : Block) → block_at marking.table place ≡ Some block → marking_picture phase (with_grey marking place block) ≡ shaded (marking_picture phase marking) place
grey-picture phase marking place block at =
    ap (λ (table : Table Drawn). record { table = table; grey = marking.grey ++ place ∷ []; cycle = marking.cycle; phase = phase })
    (with_block-table_map drawn_of marking.table place (Some (record block { stamp = marking.cycle }))
    ∙ ap (λ content. with_block (table_map drawn_of marking.table) place (option_map (marked_in marking.cycle) content)) (sym (block_at-table_map drawn_of marking.table place ∙ ap (option_map drawn_of) at)))

shade_block-case : (phase : Phase) (marking : Marking) (place : ℕ) (block : Option Block) → block_at marking.table place ≡ block → IsShaded phase marking (shade_block marking place block) (Some place)
shade_block-case phase marking place None at = record { case = inl refl }
shade_block-case phase marking place (Some block) at = go (is_marked marking.cycle block)
  where
    go : (marked : Bool) → IsShaded phase marking (if marked then marking else with_grey marking place block) (Some place)
    go true = record { case = inl refl }
    go false = record { case = inr (place, refl, refl, grey-picture phase marking place block at) }

pub shade-case : (phase : Phase) (marking : Marking) (reference : Option ℕ) → IsShaded phase marking (shade marking reference) (target_of marking.table reference)
shade-case phase marking None = record { case = inl refl }
shade-case phase marking (Some place) = shade_block-case phase marking (resolve marking.table place) (block_at marking.table (resolve marking.table place)) refl

-- the grey list got longer or not
if-longer : (old new : List ℕ) (longer same : Picture) → (test : Bool) → nat_lt (length old) (length new) ≡ test → (if nat_lt (length old) (length new) then longer else same) ≡ (if test then longer else same)
if-longer old new longer same test is = ap (λ b. if b then longer else same) is

-- An edge draws what shading changes
pub edge-drawn : (phase : Phase) (old new : Marking) (target : Option ℕ) → IsShaded phase old new target
    → marking_picture phase new ≡ (if nat_lt (length old.grey) (length new.grey) then shaded_at (marking_picture phase old) target else marking_picture phase old)
edge-drawn phase old new target shades = grind (arith, if-longer, le-ltb, length-append, lt-ltb)

pub shade-drawn : (phase : Phase) (marking : Marking) (reference : Option ℕ) → marking_picture phase (shade marking reference) ≡ with_edge (marking_picture phase marking) (edge_of marking.table reference marking.grey (shade marking reference).grey)
shade-drawn phase marking reference = edge-drawn phase marking (shade marking reference) (target_of marking.table reference) (shade-case phase marking reference)
