-- Deeds as rows of numbers, of which the first is the kind of the deed.
use Rattle.std.specs.Prelude.{ℕ, suc, ◌==◌, Bool, true, false, not, ◌&&◌, ◌||◌, if◌then◌else◌, Option, Some, None, List, [], ◌∷◌, ◌++◌, flat_map, codes, decimal}
use Rattle.mh_model.specs.{declared.deed.Deed.Deed, declared.deed.Edge.Edge, declared.deed.Fate.Fate}
use Rattle.mh_model.specs.{declared.deed.PartName.PartName, declared.deed.Tier.Tier, declared.shape.Shape.Shape}
use Rattle.mh_model.specs.{Bytes.Text, Numbered.{phase_number, flag_number}}
use Rattle.mh_tell_show.specs.Cursor.{moves_cursor, moves_next}

-- A row: the kind of what it has, and its numbers, of which some may be missing
pub record PageRow : Type 0 where
  pub kind : ℕ
  pub numbers : List (Option ℕ)

abbrev pub row_of : ℕ → List (Option ℕ) → PageRow
row_of kind numbers = record { kind = kind; numbers = numbers }

-- the number of a tier
abbrev pub tier_number : Tier → ℕ
tier_number Tier.Dense = 0
tier_number Tier.Fresh = 1
tier_number Tier.Sparse = 2

-- the numbers of a block's name: which object, and which part of it
abbrev pub name_numbers : PartName → List (Option ℕ)
name_numbers name = Some name.birth ∷ Some name.part ∷ []

-- where a reference led from and to, and whether the block there became grey
abbrev pub edge_numbers : Edge → List (Option ℕ)
edge_numbers edge = edge.reference ∷ edge.target ∷ Some (flag_number edge.is_shaded) ∷ []

-- what became of a slot
abbrev pub fate_numbers : Fate → List (Option ℕ)
fate_numbers Fate.Empty = Some 0 ∷ []
fate_numbers (Fate.Kept name) = Some 1 ∷ name_numbers name
fate_numbers (Fate.Freed name) = Some 2 ∷ name_numbers name
fate_numbers (Fate.FreedForwarder target) = Some 3 ∷ Some target ∷ []

-- the class of a new part, its counts, and its tier
abbrev pub made_numbers : ℕ → Shape → Tier → List (Option ℕ)
made_numbers class_size fields tier = Some class_size ∷ Some fields.references ∷ Some fields.numbers ∷ Some (tier_number tier) ∷ []

-- The row of a deed
abbrev pub deed_row : Deed → PageRow
deed_row (Deed.Start cycle) = row_of 0 (Some cycle ∷ [])
deed_row (Deed.Enter phase) = row_of 1 (Some (phase_number phase) ∷ [])
deed_row Deed.End = row_of 2 []
deed_row (Deed.Root slot edge) = row_of 3 (Some slot ∷ edge_numbers edge)
deed_row (Deed.Mark place name) = row_of 4 (Some place ∷ name_numbers name)
deed_row (Deed.Reference index edge) = row_of 5 (Some index ∷ edge_numbers edge)
deed_row (Deed.Pass page) = row_of 6 (Some page ∷ [])
deed_row (Deed.Sweep place fate) = row_of 7 (Some place ∷ fate_numbers fate)
deed_row (Deed.FreePage page) = row_of 8 (Some page ∷ [])
deed_row (Deed.FlagPage page) = row_of 9 (Some page ∷ [])
deed_row (Deed.UnflagPage page) = row_of 10 (Some page ∷ [])
deed_row (Deed.Stay place) = row_of 11 (Some place ∷ [])
deed_row (Deed.Move place to name class_size) = row_of 12 (Some place ∷ Some to ∷ (name_numbers name ++ Some class_size ∷ []))
deed_row Deed.ForwardRoots = row_of 13 []
deed_row (Deed.Shade place) = row_of 14 (Some place ∷ [])
deed_row (Deed.Make place name class_size fields tier) = row_of 15 (Some place ∷ (name_numbers name ++ made_numbers class_size fields tier))

-- Deeds that are left out of long runs ------------------------------------------------------------

-- whether a slot with this fate is freed
abbrev pub frees : Fate → Bool
frees Fate.Empty = false
frees (Fate.Kept name) = false
frees (Fate.Freed name) = true
frees (Fate.FreedForwarder target) = true

-- a deed changes what is drawn of pages, slots, the grey list or the phase
abbrev pub is_drawn : Deed → Bool
is_drawn (Deed.Root slot edge) = edge.is_shaded
is_drawn (Deed.Reference index edge) = edge.is_shaded
is_drawn (Deed.Pass page) = false
is_drawn (Deed.Sweep place fate) = frees fate
is_drawn (Deed.Stay place) = false
is_drawn Deed.ForwardRoots = false
is_drawn _ = true

-- a deed before these is kept of a long run: it changes what is drawn, or it moves the cursor and the next deed doesn't
abbrev pub is_kept : Deed → List Deed → Bool
is_kept deed later = is_drawn deed || (moves_cursor deed && not (moves_next later))

-- the deeds that are kept of a long run
abbrev pub kept_deeds : List Deed → List Deed
kept_deeds [] = []
kept_deeds (deed ∷ later) = if is_kept deed later then deed ∷ kept_deeds later else kept_deeds later

-- all deeds, or those alone that are kept of a long run
abbrev pub shown_deeds : Bool → List Deed → List Deed
shown_deeds true deeds = deeds
shown_deeds false deeds = kept_deeds deeds

-- Roots ------------------------------------------------------------------------------------------

-- two references are the same, or both are null
abbrev pub same_reference : Option ℕ → Option ℕ → Bool
same_reference None None = true
same_reference (Some a) (Some b) = a == b
same_reference _ _ = false

-- each root slot, from this one on, that an event left with another reference, and that reference
abbrev pub root_rows : ℕ → List (Option ℕ) → List (Option ℕ) → List PageRow
root_rows slot (was ∷ before) (is ∷ after) = if same_reference was is then root_rows (suc slot) before after else row_of slot (is ∷ []) ∷ root_rows (suc slot) before after
root_rows slot _ _ = []

-- Texts ------------------------------------------------------------------------------------------

-- a number, or -1 where there is none
abbrev pub number_text : Option ℕ → Text
number_text None = codes "-1"
number_text (Some n) = decimal n

-- `[KIND,NUMBER,..]`
abbrev pub row_text : PageRow → Text
row_text row = 91 ∷ (decimal row.kind ++ (flat_map (λ n. 44 ∷ number_text n) row.numbers ++ codes "]"))

-- texts in order, each with a comma after it, and a 0 that ends them
abbrev pub listed : {X : Type 0} → (X → Text) → List X → Text
listed text_of items = 91 ∷ (flat_map (λ item. text_of item ++ codes ",") items ++ codes "0]")

-- the rows of deeds, all or those alone that are kept of a long run
abbrev pub deed_rows_text : Bool → List Deed → Text
deed_rows_text is_whole deeds = listed (λ deed. row_text (deed_row deed)) (shown_deeds is_whole deeds)
