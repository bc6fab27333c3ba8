-- Deeds as a verb and fields, of which each has a key and a value.
use Rattle.std.specs.Prelude.{ℕ, Bool, Option, Some, None, List, [], ◌∷◌, ◌++◌, codes}
use Rattle.mh_model.specs.{declared.deed.Deed.Deed, declared.deed.Edge.Edge, declared.deed.Fate.Fate}
use Rattle.mh_model.specs.{declared.deed.PartName.PartName, declared.deed.QuantumEnd.QuantumEnd}
use Rattle.mh_model.specs.{declared.deed.Tier.Tier, declared.shape.Shape.Shape, Bytes.Text, Deeds.deed_units}
use Rattle.mh_model.specs.Replies.{phase_word}

-- what a field says: a number, a place, a word, yes or no, or nothing
pub data Value : Type 0 where
  Number : ℕ → Value
  At : ℕ → Value
  Word : Text → Value
  Flag : Bool → Value
  Nothing : Value

-- A key and its value
pub record Field : Type 0 where
  pub key : Text
  pub value : Value

abbrev pub field : Text → Value → Field
field key value = record { key = key; value = value }

-- a place, if there is one
abbrev pub optional_place : Option ℕ → Value
optional_place None = Nothing
optional_place (Some place) = At place

-- the fields of a block's name: which object, and which part of it
abbrev pub name_fields : PartName → List Field
name_fields name = field (codes "birth") (Number name.birth) ∷ field (codes "part") (Number name.part) ∷ []

-- where a reference leads from and to, and whether the block there became grey
abbrev pub edge_fields : Edge → List Field
edge_fields edge = field (codes "from") (optional_place edge.reference) ∷ field (codes "to") (optional_place edge.target) ∷ field (codes "shaded") (Flag edge.is_shaded) ∷ []

-- what became of a slot
abbrev pub fate_fields : Fate → List Field
fate_fields Fate.Empty = field (codes "fate") (Word (codes "empty")) ∷ []
fate_fields (Fate.Kept name) = field (codes "fate") (Word (codes "kept")) ∷ name_fields name
fate_fields (Fate.Freed name) = field (codes "fate") (Word (codes "freed")) ∷ name_fields name
fate_fields (Fate.FreedForwarder target) = field (codes "fate") (Word (codes "forwarder")) ∷ field (codes "to") (At target) ∷ []

-- the word of a tier
abbrev pub tier_word : Tier → Text
tier_word Tier.Dense = codes "dense"
tier_word Tier.Fresh = codes "free"
tier_word Tier.Sparse = codes "sparse"

-- the class of a new part, its counts, and the tier in which its place was found
abbrev pub made_fields : ℕ → Shape → Tier → List Field
made_fields class_size fields tier =
    field (codes "class") (Number class_size) ∷ field (codes "references") (Number fields.references) ∷ field (codes "numbers") (Number fields.numbers) ∷ field (codes "tier") (Word (tier_word tier)) ∷ []

-- The verb of a deed
abbrev pub deed_verb : Deed → Text
deed_verb (Deed.Start cycle) = codes "start"
deed_verb (Deed.Enter phase) = codes "enter"
deed_verb Deed.End = codes "end"
deed_verb (Deed.Root slot edge) = codes "root"
deed_verb (Deed.Mark place name) = codes "mark"
deed_verb (Deed.Reference index edge) = codes "reference"
deed_verb (Deed.Pass page) = codes "pass"
deed_verb (Deed.Sweep place fate) = codes "sweep"
deed_verb (Deed.FreePage page) = codes "free"
deed_verb (Deed.FlagPage page) = codes "flag"
deed_verb (Deed.UnflagPage page) = codes "unflag"
deed_verb (Deed.Stay place) = codes "stay"
deed_verb (Deed.Move place to name class_size) = codes "move"
deed_verb Deed.ForwardRoots = codes "forward"
deed_verb (Deed.Shade place) = codes "shade"
deed_verb (Deed.Make place name class_size fields tier) = codes "make"

-- The fields of a deed
abbrev pub deed_fields : Deed → List Field
deed_fields (Deed.Start cycle) = field (codes "cycle") (Number cycle) ∷ []
deed_fields (Deed.Enter phase) = field (codes "phase") (Word (phase_word phase)) ∷ []
deed_fields Deed.End = []
deed_fields (Deed.Root slot edge) = field (codes "slot") (Number slot) ∷ edge_fields edge
deed_fields (Deed.Mark place name) = field (codes "place") (At place) ∷ name_fields name
deed_fields (Deed.Reference index edge) = field (codes "index") (Number index) ∷ edge_fields edge
deed_fields (Deed.Pass page) = field (codes "page") (Number page) ∷ []
deed_fields (Deed.Sweep place fate) = field (codes "place") (At place) ∷ fate_fields fate
deed_fields (Deed.FreePage page) = field (codes "page") (Number page) ∷ []
deed_fields (Deed.FlagPage page) = field (codes "page") (Number page) ∷ []
deed_fields (Deed.UnflagPage page) = field (codes "page") (Number page) ∷ []
deed_fields (Deed.Stay place) = field (codes "place") (At place) ∷ []
deed_fields (Deed.Move place to name class_size) = field (codes "place") (At place) ∷ field (codes "to") (At to) ∷ (name_fields name ++ field (codes "class") (Number class_size) ∷ [])
deed_fields Deed.ForwardRoots = []
deed_fields (Deed.Shade place) = field (codes "place") (At place) ∷ []
deed_fields (Deed.Make place name class_size fields tier) = field (codes "place") (At place) ∷ (name_fields name ++ made_fields class_size fields tier)

-- what a deed of a quantum cost, and what it left of the quantum
abbrev pub cost_fields : Deed → ℕ → List Field
cost_fields deed left = field (codes "units") (Number (deed_units deed)) ∷ field (codes "left") (Number left) ∷ []

-- what a quantum spent in all, and the phase that it ended in
abbrev pub end_fields : QuantumEnd → List Field
end_fields ended = field (codes "spent") (Number ended.units) ∷ field (codes "phase") (Word (phase_word ended.phase)) ∷ []
