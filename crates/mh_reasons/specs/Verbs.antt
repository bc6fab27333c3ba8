-- The words that numbers follow, and the bounds of these numbers.
use Rattle.std.specs.Prelude.{◌≡◌, ℕ, Bool, true, false, if◌then◌else◌, Option, Some, None, option_map, List, [], ◌∷◌, codes}
use Rattle.mh_model.specs.{Bytes.{Text, is_text, is_name}, Forms.{Row, u32, u64, command_rows, control_rows}}
use Rattle.mh_model.specs.declared.history.Version.{Version}
use Rattle.mh_reasons.specs.declared.verb.Verb.{Verb}

-- a verb as it is written
abbrev pub verb_text : Verb → Text
verb_text Verb.Config = codes "config"
verb_text Verb.New = codes "new"
verb_text Verb.Get = codes "get"
verb_text Verb.Put = codes "put"
verb_text Verb.Copy = codes "copy"
verb_text Verb.Clear = codes "clear"
verb_text Verb.Read = codes "read"
verb_text Verb.Write = codes "write"
verb_text Verb.Same = codes "same"
verb_text Verb.Shape = codes "shape"
verb_text Verb.Post = codes "post"
verb_text Verb.Take = codes "take"
verb_text Verb.End = codes "end"
verb_text Verb.Quantum = codes "quantum"
verb_text Verb.Start = codes "start"
verb_text Verb.Stat = codes "stat"
verb_text Verb.Dump = codes "dump"
verb_text Verb.Report = codes "report"
verb_text Verb.Left = codes "left"
verb_text Verb.Rules = codes "rules"
verb_text Verb.Units = codes "units"

-- the bounds of the numbers that follow it
abbrev pub verb_bounds : Verb → List ℕ
verb_bounds Verb.Config = u64 ∷ u64 ∷ u64 ∷ u64 ∷ []
verb_bounds Verb.New = u32 ∷ u32 ∷ u32 ∷ []
verb_bounds Verb.Get = u32 ∷ u32 ∷ u32 ∷ []
verb_bounds Verb.Put = u32 ∷ u32 ∷ u32 ∷ []
verb_bounds Verb.Copy = u32 ∷ u32 ∷ []
verb_bounds Verb.Clear = u32 ∷ []
verb_bounds Verb.Read = u32 ∷ u32 ∷ []
verb_bounds Verb.Write = u32 ∷ u32 ∷ u64 ∷ []
verb_bounds Verb.Same = u32 ∷ u32 ∷ []
verb_bounds Verb.Shape = u32 ∷ []
verb_bounds Verb.Post = u32 ∷ u32 ∷ []
verb_bounds Verb.Take = u32 ∷ u32 ∷ []
verb_bounds Verb.Report = u64 ∷ []
verb_bounds Verb.Rules = u64 ∷ u64 ∷ u64 ∷ u64 ∷ u64 ∷ []
verb_bounds Verb.Units = u64 ∷ u64 ∷ []
verb_bounds other = []

-- the bounds of the numbers after the first row's word that is this one
abbrev pub bounds_of : {X : Type 0} → List (Row X) → Text → Option (List ℕ)
bounds_of [] word = None
bounds_of (row ∷ rows) word = if is_text word row.verb then Some row.bounds else bounds_of rows word

-- the verb that a row's word is, if it is one
abbrev pub NamesRow : {X : Type 0} → List (Row X) → Text → Option Verb → Type 0
NamesRow rows word None = bounds_of rows word ≡ None
NamesRow rows word (Some verb) = (word ≡ verb_text verb) × (bounds_of rows word ≡ Some (verb_bounds verb))

-- the bounds of the numbers after the word of the configuration, whose limits are another matter
abbrev pub config_bounds : Text → Option (List ℕ)
config_bounds word = if is_text word (codes "config") then Some (u64 ∷ u64 ∷ u64 ∷ u64 ∷ []) else None

-- the bounds of the numbers after a name, or after `*`, and a word
abbrev pub event_bounds : Version → Text → Text → Option (List ℕ)
event_bounds version name word = if is_text name (codes "*") then bounds_of (control_rows version) word else (if is_name name then bounds_of command_rows word else None)

-- Words that are a verb of the grammar, the bounds of the numbers that it takes, and what follows it
pub record Usage : Type 0 where
  pub verb : Text
  pub bounds : List ℕ
  pub given : List Text

-- the usage that a line's words begin with, before and after the configuration, with the controls of a version
abbrev pub usage_of : Version → Bool → List Text → Option Usage
usage_of version false (word ∷ given) = option_map (λ bounds. record { verb = word; bounds = bounds; given = given }) (config_bounds word)
usage_of version true (name ∷ word ∷ given) = option_map (λ bounds. record { verb = word; bounds = bounds; given = given }) (event_bounds version name word)
usage_of _ _ _ = None
