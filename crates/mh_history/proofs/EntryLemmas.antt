-- The units of an entry.
use Rattle.std.proofs.Common.{◌≡◌, ℕ, Option, Some, None, option_and_then, List, [], ◌∷◌, length, refl, arith}
use Rattle.std.specs.Prelude.{codes}
use Rattle.mh_model.specs.{declared.history.Entry.Entry, declared.history.Version.TheVariants.Two}
use Rattle.mh_model.specs.{Bytes.{Text, numbers}, HistoryTexts.{halves_at, entry_of, measured_with, measured_of}}
use Rattle.mh_text.specs.Words.{few_numbers}
use Rattle.mh_text.proofs.WordLemmas.{none_of}

measured_other : (entry : Entry) (found : List ℕ) → (length found ≡ 2 → ⊥) → measured_with entry found ≡ None
measured_other entry [] other = refl
measured_other entry (a ∷ []) other = refl
measured_other entry (a ∷ b ∷ []) other = absurd (other refl)
measured_other entry (a ∷ b ∷ c ∷ found) other = refl

pub units_none : (words : List Text) → few_numbers words ≡ None → (entry : Entry) → option_and_then (measured_with entry) (numbers words) ≡ None
units_none words few entry = none_of (measured_with entry) (λ found many. measured_other entry found (λ two. omega arith)) words few

no_units_by : (entry : Option Entry) (after : List Text) → ((entry : Entry) → option_and_then (measured_with entry) (numbers after) ≡ None)
    → option_and_then (λ entry. option_and_then (measured_with entry) (numbers after)) entry ≡ None
no_units_by None after none = refl
no_units_by (Some entry) after none = none entry

pub no_units : (line before after : List Text) → halves_at (codes "units") line ≡ Some (record { before = before; after = after }) → ((entry : Entry) → option_and_then (measured_with entry) (numbers after) ≡ None) → measured_of line ≡ None
no_units line before after is none = rw is (no_units_by (entry_of Two before) after none)
