-- What holds of the verb and the bounds of each row of the forms holds of the phrase of each command and each control.
use Rattle.std.proofs.{Common.{◌≡◌, ℕ, suc, Bool, true, Some, List, ◌∷◌, slice_get, arith}, lemmas.Bool.and_parts}
use Rattle.std.proofs.lemmas.Option.{none-some, same_Some}
use Rattle.std.specs.List.{list_all}
use Rattle.mh_model.specs.{declared.command.Command.Command, declared.command.Control.Control}
use Rattle.mh_model.specs.{declared.history.Version.TheVariants.Two, Bytes.Text}
use Rattle.mh_model.specs.Forms.{Row, Phrase, command_rows, command_phrase, control_rows, control_phrase}

row_passes : {X : Type 0} (test : Row X → Bool) (rows : List (Row X)) (i : ℕ) (r : Row X) → list_all test rows ≡ true → slice_get rows i ≡ Some r → test r ≡ true
row_passes test (first ∷ rows) (suc i) r all at = row_passes test rows i r (and_parts (test first) (list_all test rows) all).1 at
row_passes test rows i r all at = grind (arith, none-some, same_Some, and_parts)

module _ (test : Text → List ℕ → Bool) where
  abbrev pub passes_row : {X : Type 0} → Row X → Bool
  passes_row r = test r.verb r.bounds

  abbrev pub passes_phrase : Phrase → Bool
  passes_phrase said = test said.verb said.bounds

  pub command_passes : list_all passes_row command_rows ≡ true → (c : Command) → passes_phrase (command_phrase c) ≡ true
  command_passes all c = search (arith, row_passes)

  pub control_passes : list_all passes_row (control_rows Two) ≡ true → (c : Control) → passes_phrase (control_phrase c) ≡ true
  control_passes all c = search (arith, row_passes)
