-- Each event as numbers.
use Rattle.std.proofs.Common.{◌≡◌, ℕ, min, true, Some, refl, arith}
use Rattle.mh_model.specs.{declared.command.Command.Command, declared.command.Control.Control}
use Rattle.mh_model.specs.{Forms.{command_phrase, control_phrase, is_sayable}, declared.command.Event.Event}
use Rattle.mh_embed.specs.{declared.numbers.EventNumbers.EventNumbers, Numbers.event_numbered, Laws.EventsHaveNumbers}

abbrev numbers : ℕ → ℕ → ℕ → ℕ → ℕ → EventNumbers
numbers kind session first second third = record { kind = kind; session = session; first = first; second = second; third = third }

module _ (who : ℕ) (few : min who 255 ≡ who) where
  command_numbers : (asked : Command) → is_sayable (command_phrase asked) ≡ true → (n : EventNumbers) × (event_numbered n ≡ Some (Event.Session who asked))
  command_numbers (Command.New a b c) fits = (numbers 1 who a b c, rw (fits, few) refl)
  command_numbers (Command.Get a b c) fits = (numbers 2 who a b c, rw (fits, few) refl)
  command_numbers (Command.Put a b c) fits = (numbers 3 who a b c, rw (fits, few) refl)
  command_numbers (Command.Copy a b) fits = (numbers 4 who a b 0, rw (fits, few) refl)
  command_numbers (Command.Clear a) fits = (numbers 5 who a 0 0, rw (fits, few) refl)
  command_numbers (Command.Read a b) fits = (numbers 6 who a b 0, rw (fits, few) refl)
  command_numbers (Command.Write a b c) fits = (numbers 7 who a b c, rw (fits, few) refl)
  command_numbers (Command.Same a b) fits = (numbers 8 who a b 0, rw (fits, few) refl)
  command_numbers (Command.Shape a) fits = (numbers 9 who a 0 0, rw (fits, few) refl)
  command_numbers (Command.Post a b) fits = (numbers 10 who a b 0, rw (fits, few) refl)
  command_numbers (Command.Take a b) fits = (numbers 11 who a b 0, rw (fits, few) refl)
  command_numbers Command.End fits = (numbers 12 who 0 0 0, rw few refl)

control_numbers : (asked : Control) → is_sayable (control_phrase asked) ≡ true → (n : EventNumbers) × (event_numbered n ≡ Some (Event.Control asked))
control_numbers Control.Quantum fits = (numbers 13 0 0 0 0, refl)
control_numbers Control.Start fits = (numbers 14 0 0 0 0, refl)
control_numbers Control.Stat fits = (numbers 15 0 0 0 0, refl)
control_numbers Control.Dump fits = (numbers 16 0 0 0 0, refl)
control_numbers (Control.Report window) fits = (numbers 17 0 0 0 window, rw fits refl)
control_numbers Control.Left fits = (numbers 18 0 0 0 0, refl)

pub have_numbers : EventsHaveNumbers
have_numbers (Event.Session who asked) small = command_numbers who (omega (arith, small)) asked
have_numbers (Event.Control asked) small = control_numbers asked
