-- What fits into a number of bytes has no more.
use Rattle.std.proofs.Common.{◌≡◌, ℕ, ◌+◌, ◌-◌, ◌≤◌, Bool, true, false, if◌then◌else◌, List, [], ◌∷◌, length, refl, arith, nat_le}
use Rattle.std.proofs.{lemmas.List.length-append, lemmas.Bool.leb-true}
use Rattle.mh_model.specs.{declared.command.Event.Event, Bytes.Text, Deeds.account_of, Machine.{Machine, event_step}}
use Rattle.mh_tell_show.specs.Bounds.{PagesAreBounded}
use Rattle.mh_tell_show.specs.Page.{deed_count, event_line, fitting, most_bytes, shown_events_text}

-- one event, and those after it in what it leaves
module _ (room count : ℕ) (machine : Machine) (event : Event) (events : List Event) where
  abbrev line : Text
  line = event_line count machine event

  abbrev next : Machine
  next = (event_step machine event).state

  abbrev written : ℕ
  written = count + deed_count (account_of machine event)

  one_within : ((rest : ℕ) → length (shown_events_text written next (fitting rest written next events)) ≤ rest) → length (shown_events_text count machine (fitting room count machine (event ∷ events))) ≤ room
  unfolding fitting
  one_within later = by (nat_le (length line) room) refl where
    by : (b : Bool) → nat_le (length line) room ≡ b → length (shown_events_text count machine (if b then event ∷ fitting (room - length line) written next events else [])) ≤ room
    by false is = omega arith
    by true is = omega (arith, leb-true (length line) room is, length-append line (shown_events_text written next (fitting (room - length line) written next events)), later (room - length line))

fits_within : (room count : ℕ) (machine : Machine) (events : List Event) → length (shown_events_text count machine (fitting room count machine events)) ≤ room
unfolding fitting
fits_within room count machine [] = omega arith
fits_within room count machine (event ∷ events) =
    one_within room count machine event events (λ rest. fits_within rest (count + deed_count (account_of machine event)) (event_step machine event).state events)

pub bounded : PagesAreBounded
bounded front machine events = omega (arith, fits_within (most_bytes - length front) 0 machine events)
