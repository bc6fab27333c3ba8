-- Races: what the sessions of a script and its desk leave as their common history.
-- Each makes its own calls in the script's order, and no order is given between them.
use Rattle.std.specs.Prelude.{◌≡◌, ℕ, List, ◌++◌, length, map}
use Rattle.mh_model.specs.{declared.command.Event.Event, declared.history.Measured.Measured, Limits.most_entries}
use Rattle.mh_model.specs.{History.{owner_of, owned_by}, Bytes.Text, Script.Meaning}
use Rattle.mh_model.specs.HistoryTexts.{recorded_text, IsLegalRecord}

-- the calls of a seat in a history, in order
abbrev pub calls_of : ℕ → List Measured → List Event
calls_of seat entries = owned_by owner_of seat (map (λ measured. measured.entry.event) entries)

-- each seat has made the calls that a script has of it, in the script's order, and no others
abbrev pub HasTheCalls : List Event → List Measured → Type 0
HasTheCalls events entries = (seat : ℕ) → calls_of seat entries ≡ owned_by owner_of seat events

-- each seat has made the first of the calls that a script has of it, in the order of the script, and no others
abbrev pub BeginsTheCalls : List Event → List Measured → Type 0
BeginsTheCalls events entries = (seat : ℕ) → (rest : List Event) × (calls_of seat entries ++ rest ≡ owned_by owner_of seat events)

-- what a race writes that has made all calls of its script: a legal history of these, as version 2
pub record IsRaced (script : Meaning) (written : Text) : Type 0 where
  pub entries : List Measured
  pub legal : IsLegalRecord script.config entries
  pub calls : HasTheCalls script.events entries
  pub text : written ≡ recorded_text (record { config = script.config; entries = entries })

-- what a race writes whose history is full: version 2 of a legal history of as many calls as a history may have
pub record IsRacedFull (script : Meaning) (written : Text) : Type 0 where
  pub entries : List Measured
  pub legal : IsLegalRecord script.config entries
  pub full : length entries ≡ most_entries
  pub calls : BeginsTheCalls script.events entries
  pub text : written ≡ recorded_text (record { config = script.config; entries = entries })

-- what a race leaves that is cut short: a prefix of what a race writes that has made the first calls of its seats, of version 2 of a legal history of
-- these
pub record IsRaceBegun (script : Meaning) (written : Text) : Type 0 where
  pub entries : List Measured
  pub legal : IsLegalRecord script.config entries
  pub calls : BeginsTheCalls script.events entries
  pub rest : Text
  pub text : written ++ rest ≡ recorded_text (record { config = script.config; entries = entries })
