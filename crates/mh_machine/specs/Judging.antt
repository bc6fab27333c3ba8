-- The judging of histories: when an entry is right, what a judge knows of the entries that were shown, and what a fault states.
use Rattle.std.specs.Prelude.{◌≡◌, ◌⊎◌, ℕ, suc, Bool, true, false, ◌≤◌, ◌<◌, Option, Some, None, MatchOption, List, [], ◌∷◌, ◌++◌, length, map}
use Rattle.mh_model.specs.{declared.command.Event.Event, declared.config.Config.Config, declared.history.Entry.Entry}
use Rattle.mh_model.specs.{declared.history.Measured.Measured, declared.history.Verdict.Verdict, Limits.most_entries}
use Rattle.mh_model.specs.{History.{IsLegal, IsFirstBadOf}, HistoryTexts.{IsLegalRecord, measured_step}}
use Rattle.mh_model.specs.Machine.{Machine, event_step}
use Rattle.mh_run_laws.specs.Replays.{machine_at}
use Rattle.mh_machine.specs.{Running.{Running, first_running}, declared.judge.CheckFault.CheckFault}
use Rattle.mh_machine.specs.declared.judge.CheckFault.TheVariants.{FirstBad, NoMemory}

-- an entry has the machine's reply to its event
abbrev pub HasItsReply : Machine → Entry → Type 0
HasItsReply machine entry = entry.reply ≡ (event_step machine entry.event).reply

-- and the letters that it adds to the trace
abbrev pub IsMeasured : Machine → Measured → Type 0
IsMeasured machine measured = measured ≡ measured_step machine measured.entry.event (event_step machine measured.entry.event)

-- What the try of an event shows by a rule of its entry: the event was done and its entry is right, or else it is one event too many or its entry is wrong
abbrev pub IsTried : Type 0 → Running → Event → Running → Bool → Type 0
IsTried Right old event new true = (old.done < most_entries) × Right × (new.machine ≡ (event_step old.machine event).state) × (new.done ≡ suc old.done)
IsTried Right old event new false = (most_entries ≤ old.done) ⊎ ¬ Right

-- A rule of lists of 1,000,000 elements at most, each of which fits the machine after the events before it
pub record IsEventRule {X : Type 0} (config : Config) (event_of : X → Event) (Fits : Machine → X → Type 0) (Lawful : List X → Type 0) : Type 0 where
  pub empty : Lawful []
  pub few : (xs : List X) → Lawful xs → length xs ≤ most_entries
  pub more : (xs : List X) (x : X) → Lawful xs → length (xs ++ x ∷ []) ≤ most_entries → Fits (machine_at config (map event_of xs)) x → Lawful (xs ++ x ∷ [])
  pub last : (xs : List X) (x : X) → Lawful (xs ++ x ∷ []) → Fits (machine_at config (map event_of xs)) x

-- a judge's machine, and the number of the first bad entry, if there was one
pub record Judging : Type 0 where
  pub running : Running
  pub first_bad : Option ℕ

-- the first machine, before any entry
abbrev pub first_judging : Config → Judging
first_judging config = record { running = first_running config; first_bad = None }

-- the entries are lawful, and the machine has done their events, and no others
pub record HasJudged {X : Type 0} (config : Config) (event_of : X → Event) (Lawful : List X → Type 0) (seen : List X) (running : Running) : Type 0 where
  pub machine : running.machine ≡ machine_at config (map event_of seen)
  pub done : running.done ≡ length seen
  pub lawful : Lawful seen

-- What a judge knows of the entries that were shown: as long as none is bad, the machine is that after their events; else the first bad one
abbrev pub HasSeen : {X : Type 0} → Config → (X → Event) → (List X → Type 0) → List X → Judging → Type 0
HasSeen config event_of Lawful seen judging = MatchOption judging.first_bad (HasJudged config event_of Lawful seen judging.running) (IsFirstBadOf Lawful seen)

-- the verdict on the entries that were shown
abbrev pub found_by : Judging → Verdict
found_by judging = found judging.first_bad where
  found : Option ℕ → Verdict
  found None = Verdict.Legal judging.running.done
  found (Some number) = Verdict.FirstBad number

-- these entries were shown, and no others
abbrev pub HasSeenEntries : Config → List Entry → Judging → Type 0
HasSeenEntries config seen judging = HasSeen config (λ entry. entry.event) (IsLegal config) seen judging

-- the same of entries that tell their units
abbrev pub HasSeenMeasured : Config → List Measured → Judging → Type 0
HasSeenMeasured config seen judging = HasSeen config (λ measured. measured.entry.event) (IsLegalRecord config) seen judging

-- A fault names the first bad entry by a rule; refused memory says nothing of the history
abbrev pub NamesFirstBad : {X : Type 0} → (List X → Type 0) → List X → CheckFault → Type 0
NamesFirstBad Lawful history (FirstBad number) = IsFirstBadOf Lawful history number
NamesFirstBad Lawful history NoMemory = Unit {0}
