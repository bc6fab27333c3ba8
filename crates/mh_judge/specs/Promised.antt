-- What a judge promises of a history that it finds legal: the replies in it are those of an outcome that keeps the promise.
use Rattle.std.specs.Prelude.{◌≡◌, ℕ, map, length}
use Rattle.mh_model.specs.{declared.config.Config.Config, declared.history.Entry.Entry, Bytes.Text}
use Rattle.mh_model.specs.Script.{Reading, Means}
use Rattle.mh_promise.specs.Promise.{ArePromised}
use Rattle.mh_judge.specs.Histories.{History, own_reading, reading_under}

-- A history of so many entries was read, whose replies are those of an outcome that keeps the promise of their events
pub record IsPromisedHistory {X : Type 0} (entry_of : X → Entry) (read : Reading (History X)) (count : ℕ) : Type 0 where
  pub history : History X
  pub means : read ≡ Means history
  pub count_is : count ≡ length history.entries
  pub promised : ArePromised history.config (map (λ x. (entry_of x).event) history.entries) (map (λ x. (entry_of x).reply) history.entries)

-- a text of version 1 is such a history under a configuration
abbrev pub IsPromisedUnder : Config → Text → ℕ → Type 0
IsPromisedUnder config text count = IsPromisedHistory (λ entry. entry) (reading_under config text) count

-- a text of version 2 is such a history under its own
abbrev pub IsPromisedRecord : Text → ℕ → Type 0
IsPromisedRecord text count = IsPromisedHistory (λ measured. measured.entry) (own_reading text) count
