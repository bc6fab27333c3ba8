-- What a client sent, and how far it was answered.
use Rattle.std.specs.{Prelude.{◌≡◌, Option, None, Some, [], ◌++◌}, Io.KnownBytes.Appends}
use Rattle.mh_model.specs.{Bytes.{Text, cut_after}, Live.{Live, AreTurns}}

-- What a client sent to a run, which stood so before the first line, and what the sink had then
pub record Talk : Type 0 where
  pub opened : Live
  pub sent : Text
  pub before : Option Text

-- each whole line that was sent is answered in the sink, and nothing else was written there
abbrev pub IsPrompt : Option Talk → Option Text → Type 0
IsPrompt None written = Unit {0}
IsPrompt (Some talk) written = (answers : Text) × (after : Live) × AreTurns 1 talk.opened (cut_after 10 talk.sent).pieces answers after × Appends talk.before written answers

-- these bytes more were sent
abbrev pub Sends : Option Talk → Option Talk → Text → Type 0
Sends None new bytes = new ≡ None
Sends (Some talk) new bytes = new ≡ Some (record { opened = talk.opened; sent = talk.sent ++ bytes; before = talk.before })

-- nothing was sent yet to this run
abbrev pub IsSilent : Option Talk → Live → Option Text → Type 0
IsSilent None opened written = Unit {0}
IsSilent (Some talk) opened written = talk ≡ record { opened = opened; sent = []; before = written }
