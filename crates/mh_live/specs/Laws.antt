-- What is answered line by line, beside what a run of the whole script writes.
use Rattle.std.specs.Prelude.{◌≡◌, ◌≤◌, length}
use Rattle.mh_model.specs.{Bytes.Text, Limits.most_entries, Output.output, Script.{Meaning, Means, reading}}
use Rattle.mh_model.specs.Live.{Live, Waits, IsLive, live_output}

-- A script whose events a history has room for is answered with the output of its run
abbrev pub ScriptsAreAnsweredAsRun : Type 0
ScriptsAreAnsweredAsRun = (text : Text) (script : Meaning) → reading text ≡ Means script → length script.events ≤ most_entries → live_output Waits text ≡ output text

-- Each text, a script or not, may be answered as if memory were never refused, whatever there is first
abbrev pub TextsHaveAnswers : Type 0
TextsHaveAnswers = (opened : Live) (text : Text) → IsLive opened text (live_output opened text)
