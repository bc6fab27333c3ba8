use Rattle.std.proofs.Common.{◌≡◌, drop, map, max}
use Rattle.mh_size_runs.specs.Seen.{greatest}
use Rattle.mh_size_text.specs.Texts.{session_of}
use Rattle.mh_size_text.proofs.lines.session_count.Given as goal

abbrev pub invariant-loop-event : goal.invariant-loop-event
invariant-loop-event l = max l.count (greatest (map session_of (drop l.event-index l.events))) ≡ greatest (map session_of l.events)
