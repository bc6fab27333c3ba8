-- How long a page is.
use Rattle.std.specs.Prelude.{◌≤◌, ◌+◌, max, List, length}
use Rattle.mh_model.specs.{declared.command.Event.Event, Bytes.Text, Machine.Machine}
use Rattle.mh_tell_show.specs.Page.{most_bytes, shown_events_text, shown_from}

-- What stands before the events of a page, and these, have 19,500,000 bytes at most together, unless the first alone has more. Then the page has no event
abbrev pub PagesAreBounded : Type 0
PagesAreBounded = (front : Text) (machine : Machine) (events : List Event) → length front + length (shown_events_text 0 machine (shown_from front machine events)) ≤ max most_bytes (length front)
