use Rattle.mh_text_laws.proofs.round_trips.HistoryRoundTrips.{recorded_reading-text}
use Rattle.mh_text_laws.proofs.round_trips.records_are_read_back.Goals as goal

pub returns : goal.returns
returns c = recorded_reading-text
