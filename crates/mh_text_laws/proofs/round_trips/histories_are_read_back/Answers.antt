use Rattle.mh_text_laws.proofs.round_trips.HistoryRoundTrips.{history_reading-text}
use Rattle.mh_text_laws.proofs.round_trips.histories_are_read_back.Goals as goal

pub returns : goal.returns
returns c = history_reading-text
