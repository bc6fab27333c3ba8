-- What a race leaves, as a text, and that it keeps the promise.
use Rattle.std.proofs.Common.{◌≡◌, ◌∙◌, List, [], length, ap, refl, subst, sym, append-nil, arith}
use Rattle.std.proofs.lemmas.List.{length-map}
use Rattle.mh_model.specs.{declared.command.Event.Event, declared.config.Config.Config, declared.history.Entry.Entry}
use Rattle.mh_model.specs.{Bytes.{Text, line_text}, History.{IsLegal, events_of}}
use Rattle.mh_model.specs.HistoryTexts.{IsLegalRecord, machine_record, measured_events, migrated, recorded_text}
use Rattle.mh_model.specs.{Limits.most_entries, Machine.{first_machine, machine_replies}}
use Rattle.mh_model.specs.{Races.{IsRaced, IsRacedFull, IsRaceBegun}, Replies.bad_line_text}
use Rattle.mh_model.specs.Script.{Meaning, Reading, BadLine, Means}
use Rattle.mh_promise.specs.Promise.{RepliesArePromised}
use Rattle.mh_race.specs.Racing.{BeginsItsCalls, MakesTheCalls}
use Rattle.mh_script.specs.Histories.{AreRecorded}
use Rattle.mh_script.proofs.HistoryLemmas.{recorded_shown}
use Rattle.mh_text_laws.proofs.migration.MigratedRecords.{record_events, record_length}
use Rattle.mh_race_text.specs.Raced.{FillsAHistory, IsBegunRace, IsPromisedRace}

-- a legal history of a script's configuration, and its record as a text
pub record HasRaced (script : Meaning) (history : List Entry) (out : Text) : Type 0 where
  pub legal : IsLegal script.config history
  pub out_is : out ≡ recorded_text (migrated script.config history)

pub has_raced : (script : Meaning) (config written : Config) (history shown : List Entry) → config ≡ script.config → written ≡ script.config → shown ≡ history → IsLegal config history
    → HasRaced script history (recorded_text (migrated written shown))
has_raced script config written history shown is also same legal = record {
  legal = subst (λ (c : Config). IsLegal c history) is legal;
  out_is = ap (λ (c : Config). recorded_text (migrated c shown)) also ∙ ap (λ (entries : List Entry). recorded_text (migrated script.config entries)) same;
}

module _ (law : RepliesArePromised) {script : Meaning} {history : List Entry} {out : Text} (raced : HasRaced script history out) where
  events_are : measured_events (migrated script.config history).entries ≡ events_of history
  events_are = record_events (first_machine script.config) (events_of history)

  count_is : length (migrated script.config history).entries ≡ length history
  count_is = record_length (first_machine script.config) (events_of history) ∙ length-map history (λ entry. entry.event)

  legal_record : IsLegalRecord script.config (migrated script.config history).entries
  legal_record = record { few = omega (arith, count_is, raced.legal.few); same = ap (machine_record (first_machine script.config)) (sym events_are) }

  promised : (Calls : List Event → List Event → Type 0) → Calls script.events (events_of history) → IsPromisedRace Calls script out
  promised Calls calls = record {
    events = events_of history;
    calls = calls;
    promised = record { replies = _; promised = law script.config (events_of history) _ refl; shows = subst (AreRecorded script.config (events_of history) _) (sym raced.out_is) (recorded_shown script.config (events_of history)) };
  }

  -- all calls were made
  pub raced_done : MakesTheCalls script.events (events_of history) → IsRaced script out × IsPromisedRace MakesTheCalls script out
  raced_done calls = (
    record { entries = (migrated script.config history).entries; legal = legal_record; calls = subst (MakesTheCalls script.events) (sym events_are) calls; text = raced.out_is },
    promised MakesTheCalls calls,
  )

  -- the history is full
  pub raced_full : length history ≡ most_entries → BeginsItsCalls script.events (events_of history) → IsRacedFull script out × IsPromisedRace FillsAHistory script out
  raced_full full calls = (
    record { entries = (migrated script.config history).entries; legal = legal_record; full = count_is ∙ full; calls = subst (BeginsItsCalls script.events) (sym events_are) calls; text = raced.out_is },
    promised FillsAHistory (length-map history (λ entry. entry.event) ∙ full, calls),
  )

  -- the first calls were made
  pub raced_begun : BeginsItsCalls script.events (events_of history) → IsRaceBegun script out × IsPromisedRace BeginsItsCalls script out
  raced_begun calls = (
    record { entries = (migrated script.config history).entries; legal = legal_record; calls = subst (BeginsItsCalls script.events) (sym events_are) calls; rest = []; text = append-nil out ∙ raced.out_is },
    promised BeginsItsCalls calls,
  )

-- before the first call
no_calls : (config : Config) → IsLegal config []
unfolding machine_replies
no_calls config = record { few = omega arith; replies = refl }

-- something is to be written of a race that was cut short
pub some_begun : RepliesArePromised → (r : Reading Meaning) → (out : Text) × IsBegunRace r out
some_begun law (BadLine line) = (line_text (bad_line_text line), refl)
some_begun law (Means script) =
    let none : HasRaced script [] (recorded_text (migrated script.config [])) = record { legal = no_calls script.config; out_is = refl } in
    (recorded_text (migrated script.config []), raced_begun law none (λ seat. (_, refl)))
