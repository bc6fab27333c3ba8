-- The rules of histories and of records: an entry more is lawful exactly if it is what the machine makes of its event.
use Rattle.std.proofs.Common.{◌≡◌, ◌∙◌, ◌≤◌, lit≤, List, [], ◌∷◌, ◌++◌, map, ap, sym, refl}
use Rattle.std.proofs.lemmas.List.{map-append, same_from_push}
use Rattle.mh_model.specs.{declared.command.Event.Event, declared.config.Config.Config, declared.history.Entry.Entry}
use Rattle.mh_model.specs.{declared.history.Measured.Measured, declared.reply.Reply.Reply, History.IsLegal}
use Rattle.mh_model.specs.{Limits.most_entries, HistoryTexts.{IsLegalRecord, measured_step, machine_record}}
use Rattle.mh_model.specs.Machine.{Machine, first_machine, event_step, machine_after, machine_replies}
use Rattle.mh_run_laws.specs.Replays.{MachineRepliesMore, machine_at}
use Rattle.mh_machine.specs.{Judging.{HasItsReply, IsEventRule, IsMeasured}, Auxiliary.{event_of, measured_event}}

none_are_few : 0 ≤ most_entries
unfolding most_entries
none_are_few = lit≤ tt

-- Histories --------------------------------------------------------------------------------------

abbrev reply_of : Entry → Reply
reply_of entry = entry.reply

answers-push : MachineRepliesMore → (config : Config) (xs : List Entry) (x : Entry) → machine_replies (first_machine config) (map event_of (xs ++ x ∷ []))
    ≡ machine_replies (first_machine config) (map event_of xs) ++ (event_step (machine_at config (map event_of xs)) x.event).reply ∷ []
answers-push replies_more config xs x = ap (machine_replies (first_machine config)) (map-append event_of xs (x ∷ [])) ∙ replies_more.event (first_machine config) (map event_of xs) x.event

pub legal_rule : MachineRepliesMore → (config : Config) → IsEventRule config event_of HasItsReply (IsLegal config)
unfolding machine_replies
legal_rule replies_more config = record {
  empty = record { few = none_are_few; replies = refl };
  few = λ xs legal. legal.few;
  more = λ xs x legal few fits. record {
    few = few;
    replies = map-append reply_of xs (x ∷ []) ∙ ap (λ replies. replies ++ x.reply ∷ []) legal.replies ∙ ap (λ reply. machine_replies (first_machine config) (map event_of xs) ++ reply ∷ []) fits
        ∙ sym (answers-push replies_more config xs x);
  };
  last = λ xs x legal. (same_from_push _ _ _ _ (sym (map-append reply_of xs (x ∷ [])) ∙ legal.replies ∙ answers-push replies_more config xs x)).1;
}

-- Records ----------------------------------------------------------------------------------------

pub record-more : (machine : Machine) (before : List Event) (event : Event)
    → machine_record machine (before ++ event ∷ []) ≡ machine_record machine before ++ measured_step (machine_after machine before) event (event_step (machine_after machine before) event) ∷ []
unfolding machine_record machine_after
record-more machine [] event = refl
record-more machine (first ∷ before) event = ap (λ entries. measured_step machine first (event_step machine first) ∷ entries) (record-more (event_step machine first).state before event)

record-push : (config : Config) (xs : List Measured) (x : Measured) → machine_record (first_machine config) (map measured_event (xs ++ x ∷ []))
    ≡ machine_record (first_machine config) (map measured_event xs)
    ++ measured_step (machine_at config (map measured_event xs)) x.entry.event (event_step (machine_at config (map measured_event xs)) x.entry.event) ∷ []
record-push config xs x =
    ap (machine_record (first_machine config)) (map-append measured_event xs (x ∷ [])) ∙ record-more (first_machine config) (map measured_event xs) x.entry.event

pub record_rule : (config : Config) → IsEventRule config measured_event IsMeasured (IsLegalRecord config)
unfolding machine_record
record_rule config = record {
  empty = record { few = none_are_few; same = refl };
  few = λ xs legal. legal.few;
  more = λ xs x legal few fits. record {
    few = few;
    same = ap (λ entries. entries ++ x ∷ []) legal.same ∙ ap (λ entry. machine_record (first_machine config) (map measured_event xs) ++ entry ∷ []) fits
        ∙ sym (record-push config xs x);
  };
  last = λ xs x legal. (same_from_push xs _ x _ (legal.same ∙ record-push config xs x)).1;
}
