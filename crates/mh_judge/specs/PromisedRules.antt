-- The replies of a legal history are those of an outcome that keeps the promise.
use Rattle.std.proofs.Common.{◌≡◌, ◌∙◌, ℕ, List, map, ap, refl}
use Rattle.mh_model.specs.{declared.config.Config.Config, declared.history.Entry.Entry}
use Rattle.mh_model.specs.{declared.history.Measured.Measured, declared.history.Verdict.TheVariants.{Legal, Refused}}
use Rattle.mh_model.specs.{Bytes.Text, History.IsLegal}
use Rattle.mh_model.specs.HistoryTexts.{IsAudited, IsChecked, IsLegalRecord, measured_events}
use Rattle.mh_model.specs.{Machine.{first_machine, machine_replies}, Script.{Reading, BadLine, Means}}
use Rattle.mh_promise.specs.Promise.{RepliesArePromised}
use Rattle.mh_judge.specs.Histories.{History, IsVerdictIn, own_reading, reading_under}
use Rattle.mh_judge.specs.Promised.{IsPromisedHistory, IsPromisedRecord, IsPromisedUnder}
use Rattle.mh_judge.specs.{TextRules.{in_audited, in_checked}, Auxiliary.RecordsShowReplies}

-- the replies of a legal record are the machine's
record_right : RecordsShowReplies → (config : Config) (entries : List Measured) → IsLegalRecord config entries → map (λ measured. measured.entry.reply) entries ≡ machine_replies (first_machine config) (measured_events entries)
record_right shown config entries legal = ap (map (λ (measured : Measured). measured.entry.reply)) legal.same ∙ shown (first_machine config) (measured_events entries)

never_refused : (count line : ℕ) → Legal count ≡ Refused line → ⊥
never_refused count line is = cc

module _ (law : RepliesArePromised) where
  legal_promised : {X : Type 0} (entry_of : X → Entry) (Lawful : Config → List X → Type 0)
      → ((config : Config) (entries : List X) → Lawful config entries → map (λ x. (entry_of x).reply) entries ≡ machine_replies (first_machine config) (map (λ x. (entry_of x).event) entries))
      → (read : Reading (History X)) (count : ℕ) → IsVerdictIn Lawful read (Legal count) → IsPromisedHistory entry_of read count
  legal_promised entry_of Lawful right (BadLine line) count found = absurd (never_refused count line found)
  legal_promised entry_of Lawful right (Means history) count found = record {
    history = history;
    means = refl;
    count_is = found.1;
    promised = law history.config (map (λ x. (entry_of x).event) history.entries) (map (λ x. (entry_of x).reply) history.entries) (right history.config history.entries found.0);
  }

  pub checked_promised : (config : Config) (text : Text) (count : ℕ) → IsChecked config text (Legal count) → IsPromisedUnder config text count
  checked_promised config text count checked = legal_promised (λ entry. entry) IsLegal (λ config entries legal. legal.replies) (reading_under config text) count (in_checked config text (Legal count) checked)

  pub audited_promised : RecordsShowReplies → (text : Text) (count : ℕ) → IsAudited text (Legal count) → IsPromisedRecord text count
  audited_promised shown text count audited = legal_promised (λ measured. measured.entry) IsLegalRecord (record_right shown) (own_reading text) count (in_audited text (Legal count) audited)
