-- What migration makes of a text.
use Rattle.std.proofs.Common.{◌≡◌, ℕ, List, refl}
use Rattle.mh_model.specs.{declared.config.Config.Config, declared.config.Rules.TheVariants.First}
use Rattle.mh_model.specs.{declared.history.Entry.Entry, declared.history.Verdict.TheVariants.{Refused, Legal}}
use Rattle.mh_model.specs.{Bytes.{Text, line_text}, History.{IsLegal, events_of}}
use Rattle.mh_model.specs.HistoryTexts.{IsChecked, IsJudged, history_reading, migration_text, verdict_text}
use Rattle.mh_model.specs.Script.{Reading, BadLine, Means}
use Rattle.mh_promise.specs.Promise.{RepliesArePromised}
use Rattle.mh_script.specs.Histories.{history_run}
use Rattle.mh_text_laws.proofs.run_histories.Records.{record_replies}
use Rattle.mh_text_laws.specs.Migration.{MigratedTextsAreLegal}
use Rattle.mh_judge.specs.{declared.judgement.Judgement.Judgement, Judged.{IsLegallyMigrated, IsMigratedBy}}
use Rattle.mh_judge.specs.{Judgements.{HistoryJudgement, IsCheckExplained, verdict_of}, Promised.IsPromisedUnder}
use Rattle.mh_judge.specs.{PromisedRules.{audited_promised, checked_promised}, Records.entries_in}
use Rattle.mh_judge.proofs.ExplainedLemmas.{if_legal}

-- the entries of a text that is found legal
pub record LegalEntries (config : Config) (text : Text) : Type 0 where
  pub entries : List Entry
  pub means : history_reading text ≡ Means entries
  pub legal : IsLegal config entries

pub legal_entries : (config : Config) (text : Text) (count : ℕ) → IsChecked config text (Legal count) → LegalEntries config text
legal_entries config text count checked = by (history_reading text) refl where
  by : (r : Reading (List Entry)) → history_reading text ≡ r → LegalEntries config text
  by (BadLine line) is = let other : Legal count ≡ Refused line = rw is at checked in absurd cc
  by (Means entries) is =
      let judged : IsJudged (IsLegal config) entries (Legal count) = rw is at checked in
      record { entries = entries; means = is; legal = judged.0 }

-- of a legal text the record is written of the events of its lines, and of another the line of its verdict
pub legal_text : (config : Config) (text : Text) (count : ℕ) (left : Reading (List Entry)) → IsChecked config text (Legal count) → history_reading text ≡ left → history_run config (events_of (entries_in left)) ≡ migration_text config (Legal count) (history_reading text)
legal_text config text count (BadLine line) checked is = let other : Legal count ≡ Refused line = rw is at checked in absurd cc
legal_text config text count (Means entries) checked is = rw is refl

pub other_line : (config : Config) (found : HistoryJudgement) (r : Reading (List Entry)) → ((count : ℕ) → found ≡ Judgement.Legal count → ⊥) → migration_text config (verdict_of found) r ≡ line_text (verdict_text (verdict_of found))
other_line config (Judgement.Legal count) r other = absurd (other count refl)
other_line config (Judgement.Refused line reason) r other = refl
other_line config (Judgement.FirstBad number fault) r other = refl

-- what is found of a text is true of what is written of it
pub migrated_by : RepliesArePromised → MigratedTextsAreLegal → (config : Config) → config.rules ≡ First → (text : Text) (found : HistoryJudgement) → IsChecked config text (verdict_of found) → IsCheckExplained config text found
    → IsMigratedBy config text (migration_text config (verdict_of found) (history_reading text)) found
migrated_by law legal config first text found checked explained =
    let out = migration_text config (verdict_of found) (history_reading text) in
    record {
      checked = checked;
      told = (explained, if_legal (IsChecked config text) (IsPromisedUnder config text) (checked_promised law config text) found checked);
      out_is = refl;
      legal = if_legal (IsChecked config text) (IsLegallyMigrated out)
          (λ count is. let audited = legal config text out count first (verdict_of found, checked, refl) is in (audited, audited_promised law record_replies out count audited)) found checked;
    }
