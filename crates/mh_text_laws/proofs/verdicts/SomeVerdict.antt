-- A history of version 1 has a verdict.
use Rattle.std.proofs.Common.{◌≡◌, true, List, refl}
use Rattle.std.specs.List.{list_all}
use Rattle.mh_model.specs.{declared.config.Config.Config, declared.history.Entry.Entry, Bytes.Text}
use Rattle.mh_model.specs.{declared.history.Version.TheVariants.One, Script.{Reading, BadLine, Means}}
use Rattle.mh_model.specs.{Machine.first_machine, History.IsLegal, HistoryTexts.{is_entry, history_reading, IsChecked}}
use Rattle.mh_model.specs.{declared.history.Verdict.Verdict, declared.history.Verdict.TheVariants.Refused}
use Rattle.mh_text_laws.proofs.rewritings.HistoriesWrittenAgain.{histories-again}
use Rattle.mh_text_laws.proofs.verdicts.StepRules.{follows_or_fails, some_verdict}
use Rattle.mh_text_laws.proofs.verdicts.LegalHistories.{IsAnswered, after_entry, answered_or_not, legal_rule}

pub texts_checked : (config : Config) (text : Text) → (verdict : Verdict) × IsChecked config text verdict
texts_checked config text = by (history_reading text) refl where
  by : (found : Reading (List Entry)) → history_reading text ≡ found → (verdict : Verdict) × IsChecked config text verdict
  by (BadLine line) is = (Refused line, rw is refl)
  by (Means entries) is =
      let in_range : list_all (is_entry One) entries ≡ true = (histories-again text entries is).1 in
      let found = some_verdict IsAnswered after_entry (first_machine config) (IsLegal config) (legal_rule config) entries
      (follows_or_fails IsAnswered after_entry (is_entry One) answered_or_not (first_machine config) entries in_range) in
      (found.0, rw is found.1)
