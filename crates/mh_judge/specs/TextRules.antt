-- Texts of either version as histories: that the model's words for their verdicts say what those of any history do.
use Rattle.std.proofs.Common.{◌≡◌, ◌∙◌, ℕ, List, ap, refl}
use Rattle.mh_model.specs.{declared.config.Config.Config, declared.history.Entry.Entry}
use Rattle.mh_model.specs.{declared.history.Measured.Measured, declared.history.Verdict.Verdict, Bytes.Text}
use Rattle.mh_model.specs.History.{IsLegal}
use Rattle.mh_model.specs.HistoryTexts.{IsAudited, IsChecked, IsLegalRecord, Recorded, history_reading, recorded_reading}
use Rattle.mh_model.specs.Script.{Reading, BadLine, Means, reading_map}
use Rattle.mh_history.specs.Beginnings.{after_header}
use Rattle.mh_judge.specs.{declared.entry_fault.EntryFault.EntryFault, Faults.{IsEntryFault, IsMeasuredFault}}
use Rattle.mh_judge.specs.Histories.{History, IsFaultIn, IsVerdictIn, own_reading, reading_under, under}
use Rattle.mh_judge.specs.Judgements.{IsAuditedFault, IsCheckedFault}

-- Version 1 --------------------------------------------------------------------------------------

pub under_bad : (config : Config) (text : Text) (line : ℕ) → history_reading text ≡ BadLine line → reading_under config text ≡ BadLine line
under_bad config text line is = ap (under config) is

pub checked_in : (config : Config) (text : Text) (verdict : Verdict) → IsVerdictIn IsLegal (reading_under config text) verdict → IsChecked config text verdict
checked_in config text verdict = by (history_reading text) refl where
  by : (r : Reading (List Entry)) → history_reading text ≡ r → IsVerdictIn IsLegal (under config r) verdict → IsChecked config text verdict
  by (BadLine line) is found = rw is found
  by (Means entries) is found = rw is found

pub in_checked : (config : Config) (text : Text) (verdict : Verdict) → IsChecked config text verdict → IsVerdictIn IsLegal (reading_under config text) verdict
in_checked config text verdict checked = by (history_reading text) refl where
  by : (r : Reading (List Entry)) → history_reading text ≡ r → IsVerdictIn IsLegal (under config r) verdict
  by (BadLine line) is = rw is at checked
  by (Means entries) is = rw is at checked

bad_under : (config : Config) (r : Reading (List Entry)) (line : ℕ) → under config r ≡ BadLine line → r ≡ BadLine line
bad_under config (BadLine other) line is = cc
bad_under config (Means entries) line is = cc

pub checked_refused : (config : Config) (text : Text) (line : ℕ) → reading_under config text ≡ BadLine line → history_reading text ≡ BadLine line
checked_refused config text line is = bad_under config (history_reading text) line is

pub checked_fault : (config : Config) (text : Text) (number : ℕ) (fault : EntryFault) → IsFaultIn (λ (entry : Entry). entry.event) IsEntryFault (reading_under config text) number fault → IsCheckedFault config text number fault
checked_fault config text number fault = by (history_reading text) refl where
  by : (r : Reading (List Entry)) → history_reading text ≡ r → IsFaultIn (λ (entry : Entry). entry.event) IsEntryFault (under config r) number fault → IsCheckedFault config text number fault
  by (BadLine line) is wrong = absurd wrong
  by (Means entries) is wrong = (entries, is, wrong)

-- Version 2 --------------------------------------------------------------------------------------

abbrev history_of : Recorded → History Measured
history_of recorded = record { config = recorded.config; entries = recorded.entries }

-- what stands under the first line of a record is its own history
own_under : (config : Config) (r : Reading (List Measured)) → reading_map history_of (after_header config r) ≡ under config r
own_under config (BadLine line) = refl
own_under config (Means entries) = refl

pub own_lines : (text : Text) (config : Config) (r : Reading (List Measured)) → recorded_reading text ≡ after_header config r → own_reading text ≡ under config r
own_lines text config r is = ap (reading_map history_of) is ∙ own_under config r

pub own_bad : (text : Text) (line : ℕ) → recorded_reading text ≡ BadLine line → own_reading text ≡ BadLine line
own_bad text line is = ap (reading_map history_of) is

pub audited_in : (text : Text) (verdict : Verdict) → IsVerdictIn IsLegalRecord (own_reading text) verdict → IsAudited text verdict
audited_in text verdict = by (recorded_reading text) refl where
  by : (r : Reading Recorded) → recorded_reading text ≡ r → IsVerdictIn IsLegalRecord (reading_map history_of r) verdict → IsAudited text verdict
  by (BadLine line) is found = rw is found
  by (Means recorded) is found = rw is found

pub in_audited : (text : Text) (verdict : Verdict) → IsAudited text verdict → IsVerdictIn IsLegalRecord (own_reading text) verdict
in_audited text verdict audited = by (recorded_reading text) refl where
  by : (r : Reading Recorded) → recorded_reading text ≡ r → IsVerdictIn IsLegalRecord (reading_map history_of r) verdict
  by (BadLine line) is = rw is at audited
  by (Means recorded) is = rw is at audited

bad_own : (r : Reading Recorded) (line : ℕ) → reading_map history_of r ≡ BadLine line → r ≡ BadLine line
bad_own (BadLine other) line is = cc
bad_own (Means recorded) line is = cc

pub audited_refused : (text : Text) (line : ℕ) → own_reading text ≡ BadLine line → recorded_reading text ≡ BadLine line
audited_refused text line is = bad_own (recorded_reading text) line is

pub audited_fault : (text : Text) (number : ℕ) (fault : EntryFault) → IsFaultIn (λ (measured : Measured). measured.entry.event) IsMeasuredFault (own_reading text) number fault → IsAuditedFault text number fault
audited_fault text number fault = by (recorded_reading text) refl where
  by : (r : Reading Recorded) → recorded_reading text ≡ r → IsFaultIn (λ (measured : Measured). measured.entry.event) IsMeasuredFault (reading_map history_of r) number fault → IsAuditedFault text number fault
  by (BadLine line) is wrong = absurd wrong
  by (Means recorded) is wrong = (recorded, is, wrong)
