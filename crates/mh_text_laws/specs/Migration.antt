-- Migration makes a legal record with the same entries. The length of what it writes is no premise: under the first rules a legal history within its
-- limit is migrated to a text within the limit of the second version.
use Rattle.std.specs.Prelude.{◌≡◌, ℕ, List, length, map}
use Rattle.mh_model.specs.{declared.config.Config.Config, declared.config.Rules.TheVariants.First}
use Rattle.mh_model.specs.{declared.history.Entry.Entry, Bytes.Text, Script.Means, History.IsLegal}
use Rattle.mh_model.specs.HistoryTexts.{history_reading, recorded_text, recorded_reading, IsLegalRecord, IsChecked, IsAudited, migrated, IsMigratedTo}
use Rattle.mh_model.specs.declared.history.Verdict.TheVariants.{Legal}

-- What migration makes of a legal history: a text that is read as the record of its events, which is legal, with the same entries
pub record IsMigrated (config : Config) (entries : List Entry) : Type 0 where
  pub read : recorded_reading (recorded_text (migrated config entries)) ≡ Means (migrated config entries)
  pub legal : IsLegalRecord config (migrated config entries).entries
  pub count : length (migrated config entries).entries ≡ length entries
  pub same : map (λ measured. measured.entry) (migrated config entries).entries ≡ entries

-- A text that is read as a legal history of version 1, under the first rules, is migrated to a legal one of version 2; this has the same entries
abbrev pub MigrationKeepsHistories : Type 0
MigrationKeepsHistories = (config : Config) (text : Text) (entries : List Entry) → config.rules ≡ First → history_reading text ≡ Means entries → IsLegal config entries
    → IsMigrated config entries

-- What migration writes of a text that is checked as legal, under the first rules, is audited as legal, with as many entries
abbrev pub MigratedTextsAreLegal : Type 0
MigratedTextsAreLegal = (config : Config) (text written : Text) (count : ℕ) → config.rules ≡ First → IsMigratedTo config text written → IsChecked config text (Legal count)
    → IsAudited written (Legal count)

-- Each text is migrated to some text, under each configuration
abbrev pub TextsAreMigrated : Type 0
TextsAreMigrated = (config : Config) (text : Text) → (written : Text) × IsMigratedTo config text written
