-- What a run of a script writes as its history, and under which rules a script is without options.
use Rattle.std.specs.Prelude.{◌≡◌, ◌≤◌, List, length, map, take}
use Rattle.mh_model.specs.{declared.command.Event.Event, declared.config.Config.Config, declared.config.Rules.Rules}
use Rattle.mh_model.specs.{declared.history.Verdict.TheVariants.Legal, Bytes.Text}
use Rattle.mh_model.specs.{HistoryTexts.{IsAudited, recorded_reading}, Limits.most_entries}
use Rattle.mh_model.specs.Machine.{first_machine, machine_replies}
use Rattle.mh_model.specs.{RunHistories.{history_output, reading_under, recorded_run}, Script.{Meaning, Means}}

-- A text is the history of a run of these events. It is read as their record, and found legal with as many entries. The replies are the run's
pub record IsRunHistory (config : Config) (events : List Event) (written : Text) : Type 0 where
  pub read : recorded_reading written ≡ Means (recorded_run config events)
  pub audited : IsAudited written (Legal (length events))
  pub replies : map (λ measured. measured.entry.reply) (recorded_run config events).entries ≡ machine_replies (first_machine config) events

-- Let a run of a script, under any rules, write a history of at most 2,147,483,648 bytes. It is the record of the script's first 1,000,000 events, is
-- audited as legal, and has the run's replies
abbrev pub RunHistoriesAreLegal : Type 0
RunHistoriesAreLegal = (rules : Rules) (text : Text) (script : Meaning) → reading_under rules text ≡ Means script → length (history_output rules text) ≤ 2147483648
    → IsRunHistory script.config (take most_entries script.events) (history_output rules text)
