-- What a script is that was asked for.
use Rattle.std.specs.{Prelude.{◌≡◌, true, length, Result}, List.list_all}
use Rattle.mh_model.specs.{Bytes.Text, Configs.with_rules, HistoryTexts.is_event, Script.{Meaning, Means, reading}}
use Rattle.mh_model.specs.World.{first_world}
use Rattle.mh_text.specs.Devices.{Device}
use Rattle.mh_script.specs.{Texts.IsWriting, declared.fault.WriteError.WriteError}
use Rattle.mh_orders.specs.declared.generate_options.Options.{Options}
use Rattle.mh_generate.specs.Asked.{all_numbered, is_timed, version_under, writes_its_number}
use Rattle.mh_generate.specs.{Profiles.{has_acts, named_by}, Scripts.is_below, Taken.are_taken}

-- A text within the grammar that reads as a script with the configuration and as many events as are asked for: of no other sessions, with the controls
-- that are asked for, and with no event that its rules don't know. If its commands come from acts, a heap that never collects refuses none of them
pub record IsAsked (options : Options) (text : Text) : Type 0 where
  pub script : Meaning
  pub reads : reading text ≡ Means script
  pub config : script.config ≡ options.config
  pub count : length script.events ≡ options.events
  pub sessions : list_all (is_below (named_by options.profile options.sessions)) script.events ≡ true
  pub controls : all_numbered (is_timed options.controls) 1 script.events ≡ true
  pub rules : list_all (is_event (version_under options.rules)) script.events ≡ true
  pub writes : all_numbered (writes_its_number options.profile) 1 script.events ≡ true
  pub taken : has_acts options.profile ≡ true → are_taken (first_world (with_rules options.rules options.config)) script.events ≡ true

-- Such a text was written, or as much of it as the device took, or memory allowed
abbrev pub WritesAsked : Options → (old new : Device) → Result Unit WriteError → Type 0
WritesAsked options old new ended = (text : Text) × IsAsked options text × IsWriting old new text ended
