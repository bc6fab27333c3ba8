-- Entries that a machine follows.
use Rattle.std.specs.Prelude.{◌≡◌, Option, Some, None, List}
use Rattle.mh_model.specs.declared.{command.Event.Event, config.Config.Config}
use Rattle.mh_machine.specs.{Judging.HasJudged, Running.{Running, first_running}}

-- the configuration under which a machine replays, and the machine, if it was opened
pub record Replayed : Type 0 where
  pub config : Config
  pub machine : Option Running

-- the machine that it is, or would be
abbrev pub opened_or : Config → Option Running → Running
opened_or config None = first_running config
opened_or config (Some machine) = machine

abbrev pub running : Replayed → Running
running replay = opened_or replay.config replay.machine

-- the events of these entries were done under this configuration, and the entries are lawful
pub record HasReplayed {X : Type 0} (event_of : X → Event) (Lawful : Config → List X → Type 0) (config : Config) (entries : List X) (now : Replayed) : Type 0 where
  pub under : now.config ≡ config
  pub judged : HasJudged config event_of (Lawful config) entries (running now)
