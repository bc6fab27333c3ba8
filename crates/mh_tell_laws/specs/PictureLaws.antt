-- The laws of pictures: deeds are enough to draw the heap, and what is drawn is enough for its dump.
use Rattle.std.specs.Prelude.{◌≡◌, List}
use Rattle.mh_model.specs.{declared.command.Event.Event, declared.config.Config.Config, Collector.Collector}
use Rattle.mh_model.specs.Machine.{first_machine, half_step, event_step, machine_after, dump_pages, stat_on}
use Rattle.mh_model.specs.{Deeds.account_of, declared.command.Control.Control, declared.reply.Reply.Reply}
use Rattle.mh_tell_laws.specs.Picture.{picture_of, empty_picture, drawn_all, accounts_of, drawn_run, pictured_dump, pictured_stat}

-- For every configuration and every list of events, the accounts draw the picture of the machine's heap, from the empty picture on, half moments
-- included. The replies to the controls `dump` and `stat` are the dump and the counts of what is drawn
pub record RunsTellThePicture : Type 0 where
  pub picture : (config : Config) (events : List Event) → picture_of (machine_after (first_machine config) events).heap.collector ≡ drawn_run (empty_picture config) (accounts_of (first_machine config) events)
  pub half : (config : Config) (events : List Event) (event : Event)
      → picture_of (half_step (machine_after (first_machine config) events) event).heap.collector ≡ drawn_all (drawn_run (empty_picture config) (accounts_of (first_machine config) events)) (account_of (machine_after (first_machine config) events) event).command
  pub dump : (config : Config) (events : List Event) → (event_step (machine_after (first_machine config) events) (Event.Control Control.Dump)).reply ≡ Reply.Dump (pictured_dump (drawn_run (empty_picture config) (accounts_of (first_machine config) events)))
  pub stat : (config : Config) (events : List Event) → (event_step (machine_after (first_machine config) events) (Event.Control Control.Stat)).reply ≡ Reply.Stat (pictured_stat (drawn_run (empty_picture config) (accounts_of (first_machine config) events)))

-- The dump and the counts of a heap are those of its picture
pub record PictureGivesTheDump : Type 0 where
  pub dump : (collector : Collector) → dump_pages 0 collector.table ≡ pictured_dump (picture_of collector)
  pub stat : (collector : Collector) → stat_on collector ≡ pictured_stat (picture_of collector)
