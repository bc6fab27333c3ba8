-- What is wrong with the first entry that its session may not see.
use Rattle.std.specs.Prelude.{◌≡◌, List}
use Rattle.mh_judge.specs.{declared.entry_fault.EntryFault.EntryFault, Faults.IsReplyFault}
use Rattle.mh_model.specs.{declared.command.Event.Event, declared.config.Config.Config, declared.config.Rules.Rules}
use Rattle.mh_model.specs.{declared.history.Entry.Entry, declared.reply.Reply.Reply, History.{events_of, replies_of}}
use Rattle.mh_model.specs.{Sessions.MayLackRoom, Snapshot.world_beside, World.{World, first_world, world_step}}

-- what a fault says of a reply to an event beside the world's: a control's is never wrong
abbrev pub IsUnseenReply : World → Event → Reply → EntryFault → Type 0
IsUnseenReply world (Event.Session who command) answer fault = ¬ MayLackRoom world who command answer × IsReplyFault answer (world_step world who command).reply fault
IsUnseenReply world (Event.Control control) answer fault = ⊥

-- what is wrong with an entry that its session may not see
abbrev pub IsUnseen : World → Entry → EntryFault → Type 0
IsUnseen world entry fault = IsUnseenReply world entry.event entry.reply fault

-- the same of an entry after others, with the world beside these, under any configuration with these rules
abbrev pub IsUnseenAfter : Rules → List Entry → Entry → EntryFault → Type 0
IsUnseenAfter rules before entry fault = (config : Config) → config.rules ≡ rules → IsUnseen (world_beside (first_world config) (events_of before) (replies_of before)) entry fault

-- What a fault says of an entry whose reply isn't the world's, also if it is that of a full heap
abbrev pub IsOtherReply : World → Event → Reply → EntryFault → Type 0
IsOtherReply world (Event.Session who command) answer fault = IsReplyFault answer (world_step world who command).reply fault
IsOtherReply world (Event.Control control) answer fault = ⊥

-- the same of an entry after others, under any configuration with these rules
abbrev pub IsOtherAfter : Rules → List Entry → Entry → EntryFault → Type 0
IsOtherAfter rules before entry fault = (config : Config) → config.rules ≡ rules → IsOtherReply (world_beside (first_world config) (events_of before) (replies_of before)) entry.event entry.reply fault
