-- Entries that are followed by the heap that never collects, and looked at.
use Rattle.std.specs.Prelude.{◌≡◌, ℕ, ◌≤◌, Bool, false, Option, option_map, List, count_by, length}
use Rattle.mh_model.specs.{declared.command.Event.Event, declared.config.Rules.Rules, declared.history.Entry.Entry}
use Rattle.mh_model.specs.{declared.history.Version.Version, declared.history.Version.TheVariants.{One, Two}}
use Rattle.mh_model.specs.{declared.reply.Reply.Reply, Bytes.{Text, words}, History.{events_of, replies_of}}
use Rattle.mh_model.specs.{HistoryTexts.{entry_of, measured_of}, Sessions.{IsLegalForSessions, lacks_room}}
use Rattle.mh_model.specs.{Snapshot.world_beside, World.{IsNew, World, births, first_world}}
use Rattle.mh_judge_sessions.specs.{declared.tally.EntryCounts.EntryCounts, Full.{is_full, tally_of}}

-- a line of this version, as its sessions see it: without its units
abbrev pub seen_line : Version → Text → Option Entry
seen_line One line = entry_of One (words line)
seen_line Two line = option_map (λ measured. measured.entry) (measured_of (words line))

-- Following --------------------------------------------------------------------------------------

-- an event that makes an object, for which the reply says that there was room
abbrev pub MakesObject : Event → Reply → Type 0
MakesObject (Event.Session who command) answer = IsNew command × (lacks_room command answer ≡ false)
MakesObject (Event.Control control) answer = ⊥

-- the entries are legal for their sessions, and this is the world beside them
pub record HasFollowed (rules : Rules) (seen : List Entry) (world : World) (followed : ℕ) : Type 0 where
  pub under : world.config.rules ≡ rules
  pub beside : world ≡ world_beside (first_world world.config) (events_of seen) (replies_of seen)
  pub count : followed ≡ length seen
  pub legal : IsLegalForSessions rules seen

-- the version of the lines, whether a heap may be full, the rules, the world beside the entries that were followed, and what was looked at
pub record Watched : Type 0 where
  pub version : Version
  pub may_be_full : Bool
  pub rules : Rules
  pub world : World
  pub tally : EntryCounts

-- one that began so has followed these entries: they are legal for their sessions, and none is full that may not be
pub record HasWatched (first : Watched) (entries : List Entry) (now : Watched) : Type 0 where
  pub version : now.version ≡ first.version
  pub may_be_full : now.may_be_full ≡ first.may_be_full
  pub followed : HasFollowed first.rules entries now.world now.tally.entries
  pub births : births now.world ≤ now.tally.entries
  pub tally : now.tally ≡ tally_of entries
  pub room : first.may_be_full ≡ false → count_by is_full entries ≡ 0
