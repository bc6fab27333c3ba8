-- Laws of histories that are judged by what their sessions see.
use Rattle.std.specs.Prelude.{◌≡◌, ◌↔◌, ℕ, Bool, true, false, Option, List, ◌∷◌, ◌++◌}
use Rattle.mh_model.specs.{declared.command.Command.Command, declared.config.Config.Config, declared.config.Rules.Rules}
use Rattle.mh_model.specs.{declared.history.Entry.Entry, declared.history.Verdict.Verdict, declared.reply.Reply.Reply}
use Rattle.mh_model.specs.{Bytes.Text, History.{IsLegal, events_of, replies_of}}
use Rattle.mh_model.specs.Sessions.{AreSeen, IsLegalForSessions, IsSeenThrough, MayLackRoom}
use Rattle.mh_model.specs.{Snapshot.{is_heap_full, world_beside}, World.{World, first_world, says, world_step}}
use Rattle.mh_model.specs.declared.command.Event.{Event}
use Rattle.mh_judge_sessions.specs.Texts.{IsSeenThroughBy}

-- the same world under another configuration
abbrev pub world_under : Config → World → World
world_under config world = record { config = config; objects = world.objects; slots = world.slots; ended = world.ended }

-- Of a configuration only the rules matter. Under another with the same rules a command has the same reply, and leaves the same world but for the configuration. What sessions may see in a history is the same too
pub record OnlyTheRulesMatter : Type 0 where
  pub command : (config : Config) (world : World) → config.rules ≡ world.config.rules → (who : ℕ) (command : Command)
      → world_step (world_under config world) who command ≡ says (world_step world who command).reply (world_under config (world_step world who command).state)
  pub history : (config other : Config) → other.rules ≡ config.rules → (history : List Entry) → AreSeen (first_world config) history → AreSeen (first_world other) history

-- an entry of a session in a history, with the entries before it
pub record IsOfSession (history before : List Entry) (who : ℕ) (command : Command) (given : Reply) : Type 0 where
  pub later : List Entry
  pub split : history ≡ before ++ record { event = Event.Session who command; reply = given } ∷ later

-- Each reply to a session but a full heap is that of the ever-growing world, under any configuration with these rules. To that world the commands that a full heap refused weren't given. A full heap answers new objects alone, which that world would make
pub record AnswersItsSessions (rules : Rules) (history : List Entry) : Type 0 where
  pub reply : (config : Config) → config.rules ≡ rules → (before : List Entry) (who : ℕ) (command : Command) (given : Reply) → IsOfSession history before who command given → is_heap_full given ≡ false
      → given ≡ (world_step (world_beside (first_world config) (events_of before) (replies_of before)) who command).reply
  pub full : (config : Config) → config.rules ≡ rules → (before : List Entry) (who : ℕ) (command : Command) (given : Reply) → IsOfSession history before who command given → is_heap_full given ≡ true
      → MayLackRoom (world_beside (first_world config) (events_of before) (replies_of before)) who command given

-- A history that is legal for its sessions answers them so
abbrev pub SessionsSeeTheWorld : Type 0
SessionsSeeTheWorld = (rules : Rules) (history : List Entry) → IsLegalForSessions rules history → AnswersItsSessions rules history

-- A history with the machine's replies is legal for its sessions
abbrev pub LegalHistoriesAreLegalForSessions : Type 0
LegalHistoriesAreLegalForSessions = (config : Config) (history : List Entry) → IsLegal config history → IsLegalForSessions config.rules history

-- A text has a verdict by what its sessions see
abbrev pub TextsAreSeenThrough : Type 0
TextsAreSeenThrough = (asked : Option Rules) (text : Text) → (verdict : Verdict) × IsSeenThrough asked text verdict

-- It has one by whether a heap may be full, which is that one if a heap may be
pub record FullHeapsAreJudged : Type 0 where
  pub verdict : (may_be_full : Bool) (asked : Option Rules) (text : Text) → (verdict : Verdict) × IsSeenThroughBy may_be_full asked text verdict
  pub allowed : (asked : Option Rules) (text : Text) (verdict : Verdict) → IsSeenThroughBy true asked text verdict ↔ IsSeenThrough asked text verdict
