-- A world that a program drives, and what a command makes of it.
use Rattle.std.specs.Prelude.{◌≡◌, ◌<◌, ℕ, suc}
use Rattle.mh_model.specs.{declared.command.Command.Command, declared.config.Config.Config, declared.reply.Reply.Reply}
use Rattle.mh_model.specs.{Limits.most_events, World.{World, first_world, says, world_step}}

-- a world, and how many commands it has done
pub record Grown : Type 0 where
  pub world : World
  pub done : ℕ

-- before the first command
abbrev pub first_grown : Config → Grown
first_grown config = record { world = first_world config; done = 0 }

-- a world did a command
pub record Growing (old : Grown) (who : ℕ) (command : Command) (given : Reply) (new : Grown) : Type 0 where
  pub room : old.done < most_events
  pub does : world_step old.world who command ≡ says given new.world
  pub done : new.done ≡ suc old.done
