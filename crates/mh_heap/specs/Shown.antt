-- What a heap shows, and what a command and a quantum show of it.
use Rattle.std.specs.Prelude.{◌≡◌, ℕ, ◌+◌, ◌≤◌, Bool}
use Rattle.mh_model.specs.{declared.command.Command.Command, declared.reply.Reply.Reply, World.{World, Performs}}
use Rattle.mh_model.specs.Paths.{Agrees}

-- what a heap shows: the world that it is seen as, and whether no place is left for an object of so many references and numbers; how many cycles have
-- begun, and the most that a quantum spends
pub record Showing : Type 0 where
  pub view : World
  pub is_full : ℕ → ℕ → Bool
  pub number : ℕ
  pub limit : ℕ

-- a command was performed in what is shown, and no cycle began
pub record ShowsCommand (old : Showing) (who : ℕ) (command : Command) (reply : Reply) (new : Showing) : Type 0 where
  pub step : Performs old.is_full old.view who command reply new.view
  pub number : new.number ≡ old.number
  pub limit : new.limit ≡ old.limit

-- A quantum was run: what is left agrees with what was there, it spent at most the limit, and at most one cycle began
pub record ShowsQuantum (old : Showing) (units : ℕ) (new : Showing) : Type 0 where
  pub view : Agrees new.view old.view
  pub spent : units ≤ old.limit
  pub number : old.number ≤ new.number
  pub one : new.number ≤ old.number + 1
  pub limit : new.limit ≡ old.limit
