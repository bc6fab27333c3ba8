-- How many are born by a command.
use Rattle.std.proofs.Common.{ℕ, ◌+◌, ◌≤◌, Bool, subst}
use Rattle.mh_model.specs.{declared.command.Command.Command, declared.reply.Reply.Reply}
use Rattle.mh_model.specs.World.{World, Answer, Performs, births}
use Rattle.mh_model.proofs.WorldLemmas.{births-heap_step}

-- a command that was performed made one object at most
pub births_performed : (is_full : ℕ → ℕ → Bool) (old new : World) (who : ℕ) (command : Command) (reply : Reply) → Performs is_full old who command reply new → births new ≤ births old + 1
births_performed is_full old new who command reply performs =
    subst (λ (answer : Answer World). births answer.state ≤ births old + 1) performs (births-heap_step is_full old who command)
