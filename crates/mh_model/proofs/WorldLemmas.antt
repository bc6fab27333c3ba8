-- What a step of a session leaves of a world.
use Rattle.std.proofs.Common.{◌≡◌, ℕ, ◌+◌, ◌≤◌, Bool, Option, Some, None, refl, arith, length-append}
use Rattle.std.proofs.Math.ListN.{length-set}
use Rattle.mh_model.specs.{declared.command.Command.Command, declared.reply.Refusal.Refusal}
use Rattle.mh_model.specs.World.{Object, World, Answer, births, with_change, effect, unless_refused, refusal, sight_of, heap_step}

pub births-with_change : (world : World) (name : Option ℕ) (change : Object → Object) → births (with_change world name change) ≡ births world
births-with_change world None change = refl
births-with_change world (Some birth) change = length-set _ _ _

births-effect : (world : World) (who : ℕ) (command : Command) → births (effect world who command).state ≤ births world + 1
births-effect world who (Command.New slot references numbers) = omega (arith, length-append {A = Option Object})
births-effect world who (Command.Put slot field value) = omega (arith, births-with_change)
births-effect world who (Command.Write slot index number) = omega (arith, births-with_change)
births-effect world who other = omega arith

births-unless_refused : (refused : Option Refusal) (world : World) (answer : Answer World) → births answer.state ≤ births world + 1 → births (unless_refused refused world answer).state ≤ births world + 1
births-unless_refused None world answer below = below
births-unless_refused (Some refused) world answer below = omega arith

-- one command makes one object at most
pub births-heap_step : (is_full : ℕ → ℕ → Bool) (world : World) (who : ℕ) (command : Command) → births (heap_step is_full world who command).state ≤ births world + 1
unfolding heap_step
births-heap_step is_full world who command =
    births-unless_refused (refusal (sight_of is_full world) who command) world (effect world who command) (births-effect world who command)
