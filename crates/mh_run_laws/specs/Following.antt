-- One command on the pages, beside the same command on what the heap shows.
use Rattle.std.specs.Prelude.{◌≡◌, ℕ, Bool, is_none}
use Rattle.mh_model.specs.{declared.command.Command.Command, World.heap_step}
use Rattle.mh_model.specs.{Mutator.{HeapState, new_group, mutator_step}, View.heap_view, Invariant.IsKeeping}

-- not all parts of a new object find a place
abbrev pub has_no_place : HeapState → ℕ → ℕ → Bool
has_no_place heap references numbers = is_none (new_group heap references numbers)

-- a command on the pages, beside the same one on what the heap shows: it has the same reply, and the heap then shows what the command leaves there
pub record Follows (heap : HeapState) (who : ℕ) (command : Command) : Type 0 where
  pub reply : (mutator_step heap who command).reply ≡ (heap_step (has_no_place heap) (heap_view heap) who command).reply
  pub state : heap_view (mutator_step heap who command).state ≡ (heap_step (has_no_place heap) (heap_view heap) who command).state

abbrev pub SameFollows : Type 0
SameFollows = (heap : HeapState) → IsKeeping heap → (who left right : ℕ) → Follows heap who (Command.Same left right)

-- Reading a reference into a slot: the reply on a kept heap is the one on its view, and its view becomes what the command makes of it
abbrev pub GetFollows : Type 0
GetFollows = (heap : HeapState) → IsKeeping heap → (who slot source field : ℕ) → Follows heap who (Command.Get slot source field)

-- Each of the twelve commands: the reply on a kept heap is the one on its view, and its view becomes what the command makes of it
abbrev pub CommandsFollow : Type 0
CommandsFollow = (heap : HeapState) → IsKeeping heap → (who : ℕ) (command : Command) → Follows heap who command
