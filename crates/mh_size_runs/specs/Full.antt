-- The first event of a run that is answered by a full heap.
use Rattle.std.specs.Prelude.{◌≡◌, ℕ, suc, false, Option, Some, None, option_map, if◌then◌else◌, List, [], ◌∷◌}
use Rattle.std.specs.List.{AllByRecursion}
use Rattle.mh_model.specs.{declared.command.Event.Event, declared.config.Config.Config, declared.reply.Reply.Reply}
use Rattle.mh_model.specs.{Machine.{first_machine, machine_replies}, Snapshot.is_heap_full}

-- none of these replies is a full heap
abbrev pub AreNotFull : List Reply → Type 0
AreNotFull answers = AllByRecursion (λ answer. is_heap_full answer ≡ false) answers

-- no reply to these events is a full heap, which is the first part of `IsNeverFull`. Of flagged pages it says nothing
abbrev pub HasNoFullReply : Config → List Event → Type 0
HasNoFullReply config events = AreNotFull (machine_replies (first_machine config) events)

-- the number of the first of these replies that is a full heap, counted from 1
abbrev pub first_full_among : List Reply → Option ℕ
first_full_among [] = None
first_full_among (answer ∷ answers) = if is_heap_full answer then Some 1 else option_map suc (first_full_among answers)

-- the number of the first event that is answered by a full heap
unfoldable pub first_full : Config → List Event → Option ℕ
first_full config events = first_full_among (machine_replies (first_machine config) events)
