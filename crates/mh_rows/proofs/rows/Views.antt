-- What a heap shows beside the world of the same commands, what its cycles keep, and what their snapshots have.
use Rattle.std.proofs.Common.{◌≡◌, ◌==◌, ◌&&◌, ◌++◌, ℕ, Bool, true, false, Option, Some, None, is_some, List, [], ◌∷◌, map, take, refl, option_map}
use Rattle.mh_model.specs.declared.command.Command.TheVariants.{Clear, End, Get, New, Post, Put, Read, Take, Write}
use Rattle.mh_model.specs.{declared.command.Event.Event, declared.config.Config.Config, World.Object}
use Rattle.mh_model.specs.{Configs.configured, View.heap_view, Snapshot.{Moment, first_moment, moment_after}}
use Rattle.mh_rows.proofs.rows.Worked.{worked, times, a, b, session, start, quantum_asked}

-- Tests of equality ------------------------------------------------------------------------------

abbrev same_references : List (Option ℕ) → List (Option ℕ) → Bool
same_references [] [] = true
same_references (None ∷ xs) (None ∷ ys) = same_references xs ys
same_references (Some x ∷ xs) (Some y ∷ ys) = (x == y) && same_references xs ys
same_references _ _ = false

abbrev same_numbers : List ℕ → List ℕ → Bool
same_numbers [] [] = true
same_numbers (x ∷ xs) (y ∷ ys) = (x == y) && same_numbers xs ys
same_numbers _ _ = false

-- each object that is shown is the world's
abbrev same_objects : List (Option Object) → List (Option Object) → Bool
same_objects [] [] = true
same_objects (None ∷ xs) (y ∷ ys) = same_objects xs ys
same_objects (Some x ∷ xs) (Some y ∷ ys) = same_references x.references y.references && (same_numbers x.numbers y.numbers && same_objects xs ys)
same_objects _ _ = false

-- the view shows the slots of the world, and of its objects those at which there is something
abbrev agrees : Moment → Bool
agrees moment = same_references (heap_view moment.machine.heap).slots moment.world.slots && same_objects (heap_view moment.machine.heap).objects moment.world.objects

abbrev moment_of : Option Config → List Event → Option Moment
moment_of config events = option_map (λ c. moment_after (first_moment c) events) config

abbrev is_agreed : Option Config → List Event → Option Bool
is_agreed config events = option_map agrees (moment_of config events)

-- at which births something is shown
abbrev shown : Option Config → List Event → Option (List Bool)
shown config events = option_map (λ moment. map is_some (heap_view moment.machine.heap).objects) (moment_of config events)

-- at which births something was in the snapshot
abbrev snapped : Option Config → List Event → Option (List Bool)
snapped config events = option_map (λ moment. map is_some moment.snapshot.objects) (moment_of config events)

-- which sessions have ended, as the heap shows it and as the world has it
abbrev ended_shown : Option Config → List Event → Option (List Bool)
ended_shown config events = option_map (λ moment. (heap_view moment.machine.heap).ended ++ moment.world.ended) (moment_of config events)

-- Agreeing ---------------------------------------------------------------------------------------

-- the heap shows the objects, fields and slots of the world
-- refuses: the world has a slot less; the heap has one slot less
pub two_objects_agree : is_agreed (configured 4 209 0 0) (a (New 0 1 1) ∷ a (New 1 0 1) ∷ a (Write 1 0 5) ∷ a (Put 0 0 1) ∷ a (Get 2 0 0) ∷ a (Read 2 0) ∷ []) ≡ Some true
unfolding worked
two_objects_agree = refl

-- an object whose spine has a stale word is shown as the world has it
-- refuses: any part is shown for an object; references are shown as they are stored
pub stale_spine_agrees : is_agreed (configured 8 1000 0 0) (times 51 (a (New 1 0 1) ∷ []) ++ (a (New 0 0 61) ∷ start ∷ quantum_asked ∷ a (Write 0 60 9) ∷ [])) ≡ Some true
unfolding worked
stale_spine_agrees = refl

-- an object whose first part and middle spine have stale words is shown as the world has it
-- refuses: a middle spine has 3,601 fields; any part is shown for an object
pub stale_middle_spine_agrees : is_agreed (configured 24 1000 0 0) (times 51 (a (New 1 0 1) ∷ []) ++ (a (New 0 1 3600) ∷ a (Put 0 0 0) ∷ start ∷ quantum_asked ∷ a (Write 0 3599 9) ∷ [])) ≡ Some true
unfolding worked
stale_middle_spine_agrees = refl

-- a number that is written into an object whose forwarder comes before its copy is shown
-- refuses: forwarders are held; the world's Clear clears nothing
pub moved_later_agrees : is_agreed (configured 4 1000 0 0) (a (New 0 0 60) ∷ a (New 1 0 60) ∷ a (New 2 0 60) ∷ a (New 3 0 60) ∷ a (New 4 0 60) ∷ a (New 5 0 60) ∷ a (New 6 0 60) ∷ a (New 7 0 60) ∷ a (New 8 0 60) ∷ a (New 9 0 60) ∷ a (New 10 0 60) ∷ a (New 11 0 60) ∷ a (Clear 5) ∷ a (Clear 6) ∷ a (Clear 7) ∷ a (Clear 10) ∷ a (Clear 11) ∷ start ∷ quantum_asked ∷ a (Write 4 0 7) ∷ []) ≡ Some true
unfolding worked
moved_later_agrees = refl

-- references and numbers of two arraylets are shown as the world has them
-- refuses: the first arraylet is shown for an object; a number's field is not offset by the references
pub two_arraylets_agree : is_agreed (configured 8 209 0 0) (a (New 0 61 2) ∷ a (New 1 0 5) ∷ a (Put 0 60 1) ∷ a (Put 0 3 0) ∷ a (Write 0 0 8) ∷ a (Write 0 1 9) ∷ a (Write 1 4 6) ∷ []) ≡ Some true
unfolding worked
two_arraylets_agree = refl

-- the world isn't given an object that the full heap refused
-- refuses: the world is given what a full heap refused; a refused object takes a birth
pub full_heap_agrees : is_agreed (configured 2 209 0 0) (a (New 0 0 1) ∷ a (New 0 0 61) ∷ a (New 1 0 1) ∷ a (Write 1 0 5) ∷ []) ≡ Some true
unfolding worked
full_heap_agrees = refl

-- heap and world have the same slots of the board and of sessions that have ended
-- refuses: the world's End clears 15 slots; the world's End clears from the second slot
pub ended_sessions_agree : is_agreed (configured 4 209 0 0) (a (New 0 0 1) ∷ b (New 15 0 2) ∷ a (Post 15 0) ∷ session 2 (Take 3 15) ∷ a End ∷ b End ∷ []) ≡ Some true
unfolding worked
ended_sessions_agree = refl

-- Shown, and in snapshots -------------------------------------------------------------------------

-- objects that are still to be swept away are not shown, and one is that was made at a place not swept yet
-- refuses: nothing is condemned; what was swept is condemned
pub condemned : shown (configured 1 290 0 0) (a (New 0 0 60) ∷ a (New 1 0 60) ∷ a (New 2 0 60) ∷ a (Clear 1) ∷ a (Clear 2) ∷ start ∷ quantum_asked ∷ a (New 3 0 60) ∷ []) ≡ Some (true ∷ false ∷ false ∷ true ∷ [])
unfolding worked
condemned = refl

-- an object that is not marked is shown while blocks are marked
-- refuses: unmarked blocks are condemned in every phase; Clear takes the block away at once
pub unmarked_in_mark : shown (configured 8 289 0 0) (a (New 0 60 0) ∷ a (New 1 0 0) ∷ a (New 2 0 0) ∷ a (Clear 2) ∷ start ∷ quantum_asked ∷ []) ≡ Some (true ∷ true ∷ true ∷ [])
unfolding worked
unmarked_in_mark = refl

-- heap and world show which sessions have ended
-- refuses: no sessions are shown as ended; the world has seven sessions that can end
pub ended_sessions_shown : ended_shown (configured 4 209 0 0) (a (Clear 0) ∷ session 2 End ∷ []) ≡ Some (false ∷ false ∷ true ∷ false ∷ false ∷ false ∷ false ∷ false ∷ false ∷ false ∷ true ∷ false ∷ false ∷ false ∷ false ∷ false ∷ [])
unfolding worked
ended_sessions_shown = refl

-- a cycle over five objects, of which the last is dropped while it runs, and then another
abbrev dropping : List Event
dropping =
    a (New 0 60 0) ∷ a (New 1 60 0) ∷ a (New 2 60 0) ∷ a (New 3 1 0) ∷ a (New 4 0 0) ∷ a (Put 3 0 4) ∷ a (Clear 4) ∷ start ∷ quantum_asked ∷ quantum_asked ∷ a (Put 3 0 15) ∷ a (New 5 0 0) ∷ quantum_asked
    ∷ start ∷ quantum_asked ∷ quantum_asked ∷ quantum_asked ∷ []

-- an object that is dropped while its cycle marks is shown after it
-- refuses: Put has no barrier in mark; the barrier of a reference shades the new target
pub kept_by_its_cycle : shown (configured 8 209 0 0) (take 13 dropping) ≡ Some (true ∷ true ∷ true ∷ true ∷ true ∷ true ∷ [])
unfolding worked
kept_by_its_cycle = refl

-- an object that was dropped while a cycle marked is not shown after the next
-- refuses: the heap's Put of an empty slot leaves the field; an object is born unmarked
pub gone_with_the_next : shown (configured 8 209 0 0) dropping ≡ Some (true ∷ true ∷ true ∷ true ∷ false ∷ true ∷ [])
unfolding worked
gone_with_the_next = refl

-- an object that is born while a cycle runs is not in its snapshot
-- refuses: a snapshot is taken by each quantum; asking starts the cycle at once
pub snapshot_of_the_first : snapped (configured 8 209 0 0) (take 13 dropping) ≡ Some (true ∷ true ∷ true ∷ true ∷ true ∷ [])
unfolding worked
snapshot_of_the_first = refl

-- a cycle that starts with the quantum of a command has the command's object in its snapshot, and none that is born later
-- refuses: the snapshot is the world before the command; no snapshot is taken by scheduled quanta
pub taken_after_the_command : snapped (configured 4 209 4 1) (a (New 0 0 0) ∷ a (New 1 0 0) ∷ []) ≡ Some (true ∷ [])
unfolding worked
taken_after_the_command = refl

-- if no quantum is due no snapshot is taken, though a cycle is asked for
-- refuses: a snapshot is taken by an asked quantum beside the schedule
pub not_taken_by_asking : snapped (configured 4 209 0 2) (a (New 0 0 0) ∷ start ∷ quantum_asked ∷ []) ≡ Some []
unfolding worked
not_taken_by_asking = refl

-- the next cycle has a snapshot of its own
-- refuses: asking starts the cycle at once; the trigger is looked at for asked cycles too
pub taken_again : snapped (configured 4 1000 0 0) (a (New 0 0 0) ∷ start ∷ quantum_asked ∷ a (New 1 0 0) ∷ start ∷ quantum_asked ∷ a (Clear 0) ∷ []) ≡ Some (true ∷ true ∷ [])
unfolding worked
taken_again = refl
