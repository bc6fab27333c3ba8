-- A run that has room, and the same in a page less: what its intervals open together would fit there, and what each opens by itself doesn't.
use Rattle.std.proofs.Common.{◌≡◌, ℕ, List, [], ◌∷◌, ◌++◌, map, refl, lit≤}
use Rattle.std.specs.List.{flat_map}
use Rattle.mh_model.specs.{declared.command.Command.TheVariants.New, declared.command.Event.Event}
use Rattle.mh_model.specs.{declared.config.Config.Config, declared.config.Rules.TheVariants.Second}
use Rattle.mh_model.specs.{Machine.first_machine, Openings.{opens_at_most, free_of}}
use Rattle.mh_model.specs.Intervals.{cycle_ends, CyclesTakeAtMost}
use Rattle.mh_size_laws.specs.Room.{first_start, later_intervals, opened_in_a_row, HasRoomInARow}
use Rattle.mh_rows.proofs.rows.Worked.{a, quantum_asked, start, worked}

-- Four blocks fill a page. A cycle is asked for, and the first quantum has all of it. The fifth block opens a page, which a second cycle flags. So the sixth
-- opens another, and a smaller block a third
abbrev script : List Event
script =
    a (New 0 0 60) ∷ a (New 1 0 60) ∷ a (New 2 0 60) ∷ a (New 3 0 60) ∷ start ∷ quantum_asked ∷ quantum_asked
    ∷ a (New 4 0 60) ∷ quantum_asked ∷ a (New 5 0 60) ∷ a (New 6 0 46) ∷ []

-- pages, and a trigger of two less
abbrev three_pages : Config
three_pages = record { pages = 3; quantum = 303; trigger = 1; every = 0; rules = Second; in_limits = refl }

abbrev four_pages : Config
four_pages = record { pages = 4; quantum = 303; trigger = 2; every = 0; rules = Second; in_limits = refl }

-- the most that two intervals and one open since the first cycle started; the free pages after the quantum that starts it, and as cycles end
abbrev counts : Config → List ℕ
counts config = opened_in_a_row 2 config script ∷ opened_in_a_row 1 config script ∷ (map free_of (first_start (first_machine config) script) ++ map free_of (cycle_ends (first_machine config) script))

-- two intervals open three pages, two are free, and the last block finds none
-- refuses: blocks of a class counted together for all intervals in a row
pub three_are_opened_and_two_free : counts three_pages ≡ 3 ∷ 2 ∷ 2 ∷ 2 ∷ []
unfolding worked
three_are_opened_and_two_free = refl

-- together they would open two
pub together_two : opens_at_most three_pages (flat_map (λ interval. interval) (later_intervals (first_machine three_pages) script)) ≡ 2
unfolding worked
together_two = refl

-- a page more has room
pub a_page_more_has_room : HasRoomInARow four_pages script 2
unfolding worked
a_page_more_has_room = record { before = (refl, (refl, (refl, (refl, (refl, (refl, tt)))))); trigger = lit≤ tt; start = (lit≤ tt, tt); left = (lit≤ tt, tt) }

pub cycles_take_two : CyclesTakeAtMost 2 four_pages script
unfolding worked
cycles_take_two = (λ runs. lit≤ tt, (λ runs. lit≤ tt, (λ runs. lit≤ tt, (λ runs. lit≤ tt, (λ runs. lit≤ tt, (λ runs. lit≤ tt, (λ runs. lit≤ tt, (λ runs. lit≤ tt, (λ runs. lit≤ tt, (λ runs. lit≤ tt, (λ runs. lit≤ tt, (λ runs. lit≤ tt, tt))))))))))))
