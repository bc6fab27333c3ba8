-- What programs open that keep to a rate, and a heap with room for them.
use Rattle.std.proofs.Common.{◌≡◌, ℕ, ◌+◌, ◌*◌, min, if◌then◌else◌, ◌==◌, refl, lit≤, arith}
use Rattle.std.specs.Int.{div_ceil}
use Rattle.mh_model.specs.declared.config.{Config.Config, Rules.TheVariants.Second}
use Rattle.mh_size_laws.specs.Rates.{interval_units, opens_at_rate, HasRoomAtRate}

-- twenty blocks of 8 words in each thousand units
abbrev nodes : ℕ → ℕ → ℕ
nodes size units = if size == 8 then min units (div_ceil (units * 20) 1000) else 0

-- the same; and 51 blocks of 64 words at once, and in each 20,000 units as many again
abbrev nodes_and_arrays : ℕ → ℕ → ℕ
nodes_and_arrays size units = if size == 64 then min units (51 + div_ceil (units * 51) 20000) else nodes size units

-- at twenty blocks of 8 words in a thousand units an interval of 5,000 has 100, which fill four pages of 32 slots
-- refuses: pages are rounded down
pub two_intervals_of_nodes : opens_at_rate nodes (interval_units 5000 1) 2 ≡ 8
two_intervals_of_nodes = refl

-- an interval has up to 4,999 units before its last command, and then the blocks of an object
-- refuses: an interval ends before that command, or has a unit more
pub units_of_an_interval : interval_units 5000 51 ≡ 5050
units_of_an_interval = refl

-- if 51 blocks of 64 words come at once, and as many again in 20,000 units, two such intervals have 77 of them, which fill 20 pages at most
-- refuses: each interval has a burst of its own
pub arrays_in_a_row : opens_at_rate nodes_and_arrays (interval_units 5000 51) 2 ≡ 28
arrays_in_a_row = refl

-- four short intervals: 62 blocks of 64 words fill 18 pages at most, and in each interval 21 of 8 words a page
-- refuses: the same; blocks of all intervals counted together, where those of each fill fewer pages
pub short_intervals : opens_at_rate nodes_and_arrays (interval_units 1000 51) 4 ≡ 22
short_intervals = refl

abbrev room_for_nodes : Config
room_for_nodes = record { pages = 83; quantum = 5000; trigger = 7; every = 5000; rules = Second; in_limits = refl }

-- with 75 pages in use as a cycle ends, 83 have room for the blocks of 8 words if cycles take two quanta
pub a_heap_with_room : HasRoomAtRate nodes 1 2 75 room_for_nodes
a_heap_with_room = record { scheduled = lit≤ tt; pages = lit≤ tt; trigger = lit≤ tt }

-- those pages have no room if cycles take three quanta
pub no_room_for_three : HasRoomAtRate nodes 1 3 75 room_for_nodes → ⊥
no_room_for_three has = absurd (omega (arith, has.pages))
