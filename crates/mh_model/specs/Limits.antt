-- The limits of a configuration and of a history, and the numbers of which costs and bounds are made.
use Rattle.std.specs.Prelude.{ℕ, ◌+◌, ◌-◌, nat_le, Bool, ◌&&◌}

-- the root slots: 16 of each of eight sessions, and 16 of the board
abbrev pub root_slots : ℕ
root_slots = 144

-- the least quantum: the dearest step, a move of 64 words with the charge for the root slots
abbrev pub least_quantum : ℕ
least_quantum = 209

-- what a quantum that leaves a cycle running may not have spent on it: less than the dearest step is left, and the root slots are charged once
abbrev pub quantum_overhead : ℕ
quantum_overhead = least_quantum - 1 + root_slots

-- the four numbers are within the limits: 1 to 4,096 pages; a quantum of 209 to 1,000,000 units; a trigger of at most the pages;
-- and a period of the scheduler of 0 to 1,000,000 units
abbrev pub is_configuration : ℕ → ℕ → ℕ → ℕ → Bool
is_configuration pages quantum trigger every =
    nat_le 1 pages && (nat_le pages 4096 && (nat_le least_quantum quantum && (nat_le quantum 1000000 && (nat_le trigger pages && nat_le every 1000000))))

-- the most entries of a history, and the most events of a script that are answered: 1,000,000
unfoldable pub most_entries : ℕ
most_entries = 1000000

-- the most events of a machine, and the most commands of a world: 2^42, so that no count of them comes near to 2^62
unfoldable pub most_events : ℕ
most_events = 4398046511104
