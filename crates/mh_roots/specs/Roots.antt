-- What holds of the root slots, and what empties some of them.
use Rattle.std.specs.Prelude.{ℕ, Option, None, List, ◌++◌, get_or, take, drop, replicate}
use Rattle.mh_model.specs.{World.own_slot, Pages.{Table, Leads}, Table.Block}

-- each slot is empty, or a block is at the place that it holds
abbrev pub SlotsLead : Table Block → List (Option ℕ) → Type 0
SlotsLead table slots = (slot : ℕ) → Leads table (get_or slots slot None)

-- the slots with those of a session empty
abbrev pub without_session : List (Option ℕ) → ℕ → List (Option ℕ)
without_session slots who = take (own_slot who 0) slots ++ (replicate 16 None ++ drop (own_slot who 16) slots)
