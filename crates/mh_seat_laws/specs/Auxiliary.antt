-- Auxiliary definitions: what loops, private functions and the insides of types keep. No public contract depends on them.
use Rattle.std.specs.Prelude.{◌≡◌, ℕ, ◌<◌, flat_map, length, slice_index, true, get_or, []}
use Rattle.atomic_table.specs.Table.{State}
use Rattle.mh_model.specs.History.{ClaimState, has_ended}
use Rattle.mh_seat_laws.specs.ClaimWord.{Lists}

-- The claim state that a table shows: its word, and the lists of all seats
abbrev pub claim_of : State (Unit {0}) Lists → ClaimState
claim_of table = record { word = slice_index table.words 0; drawn = flat_map (λ view. view) table.views }

-- every seat has ended
abbrev pub AllHaveEnded : ℕ → ClaimState → Type 0
AllHaveEnded bound claim = (seat : ℕ) → seat < length claim.drawn → has_ended bound (get_or claim.drawn seat []) ≡ true
