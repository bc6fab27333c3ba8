-- Auxiliary definitions: what loops, private functions and the insides of types keep. No public contract depends on them.
use Rattle.std.specs.{Prelude.{ℕ, ◌+◌, Option, option_map, unwrap_or, List, [], length, ◌≡◌, ◌≤◌, flat_map}, Borrow.Bor}
use Rattle.mh_model.specs.{Bytes.Text, Machine.{Machine, first_machine, machine_after}, Pages.{Table, page_at}}
use Rattle.mh_model.specs.{Table.Block, declared.command.Event.Event, declared.config.Config.Config}
use Rattle.mh_model.specs.Limits.{most_entries}

-- the slots of a page, none of a free one
abbrev pub slots_at : Table Block → ℕ → List (Option Block)
slots_at table page = unwrap_or (option_map (λ used. used.slots) (page_at table page)) []

-- a run of a history has come to a machine, and goes on for so many events
pub record HasRun (machine : Machine) (more : ℕ) : Type 0 where
  pub config : Config
  pub before : List Event
  pub few : length before + more ≤ most_entries
  pub machine_is : machine ≡ machine_after (first_machine config) before

-- texts that references point to, each after the one before
abbrev pub joined_pieces : List (Bor Text) → Text
joined_pieces pieces = flat_map (λ piece. piece.now) pieces
