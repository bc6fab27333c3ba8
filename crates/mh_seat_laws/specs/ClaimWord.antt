-- The rule of the claim word, of a table of one word as `atomic_table` keeps it; and the claim state of the model that the table shows. The crate of
-- the claim word, `mh_claims`, cites the rule.
use Rattle.std.specs.Prelude.{◌≡◌, ℕ, ◌+◌, ◌^◌, ◌<◌, List, [], ◌∷◌, length, slice_index}
use mathlib.Core.Option.{some}
use lib.ListN.{get_elem?}
use Rattle.atomic_table.specs.Table.{State}
use Rattle.mh_model.specs.History.{OnlyLastPast}
use Rattle.mh_seat_laws.specs.Weights.{weigh_lists, weigh_below, total}

-- what a seat knows: the numbers drawn by each seat that it stands for. A seat that was joined to another stands for none
abbrev pub Lists : Type 0
Lists = List (List ℕ)

-- lists of which only the last number may not be below a bound
abbrev pub AllRunOut : ℕ → Lists → Type 0
AllRunOut bound [] = Unit {0}
AllRunOut bound (l ∷ ls) = OnlyLastPast bound l × AllRunOut bound ls

-- The rule, about a bound and a number of seats: there are as many lists as seats; the lists of all seats together are the numbers below the word,
-- each once; and only the last number of a list may not be below the bound. Each once is said by weights: whatever the numbers weigh, those drawn
-- weigh what those below the word weigh. The bound and the number of seats add up to less than 2^64. The clause on last numbers says more than the
-- counts: without it the law that such a table shows the model's draw rule has no proof. The calls `draw` and `finish` rest on that clause
pub record IsClaimed (about : ℕ × ℕ) (table : State (Unit {0}) Lists) : Type 0 where
  pub words : length table.words ≡ 1
  pub room : about.0 + about.1 < 2 ^ 64
  pub seats : total length table.views ≡ about.1
  pub drawn : (h : ℕ → ℕ) → total (weigh_lists h) table.views ≡ weigh_below h (slice_index table.words 0)
  pub run_out : (id : ℕ) (view : Lists) → get_elem? table.views id ≡ some view → AllRunOut about.0 view
