-- What a seat knows over a call, and what a closed lock says of its seats.
use Rattle.std.proofs.Common.{arith, ◌≡◌, List, [], ◌∷◌, ◌++◌, ℕ, suc, ◌+◌, ◌<◌, length, get_or, drop, None, sym, refl, subst}
use Rattle.std.proofs.{lemmas.List.get_or_push, Math.ListN.get_or-append}
use Rattle.atomic_table.specs.Table.{Me}
use Rattle.mh_seat_laws.specs.declared.seat_view.{FoundValue.FoundValue, SeatView.SeatView}
use Rattle.mh_lock.specs.{Steps.{seat_view, empty_logs, holding}, Auxiliary.{Grows, CanGive}}

-- New seats --------------------------------------------------------------------------------------

-- a seat that stands for several without an entry stands for one fewer after a split
pub rest-of_split : {T E O : Type 0} (first count rest next : ℕ) (before after : Me T (SeatView E O)) → before ≡ (seat_view (empty_logs first (suc count)) None, []) → after ≡ (seat_view (drop 1 before.0.logs) before.0.found, before.1)
    → count ≡ rest → suc first ≡ next → after ≡ (seat_view (empty_logs next rest) None, [])
rest-of_split {T} {E} {O} first count rest next before after is cut same more = grind arith

-- what holds at each place of a list holds with one value more
pub each-push : {X : Type 0} (P : ℕ → X → Type 0) (xs : List X) (x : X) (n m : ℕ) → length xs ≡ n → m ≡ n + 1 → ((j : ℕ) (d : X) → j < n → P j (get_or xs j d)) → P n x
    → (j : ℕ) (d : X) → j < m → P j (get_or (xs ++ x ∷ []) j d)
each-push P xs x n m many more all last j d below = grind (arith, get_or_push, get_or-append)

-- Calls ------------------------------------------------------------------------------------------

-- the value has changed with its seat, by what one call may add
pub can_give-grown : {T E O : Type 0} (owner : E → ℕ) (entries : T → List E) (origin : T → O) (me : Me T (SeatView E O)) (number : ℕ) (log : List E) (found : FoundValue E O) (value : T) → me ≡ holding number log found value
    → Grows owner number found.history (entries value) → origin value ≡ found.origin → CanGive owner entries origin me
can_give-grown {T} {E} {O} owner entries origin me number log found value is grows same =
    subst (CanGive owner entries origin) (sym is) (record { found = found; value = value; holds = refl; entries_grow = grows; same_origin = same })
