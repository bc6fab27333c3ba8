-- Auxiliary definitions: what loops, private functions and the insides of types keep. No public contract depends on them.
use Rattle.std.specs.Prelude.{◌≡◌, ℕ, ◌⊎◌, List, [], ◌∷◌, ◌++◌, Option, Some, None}
use Rattle.atomic_table.specs.Table.{Me}
use Rattle.mh_seat_laws.specs.declared.seat_view.{FoundValue.FoundValue, SeatView.SeatView}
use Rattle.mh_lock.specs.Steps.{log_in, holding, number_in}

-- a history stays, or has one entry more, which a seat owns
abbrev pub Grows : {E : Type 0} → (E → ℕ) → ℕ → List E → List E → Type 0
Grows {E} owner seat before after = (after ≡ before) ⊎ ((entry : E) × (owner entry ≡ seat) × (after ≡ before ++ entry ∷ []))

-- the origin of the value that a seat has
abbrev pub held_origin : {T O : Type 0} → (T → O) → List (ℕ × T) → Option O
held_origin origin [] = None
held_origin origin (slot ∷ slots) = Some (origin slot.1)

module _ {T E O : Type 0} (owner : E → ℕ) (entries : T → List E) (origin : T → O) where
  -- A seat has the value with the origin that it found, and with the entries that it found, or one more, which it owns
  pub record CanGive (seat : Me T (SeatView E O)) : Type 0 where
    pub found : FoundValue E O
    pub value : T
    pub holds : seat ≡ holding (number_in seat) (log_in seat) found value
    pub entries_grow : Grows owner (number_in seat) found.history (entries value)
    pub same_origin : origin value ≡ found.origin
