-- Merges of two logs, and histories that are no merges of their logs.
use Rattle.std.proofs.Common.{[], ◌∷◌, ◌≡◌, get_or, List, refl, set, ℕ, arith}
use Rattle.mh_seat_laws.specs.Merges.{IsMerge}

-- two logs, of two entries and of one
abbrev two_logs : List (List ℕ)
two_logs = (0 ∷ 1 ∷ []) ∷ (2 ∷ []) ∷ []

-- those logs without an entry
abbrev two_empty : List (List ℕ)
two_empty = [] ∷ [] ∷ []

nothing_left : (seat : ℕ) → get_or two_empty seat [] ≡ []
nothing_left seat = grind arith

-- an entry of one log may come between two of another
-- refuses: a merge may leave entries; an entry stays in its log
pub merged : IsMerge two_logs (0 ∷ 2 ∷ 1 ∷ [])
merged = (record { seat = 0; rest = 1 ∷ []; log = refl }, (record { seat = 1; rest = []; log = refl }, (record { seat = 0; rest = []; log = refl }, nothing_left)))

-- one log after the other is a merge too
-- refuses: a merge may leave entries; a log's last entry goes first
pub merged_in_turn : IsMerge two_logs (0 ∷ 1 ∷ 2 ∷ [])
merged_in_turn = (record { seat = 0; rest = 1 ∷ []; log = refl }, (record { seat = 0; rest = []; log = refl }, (record { seat = 1; rest = []; log = refl }, nothing_left)))

-- the order of a log is kept
-- refuses: an entry needs no log; a log's last entry goes first
pub against_the_order : ¬ IsMerge two_logs (1 ∷ 0 ∷ 2 ∷ [])
against_the_order merge = grind arith

-- one log of one entry, and after that entry
abbrev one_log : List ℕ → List (List ℕ)
one_log log = log ∷ []

none_after : (entry seat : ℕ) (rest : List ℕ) → get_or (one_log []) seat [] ≡ entry ∷ rest → ⊥
none_after entry seat rest e = grind arith

no_second : (entry seat : ℕ) (rest : List ℕ) → get_or (one_log (0 ∷ [])) seat [] ≡ 0 ∷ rest → (next : ℕ) (last : List ℕ) → get_or (set (one_log (0 ∷ [])) seat rest) next [] ≡ entry ∷ last → ⊥
no_second entry seat rest e next last f = grind (arith, none_after)

-- no entry of a log is left out
-- refuses: a merge may leave entries
pub entry_left_out : ¬ IsMerge (one_log (0 ∷ [])) []
entry_left_out merge = let bad : get_or (one_log (0 ∷ [])) 0 [] ≡ [] = merge 0 in cc

-- no entry is there twice
-- refuses: an entry stays in its log; an entry needs no log
pub entry_twice : ¬ IsMerge (one_log (0 ∷ [])) (0 ∷ 0 ∷ [])
entry_twice merge = no_second 0 merge.0.seat merge.0.rest merge.0.log merge.1.0.seat merge.1.0.rest merge.1.0.log

-- no entry is there that no log has
-- refuses: an entry stays in its log; an entry needs no log
pub entry_of_no_log : ¬ IsMerge (one_log (0 ∷ [])) (0 ∷ 5 ∷ [])
entry_of_no_log merge = no_second 5 merge.0.seat merge.0.rest merge.0.log merge.1.0.seat merge.1.0.rest merge.1.0.log
