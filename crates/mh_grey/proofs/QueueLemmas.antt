-- The room of the queue, and how its invariant is kept.
use Rattle.std.proofs.Common.{◌≡◌, ℕ, zero, suc, ◌*◌, ◌<◌, ◌≤◌, ◌==◌, ◌⊎◌, true, false, inl, inr, List, [], ◌∷◌, ◌++◌, length, drop, refl, arith}
use Rattle.std.proofs.{lemmas.Bool.{false≢true, eqb-true, or_right, or_cases}, lemmas.Cmp.nat_eq_equiv}
use Rattle.std.proofs.{lemmas.List.length_push, lemmas.Map.Steps.length-le_from_distinct_below}
use Rattle.std.proofs.lemmas.Map.Keys.{IsDistinct-push, IsDistinct-tail}
use Rattle.std.specs.{List.IsDistinct, Prelude.{Result, Ok, Err, IsOk, OnOk, ◌↔◌}}
use Rattle.mh_grey.specs.{Queue.is_in, Auxiliary.IsQueue}

-- a place of a longer list was in it or is the new one
pub in-push : (places : List ℕ) (place other : ℕ) → is_in other (places ++ place ∷ []) ≡ true → (is_in other places ≡ true) ⊎ (other ≡ place)
in-push [] place other is = elim (or_cases (other == place) false is) [ inl same ↦ inr (eqb-true other place same) | inr never ↦ absurd (false≢true never) ]
in-push (first ∷ places) place other is = elim (or_cases (other == first) (is_in other (places ++ place ∷ [])) is) [
  | inl same ↦ inl (rw same refl)
  | inr after ↦ elim (in-push places place other after) [ inl before ↦ inl (or_right (other == first) (is_in other places) before) | inr new ↦ inr new ]
]

below-push : (places : List ℕ) (place n : ℕ) → ((other : ℕ) → is_in other places ≡ true → other < n) → place < n → (other : ℕ) → is_in other (places ++ place ∷ []) ≡ true → other < n
below-push places place n below new other is = elim (in-push places place other is) [ inl old ↦ below other old | inr same ↦ rw same new ]

-- a place that isn't in it has room
pub has_room : (items : List ℕ) (capacity pages place : ℕ) → IsQueue items capacity pages → place < 64 * pages → is_in place items ≡ false → length items < capacity
has_room items capacity pages place queue below apart =
    let few : length (items ++ place ∷ []) ≤ 64 * pages =
    length-le_from_distinct_below (items ++ place ∷ []) (64 * pages) (IsDistinct-push nat_eq_equiv items place queue.once apart) (below-push items place (64 * pages) queue.below below) in
    omega (arith, few, length_push items place, queue.room)

pub queue-push : (items : List ℕ) (capacity pages place : ℕ) → IsQueue items capacity pages → place < 64 * pages → is_in place items ≡ false → IsQueue (items ++ place ∷ []) capacity pages
queue-push items capacity pages place queue below apart = record {
  once = IsDistinct-push nat_eq_equiv items place queue.once apart;
  below = below-push items place (64 * pages) queue.below below;
  room = queue.room;
  few = queue.few;
}

pub queue-drop : (count : ℕ) (items : List ℕ) (capacity pages : ℕ) → IsQueue items capacity pages → IsQueue (drop count items) capacity pages
queue-drop zero items capacity pages queue = queue
queue-drop (suc count) [] capacity pages queue = queue
queue-drop (suc count) (place ∷ items) capacity pages queue = queue-drop count items capacity pages (record {
  once = IsDistinct-tail (λ a b. a == b) place items queue.once;
  below = λ other is. queue.below other (or_right (other == place) (is_in other items) is);
  room = queue.room;
  few = queue.few;
})

pub queue-open : (pages : ℕ) → pages ≤ 4096 → IsQueue [] (64 * pages) pages
unfolding IsDistinct
queue-open pages few = record { once = tt; below = λ place is. absurd (false≢true is); room = refl; few = few }

-- what is pushed if there is room is there
pub pushed : {E : Type 0} (result : Result Unit E) (P Q : Type 0) → (IsOk result ↔ P) → P → OnOk result Q → Q
pushed (Ok nothing) P Q variant p on = on
pushed (Err e) P Q variant p on = absurd (false≢true (variant.1 p))
