-- If every seat has ended and one seat stands for all, each number below the bound was drawn once.
use Rattle.std.proofs.Common.{◌≡◌, ℕ, zero, suc, ◌<◌, true, All, List, [], ◌∷◌, ◌++◌, length, get_or, map, sym, refl, ap, subst, arith, append-nil}
use mathlib.Core.Option.{some, some-ne-none}
use lib.ListN.{get_elem?}
use Rattle.atomic_table.specs.Table.{State, Seen}
use Rattle.mh_model.specs.History.{has_ended, times_drawn}
use Rattle.mh_seat_laws.specs.{Weights.total, ClaimWord.{Lists, IsClaimed}, Auxiliary.claim_of}
use Rattle.mh_seat_laws.proofs.{TotalLemmas.total-set, claim_word.ShownClaims.claim_of-drawn}
use Rattle.mh_seat_laws.proofs.claim_word.DrawnNumbers.{ended-drawn_once}
use Rattle.mh_claims.specs.Seats.{ClaimsView, DrawSeatView, DrawsFrom, seat_ended}
use Rattle.mh_claims.proofs.ClaimSteps.{all_of, length-all_of}

-- the lists of seats, in their order
abbrev pub lists_of : List DrawSeatView → Lists
lists_of seats = map (λ seat. seat.drawn) seats

abbrev pub AllEnded : ℕ → Lists → Type 0
AllEnded bound lists = (seat : ℕ) → seat < length lists → has_ended bound (get_or lists seat []) ≡ true

pub lists_of-ended : (claims : ClaimsView) (seats : List DrawSeatView) → All (λ seat. DrawsFrom claims seat × (seat_ended seat ≡ true)) seats → AllEnded claims.bound (lists_of seats)
lists_of-ended claims [] ended number inside = absurd (omega arith)
lists_of-ended claims (seat ∷ seats) ended zero inside =
    let first = ended 0 seat (omega arith) in subst (λ bound. has_ended bound seat.drawn ≡ true) first.0.1 first.1
lists_of-ended claims (seat ∷ seats) ended (suc number) inside = lists_of-ended claims seats (λ other given within. ended (suc other) given (omega arith)) number (omega arith)

-- the list of the last seat may stand before others instead
pub lists_of-pop : (seats : List DrawSeatView) (last : DrawSeatView) (lists : Lists) → lists_of seats ++ (last.drawn ∷ lists) ≡ lists_of (seats ++ last ∷ []) ++ lists
lists_of-pop [] last lists = refl
lists_of-pop (seat ∷ seats) last lists = ap (λ rest. seat.drawn ∷ rest) (lists_of-pop seats last lists)

none-left : (views : List Lists) → total length views ≡ 0 → all_of views ≡ []
none-left [] none = refl
none-left ([] ∷ views) none = none-left views (omega arith)
none-left ((list ∷ lists) ∷ views) none = absurd (omega arith)

-- a view that has as many lists as there are has them all
view-whole : (views : List Lists) (id : ℕ) (view : Lists) → get_elem? views id ≡ some view → length view ≡ total length views → all_of views ≡ view
view-whole [] id view there all = absurd (some-ne-none view (sym there))
view-whole (first ∷ views) zero view there all = grind (arith, none-left, append-nil)
view-whole ([] ∷ views) (suc id) view there all = view-whole views id view there (omega arith)
view-whole ((list ∷ lists) ∷ views) (suc id) view there all = absurd (omega (arith, total-set length views id view [] there))

pub finished-drawn_once : (about : ℕ × ℕ) (id : ℕ) (view : Lists) (table : State (Unit {0}) Lists) → Seen (IsClaimed about) id view table → length view ≡ about.1 → 0 < about.1
    → AllEnded about.0 view → (number : ℕ) → number < about.0 → times_drawn number view ≡ 1
finished-drawn_once about id view table seen count some_seat =
    let rule : IsClaimed about table = seen.0 in
    let whole : all_of table.views ≡ view = view-whole table.views id view seen.1 (omega (arith, rule.seats)) in
    subst
    (λ (lists : Lists). AllEnded about.0 lists → (number : ℕ) → number < about.0 → times_drawn number lists ≡ 1)
    whole
    (ended-drawn_once about.0 (claim_of table) (claim_of-drawn about table rule) (omega (arith, length-all_of table.views, rule.seats)))
