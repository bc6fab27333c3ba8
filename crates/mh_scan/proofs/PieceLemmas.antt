-- Pieces of a batch, and how often each was scanned.
use Rattle.std.proofs.Common.{arith, ◌≡◌, ℕ, zero, suc, ◌+◌, ◌*◌, ◌<◌, ◌≤◌, ◌==◌, if◌then◌else◌, Option, List, [], ◌∷◌, ◌++◌, take, drop, remove, length, get_or, map, flat_map, count_by, All, refl, sym, ap, ◌∙◌}
use Rattle.std.proofs.{Math.Seq.take-add, lemmas.List.Elements.{All-take, All-drop, All-append, All-from_get_or}}
use Rattle.std.proofs.{lemmas.List.Sums.{sum_by-append, sum_by-cons}, lemmas.Bool.Decides.nat_tests}
use mathlib.Core.List.{map-append}
use Rattle.arrayvec.specs.ArrayVec.{ArrayVec}
use Rattle.mh_model.specs.{Pages.Table, Table.{Block, references_at, target_of}, History.times_drawn}
use Rattle.mh_claims.specs.Seats.{DrawSeatView}
use Rattle.mh_scan.specs.Scanning.{IsScannable, AreScannable, is_settled, lists}
use Rattle.mh_scan.specs.Asking.{lists_asked, settled_asked, AreAnswers}
use Rattle.mh_scan.specs.{Auxiliary.{piece_at, pieces_of, times_found, drawn_by}, declared.answers.Answers.Answers}
use Rattle.mh_scan.specs.{declared.answers.Asks.Asks, declared.answers.Asks.TheVariants.{Lists, Settled}}
use Rattle.mh_scan.specs.declared.crew.Found.{Found}

-- Pieces ----------------------------------------------------------------------------------------

-- a piece of what can be scanned can be scanned
pub piece-scannable : (table : Table Block) (batch : List ℕ) (piece : ℕ) → AreScannable table batch → AreScannable table (piece_at batch piece)
piece-scannable table batch piece scannable = λ index inside.
    All-take (IsScannable table) 16 (drop (piece * 16) batch) (All-drop (IsScannable table) (piece * 16) batch (All-from_get_or (IsScannable table) batch 0 scannable)) index 0 inside

-- the pieces so far, and one more
pub piece-more : (batch : List ℕ) (piece : ℕ) → take (piece * 16) batch ++ piece_at batch piece ≡ take ((piece + 1) * 16) batch
piece-more batch piece = sym (take-add (piece * 16) 16 batch) ∙ ap (λ (count : ℕ). take count batch) (omega arith)

-- What was found ----------------------------------------------------------------------------------

pub all-remove : {X : Type 0} (P : X → Type 0) (xs : List X) (index : ℕ) → All P xs → All P (remove xs index)
all-remove P xs index all = All-append P (take index xs) (drop (suc index) xs) (All-take P index xs all) (All-drop P (suc index) xs all)

lists-append : (xs ys : List (ArrayVec (Option ℕ))) → lists (xs ++ ys) ≡ lists xs ++ lists ys
lists-append xs ys = map-append (λ (one : ArrayVec (Option ℕ)). one.items) xs ys

lists_asked-append : (table : Table Block) (asks : Asks) (xs ys : List ℕ) → lists_asked table asks (xs ++ ys) ≡ lists_asked table asks xs ++ lists_asked table asks ys
lists_asked-append table Lists xs ys = map-append (λ (place : ℕ). map (target_of table) (references_at table place)) xs ys
lists_asked-append table (Settled cycle) xs ys = refl

settled_asked-append : (table : Table Block) (asks : Asks) (xs ys : List ℕ) → settled_asked table asks (xs ++ ys) ≡ settled_asked table asks xs ++ settled_asked table asks ys
settled_asked-append table Lists xs ys = refl
settled_asked-append table (Settled cycle) xs ys = map-append (is_settled table cycle) xs ys

-- answers of places, and of those that follow them
pub answers-append : (table : Table Block) (asks : Asks) (xs ys : List ℕ) (first more all : Answers) → AreAnswers table asks xs first → AreAnswers table asks ys more
    → all.lists.items ≡ first.lists.items ++ more.lists.items → all.settled.items ≡ first.settled.items ++ more.settled.items → AreAnswers table asks (xs ++ ys) all
answers-append table asks xs ys first more all a b of_lists of_settled = record {
  lists = ap lists of_lists ∙ lists-append first.lists.items more.lists.items ∙ (λ i. a.lists i ++ b.lists i) ∙ sym (lists_asked-append table asks xs ys);
  settled = of_settled ∙ (λ i. a.settled i ++ b.settled i) ∙ sym (settled_asked-append table asks xs ys);
}

pub pieces_of-push : (found : List Found) (one : Found) → pieces_of (found ++ one ∷ []) ≡ pieces_of found ++ one.piece ∷ []
pieces_of-push found one = map-append (λ (found : Found). found.piece) found (one ∷ [])

pub times_found-append : (piece : ℕ) (xs ys : List Found) → times_found piece (xs ++ ys) ≡ times_found piece xs + times_found piece ys
times_found-append piece [] ys = omega arith
times_found-append piece (x ∷ xs) ys = omega (arith, times_found-append piece xs ys)

times_found-remove : (piece : ℕ) (found : List Found) (index : ℕ) (default : Found) → index < length found
    → times_found piece found ≡ times_found piece (remove found index) + (if (get_or found index default).piece == piece then 1 else 0)
times_found-remove piece [] index default inside = absurd (omega arith)
times_found-remove piece (one ∷ found) zero default inside = omega arith
times_found-remove piece (one ∷ found) (suc index) default inside = omega (arith, times_found-remove piece found index default (omega arith))

-- what was found in another piece is there still
pub times_found-still : (other piece : ℕ) (found : List Found) (index : ℕ) (one : Found) → index < length found → one ≡ get_or found index one → one.piece ≡ piece → piece < other
    → 0 < times_found other found → 0 < times_found other (remove found index)
times_found-still other piece found index one inside here is later some =
    let removed = times_found-remove other found index one inside in
    let same : (get_or found index one).piece ≡ piece = ap (λ (f : Found). f.piece) (sym here) ∙ is in
    grind (arith, nat_tests)

-- What was drawn ----------------------------------------------------------------------------------

-- how often a number stands in a list
abbrev times_in : ℕ → List ℕ → ℕ
times_in number list = count_by (λ other. other == number) list

times_in-cons : (number first : ℕ) (list : List ℕ) → times_in number (first ∷ list) ≡ (if first == number then 1 else 0) + times_in number list
times_in-cons number first list = sum_by-cons (λ other. if other == number then 1 else 0) first list

times_in-append : (number : ℕ) (xs ys : List ℕ) → times_in number (xs ++ ys) ≡ times_in number xs + times_in number ys
times_in-append number xs ys = sum_by-append (λ other. if other == number then 1 else 0) xs ys

times_in-pieces_of : (number : ℕ) (found : List Found) → times_in number (pieces_of found) ≡ times_found number found
times_in-pieces_of number [] = refl
times_in-pieces_of number (one ∷ found) = omega (arith, times_in-cons number one.piece (pieces_of found), times_in-pieces_of number found)

not_same : (number last : ℕ) → number < last → (if last == number then 1 else 0) ≤ 0
not_same number last below = grind (arith, nat_tests)

-- a worker's numbers are those of its pieces, but for one past the bound
times_in-worker : (number bound last : ℕ) (found : List Found) (drawn : List ℕ) → drawn ≡ pieces_of found ++ last ∷ [] → bound ≤ last → number < bound
    → times_in number drawn ≡ times_found number found
times_in-worker number bound last found drawn is past below = ap (times_in number) is ∙ omega (
  arith,
  times_in-append number (pieces_of found) (last ∷ []),
  times_in-cons number last [],
  not_same number last (omega arith),
  times_in-pieces_of number found,
)

times_drawn-push : (number : ℕ) (seats : List DrawSeatView) (seat : DrawSeatView) → times_drawn number (drawn_by (seats ++ seat ∷ [])) ≡ times_drawn number (drawn_by seats) + times_in number seat.drawn
times_drawn-push number [] seat = omega (arith, times_in-append number seat.drawn [])
times_drawn-push number (first ∷ seats) seat = omega (
  arith,
  times_in-append number first.drawn (flat_map (λ list. list) (drawn_by (seats ++ seat ∷ []))),
  times_in-append number first.drawn (flat_map (λ list. list) (drawn_by seats)),
  times_drawn-push number seats seat,
)

-- a worker more, with its seat and what it found
pub gathered-more : (number bound last : ℕ) (seats : List DrawSeatView) (seat : DrawSeatView) (found more : List Found) → seat.drawn ≡ pieces_of more ++ last ∷ [] → bound ≤ last → number < bound
    → times_drawn number (drawn_by seats) ≡ times_found number found → times_drawn number (drawn_by (seats ++ seat ∷ [])) ≡ times_found number (found ++ more)
gathered-more number bound last seats seat found more is past below same = omega (
  arith,
  times_drawn-push number seats seat,
  times_in-worker number bound last more seat.drawn is past below,
  times_found-append number found more,
  same,
)
