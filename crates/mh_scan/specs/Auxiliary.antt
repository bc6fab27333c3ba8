-- Auxiliary definitions: what loops, private functions and the insides of types keep. No public contract depends on them.
use Rattle.std.specs.Prelude.{◌≡◌, ℕ, ◌+◌, ◌*◌, ◌/◌, ◌≤◌, ◌==◌, true, false, if◌then◌else◌, List, [], ◌∷◌, ◌++◌, All, map, take, drop, ◌^◌, ◌<◌, length, slice_index_or}
use Rattle.mh_model.specs.{Pages.Table, Table.Block}
use Rattle.mh_claims.specs.Seats.{ClaimsView, DrawSeatView, DrawsFrom, IsBeforeItsDraws, seat_ended}
use Rattle.mh_scan.specs.{Asking.AreAnswers, declared.answers.Asks.Asks, declared.crew.Found.Found}
use Rattle.mh_scan.specs.declared.crew.Worker.{Worker}

-- A batch in pieces of 16 places, and the workers that draw them and ask their blocks.

-- how many pieces a batch of a length has
abbrev pub piece_count : ℕ → ℕ
piece_count count = (count + 15) / 16

-- the places of a piece
abbrev pub piece_at : List ℕ → ℕ → List ℕ
piece_at batch piece = take 16 (drop (piece * 16) batch)

-- what was found in a piece are the answers of its places
abbrev pub IsFound : Table Block → Asks → List ℕ → Found → Type 0
IsFound table asks batch found = AreAnswers table asks (piece_at batch found.piece) found.answers

-- the pieces in which something was found, in order
abbrev pub pieces_of : List Found → List ℕ
pieces_of found = map (λ one. one.piece) found

-- how often a piece was asked
abbrev pub times_found : ℕ → List Found → ℕ
times_found piece [] = 0
times_found piece (one ∷ found) = (if one.piece == piece then 1 else 0) + times_found piece found

-- the numbers that each seat drew
abbrev pub drawn_by : List DrawSeatView → List (List ℕ)
drawn_by seats = map (λ seat. seat.drawn) seats

-- a worker before it draws its first piece
pub record IsHired (claims : ClaimsView) (worker : Worker) : Type 0 where
  pub seat : IsBeforeItsDraws claims worker.seat
  pub done : worker.done.items ≡ []
  pub granted : worker.refused ≡ false

-- A worker that is done: what it has is found. If no memory was refused to it, it was answered at last that no piece is left, and has all others that it drew
pub record HasWorked (claims : ClaimsView) (table : Table Block) (asks : Asks) (batch : List ℕ) (worker : Worker) : Type 0 where
  pub own : DrawsFrom claims worker.seat
  pub found : All (IsFound table asks batch) worker.done.items
  pub ended : worker.refused ≡ false → seat_ended worker.seat ≡ true
  pub last : ℕ
  pub past : worker.refused ≡ false → claims.bound ≤ last
  pub drawn : worker.refused ≡ false → worker.seat.drawn ≡ pieces_of worker.done.items ++ last ∷ []

-- What is said of a part of a slice whose first element stands at a number.

-- each element is as it should be at its place
pub record AllFrom {T : Type 0} (P : ℕ → T → Type 0) (base : ℕ) (items : List T) : Type 0 where
  pub room : base + length items < 2 ^ 64
  pub each : (k : ℕ) (default : T) → k < length items → P (base + k) (slice_index_or items k default)

-- each element has changed by work on it as it should at its place
pub record ChangesFrom {T : Type 0} (R : ℕ → T → T → Type 0) (base : ℕ) (before after : List T) : Type 0 where
  pub each : (k : ℕ) (default : T) → k < length before → R (base + k) (slice_index_or before k default) (slice_index_or after k default)
