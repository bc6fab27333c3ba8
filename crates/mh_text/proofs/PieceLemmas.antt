-- Where the first piece of a text ends.
use Rattle.std.proofs.Common.{◌≡◌, ℕ, suc, ◌+◌, ◌<◌, ◌==◌, not, cond, Bool, true, false, Option, Some, None, List, [], ◌∷◌, ◌++◌, length, take, drop, ap, sym, refl, subst, ◌≤◌, ◌-◌, nat_lt, MatchOption, IsTrue, ◌↔◌, arith}
use Rattle.std.proofs.{lemmas.Bool.Decides.nat_tests, lemmas.List.take_rest, lemmas.List.Sums.position_or_len_is}
use Rattle.std.specs.List.{position, position_or_len}
use Rattle.memchr.specs.Find.{IsFirstByte, is_byte}
use Rattle.mh_model.specs.Bytes.{Text, Cut, cut_after, with_byte}
use Rattle.mh_text.specs.Pieces.{with_piece, lines_from}

-- how many bytes stand before the first `end`
abbrev pub before : ℕ → Text → ℕ
before end text = position_or_len (λ b. b == end) text

abbrev pub CutsFirst : ℕ → Text → Type 0
CutsFirst end text =
    before end text < length text
    → cut_after end text ≡ with_piece (take (before end text) text) (cut_after end (drop (suc (before end text)) text))

-- the same at a text with a first byte, with the answer to the test of it
abbrev CutsAt : ℕ → ℕ → Text → Bool → ℕ → Type 0
CutsAt end byte bytes is n =
    n < suc (length bytes)
    → cond is (record { pieces = [] ∷ (cut_after end bytes).pieces; rest = (cut_after end bytes).rest }) (with_byte byte (cut_after end bytes))
    ≡ with_piece (take n (byte ∷ bytes)) (cut_after end (drop n bytes))

cuts_at : (end byte : ℕ) (bytes : Text) (is : Bool) → CutsFirst end bytes → CutsAt end byte bytes is (cond (not is) (1 + before end bytes) 0)
cuts_at end byte bytes true first below = refl
cuts_at end byte bytes false first below = grind arith

pub cut_first : (end : ℕ) (text : Text) → CutsFirst end text
cut_first end [] below = absurd (omega arith)
cut_first end (byte ∷ bytes) below = cuts_at end byte bytes (byte == end) (cut_first end bytes) below

-- a text with no `end` has no piece
abbrev pub CutsNone : ℕ → Text → Type 0
CutsNone end text = length text ≤ before end text → cut_after end text ≡ record { pieces = []; rest = text }

none_at : (end byte : ℕ) (bytes : Text) (is : Bool) → CutsNone end bytes → suc (length bytes) ≤ cond (not is) (1 + before end bytes) 0
    → cond is (record { pieces = [] ∷ (cut_after end bytes).pieces; rest = (cut_after end bytes).rest }) (with_byte byte (cut_after end bytes)) ≡ record { pieces = []; rest = byte ∷ bytes }
none_at end byte bytes true none all = absurd (omega arith)
none_at end byte bytes false none all = ap (with_byte byte) (none (omega arith))

pub cut_none : (end : ℕ) (text : Text) → CutsNone end text
cut_none end [] all = refl
cut_none end (byte ∷ bytes) all = none_at end byte bytes (byte == end) (cut_none end bytes) all

-- a text that has bytes has a piece or a rest
keeps_byte : (byte : ℕ) (pieces : List Text) (rest : Text) → (with_byte byte (record { pieces = pieces; rest = rest })).rest ≡ [] → (with_byte byte (record { pieces = pieces; rest = rest })).pieces ≡ [] → ⊥
keeps_byte byte [] rest no_rest no_pieces = cc
keeps_byte byte (piece ∷ pieces) rest no_rest no_pieces = cc

full_at : (byte : ℕ) (cut : Cut) (is : Bool) → (cond is (record { pieces = [] ∷ cut.pieces; rest = cut.rest }) (with_byte byte cut)).rest ≡ []
    → (cond is (record { pieces = [] ∷ cut.pieces; rest = cut.rest }) (with_byte byte cut)).pieces ≡ [] → ⊥
full_at byte cut true no_rest no_pieces = cc
full_at byte cut false no_rest no_pieces = keeps_byte byte cut.pieces cut.rest no_rest no_pieces

-- what the place of the first `end` says, in the words of the code

place_or_none : (end : ℕ) (text : Text) (is : Bool) (found : Option ℕ) → is ≡ nat_lt (before end text) (length text) → cond is (Some (before end text)) None ≡ found
    → MatchOption found (length text ≤ before end text) (λ place. (place ≡ before end text) × (place < length text))
place_or_none end text true found is same = let P : Option ℕ → Type 0 = λ o. MatchOption o (length text ≤ before end text) (λ place. (place ≡ before end text) × (place < length text)) in subst P same (refl, grind (arith, nat_tests))
place_or_none end text false found is same = let P : Option ℕ → Type 0 = λ o. MatchOption o (length text ≤ before end text) (λ place. (place ≡ before end text) × (place < length text)) in subst P same (grind (arith, nat_tests))

not_true : (is : Bool) → (is ≡ true → ⊥) → is ≡ false
not_true true never = absurd (never refl)
not_true false never = refl

some_below : (place count : ℕ) → place < count → Some place ≡ cond (nat_lt place count) (Some place) None
some_below place count below = let is : nat_lt place count ≡ true = grind (arith, nat_tests) in rw is refl

none_at_end : (count : ℕ) → cond (nat_lt count count) (Some count) None ≡ None
none_at_end count = let is : nat_lt count count ≡ false = grind (arith, nat_tests) in rw is refl

-- a search for a byte finds its first place
pub place_searched : (end : ℕ) (text : Text) (found : Option ℕ) → IsFirstByte (is_byte end) text found → found ≡ position (λ b. b == end) text
place_searched end text None none =
    let all : before end text ≡ length text =
    position_or_len_is (λ b. b == end) text (length text) 0 (omega arith) (λ k below. not_true _ (none k (omega arith) below)) (λ below. absurd (omega arith)) in
    rw all (sym (none_at_end (length text)))
place_searched end text (Some place) found = grind (arith, position_or_len_is, not_true, some_below)

pub place_found : (end place : ℕ) (text : Text) → position (λ b. b == end) text ≡ Some place → place < length text
place_found end place text found = (place_or_none end text _ (Some place) refl found).1

pub split_some : (end place : ℕ) (text : Text) → position (λ b. b == end) text ≡ Some place
    → cut_after end text ≡ with_piece (take place text) (cut_after end (take (length text - (place + 1)) (drop (place + 1) text)))
split_some end place text found =
    let is = place_or_none end text _ (Some place) refl found in
    grind (arith, take_rest, cut_first)

pub split_none : (end : ℕ) (text : Text) → position (λ b. b == end) text ≡ None → cut_after end text ≡ record { pieces = []; rest = text }
split_none end text found = cut_none end text (place_or_none end text _ None refl found)

-- the piece before the first `end` has none, and the text is that piece, `end` and what follows
alone_at : (end byte : ℕ) (bytes : Text) (is : Bool) → (byte == end) ≡ is → cut_after end (take (before end bytes) bytes) ≡ record { pieces = []; rest = take (before end bytes) bytes }
    → cut_after end (take (cond (not is) (1 + before end bytes) 0) (byte ∷ bytes)) ≡ record { pieces = []; rest = take (cond (not is) (1 + before end bytes) 0) (byte ∷ bytes) }
alone_at end byte bytes true same rest = refl
alone_at end byte bytes false same rest = grind arith

cut_alone : (end : ℕ) (text : Text) → cut_after end (take (before end text) text) ≡ record { pieces = []; rest = take (before end text) text }
cut_alone end [] = refl
cut_alone end (byte ∷ bytes) = alone_at end byte bytes (byte == end) refl (cut_alone end bytes)

whole_at : (end byte : ℕ) (bytes : Text) (is : Bool) → (byte == end) ≡ is → (before end bytes < length bytes → bytes ≡ take (before end bytes) bytes ++ end ∷ drop (suc (before end bytes)) bytes)
    → cond (not is) (1 + before end bytes) 0 < suc (length bytes)
    → byte ∷ bytes ≡ take (cond (not is) (1 + before end bytes) 0) (byte ∷ bytes) ++ end ∷ drop (cond (not is) (1 + before end bytes) 0) bytes
whole_at end byte bytes true same rest below = let one : byte ≡ end = grind (arith, nat_tests) in ap (λ (b : ℕ). b ∷ bytes) one
whole_at end byte bytes false same rest below = grind arith

cut_whole : (end : ℕ) (text : Text) → before end text < length text → text ≡ take (before end text) text ++ end ∷ drop (suc (before end text)) text
cut_whole end [] below = absurd (omega arith)
cut_whole end (byte ∷ bytes) below = whole_at end byte bytes (byte == end) refl (cut_whole end bytes) below

pub split_whole : (end place : ℕ) (text : Text) → position (λ b. b == end) text ≡ Some place → text ≡ take place text ++ end ∷ take (length text - (place + 1)) (drop (place + 1) text)
split_whole end place text found = grind (arith, place_or_none, take_rest, cut_whole)

pub split_alone : (end place : ℕ) (text : Text) → position (λ b. b == end) text ≡ Some place → cut_after end (take place text) ≡ record { pieces = []; rest = take place text }
split_alone end place text found = grind (arith, place_or_none, cut_alone)

-- the lines of a text without bytes
pub empty_left : (number : ℕ) (text : Text) → IsTrue (length text == 0) ↔ (((lines_from number text).rest ≡ []) × ((lines_from number text).lines ≡ []))
empty_left number [] = (λ _. (refl, refl), λ _. refl)
empty_left number (byte ∷ bytes) = (λ is. absurd (grind (arith, nat_tests)), λ none. absurd (full_at byte (cut_after 10 bytes) (byte == 10) none.0 none.1))
