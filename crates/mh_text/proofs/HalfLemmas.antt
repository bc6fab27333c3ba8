-- The words before and after a mark, found by the bytes between spaces.
use Rattle.std.proofs.Common.{◌≡◌, ℕ, suc, ◌+◌, ◌-◌, ◌==◌, cond, Bool, true, false, Option, Some, None, option_map, List, [], ◌∷◌, ◌++◌, length, take, refl, sym, ap, ◌∙◌, append_assoc, length-append, arith}
use Rattle.std.proofs.{lemmas.List.append-nil, lemmas.Bool.eq-eqb}
use Rattle.mh_model.specs.{Bytes.{Text, Cut, cut_after, with_byte, words, is_text}, HistoryTexts.{Halves, halves_at}}
use Rattle.mh_text.specs.{Pieces.with_piece, Auxiliary.words_left}

-- Words of a longer text -------------------------------------------------------------------------

abbrev then_cut : Cut → Cut → Cut
then_cut first next = record { pieces = first.pieces ++ first.rest ∷ next.pieces; rest = next.rest }

then_byte : (byte : ℕ) (pieces : List Text) (rest : Text) (next : Cut) → with_byte byte (then_cut (record { pieces = pieces; rest = rest }) next) ≡ then_cut (with_byte byte (record { pieces = pieces; rest = rest })) next
then_byte byte [] rest next = refl
then_byte byte (piece ∷ pieces) rest next = refl

cut_then_by : (is : Bool) (byte : ℕ) (first next : Cut)
    → cond is (record { pieces = [] ∷ (then_cut first next).pieces; rest = (then_cut first next).rest }) (with_byte byte (then_cut first next))
    ≡ then_cut (cond is (record { pieces = [] ∷ first.pieces; rest = first.rest }) (with_byte byte first)) next
cut_then_by true byte first next = refl
cut_then_by false byte first next = then_byte byte first.pieces first.rest next

cut_then : (end : ℕ) (first next : Text) → cut_after end (first ++ end ∷ next) ≡ then_cut (cut_after end first) (cut_after end next)
cut_then end [] next = rw (eq-eqb end end refl) refl
cut_then end (byte ∷ first) next = rw (cut_then end first next) (cut_then_by (byte == end) byte (cut_after end first) (cut_after end next))

pub words_then : (first next : Text) → words (first ++ 32 ∷ next) ≡ words first ++ words next
words_then first next = grind (arith, cut_then, append_assoc)

-- Up to a place ----------------------------------------------------------------------------------

-- the bytes of words, with the space after them
abbrev pub bytes_of : Option Text → Text
bytes_of None = []
bytes_of (Some front) = front ++ 32 ∷ []

abbrev pub after_words : List Text → Halves → Halves
after_words front halves = record { before = front ++ halves.before; after = halves.after }

-- a line was read up to a rest, and none of the words before it is the mark
pub record Scanned (mark line rest : Text) (front : Option Text) : Type 0 where
  pub line_is : line ≡ bytes_of front ++ rest
  pub reads : (more : List Text) → halves_at mark (words_left front ++ more) ≡ option_map (after_words (words_left front)) (halves_at mark more)

front_words : (front : Option Text) (rest : Text) → words (bytes_of front ++ rest) ≡ words_left front ++ words rest
front_words None rest = refl
front_words (Some front) rest = ap words (append_assoc front (32 ∷ []) rest) ∙ words_then front rest

pub scanned_words : (mark line rest : Text) (front : Option Text) → Scanned mark line rest front → words line ≡ words_left front ++ words rest
scanned_words mark line rest front done = rw done.line_is (front_words front rest)

option_map_twice : (front : List Text) (word : Text) (halves : Option Halves)
    → option_map (after_words front) (option_map (λ (h : Halves). record { before = word ∷ h.before; after = h.after }) halves) ≡ option_map (after_words (front ++ word ∷ [])) halves
option_map_twice front word None = refl
option_map_twice front word (Some halves) = ap (λ (before : List Text). Some (record { before = before; after = halves.after })) (sym (append_assoc front (word ∷ []) halves.before))

step_other : (mark word : Text) (front more : List Text) → is_text word mark ≡ false → option_map (after_words front) (halves_at mark (word ∷ more)) ≡ option_map (after_words (front ++ word ∷ [])) (halves_at mark more)
step_other mark word front more other = rw other (option_map_twice front word (halves_at mark more))

-- one more word, which has no space
word_after : (front : Option Text) (word : Text) → cut_after 32 word ≡ record { pieces = []; rest = word } → words (bytes_of front ++ word) ≡ words_left front ++ word ∷ []
word_after front word one = front_words front word ∙ rw one refl

cut_first : (cut : Cut) (word : Text) (next : Cut) → cut ≡ with_piece word next → cut.pieces ++ cut.rest ∷ [] ≡ word ∷ (next.pieces ++ next.rest ∷ [])
cut_first cut word next is = rw is refl

pub words_first : (rest word next : Text) → cut_after 32 rest ≡ with_piece word (cut_after 32 next) → words rest ≡ word ∷ words next
words_first rest word next is = cut_first (cut_after 32 rest) word (cut_after 32 next) is

front_is : (line front word next : Text) (n : ℕ) → line ≡ (front ++ word) ++ 32 ∷ next → n ≡ length line - length next - 1 → take n line ≡ front ++ word
front_is line front word next n is count =
    let long : length line ≡ length (front ++ word) + suc (length next) = rw is (length-append (front ++ word) (32 ∷ next)) in
    let at : n ≡ length (front ++ word) = omega arith in
    rw (is, at) (front_take (front ++ word) (32 ∷ next)) where
      front_take : (xs ys : Text) → take (length xs) (xs ++ ys) ≡ xs
      front_take [] ys = refl
      front_take (x ∷ xs) ys = ap (λ (t : Text). x ∷ t) (front_take xs ys)

pub scan_word : (mark line rest word next : Text) (front : Option Text) → Scanned mark line rest front → rest ≡ word ++ 32 ∷ next → cut_after 32 word ≡ record { pieces = []; rest = word } → is_text word mark ≡ false
    → Scanned mark line next (Some (bytes_of front ++ word))
scan_word mark line rest word next front done whole one other = record {
  line_is = done.line_is ∙ (ap (λ (t : Text). bytes_of front ++ t) whole ∙ (sym (append_assoc (bytes_of front) word (32 ∷ next)) ∙ sym (append_assoc (bytes_of front ++ word) (32 ∷ []) next)));
  reads = λ more. rw (word_after front word one) (ap (halves_at mark) (append_assoc (words_left front) (word ∷ []) more) ∙ (done.reads (word ∷ more) ∙ step_other mark word (words_left front) more other));
}

pub scan_next : (mark line rest word next : Text) (front : Option Text) (n : ℕ) → Scanned mark line rest front → rest ≡ word ++ 32 ∷ next → cut_after 32 word ≡ record { pieces = []; rest = word } → is_text word mark ≡ false
    → n ≡ length line - length next - 1 → Scanned mark line next (Some (take n line))
scan_next mark line rest word next front n done whole one other count =
    let line_is : line ≡ (bytes_of front ++ word) ++ 32 ∷ next = done.line_is ∙ rw whole (sym (append_assoc (bytes_of front) word (32 ∷ next))) in
    rw (front_is line (bytes_of front) word next n line_is count) (scan_word mark line rest word next front done whole one other)

found_by : (front : List Text) (halves : Option Halves) (after : List Text) → halves ≡ Some (record { before = []; after = after }) → option_map (after_words front) halves ≡ Some (record { before = front; after = after })
found_by front halves after is = rw (is, append-nil) refl

here_at : (mark word : Text) (more : List Text) → is_text word mark ≡ true → halves_at mark (word ∷ more) ≡ Some (record { before = []; after = more })
here_at mark word more is = rw is refl

pub scan_found : (mark line rest word next : Text) (front : Option Text) → Scanned mark line rest front → cut_after 32 rest ≡ with_piece word (cut_after 32 next) → is_text word mark ≡ true
    → halves_at mark (words line) ≡ Some (record { before = words_left front; after = words next })
scan_found mark line rest word next front done cut is =
    ap (halves_at mark) (scanned_words mark line rest front done ∙ rw (words_first rest word next cut) refl)
    ∙ (done.reads (word ∷ words next) ∙ found_by (words_left front) (halves_at mark (word ∷ words next)) (words next) (here_at mark word (words next) is))

last_words : (rest : Text) → cut_after 32 rest ≡ record { pieces = []; rest = rest } → words rest ≡ rest ∷ []
last_words rest is = rw is refl

pub scan_last : (mark line rest : Text) (front : Option Text) → Scanned mark line rest front → cut_after 32 rest ≡ record { pieces = []; rest = rest } → is_text rest mark ≡ true
    → halves_at mark (words line) ≡ Some (record { before = words_left front; after = [] })
scan_last mark line rest front done cut is =
    ap (halves_at mark) (scanned_words mark line rest front done ∙ rw (last_words rest cut) refl)
    ∙ (done.reads (rest ∷ []) ∙ found_by (words_left front) (halves_at mark (rest ∷ [])) [] (here_at mark rest [] is))

pub scan_none : (mark line rest : Text) (front : Option Text) → Scanned mark line rest front → cut_after 32 rest ≡ record { pieces = []; rest = rest } → is_text rest mark ≡ false → halves_at mark (words line) ≡ None
scan_none mark line rest front done cut is =
    ap (halves_at mark) (scanned_words mark line rest front done ∙ rw (last_words rest cut) refl)
    ∙ (done.reads (rest ∷ []) ∙ rw is refl)
