-- The block that words stand for: its fields read, and one of its words written.
use Rattle.std.proofs.Common.{◌≡◌, ◌≢◌, ℕ, zero, suc, ◌+◌, ◌<◌, ◌≤◌, List, [], ◌∷◌, length, get_or, set, take, drop, None, refl, ap, ◌∙◌, arith}
use Rattle.std.proofs.lemmas.List.{map-set, length-map, length-take-le, length-drop, drop-set-lt, drop-set-add, take-set-le, get_or-map, get_or-take, get_or-drop, get_or-set_same, get_or-set_other}
use Rattle.mh_blocks.specs.Auxiliary.{place_in, reference_words, number_words, block_from, block_of, IsPacked}

-- Fields read --------------------------------------------------------------------------------------

pub length-references : (words : List ℕ) → IsPacked words → length (block_of words).references ≡ reference_words words
unfolding block_of
length-references words packed = grind (arith, length-map, length-take-le, length-drop)

pub length-numbers : (words : List ℕ) → IsPacked words → length (block_of words).numbers ≡ number_words words
unfolding block_of
length-numbers words packed = grind (arith, length-take-le, length-drop)

pub reference-is : (words : List ℕ) (index : ℕ) → IsPacked words → index < reference_words words → get_or (block_of words).references index None ≡ place_in (get_or words (4 + index) 0)
unfolding block_of
reference-is words index packed there =
    let fits : length (take (reference_words words) (drop 4 words)) ≡ reference_words words = length-take-le (reference_words words) (drop 4 words) (omega (arith, packed.room, length-drop 4 words)) in
    let within : index < length (take (reference_words words) (drop 4 words)) = omega arith in
    get_or-map place_in (take (reference_words words) (drop 4 words)) index 0 None within
    ∙ ap place_in (get_or-take (reference_words words) (drop 4 words) index 0 there ∙ get_or-drop 4 words index 0)

pub number-is : (words : List ℕ) (index : ℕ) → index < number_words words → get_or (block_of words).numbers index 0 ≡ get_or words (4 + (reference_words words + index)) 0
unfolding block_of
number-is words index there = grind (arith, get_or-take, get_or-drop)

-- One word written ---------------------------------------------------------------------------------

below : (a b : ℕ) → a < b → a ≢ b
below a b less e = omega arith

above : (a b : ℕ) → b < a → a ≢ b
above a b more e = omega arith

take_set : {X : Type 0} (n : ℕ) (xs : List X) (i : ℕ) (x : X) → take n (set xs i x) ≡ set (take n xs) i x
take_set zero xs i x = refl
take_set (suc n) [] i x = refl
take_set (suc n) (y ∷ xs) zero x = refl
take_set (suc n) (y ∷ xs) (suc i) x = ap (λ ys. y ∷ ys) (take_set n xs i x)

-- the block of words with these header words and these fields
pub block_is : (words : List ℕ) (birth counts stamp forward : ℕ) (fields : List ℕ) → get_or words 0 0 ≡ birth → get_or words 1 0 ≡ counts → get_or words 2 0 ≡ stamp → get_or words 3 0 ≡ forward → drop 4 words ≡ fields
    → block_of words ≡ block_from birth counts stamp forward fields
unfolding block_of
block_is words birth counts stamp forward fields a b c d e = rw (← a, ← b, ← c, ← d, ← e) refl

pub stamp_written : (words : List ℕ) (stamp : ℕ) → 4 ≤ length words → block_of (set words 2 stamp) ≡ record (block_of words) { stamp = stamp }
unfolding block_of
stamp_written words stamp room = grind (arith, block_is, get_or-set_other, below, get_or-set_same, above, drop-set-lt)

pub forward_written : (words : List ℕ) (word : ℕ) → 4 ≤ length words → block_of (set words 3 word) ≡ record (block_of words) { forward = place_in word }
unfolding block_of
forward_written words word room = grind (arith, block_is, get_or-set_other, below, get_or-set_same, drop-set-lt)

field_written : (words : List ℕ) (index word : ℕ) → block_of (set words (4 + index) word) ≡ block_from (get_or words 0 0) (get_or words 1 0) (get_or words 2 0) (get_or words 3 0) (set (drop 4 words) index word)
field_written words index word = grind (arith, block_is, get_or-set_other, below, drop-set-add)

pub reference_written : (words : List ℕ) (index word : ℕ) → index < reference_words words → block_of (set words (4 + index) word) ≡ record (block_of words) { references = set (block_of words).references index (place_in word) }
unfolding block_of
reference_written words index word there = grind (arith, take_set, map-set, drop-set-lt, field_written)

pub number_written : (words : List ℕ) (index word : ℕ) → block_of (set words (4 + (reference_words words + index)) word) ≡ record (block_of words) { numbers = set (block_of words).numbers index word }
unfolding block_of
number_written words index word = grind (arith, take-set-le, drop-set-add, field_written, take_set)
