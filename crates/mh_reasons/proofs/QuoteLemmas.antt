-- Words that a message quotes.
use Rattle.std.proofs.{Common.{◌≡◌, ℕ, ◌≤◌, List, length, take, sym, ◌∙◌, arith}, lemmas.List.take_all}

-- a word of at most 80 bytes is quoted whole
pub whole : (word : List ℕ) (i : ℕ) → length word ≤ i → i ≤ 80 → take i word ≡ take 80 word
whole word i all few =
    take_all i word all ∙ sym (take_all 80 word (omega arith))
