-- The most that numbers in a row come to.
use Rattle.std.proofs.Common.{◌≡◌, ℕ, suc, ◌+◌, ◌<◌, ◌≤◌, List, [], ◌∷◌, ◌++◌, length, take, refl, ap, arith}
use Rattle.std.proofs.lemmas.List.Sums.{sum_by-cons}
use Rattle.std.specs.List.{sum}
use Rattle.mh_size_laws.specs.Room.{most_in_a_row}

sum-cons : (number : ℕ) (numbers : List ℕ) → sum (number ∷ numbers) ≡ number + sum numbers
sum-cons number numbers = sum_by-cons (λ n. n) number numbers

-- a row with room for one more comes to no more than the first numbers
sum-taken : (count : ℕ) (before : List ℕ) (number : ℕ) (after : List ℕ) → length before < count → sum before + number ≤ sum (take count (before ++ number ∷ after))
sum-taken (suc count) (first ∷ before) number after few =
    omega (arith, sum-cons first before, sum-cons first (take count (before ++ number ∷ after)), sum-taken count before number after (omega arith))
sum-taken count before number after few = grind (arith, sum-cons)

-- the first numbers are a row
first-row : (count : ℕ) (numbers : List ℕ) → sum (take count numbers) ≤ most_in_a_row count numbers
first-row count numbers = grind arith

-- so is what comes before a number, with it
pub row-first : (count : ℕ) (before : List ℕ) (number : ℕ) (after : List ℕ) → length before < count → sum before + number ≤ most_in_a_row count (before ++ number ∷ after)
row-first count before number after few = omega (arith, sum-taken count before number after few, first-row count (before ++ number ∷ after))

-- rows of later numbers are rows
pub row-after : (count : ℕ) (before after : List ℕ) → most_in_a_row count after ≤ most_in_a_row count (before ++ after)
row-after count [] after = omega arith
row-after count (number ∷ before) after = omega (arith, row-after count before after)

pub sum-more : (before : List ℕ) (number : ℕ) → sum (before ++ number ∷ []) ≡ sum before + number
sum-more [] number = omega (arith, sum-cons number [])
sum-more (first ∷ before) number = omega (arith, sum-cons first (before ++ number ∷ []), sum-cons first before, sum-more before number)

pub length-more : (before : List ℕ) (number : ℕ) → length (before ++ number ∷ []) ≡ suc (length before)
length-more [] number = refl
length-more (first ∷ before) number = ap suc (length-more before number)

pub row-more : (before : List ℕ) (number : ℕ) (after : List ℕ) → (before ++ number ∷ []) ++ after ≡ before ++ number ∷ after
row-more [] number after = refl
row-more (first ∷ before) number after = ap (λ l. first ∷ l) (row-more before number after)
