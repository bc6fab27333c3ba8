-- The most that numbers in a row come to, from the last of them on.
use Rattle.std.proofs.Common.{◌≡◌, ◌∙◌, ℕ, zero, suc, ◌+◌, ◌-◌, ◌<◌, ◌≤◌, max, List, [], ◌∷◌, length, take, drop, get_or, sum, refl, sym, ap, arith}
use Rattle.std.proofs.{Math.Seq.drop-cons, lemmas.List.Sums.sum_by-cons}
use Rattle.mh_size_laws.specs.Room.{most_in_a_row}

take-more : (count number : ℕ) (numbers : List ℕ) → sum (take (suc count) (number ∷ numbers)) ≡ number + sum (take count numbers)
take-more count number numbers = sum_by-cons (λ x. x) number (take count numbers)

-- one number more at the end of a row
longer : (count : ℕ) (numbers : List ℕ) → sum (take (suc count) numbers) ≡ sum (take count numbers) + get_or numbers count 0
longer zero [] = omega arith
longer zero (number ∷ numbers) = omega (arith, take-more zero number numbers)
longer (suc count) [] = omega arith
longer (suc count) (number ∷ numbers) = omega (arith, take-more (suc count) number numbers, take-more count number numbers, longer count numbers)

-- one number more in front of a row, and one fewer at its end
slides : (count number : ℕ) (numbers : List ℕ) → sum (take count (number ∷ numbers)) + get_or (number ∷ numbers) count 0 ≡ number + sum (take count numbers)
slides zero number numbers = omega arith
slides (suc count) number numbers = omega (arith, take-more count number numbers, longer count numbers)

get-drop : (numbers : List ℕ) (start count : ℕ) → get_or (drop start numbers) count 0 ≡ get_or numbers (start + count) 0
get-drop numbers zero count = ap (λ n. get_or numbers n 0) (omega arith)
get-drop [] (suc start) count = refl
get-drop (number ∷ numbers) (suc start) count = let next : suc start + count ≡ suc (start + count) = omega arith in rw next (get-drop numbers start count)

-- past the end there is nothing
pub get-none : (numbers : List ℕ) (place : ℕ) → length numbers ≤ place → get_or numbers place 0 ≡ 0
get-none [] place past = refl
get-none (number ∷ numbers) zero past = absurd (omega (arith, past))
get-none (number ∷ numbers) (suc place) past = get-none numbers place (omega (arith, past))

module _ (numbers : List ℕ) (count at : ℕ) (some : 0 < at) (inside : at ≤ length numbers) where
  abbrev pub now : ℕ
  now = at - 1

  cut : drop now numbers ≡ get_or numbers now 0 ∷ drop at numbers
  cut = let next : suc now ≡ at = omega (arith, some) in drop-cons numbers now 0 (omega (arith, some, inside)) ∙ ap (λ n. get_or numbers now 0 ∷ drop n numbers) next

  -- the row that begins a number before
  pub row-before : sum (take count (drop now numbers)) + get_or numbers (now + count) 0 ≡ get_or numbers now 0 + sum (take count (drop at numbers))
  row-before =
      let slid = slides count (get_or numbers now 0) (drop at numbers) in
      let last = ap (λ list. get_or list count 0) (sym cut) ∙ get-drop numbers now count in
      omega (arith, slid, last, ap (λ list. sum (take count list)) cut)

  pub most-before : most_in_a_row count (drop now numbers) ≡ max (sum (take count (drop now numbers))) (most_in_a_row count (drop at numbers))
  most-before = ap (most_in_a_row count) cut ∙ ap (λ list. max (sum (take count list)) (most_in_a_row count (drop at numbers))) (sym cut)
