-- The names `s0`, `s1` and so on, and the numbers that sessions have by them if they are first used in this order.
use Rattle.std.proofs.Common.{◌≡◌, ◌∙◌, ℕ, zero, suc, ◌+◌, ◌-◌, ◌<◌, ◌≤◌, ◌≢◌, ◌^◌, nat_lt, nat_le, min, cond, ◌||◌, Bool, true, false, List, [], ◌∷◌, ◌++◌, length, ap, subst, refl, decimal, arith}
use Rattle.std.proofs.{lemmas.Bool.{ltb-true, ltb-false}, lemmas.Fmt.decimal_injective}
use Rattle.mh_model.specs.{Bytes.{Text, is_text}, Script.{session_number, with_name}}
use Rattle.mh_model.proofs.TextLemmas.{text_is, text_itself}

abbrev pub session_name : ℕ → Text
session_name who = 115 ∷ decimal who

-- so many names, from that of session i on
abbrev pub names_from : ℕ → ℕ → List Text
names_from i zero = []
names_from i (suc n) = session_name i ∷ names_from (suc i) n

name_other : (a b : ℕ) → a < 2 ^ 64 → b < 2 ^ 64 → a ≢ b → is_text (session_name a) (session_name b) ≡ false
name_other a b small few other = go (is_text (session_name a) (session_name b)) refl where
  go : (test : Bool) → is_text (session_name a) (session_name b) ≡ test → test ≡ false
  go false is = refl
  go true is =
      let same : session_name a ≡ session_name b = text_is (session_name a) (session_name b) is in
      let digits : decimal a ≡ decimal b = cc in
      absurd (other (decimal_injective a b small few digits))

-- the number of a session among names in order: its own, or the next if it isn't among them
number-names : (i n who : ℕ) → i ≤ who → who < 2 ^ 64 → session_number (names_from i n) (session_name who) ≡ min (who - i) n
number-names i zero who low small = omega arith
number-names i (suc n) who low small = go (nat_lt i who) refl (λ below. number-names (suc i) n who below small) where
  go : (test : Bool) → nat_lt i who ≡ test → (suc i ≤ who → session_number (names_from (suc i) n) (session_name who) ≡ min (who - suc i) n) → session_number (names_from i (suc n)) (session_name who) ≡ min (who - i) (suc n)
  go true is more =
      let below : i < who = ltb-true i who is in
      let other : is_text (session_name i) (session_name who) ≡ false = name_other i who (omega arith) small (λ same. omega (arith, below, same)) in
      let later = more (omega arith) in
      rw other (omega (arith, later))
  go false is more =
      let same : i ≡ who = omega (arith, ltb-false i who is) in
      let itself : is_text (session_name i) (session_name who) ≡ true = subst (λ (w : ℕ). is_text (session_name i) (session_name w) ≡ true) same (text_itself (session_name i)) in
      rw itself (omega arith)

pub length-names : (i n : ℕ) → length (names_from i n) ≡ n
length-names i zero = refl
length-names i (suc n) = omega (arith, length-names (suc i) n)

names-append : (i n : ℕ) → names_from i n ++ session_name (i + n) ∷ [] ≡ names_from i (suc n)
names-append i zero = ap (λ (w : ℕ). session_name w ∷ []) (omega arith)
names-append i (suc n) =
    let same : i + suc n ≡ suc i + n = omega arith in
    ap (λ (names : List Text). session_name i ∷ names) (ap (λ (w : ℕ). names_from (suc i) n ++ session_name w ∷ []) same ∙ names-append (suc i) n)

-- The first names, if so many were seen
abbrev pub first_names : ℕ → List Text
first_names named = names_from 0 named

-- a session that was seen, or the next, or the ninth, has its number
pub number-first : (named who : ℕ) → who ≤ named → who < 2 ^ 64 → session_number (first_names named) (session_name who) ≡ who
number-first named who low small = number-names 0 named who (omega arith) small ∙ omega arith

-- and is among the first names afterwards, if it is not past the eighth
pub with_name-first : (named who : ℕ) → who ≤ named → who < 2 ^ 64 → named ≤ 8
    → with_name (first_names named) (session_name who) ≡ first_names (cond (nat_lt who named || nat_le 8 named) named (suc named))
with_name-first named who low small few =
    let seen : nat_lt (session_number (first_names named) (session_name who)) (length (first_names named)) ≡ nat_lt who named = rw (number-first named who low small, length-names 0 named) refl in
    let full : nat_le 8 (length (first_names named)) ≡ nat_le 8 named = ap (nat_le 8) (length-names 0 named) in
    rw (seen, full) (go (nat_lt who named) (nat_le 8 named) refl)
  where
    go : (s f : Bool) → nat_lt who named ≡ s → cond (s || f) (first_names named) (first_names named ++ session_name who ∷ []) ≡ first_names (cond (s || f) named (suc named))
    go true f is = refl
    go false true is = refl
    go false false is =
        let last : who ≡ 0 + named = omega (arith, ltb-false who named is) in
        ap (λ (w : ℕ). first_names named ++ session_name w ∷ []) last ∙ names-append 0 named
