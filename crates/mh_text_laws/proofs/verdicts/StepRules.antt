-- Rules that a list keeps step by step: each element fits a state and leads to the next, and there are 1,000,000 at most.
use Rattle.std.proofs.Common.{◌≡◌, ◌⊎◌, inl, inr, ℕ, suc, ◌-◌, ◌<◌, ◌≤◌, Bool, true, List, [], ◌∷◌, length, take, refl, subst, arith}
use Rattle.std.proofs.{lemmas.Bool.{and_parts, cases_lt}, lemmas.List.{length-take, length-take-le, take-take}}
use Rattle.std.specs.List.{list_all}
use Rattle.mh_model.specs.{History.IsFirstBadOf, HistoryTexts.IsJudged, declared.history.Verdict.Verdict}
use Rattle.mh_model.specs.declared.history.Verdict.TheVariants.{Legal, FirstBad}

abbrev pub Follows : {S X : Type 0} → (S → X → Type 0) → (S → X → S) → S → List X → Type 0
Follows Fits next state [] = Unit {0}
Follows Fits next state (x ∷ xs) = Fits state x × Follows Fits next (next state x) xs

pub record Fails {S X : Type 0} (Fits : S → X → Type 0) (next : S → X → S) (state : S) (xs : List X) : Type 0 where
  pub place : ℕ
  pub within : place < length xs
  pub before : Follows Fits next state (take place xs)
  pub bad : Follows Fits next state (take (suc place) xs) → ⊥

pub follows_or_fails : {S X : Type 0} (Fits : S → X → Type 0) (next : S → X → S) (passes : X → Bool) → ((state : S) (x : X) → passes x ≡ true → Fits state x ⊎ (Fits state x → ⊥))
    → (state : S) (xs : List X) → list_all passes xs ≡ true → Follows Fits next state xs ⊎ Fails Fits next state xs
follows_or_fails Fits next passes decide state [] h = inl tt
follows_or_fails {S} {X} Fits next passes decide state (x ∷ xs) h =
    by (decide state x (and_parts _ _ h).0) (follows_or_fails Fits next passes decide (next state x) xs (and_parts _ _ h).1) where
      by : Fits state x ⊎ (Fits state x → ⊥) → Follows Fits next (next state x) xs ⊎ Fails Fits next (next state x) xs
          → Follows Fits next state (x ∷ xs) ⊎ Fails Fits next state (x ∷ xs)
      by (inl fits) (inl follows) = inl (fits, follows)
      by (inl fits) (inr fails) =
          inr (record { place = suc fails.place; within = omega (arith, fails.within); before = (fits, fails.before); bad = λ follows. fails.bad follows.1 })
      by (inr other) rest = inr (record { place = 0; within = omega arith; before = tt; bad = λ follows. other follows.0 })

follows-take : {S X : Type 0} (Fits : S → X → Type 0) (next : S → X → S) (n : ℕ) (state : S) (xs : List X) → Follows Fits next state xs → Follows Fits next state (take n xs)
follows-take Fits next (suc n) state (x ∷ xs) h = (h.0, follows-take Fits next n (next state x) xs h.1)
follows-take Fits next n state xs h = tt

-- what is lawful is at most 1,000,000 elements, which follow
pub record IsRule {S X : Type 0} (Fits : S → X → Type 0) (next : S → X → S) (state : S) (Lawful : List X → Type 0) : Type 0 where
  pub lawful : (xs : List X) → length xs ≤ 1000000 → Follows Fits next state xs → Lawful xs
  pub few : (xs : List X) → Lawful xs → length xs ≤ 1000000
  pub follows : (xs : List X) → Lawful xs → Follows Fits next state xs

-- a prefix of what is lawful is lawful
pub rule-begins : {S X : Type 0} (Fits : S → X → Type 0) (next : S → X → S) (state : S) (Lawful : List X → Type 0) → IsRule Fits next state Lawful
    → (n : ℕ) (xs : List X) → Lawful xs → Lawful (take n xs)
rule-begins Fits next state Lawful rule n xs h = rule.lawful (take n xs) (omega (arith, rule.few xs h, length-take n xs)) (follows-take Fits next n state xs (rule.follows xs h))

too_many : {S X : Type 0} (Fits : S → X → Type 0) (next : S → X → S) (state : S) (Lawful : List X → Type 0) → IsRule Fits next state Lawful → (xs : List X) → 1000000 < length xs
    → Follows Fits next state (take 1000000 xs) → IsFirstBadOf Lawful xs 1000001
too_many Fits next state Lawful rule xs many follows = record {
  counted = omega arith;
  within = omega arith;
  before = rule.lawful (take 1000000 xs) (omega (arith, length-take-le 1000000 xs (omega arith))) follows;
  bad = λ lawful. let few = rule.few (take 1000001 xs) lawful in omega (arith, few, length-take-le 1000001 xs (omega arith));
}

pub some_verdict : {S X : Type 0} (Fits : S → X → Type 0) (next : S → X → S) (state : S) (Lawful : List X → Type 0) → IsRule Fits next state Lawful → (xs : List X)
    → Follows Fits next state xs ⊎ Fails Fits next state xs → (verdict : Verdict) × IsJudged Lawful xs verdict
some_verdict {S} {X} Fits next state Lawful rule xs (inl follows) = by (cases_lt 1000000 (length xs)) where
  by : (1000000 < length xs) ⊎ (length xs ≤ 1000000) → (verdict : Verdict) × IsJudged Lawful xs verdict
  by (inl many) = (FirstBad 1000001, too_many Fits next state Lawful rule xs many (follows-take Fits next 1000000 state xs follows))
  by (inr few) = (Legal (length xs), (rule.lawful xs few follows, refl))
some_verdict {S} {X} Fits next state Lawful rule xs (inr fails) = by (cases_lt 1000000 fails.place) where
  by : (1000000 < fails.place) ⊎ (fails.place ≤ 1000000) → (verdict : Verdict) × IsJudged Lawful xs verdict
  by (inl late) =
      let earlier = follows-take Fits next 1000000 state (take fails.place xs) fails.before in
      let known = subst (λ (ys : List X). Follows Fits next state ys) (take-take 1000000 fails.place xs (omega arith)) earlier in
      (FirstBad 1000001, too_many Fits next state Lawful rule xs (omega (arith, fails.within)) known)
  by (inr soon) =
      let last : suc fails.place - 1 ≡ fails.place = omega arith in
      let lawful : Lawful (take fails.place xs) = rule.lawful (take fails.place xs) (omega (arith, length-take-le fails.place xs (omega (arith, fails.within)))) fails.before in (
        FirstBad (suc fails.place),
        record {
          counted = omega arith;
          within = omega (arith, fails.within);
          before = rw last lawful;
          bad = λ lawful. fails.bad (rule.follows (take (suc fails.place) xs) lawful);
        },
      )
