-- The rule of the lock gives the lock's rule of the model.
use Rattle.std.proofs.Common.{arith, ◌≡◌, inl, inr, ℕ, zero, suc, ◌+◌, ◌<◌, ◌≤◌, cond, eqb, List, [], ◌∷◌, length, get_or, set, replicate, Some, None, Option, sym, refl, ap, ◌∙◌, length-set, get_or-set_same, eq-eqb, ne_eqb, ⊎_elim, Bool, false}
use Rattle.std.proofs.{lemmas.Bool.Decides.nat_tests, lemmas.List.{length-replicate, get_or-set_other}}
use mathlib.Core.Logic.{dite}
use native.Mathlib.Decide.{ℕ_discrete, dec_lt}
use mathlib.Core.Option.{some, some-injective, some-ne-none}
use lib.ListN.{get_elem?}
use Rattle.atomic_table.specs.Table.{State}
use Rattle.mh_seat_laws.specs.{declared.seat_view.SeatView.SeatView, Weights.{weigh_below, total}}
use Rattle.mh_seat_laws.specs.Lock.{Logs, weigh_numbers, first, StandIn, Fits, AllOwned, HasHome, HasHolder, IsLocked, Shows}
use Rattle.mh_model.specs.History.{LockState, owned_by, AreLogs, IsKeptBy}

-- 1 for the number n
abbrev pub is : ℕ → ℕ → ℕ
is n k = cond (eqb k n) 1 0

pub none_above : (n m : ℕ) → m ≤ n → weigh_below (is n) m ≡ 0
none_above n zero le = refl
none_above n (suc m) le = let r = none_above n m (omega arith) in grind (arith, nat_tests)

pub part-of_total : {A : Type 0} (f : A → ℕ) (l : List A) (i : ℕ) (v : A) → get_elem? l i ≡ some v → f v ≤ total f l
part-of_total f [] i v e = absurd (some-ne-none v (sym e))
part-of_total f (x ∷ xs) zero v e = let same : f x ≡ f v = ap f (some-injective x v e) in omega arith
part-of_total f (x ∷ xs) (suc i) v e = let r = part-of_total f xs i v e in omega arith

abbrev no_one : {E : Type 0} → Option (List E)
no_one = None

nobody : {E : Type 0} (n k : ℕ) → get_or (replicate n (no_one {E = E})) k no_one ≡ no_one
nobody zero k = refl
nobody (suc n) zero = refl
nobody (suc n) (suc k) = nobody n k

first_weighs : {E : Type 0} (ls : Logs E) → 0 < length ls → 0 < weigh_numbers (is (first ls).0) ls
first_weighs [] some_log = absurd (omega arith)
first_weighs (l ∷ ls) some_log = let e : is l.0 l.0 ≡ 1 = ap (λ (b : Bool). cond b 1 0) (eq-eqb l.0 l.0 refl) in omega arith

module _ {E : Type 0} (owner : E → ℕ) where
  -- what the seats from k on own, n of them
  abbrev dealt : List E → ℕ → ℕ → List (List E)
  dealt h k zero = []
  dealt h k (suc n) = owned_by owner k h ∷ dealt h (suc k) n

  many : (h : List E) (k n : ℕ) → length (dealt h k n) ≡ n
  many h k zero = refl
  many h k (suc n) = ap suc (many h (suc k) n)

  dealt_at : (h : List E) (k n j : ℕ) → j < n → get_or (dealt h k n) j [] ≡ owned_by owner (k + j) h
  dealt_at h k zero j lt = absurd (omega arith)
  dealt_at h k (suc n) zero lt = ap (λ (i : ℕ). owned_by owner i h) (omega arith)
  dealt_at h k (suc n) (suc j) lt = dealt_at h (suc k) n j (omega arith) ∙ ap (λ (i : ℕ). owned_by owner i h) (omega arith)

  dealt_past : (h : List E) (k n j : ℕ) → n ≤ j → get_or (dealt h k n) j [] ≡ []
  dealt_past h k zero j le = refl
  dealt_past h k (suc n) zero le = absurd (omega arith)
  dealt_past h k (suc n) (suc j) le = dealt_past h (suc k) n j (omega arith)

  none_owned : (seats k : ℕ) (h : List E) → seats ≤ k → AllOwned owner seats h → owned_by owner k h ≡ []
  none_owned seats k [] le all = refl
  none_owned seats k (e ∷ es) le all =
      let low : owner e < seats = all 0 e (omega arith) in
      let no : eqb (owner e) k ≡ false = ne_eqb (owner e) k (λ same. absurd (omega arith)) in
      ap (λ (b : Bool). cond b (e ∷ owned_by owner k es) (owned_by owner k es)) no ∙ none_owned seats k es le (λ i d lt. all (suc i) d (omega arith))

  are_logs : (seats : ℕ) (h : List E) → AllOwned owner seats h → AreLogs owner h (dealt h 0 seats)
  are_logs seats h all k = grind (arith, dealt_at, dealt_past, none_owned)

  stand : (h : List E) (logs : List (List E)) → AreLogs owner h logs → (ls : Logs E) → Fits owner h ls → StandIn logs ls
  stand h logs are [] fits = tt
  stand h logs are (l ∷ ls) fits = (are l.0 ∙ sym fits.0, stand h logs are ls fits.1)

  module _ {T O : Type 0} (entries : T → List E) (origin : T → O) (about : ℕ × O) where
    abbrev pub St : Type 0
    St = State T (SeatView E O)

    abbrev seats : ℕ
    seats = about.0

    at_home : (s : St) → IsLocked owner entries origin about s → HasHome owner entries origin about s → (lock : LockState E) × IsKeptBy owner lock × Shows entries seats s lock
    at_home s r home =
        let h : List E = entries home.value in
        let logs : List (List E) = dealt h 0 seats in
        let are : AreLogs owner h logs = are_logs seats h home.owned_all in
        let lock : LockState E = record { word = 0; home = Some h; logs = logs; taken = replicate seats None } in (
          lock,
          inl record {
            seats = many h 0 seats ∙ sym (length-replicate seats (no_one {E = E}));
            word = refl;
            history = h;
            home = refl;
            nobody = nobody seats;
            logs = are;
          },
          record {
            word = sym home.word;
            many = many h 0 seats;
            logs = λ id v e. stand h logs are v.logs (home.fits id v e);
            taken = λ id v g e f. let none_found = home.nobody id v e in absurd cc;
            home = λ x _ e. let same : home.value ≡ x = some-injective home.value x (some-injective (some home.value) (some x) (sym home.at_home ∙ e)) in ap (λ (y : T). Some (entries y)) same;
          },
        )

    is_away : (s : St) → IsLocked owner entries origin about s → HasHolder owner entries origin about s → (lock : LockState E) × IsKeptBy owner lock × Shows entries seats s lock
    is_away s r out =
        let h : List E = out.history in
        let logs : List (List E) = dealt h 0 seats in
        let are : AreLogs owner h logs = are_logs seats h out.owned_all in
        let k : ℕ = (first out.view.logs).0 in
        let all : List (Option (List E)) = replicate seats None in
        let low : k < seats = dite (dec_lt k seats) (λ lt. lt) (λ no. absurd (omega (arith, none_above k seats (omega arith), first_weighs out.view.logs out.some_log, part-of_total (λ (v : SeatView E O). weigh_numbers (is k) v.logs) s.views out.holder out.view out.holder_view, r.numbers (is k)))) in
        let lock : LockState E = record { word = 1; home = None; logs = logs; taken = set all k (Some h) } in (
          lock,
          inr record {
            seats = many h 0 seats ∙ sym (length-set all k (Some h) ∙ length-replicate seats (no_one {E = E}));
            word = refl;
            home = refl;
            history = h;
            holder = k;
            found = get_or-set_same all k (Some h) None (omega (arith, length-replicate seats (no_one {E = E}), low));
            others = λ j ne. get_or-set_other all k j (Some h) None ne ∙ nobody seats j;
            logs = are;
          },
          record {
            word = sym out.word;
            many = many h 0 seats;
            logs = λ id v e. stand h logs are v.logs (out.fits id v e);
            taken = λ id v g e f. dite (ℕ_discrete id out.holder)
                (λ here. let same : out.view ≡ v = some-injective out.view v (sym out.holder_view ∙ (ap (get_elem? s.views) (sym here) ∙ e)) in
                let is_g : Some (record { history = h; origin = about.1 }) ≡ Some g = sym out.found ∙ (ap (λ (u : SeatView E O). u.found) same ∙ f) in
                let is_h : Some h ≡ Some g.history = cc in
                ap (λ (u : SeatView E O). get_or (set all k (Some h)) (first u.logs).0 None) (sym same) ∙ (get_or-set_same all k (Some h) None (omega (arith, length-replicate seats (no_one {E = E}), low)) ∙ is_h))
                (λ ne. let none_found = out.others id v e ne in absurd cc);
            home = λ x zero_is e. absurd (omega arith);
          },
        )

    pub shown_lock : (s : St) → IsLocked owner entries origin about s → (lock : LockState E) × IsKeptBy owner lock × Shows entries seats s lock
    shown_lock s r = ⊎_elim (at_home s r) (is_away s r) r.place
