-- Each step at the word of the lock keeps its rule.
use Rattle.std.proofs.Common.{arith, ◌≡◌, ◌≢◌, inl, inr, ℕ, zero, suc, ◌<◌, cond, eqb, List, [], ◌∷◌, ◌++◌, length, get_or, set, take, drop, Some, None, sym, refl, ap, ◌∙◌, subst, length-set, get_or-set_same, eq-eqb, ne_eqb, append-nil, ⊎_elim, Result, Ok, Err, IfOk, OnErr, Bool, true, false}
use Rattle.std.proofs.lemmas.List.Elements.{filter-append, All-nil, All-push}
use mathlib.Core.Logic.{dite}
use native.Mathlib.Decide.{ℕ_discrete}
use mathlib.Core.Option.{none, some, some-injective, some-ne-none}
use lib.ListN.{get_elem?}
use prog.Atomic.{either}
use Rattle.atomic_table.specs.Table.{State, step, keeps, takes, gives, opening, stepped, Allows, Splits, Joins}
use Rattle.atomic_table.proofs.Lists.{at_set, at_snoc, set_again, set_here, set_else, at_longer}
use Rattle.mh_model.specs.History.{LockState, owned_by, IsAtHome, IsOut}
use Rattle.mh_seat_laws.specs.Lock.{Logs, weigh_numbers, Fits, AllOwned, HasHome, HasHolder, IsLocked, Shows}
use Rattle.mh_seat_laws.specs.{declared.seat_view.FoundValue.FoundValue, declared.seat_view.SeatView.SeatView}
use Rattle.mh_seat_laws.proofs.lock.ShownLocks.{shown_lock, part-of_total, is, none_above}
use Rattle.mh_seat_laws.proofs.TotalLemmas.{total-set, total-append_one}
use Rattle.mh_lock.specs.Steps.{seat_view, empty_logs, all_seats, alone, holding, found_of, WasAtHome, Takes, Gives}
use Rattle.mh_lock.specs.Auxiliary.{Grows}
use Rattle.mh_lock.proofs.SeatNumbers.{two_parts-of_total, is-same, at_most-one, weigh-append, weigh-cut, weigh-all}

set-there : {A : Type 0} (l : List A) (i : ℕ) (v w : A) → get_elem? l i ≡ some v → get_elem? (set l i w) i ≡ some w
set-there [] i v w there = absurd (some-ne-none v (sym there))
set-there (x ∷ xs) zero v w there = refl
set-there (x ∷ xs) (suc i) v w there = set-there xs i v w there

set-first : (l : List ℕ) (x : ℕ) → length l ≡ 1 → x ≡ get_or l 0 0 → set l 0 x ≡ l
set-first [] x one same = absurd (omega arith)
set-first (y ∷ ys) x one same = ap (λ (z : ℕ). z ∷ ys) same

-- What a seat owns of a history that grows -------------------------------------------------------

module _ {E : Type 0} (owner : E → ℕ) where
  owned-append_one : (seat : ℕ) (history : List E) (entry : E) → owned_by owner seat (history ++ entry ∷ []) ≡ owned_by owner seat history ++ owned_by owner seat (entry ∷ [])
  owned-append_one seat history entry = filter-append (λ e. eqb (owner e) seat) history (entry ∷ [])

  owned-other : (other seat : ℕ) (before after : List E) → other ≢ seat → Grows owner seat before after → owned_by owner other after ≡ owned_by owner other before
  owned-other other seat before after apart (inl same) = ap (owned_by owner other) same
  owned-other other seat before after apart (inr more) = grind (arith, eqb, ne_eqb, owned-append_one, cond, append-nil)

  fits-other : (seat : ℕ) (before after : List E) (logs : Logs E) → weigh_numbers (is seat) logs ≡ 0 → Grows owner seat before after → Fits owner before logs → Fits owner after logs
  fits-other seat before after [] without grows fits = tt
  fits-other seat before after (l ∷ ls) without grows fits =
      let apart : l.0 ≢ seat = λ same. absurd (omega (arith, is-same seat l.0 same)) in
      (fits.0 ∙ sym (owned-other l.0 seat before after apart grows), fits-other seat before after ls (omega arith) grows fits.1)

  all_owned-grows : (seat seats : ℕ) (before after : List E) → seat < seats → Grows owner seat before after → AllOwned owner seats before → AllOwned owner seats after
  all_owned-grows seat seats before after low (inl same) all = subst (AllOwned owner seats) (sym same) all
  all_owned-grows seat seats before after low (inr more) all =
      subst (AllOwned owner seats) (sym more.2) (All-push (λ e. owner e < seats) before more.0 all (subst (λ (k : ℕ). k < seats) (sym more.1) low))

  -- what a call leaves of the history
  pub answer-grows : {R S : Type 0} (seat : ℕ) (before after : List E) (answer : Result R S) (entry : R → E) → IfOk answer (λ r. after ≡ before ++ entry r ∷ []) → OnErr answer (after ≡ before)
      → ((r : R) → owner (entry r) ≡ seat) → Grows owner seat before after
  answer-grows seat before after (Ok r) entry ok err mine = inr (entry r, mine r, ok)
  answer-grows seat before after (Err s) entry ok err mine = inl err

module _ {T E O : Type 0} (owner : E → ℕ) (entries : T → List E) (origin : T → O) (about : ℕ × O) where
  abbrev seats : ℕ
  seats = about.0

  abbrev Kept : State T (SeatView E O) → Type 0
  Kept = IsLocked owner entries origin about

  -- Taking the value -----------------------------------------------------------------------------

  -- the seat takes the value that is at home
  taken : (table : State T (SeatView E O)) → Kept table → (id number : ℕ) (log : List E) → get_elem? table.views id ≡ some (seat_view ((number, log) ∷ []) None) → (home : HasHome owner entries origin about table)
      → Kept (stepped table 0 1 id [] (seat_view ((number, log) ∷ []) (Some (found_of entries origin home.value))) (takes 0 home.value))
  taken table rule id number log there home =
      let before : SeatView E O = seat_view ((number, log) ∷ []) None in
      let after : SeatView E O = seat_view ((number, log) ∷ []) (Some (found_of entries origin home.value)) in record {
        words = length-set table.words 0 1 ∙ rule.words;
        slots = length-set table.homes 0 none ∙ rule.slots;
        numbers = λ h. omega (arith, total-set (λ view. weigh_numbers h view.logs) table.views id before after there, rule.numbers h);
        place = inr record {
          word = get_or-set_same table.words 0 1 0 (omega (arith, rule.words));
          history = entries home.value;
          holder = id;
          view = after;
          holder_view = set-there table.views id before after there;
          found = ap (λ (o : O). Some (record { history = entries home.value; origin = o })) home.same_origin;
          some_log = omega arith;
          fits = λ other view is_there. ⊎_elim
              (λ t. subst (λ (v : SeatView E O). Fits owner (entries home.value) v.logs) t.1 (home.fits id before there))
              (λ t. home.fits other view t.1)
              (at_set table.views id other after view is_there);
          owned_all = home.owned_all;
          others = λ other view is_there apart. ⊎_elim (λ t. absurd (apart t.0)) (λ t. home.nobody other view t.1) (at_set table.views id other after view is_there);
        };
      }

  -- the lock of the model that the table shows then
  was_at_home : (table : State T (SeatView E O)) → Kept table → (id number : ℕ) (log : List E) → get_elem? table.views id ≡ some (seat_view ((number, log) ∷ []) None) → (home : HasHome owner entries origin about table)
      → WasAtHome owner seats number log (entries home.value)
  was_at_home table rule id number log there home =
      let view : SeatView E O = seat_view ((number, log) ∷ []) None in
      let shown = shown_lock owner entries origin about table rule in
      let state : LockState E = shown.0 in
      let shows : Shows entries seats table state = shown.2 in
      let word : state.word ≡ 0 = shows.word ∙ home.word in
      let mine : is number number ≡ 1 = is-same number number refl in record {
        state = state;
        kept = ⊎_elim (λ (at_home : IsAtHome owner state). at_home) (λ (out : IsOut owner state). let one = out.word in absurd (omega arith)) shown.1;
        home = shows.home home.value word home.at_home;
        many = shows.many;
        inside = grind (arith, none_above number seats, part-of_total (λ view. weigh_numbers (is number) view.logs) table.views id view there, mine, rule.numbers (is number));
        there = (shows.logs id view there).0;
      }

  -- nothing changes
  left : (table : State T (SeatView E O)) → Kept table → (id : ℕ) (view : SeatView E O) → get_elem? table.views id ≡ some view → (word : ℕ) → word ≡ get_or table.words 0 0
      → Kept (stepped table 0 word id [] view keeps)
  left table rule id view there word same = grind (arith, set-first, set_again)

  pub take-allowed : (slots id number : ℕ) (log : List E)
      → Allows Kept slots id (alone number log) 0 (λ word. either (eqb word 0) 1 word) (Takes owner entries origin (Some about) (step slots 0 0 1 none) (alone number log))
  take-allowed slots id number log table rule _ there _ =
      let word : ℕ = get_or table.words 0 0 in
      ⊎_elim
      (λ home. let hit : eqb word 0 ≡ true = eq-eqb word 0 home.word in (
        seat_view ((number, log) ∷ []) (Some (found_of entries origin home.value)),
        takes 0 home.value,
        home.at_home,
        subst
            (λ (b : Bool). Kept (stepped table 0 (either b 1 word) id [] (seat_view ((number, log) ∷ []) (Some (found_of entries origin home.value))) (takes 0 home.value)))
            (sym hit)
            (taken table rule id number log there home),
        (
          (λ _. (
            home.value,
            refl,
            (home.fits id (seat_view ((number, log) ∷ []) None) there).0,
            home.same_origin,
            was_at_home table rule id number log there home,
          )),
          λ missed. absurd (missed home.word),
        ),
      ))
      (λ out. let missed : eqb word 0 ≡ false = ne_eqb word 0 (λ zero_found. let one = out.word in absurd (omega arith)) in (
        seat_view ((number, log) ∷ []) None,
        keeps,
        tt,
        subst
            (λ (b : Bool). Kept (stepped table 0 (either b 1 word) id [] (seat_view ((number, log) ∷ []) None) keeps))
            (sym missed)
            (left table rule id (seat_view ((number, log) ∷ []) None) there word refl),
        ((λ zero_found. let one = out.word in absurd (omega arith)), λ _. refl),
      ))
      rule.place

  -- Giving it back -------------------------------------------------------------------------------

  -- the seat that has the value gives it back
  given : (table : State T (SeatView E O)) → Kept table → (id number : ℕ) (log : List E) (found : FoundValue E O) (value : T) → get_elem? table.views id ≡ some (seat_view ((number, log) ∷ []) (Some found))
      → Grows owner number found.history (entries value) → origin value ≡ found.origin → HasHolder owner entries origin about table
      → Kept (stepped table 0 0 id ((0, value) ∷ []) (seat_view ((number, owned_by owner number (entries value)) ∷ []) None) gives)
  given table rule id number log found value there grows same_origin out =
      let before : SeatView E O = seat_view ((number, log) ∷ []) (Some found) in
      let after : SeatView E O = seat_view ((number, owned_by owner number (entries value)) ∷ []) None in
      let mine : is number number ≡ 1 = is-same number number refl in
      let here : id ≡ out.holder = dite (ℕ_discrete id out.holder) (λ e. e) (λ apart. let none_found = out.others id before there apart in absurd cc) in
      let same_view : out.view ≡ before = some-injective out.view before (sym out.holder_view ∙ (ap (get_elem? table.views) (sym here) ∙ there)) in
      let same : Some (record { history = out.history; origin = about.1 }) ≡ Some found = sym out.found ∙ ap (λ (view : SeatView E O). view.found) same_view in
      let same_history : out.history ≡ found.history = cc in
      let same_start : about.1 ≡ found.origin = cc in
      let more : Grows owner number out.history (entries value) = subst (λ h. Grows owner number h (entries value)) (sym same_history) grows in
      let low : number < seats = grind (arith, none_above number seats, part-of_total (λ view. weigh_numbers (is number) view.logs) table.views id before there, mine, rule.numbers (is number)) in record {
        words = length-set table.words 0 0 ∙ rule.words;
        slots = length-set table.homes 0 (some value) ∙ rule.slots;
        numbers = λ h. omega (arith, total-set (λ view. weigh_numbers h view.logs) table.views id before after there, rule.numbers h);
        place = inl record {
          word = get_or-set_same table.words 0 0 0 (omega (arith, rule.words));
          value = value;
          at_home = set_here table.homes 0 (some value) (omega (arith, rule.slots));
          same_origin = same_origin ∙ sym same_start;
          fits = λ other view is_there. ⊎_elim
              (λ t. subst (λ (v : SeatView E O). Fits owner (entries value) v.logs) t.1 (refl, tt))
              (λ t. let two = two_parts-of_total (λ v. weigh_numbers (is number) v.logs) table.views id other before view (λ i. t.0 (sym i)) there t.1 in
              fits-other owner number out.history (entries value) view.logs (omega (arith, mine, rule.numbers (is number), at_most-one number seats)) more (out.fits other view t.1))
              (at_set table.views id other after view is_there);
          owned_all = all_owned-grows owner number seats out.history (entries value) low more out.owned_all;
          nobody = λ other view is_there. ⊎_elim
              (λ t. ap (λ (v : SeatView E O). v.found) (sym t.1))
              (λ t. out.others other view t.1 (λ i. t.0 (i ∙ sym here)))
              (at_set table.views id other after view is_there);
        };
      }

  pub give-allowed : (slots id number : ℕ) (log : List E) (found : FoundValue E O) (value : T) → Grows owner number found.history (entries value) → origin value ≡ found.origin
      → Allows Kept slots id (holding number log found value) 0 (λ _. 0) (λ _. Gives owner entries origin (step slots 0 0 0 none) (holding number log found value) 0)
  give-allowed slots id number log found value grows same_origin table rule _ there _ = ⊎_elim
      (λ home. let none_found = home.nobody id (seat_view ((number, log) ∷ []) (Some found)) there in absurd cc)
      (λ out. (
        seat_view ((number, owned_by owner number (entries value)) ∷ []) None,
        gives,
        tt,
        given table rule id number log found value there grows same_origin out,
        refl,
      ))
      rule.place

  -- The start ------------------------------------------------------------------------------------

  fits-empty : (history : List E) (k n : ℕ) → history ≡ [] → Fits owner history (empty_logs k n)
  fits-empty history k zero empty = tt
  fits-empty history k (suc n) empty = (sym (ap (owned_by owner k) empty), fits-empty history (suc k) n empty)

  only : (P : SeatView E O → Type 0) → P (all_seats about) → (id : ℕ) (view : SeatView E O) → get_elem? (all_seats about ∷ []) id ≡ some view → P view
  only P p zero view there = subst P (some-injective (all_seats about) view there) p
  only P p (suc id) view there = absurd (some-ne-none view (sym there))

  pub opening-locked : (value : T) → entries value ≡ [] → origin value ≡ about.1 → Kept (opening (0 ∷ []) (value ∷ []) (all_seats about))
  opening-locked value empty same_origin = grind (arith, weigh-all, inl, only, fits-empty, All-nil)

  -- Splits and joins of seats without the value --------------------------------------------------

  -- such a seat isn't the one that has it
  apart-holder : (table : State T (SeatView E O)) (out : HasHolder owner entries origin about table) (id : ℕ) (view : SeatView E O) → get_elem? table.views id ≡ some view → view.found ≡ None → out.holder ≢ id
  apart-holder table out id view there free same = grind arith

  fits-rest : (history : List E) (logs : Logs E) → Fits owner history logs → Fits owner history (drop 1 logs)
  fits-rest history [] fits = tt
  fits-rest history (l ∷ ls) fits = fits.1

  fits-first : (history : List E) (logs : Logs E) → Fits owner history logs → Fits owner history (take 1 logs)
  fits-first history [] fits = tt
  fits-first history (l ∷ ls) fits = (fits.0, tt)

  pub split-kept : (id : ℕ) (view : SeatView E O) → view.found ≡ None → Splits Kept id view (seat_view (drop 1 view.logs) view.found) (seat_view (take 1 view.logs) None)
  split-kept id view free table rule there = grind (arith, fits-rest, at_set, fits-first, at_snoc, total-append_one, total-set, weigh-cut, inl, inr, at_longer, set_else, apart-holder)

  fits-append : (history : List E) (ls ms : Logs E) → Fits owner history ls → Fits owner history ms → Fits owner history (ls ++ ms)
  fits-append history [] ms a b = b
  fits-append history (l ∷ ls) ms a b = (a.0, fits-append history ls ms a.1 b)

  pub join-kept : (id : ℕ) (view : SeatView E O) (other : ℕ) (before : SeatView E O) → view.found ≡ None → before.found ≡ None
      → Joins Kept id view other before (seat_view (before.logs ++ view.logs) view.found) (seat_view [] None)
  join-kept id view other before free before_free table rule there apart joined = grind (arith, at_set, fits-append, total-set, weigh-append, inl, inr, set_else, apart-holder)
