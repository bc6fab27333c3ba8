-- Taking the value and giving it back keep the lock's rule.
use Rattle.std.proofs.Common.{◌≡◌, ◌≢◌, ◌<◌, ◌==◌, ◌++◌, ℕ, zero, suc, Bool, true, false, if◌then◌else◌, cond, inl, inr, List, [], ◌∷◌, length, get_or, set, Option, Some, None, option_map, refl, sym, ap, ◌∙◌, arith}
use Rattle.std.proofs.lemmas.Bool.{cases_eq, eq-eqb, ne_eqb}
use Rattle.std.proofs.{lemmas.List.{get_or-set_same, get_or-set_other, length-set, append-nil}, lemmas.Option.none-some}
use Rattle.std.specs.Option.{option_to_list}
use Rattle.mh_model.specs.History.{LockState, IsOut, IsKeptBy, AreLogs, owned_by, with_give}

-- what is there is within the list
below_length : {X : Type 0} (xs : List (Option X)) (i : ℕ) (x : X) → get_or xs i None ≡ Some x → i < length xs
below_length [] i x e = absurd (none-some x e)
below_length (y ∷ xs) zero x e = omega arith
below_length (y ∷ xs) (suc i) x e = omega (arith, below_length xs i x e)

module _ {E : Type 0} (owner : E → ℕ) where
  -- what a seat owns of a history with one entry more
  owned_by-append : (seat : ℕ) (history : List E) (entry : E) → owned_by owner seat (history ++ entry ∷ []) ≡ owned_by owner seat history ++ (if owner entry == seat then entry ∷ [] else [])
  owned_by-append seat [] entry = refl
  owned_by-append seat (first ∷ history) entry = go (owner first == seat) (owned_by-append seat history entry)
    where
      go : (b : Bool) → owned_by owner seat (history ++ entry ∷ []) ≡ owned_by owner seat history ++ (if owner entry == seat then entry ∷ [] else [])
          → cond b (first ∷ owned_by owner seat (history ++ entry ∷ [])) (owned_by owner seat (history ++ entry ∷ [])) ≡ cond b (first ∷ owned_by owner seat history) (owned_by owner seat history) ++ (if owner entry == seat then entry ∷ [] else [])
      go true e = ap (λ xs. first ∷ xs) e
      go false e = e

  owned_by-own : (seat : ℕ) (history : List E) (entry : Option E) → ((e : E) → entry ≡ Some e → owner e ≡ seat) → owned_by owner seat (history ++ option_to_list entry) ≡ owned_by owner seat history ++ option_to_list entry
  owned_by-own seat history None owns = ap (owned_by owner seat) (append-nil history) ∙ sym (append-nil (owned_by owner seat history))
  owned_by-own seat history (Some entry) owns = owned_by-append seat history entry ∙ ap (λ b. owned_by owner seat history ++ (if b then entry ∷ [] else [])) (eq-eqb (owner entry) seat (owns entry refl))

  owned_by-other : (seat other : ℕ) (history : List E) (entry : Option E) → ((e : E) → entry ≡ Some e → owner e ≡ seat) → other ≢ seat → owned_by owner other (history ++ option_to_list entry) ≡ owned_by owner other history
  owned_by-other seat other history None owns apart = ap (owned_by owner other) (append-nil history)
  owned_by-other seat other history (Some entry) owns apart = grind (arith, owned_by-append, ne_eqb, append-nil)

  -- the logs after an entry of a seat's call, or after none
  logs-given : (entry : Option E) (history : List E) (logs : List (List E)) (seat : ℕ) → seat < length logs → ((e : E) → entry ≡ Some e → owner e ≡ seat) → AreLogs owner history logs
      → AreLogs owner (history ++ option_to_list entry) (set logs seat (get_or logs seat [] ++ option_to_list entry))
  logs-given entry history logs seat within owns are other =
      let new : List E = get_or logs seat [] ++ option_to_list entry in
      elim (cases_eq other seat) [
        | inl same ↦ rw same (get_or-set_same logs seat new [] within ∙ ap (λ log. log ++ option_to_list entry) (are seat) ∙ sym (owned_by-own seat history entry owns))
        | inr apart ↦ get_or-set_other logs seat other new [] apart ∙ are other ∙ sym (owned_by-other seat other history entry owns apart)
      ]

  -- A seat that has the value and gives it back, with an entry that it owns or with none, keeps the rule
  pub with_give-kept : (lock : LockState E) (entry : Option E) (out : IsOut owner lock) → ((e : E) → entry ≡ Some e → owner e ≡ out.holder) → IsKeptBy owner (with_give lock out.holder entry)
  with_give-kept lock entry out owns = inl (record {
    seats = length-set lock.logs out.holder (get_or lock.logs out.holder [] ++ option_to_list entry) ∙ (out.seats ∙ sym (length-set lock.taken out.holder None));
    word = refl;
    history = out.history ++ option_to_list entry;
    home = ap (option_map (λ entries. entries ++ option_to_list entry)) out.found;
    nobody = nobody;
    logs = logs-given entry out.history lock.logs out.holder within owns out.logs;
  })
    where
      within : out.holder < length lock.logs
      within = omega (arith, out.seats, below_length lock.taken out.holder out.history out.found)

      nobody : (seat : ℕ) → get_or (set lock.taken out.holder None) seat None ≡ None
      nobody seat = grind (arith, cases_eq, inl, get_or-set_same, below_length, inr, get_or-set_other)
