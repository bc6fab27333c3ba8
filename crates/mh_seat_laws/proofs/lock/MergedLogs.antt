-- Each event has one of the nine seats as its owner, so logs of what each of these owns of a history merge to it.
use Rattle.std.proofs.Common.{◌≡◌, ℕ, ◌<◌, ◌≤◌, Bool, cond, nat_lt, if◌then◌else◌, inl, inr, List, [], ◌∷◌, length, get_or, set, refl, ap, ◌∙◌, arith}
use Rattle.std.proofs.{lemmas.Bool.{cases_eq, eq-eqb, ne_eqb}, lemmas.Bool.Decides.nat_tests}
use Rattle.std.proofs.lemmas.List.{get_or-set_same, get_or-set_other, length-set}
use Rattle.mh_model.specs.{declared.command.Event.Event, declared.history.Entry.Entry}
use Rattle.mh_model.specs.History.{owner_of, owned_by, AreLogs}
use Rattle.mh_seat_laws.specs.Merges.{IsMerge}

below_nine : (who : ℕ) → (if nat_lt who 8 then who else 8) ≤ 8
below_nine who = grind (arith, nat_tests)

-- An event has one of the nine seats as its owner
pub owned_below : (event : Event) → owner_of event ≤ 8
owned_below (Event.Session who command) = below_nine who
owned_below (Event.Control control) = omega arith

module _ {E : Type 0} (owner : E → ℕ) where
  -- Without its first entry a history has the same logs, but for the owner's, which lacks that entry
  logs_after : (entry : E) (history : List E) (logs : List (List E)) → owner entry < length logs → AreLogs owner (entry ∷ history) logs → AreLogs owner history (set logs (owner entry) (owned_by owner (owner entry) history))
  logs_after entry history logs within are seat = grind (arith, cases_eq, inl, get_or-set_same, inr, get_or-set_other, cond, ne_eqb)

  -- Logs of all owners merge to the history
  pub all-merge : (history : List E) (logs : List (List E)) → ((entry : E) → owner entry < length logs) → AreLogs owner history logs → IsMerge logs history
  all-merge [] logs owned are = are
  all-merge (entry ∷ history) logs owned are =
      let seat : ℕ = owner entry in
      let rest : List E = owned_by owner seat history in
      let log : get_or logs seat [] ≡ entry ∷ rest = are seat ∙ ap (λ (b : Bool). cond b (entry ∷ rest) rest) (eq-eqb seat seat refl) in (
        record { seat = seat; rest = rest; log = log },
        all-merge history (set logs seat rest) (λ other. omega (arith, owned other, length-set logs seat rest)) (logs_after entry history logs (owned entry) are),
      )

-- Logs of what each of the nine seats owns of a history merge to that history
pub logs-merge : (history : List Entry) (logs : List (List Entry)) → length logs ≡ 9 → AreLogs (λ entry. owner_of entry.event) history logs → IsMerge logs history
logs-merge history logs nine are = all-merge (λ (entry : Entry). owner_of entry.event) history logs (λ entry. omega (arith, owned_below entry.event)) are
