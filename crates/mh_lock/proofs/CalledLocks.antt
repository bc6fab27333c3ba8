-- The lock of the model over the call of a seat that took the value at home.
use Rattle.std.proofs.Common.{arith, ◌≡◌, ℕ, ◌<◌, if◌then◌else◌, List, [], ◌∷◌, ◌++◌, length, get_or, set, Option, Some, None, option_map, Result, Ok, Err, IfOk, OnErr, Bool, refl, sym, ap, ◌∙◌, subst, length-set, get_or-set_same, eq-eqb, append-nil, ⊎_elim}
use Rattle.std.proofs.{lemmas.List.get_or-set_other, lemmas.List.Elements.filter-append}
use Rattle.std.specs.Option.{option_to_list}
use Rattle.mh_model.specs.History.{LockState, owned_by, with_take, with_give, IsAtHome, IsOut}
use Rattle.mh_seat_laws.proofs.lock.TakesAndGives.{with_give-kept}
use Rattle.mh_lock.specs.{Seats.{LockView, LockSeatView, IsTakenAndGiven, entry_of_call}, Steps.WasAtHome}

-- what an answer leaves of a list that gets its entry, if it has one
pub entries-answered : {R F E : Type 0} (before after : List E) (answer : Result R F) (entry : R → E) → IfOk answer (λ r. after ≡ before ++ entry r ∷ []) → OnErr answer (after ≡ before) → after ≡ before ++ option_to_list (entry_of_call entry answer)
entries-answered before after (Ok reply) entry ok err = ok
entries-answered before after (Err refusal) entry ok err = err ∙ sym (append-nil before)

pub entry-owned : {R F E : Type 0} (owner : E → ℕ) (seat : ℕ) (answer : Result R F) (entry : R → E) → ((r : R) → owner (entry r) ≡ seat) → (e : E) → entry_of_call entry answer ≡ Some e → owner e ≡ seat
entry-owned owner seat (Ok reply) entry owned e is = let same : entry reply ≡ e = cc in ap owner (sym same) ∙ owned reply
entry-owned owner seat (Err refusal) entry owned e is = cc

-- what a seat owns of a history that gets its entry, if there is one
pub owned-more : {E : Type 0} (owner : E → ℕ) (seat : ℕ) (history : List E) (entry : Option E) → ((e : E) → entry ≡ Some e → owner e ≡ seat) → owned_by owner seat (history ++ option_to_list entry) ≡ owned_by owner seat history ++ option_to_list entry
owned-more owner seat history None owned = ap (owned_by owner seat) (append-nil history) ∙ sym (append-nil (owned_by owner seat history))
owned-more owner seat history (Some entry) owned = grind (arith, filter-append, eq-eqb)

module _ {O E : Type 0} (owner : E → ℕ) (lock : LockView O) (before after : LockSeatView E) (found left : List E) (entry : Option E) (was : WasAtHome owner lock.seats before.number before.log found)
    (owned : (e : E) → entry ≡ Some e → owner e ≡ before.number) (grown : left ≡ found ++ option_to_list entry) (logged : after.log ≡ before.log ++ option_to_list entry) where
  abbrev state : LockState E
  state = was.state

  -- the lock once the seat has the value
  abbrev out : LockState E
  out = record { word = 1; home = None; logs = state.logs; taken = set state.taken before.number state.home }

  taken-out : with_take state before.number ≡ out
  taken-out = ap (λ (b : Bool). if b then out else state) (eq-eqb state.word 0 was.kept.word)

  inside : before.number < length state.taken
  inside = omega (arith, was.inside, was.many, was.kept.seats)

  has_found : get_or out.taken before.number None ≡ Some found
  has_found = get_or-set_same state.taken before.number state.home None inside ∙ was.home

  abbrev out-kept : IsOut owner out
  out-kept = record {
    seats = was.kept.seats ∙ sym (length-set state.taken before.number state.home);
    word = refl;
    home = refl;
    history = was.kept.history;
    holder = before.number;
    found = get_or-set_same state.taken before.number state.home None inside ∙ was.kept.home;
    others = λ other apart. get_or-set_other state.taken before.number other state.home None apart ∙ was.kept.nobody other;
    logs = was.kept.logs;
  }

  abbrev given : LockState E
  given = with_give out before.number entry

  given-kept : IsAtHome owner given
  given-kept = ⊎_elim (λ (home : IsAtHome owner given). home) (λ (held : IsOut owner given). let one = held.word in absurd (omega arith)) (with_give-kept owner out entry out-kept owned)

  given-home : given.home ≡ Some left
  given-home = ap (option_map (λ (entries : List E). entries ++ option_to_list entry)) has_found ∙ ap Some (sym grown)

  given-log : get_or given.logs before.number [] ≡ after.log
  given-log = grind (arith, get_or-set_same)

  pub taken-given : IsTakenAndGiven owner lock before after found left entry
  taken-given = record {
    state = state;
    kept = was.kept;
    home = was.home;
    many = was.many;
    log = was.there;
    out = subst (IsOut owner) (sym taken-out) out-kept;
    taken = ap (λ (s : LockState E). get_or s.taken before.number None) taken-out ∙ has_found;
    given = subst (λ (s : LockState E). IsAtHome owner (with_give s before.number entry)) (sym taken-out) given-kept;
    home_given = ap (λ (s : LockState E). (with_give s before.number entry).home) taken-out ∙ given-home;
    log_given = ap (λ (s : LockState E). get_or (with_give s before.number entry).logs before.number []) taken-out ∙ given-log;
  }
