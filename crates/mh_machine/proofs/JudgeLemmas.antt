-- Histories that are judged entry by entry.
use Rattle.std.proofs.Common.{◌≡◌, ◌∙◌, inl, inr, ℕ, suc, ◌+◌, ◌-◌, ◌<◌, ◌≤◌, true, false, Option, Some, None, IsSome, IsNone, List, [], ◌∷◌, ◌++◌, length, map, take, get_or, ap, sym, refl, subst, arith}
use Rattle.std.proofs.lemmas.List.{length-append, length_push, take_all, take_at, take-append-le, take_more, map-append}
use Rattle.mh_model.specs.{declared.command.Event.Event, declared.config.Config.Config, History.IsFirstBadOf}
use Rattle.mh_model.specs.Machine.{Machine, first_machine, event_step}
use Rattle.mh_run_laws.specs.Replays.{machine_at}
use Rattle.mh_run_laws.proofs.runs.RunsByEvents.{after_more, no-events}
use Rattle.mh_machine.specs.Running.{Running, first_running}
use Rattle.mh_machine.specs.Judging.{HasJudged, HasSeen, IsEventRule, IsTried, Judging}
pub use Rattle.mh_machine.specs.Rules.{record-more}

-- Any rule ---------------------------------------------------------------------------------------

pub none_judged : {X : Type 0} (config : Config) (event_of : X → Event) (Fits : Machine → X → Type 0) (Lawful : List X → Type 0) → IsEventRule config event_of Fits Lawful
    → HasJudged config event_of Lawful [] (first_running config)
none_judged config event_of Fits Lawful rule = record { machine = no-events config; done = refl; lawful = rule.empty }

judged_push : {X : Type 0} (config : Config) (event_of : X → Event) (Fits : Machine → X → Type 0) (Lawful : List X → Type 0) → IsEventRule config event_of Fits Lawful
    → (xs : List X) (x : X) (old new : Running) → HasJudged config event_of Lawful xs old → IsTried (Fits old.machine x) old (event_of x) new true
    → HasJudged config event_of Lawful (xs ++ x ∷ []) new
judged_push config event_of Fits Lawful rule xs x old new judged found =
    let events = map event_of xs in
    let fits = subst (λ (machine : Machine). Fits machine x) judged.machine found.1 in
    record {
      machine = found.2 ∙ ap (λ (machine : Machine). (event_step machine (event_of x)).state) judged.machine
          ∙ sym (after_more.event (first_machine config) events (event_of x)) ∙ ap (machine_at config) (sym (map-append event_of xs (x ∷ [])));
      done = found.3 ∙ ap suc judged.done ∙ sym (omega (arith, length_push xs x));
      lawful = rule.more xs x judged.lawful (omega (arith, found.0, judged.done, rule.few xs judged.lawful, length_push xs x)) fits;
    }

bad_push : {X : Type 0} (config : Config) (event_of : X → Event) (Fits : Machine → X → Type 0) (Lawful : List X → Type 0) → IsEventRule config event_of Fits Lawful
    → (xs : List X) (x : X) (old new : Running) → HasJudged config event_of Lawful xs old → IsTried (Fits old.machine x) old (event_of x) new false
    → Lawful (xs ++ x ∷ []) → ⊥
bad_push config event_of Fits Lawful rule xs x old new judged (inl full) lawful = omega (arith, full, judged.done, rule.few (xs ++ x ∷ []) lawful, length_push xs x)
bad_push config event_of Fits Lawful rule xs x old new judged (inr other) lawful =
    other (subst (λ (machine : Machine). Fits machine x) (sym judged.machine) (rule.last xs x lawful))

-- Judges -----------------------------------------------------------------------------------------

-- the first bad element of a list is that of each longer one
bad_stays : {X : Type 0} (Lawful : List X → Type 0) (xs more : List X) (number : ℕ) → IsFirstBadOf Lawful xs number → IsFirstBadOf Lawful (xs ++ more) number
bad_stays {X} Lawful xs more number is =
    let short : number - 1 ≤ length xs = omega (arith, is.within) in
    let before : take (number - 1) (xs ++ more) ≡ take (number - 1) xs = take-append-le (number - 1) xs more short in
    let same : take number (xs ++ more) ≡ take number xs = take-append-le number xs more is.within in
    record {
      counted = is.counted;
      within = omega (arith, is.within, length-append xs more);
      before = subst Lawful (sym before) is.before;
      bad = λ lawful. is.bad (subst Lawful same lawful);
    }

module _ {X : Type 0} (config : Config) (event_of : X → Event) (Lawful : List X → Type 0) (xs : List X) (x : X) where
  -- a judge who has found a bad element is shown one more
  pub seen_settled : (running : Running) (found : Option ℕ) → IsSome found → HasSeen config event_of Lawful xs (record { running = running; first_bad = found })
      → HasSeen config event_of Lawful (xs ++ x ∷ []) (record { running = running; first_bad = found })
  seen_settled running None some seen = cc
  seen_settled running (Some number) some seen = bad_stays Lawful xs (x ∷ []) number seen

  module _ (Fits : Machine → X → Type 0) (rule : IsEventRule config event_of Fits Lawful) (old new : Running) where
    -- one that is right
    pub seen_right : (found : Option ℕ) → IsNone found → HasSeen config event_of Lawful xs (record { running = old; first_bad = found }) → IsTried (Fits old.machine x) old (event_of x) new true
        → HasSeen config event_of Lawful (xs ++ x ∷ []) (record { running = new; first_bad = found })
    seen_right None none seen tried = judged_push config event_of Fits Lawful rule xs x old new seen tried
    seen_right (Some number) none seen tried = cc

    wrong_push : HasJudged config event_of Lawful xs old → IsTried (Fits old.machine x) old (event_of x) new false → IsFirstBadOf Lawful (xs ++ x ∷ []) (old.done + 1)
    wrong_push judged tried =
        let number : old.done + 1 ≡ length (xs ++ x ∷ []) = omega (arith, judged.done, length_push xs x) in
        let before : take (old.done + 1 - 1) (xs ++ x ∷ []) ≡ xs = take_at xs (x ∷ []) (old.done + 1 - 1) (omega (arith, judged.done)) in
        let same : take (old.done + 1) (xs ++ x ∷ []) ≡ xs ++ x ∷ [] = take_all (old.done + 1) (xs ++ x ∷ []) (omega arith) in
        record {
          counted = omega arith;
          within = omega arith;
          before = subst Lawful (sym before) judged.lawful;
          bad = λ lawful. bad_push config event_of Fits Lawful rule xs x old new judged tried (subst Lawful same lawful);
        }

    -- and one that isn't, which is the first bad one
    pub seen_wrong : (found : Option ℕ) (number : ℕ) → IsNone found → HasSeen config event_of Lawful xs (record { running = old; first_bad = found }) → number ≡ old.done → IsTried (Fits old.machine x) old (event_of x) new false
        → IsFirstBadOf Lawful (xs ++ x ∷ []) (number + 1)
    seen_wrong None number none seen is tried = rw is (wrong_push seen tried)
    seen_wrong (Some other) number none seen is tried = cc

-- the first of some elements were shown, and then one more
pub shown_more : {X : Type 0} (config : Config) (event_of : X → Event) (Lawful : List X → Type 0) (xs : List X) (i : ℕ) (x : X) (old new : Judging) → i < length xs → x ≡ get_or xs i x
    → ((seen : List X) → HasSeen config event_of Lawful seen old → HasSeen config event_of Lawful (seen ++ x ∷ []) new)
    → HasSeen config event_of Lawful (take i xs) old → HasSeen config event_of Lawful (take (i + 1) xs) new
shown_more {X} config event_of Lawful xs i x old new below is more seen =
    let P : List X → Type 0 = λ ys. HasSeen config event_of Lawful ys new in
    let cut : take (i + 1) xs ≡ take i xs ++ x ∷ [] = take_more xs i x below ∙ ap (λ (y : X). take i xs ++ y ∷ []) (sym is) in
    subst P (sym cut) (more (take i xs) seen)

-- all of them were
pub shown_all : {X : Type 0} (config : Config) (event_of : X → Event) (Lawful : List X → Type 0) (xs : List X) (i : ℕ) (judging : Judging) → length xs ≤ i
    → HasSeen config event_of Lawful (take i xs) judging → HasSeen config event_of Lawful xs judging
shown_all {X} config event_of Lawful xs i judging all seen =
    let P : List X → Type 0 = λ ys. HasSeen config event_of Lawful ys judging in
    subst P (take_all i xs all) seen

module _ {X : Type 0} (config : Config) (event_of : X → Event) (Lawful : List X → Type 0) (xs : List X) (running : Running) where
  -- if none is found to be bad they are lawful
  pub found_none : (found : Option ℕ) → found ≡ None → HasSeen config event_of Lawful xs (record { running = running; first_bad = found }) → Lawful xs
  found_none None is seen = seen.lawful
  found_none (Some number) is seen = cc

  -- and the one that is found is the first
  pub found_first : (found : Option ℕ) (number : ℕ) → found ≡ Some number → HasSeen config event_of Lawful xs (record { running = running; first_bad = found }) → IsFirstBadOf Lawful xs number
  found_first None number is seen = cc
  found_first (Some other) number is seen = let same : other ≡ number = cc in subst (IsFirstBadOf Lawful xs) same seen
