-- Triggers that are tried one after another.
use Rattle.std.proofs.Common.{◌≡◌, ◌∙◌, inl, inr, ℕ, zero, suc, ◌+◌, ◌<◌, ◌≤◌, max, Option, Some, None, IsSome, IsSomeAnd, List, [], ◌∷◌, ◌++◌, length, take, drop, get_or, refl, sym, ap, subst, arith}
use Rattle.std.proofs.lemmas.Bool.{cases_lt}
use Rattle.std.specs.List.{AllByRecursion}
use Rattle.mh_model.specs.declared.{command.Event.Event, config.Config.Config}
use Rattle.mh_size_runs.specs.Full.{first_full}
use Rattle.mh_size_runs.specs.Tried.{FitsWith, IsFitting, IsFull, IsFullBy, IsFullWith, heap_with, triggers_of}

-- Lists ------------------------------------------------------------------------------------------

-- what holds of the first ones holds of one more
pub all-next : (P : ℕ → Type 0) (list : List ℕ) (place : ℕ) → place < length list → AllByRecursion P (take place list) → P (get_or list place 0) → AllByRecursion P (take (place + 1) list)
all-next P [] place there all here = absurd (omega (arith, there))
all-next P (first ∷ list) zero there all here = (here, tt)
all-next P (first ∷ list) (suc place) there all here =
    let next : suc place + 1 ≡ suc (place + 1) = omega arith in
    subst (λ n. AllByRecursion P (take n (first ∷ list))) (sym next) (all.0, all-next P list place (omega (arith, there)) all.1 here)

pub all-more : (P Q : ℕ → Type 0) (list : List ℕ) → ((x : ℕ) → P x → Q x) → AllByRecursion P list → AllByRecursion Q list
all-more P Q [] more all = tt
all-more P Q (x ∷ list) more all = (more x all.0, all-more P Q list more all.1)

-- a list is its first ones, the one at this place, and the rest
pub splits : (list : List ℕ) (place : ℕ) → place < length list → take place list ++ get_or list place 0 ∷ drop (place + 1) list ≡ list
splits [] place there = absurd (omega (arith, there))
splits (first ∷ list) zero there = refl
splits (first ∷ list) (suc place) there =
    let next : suc place + 1 ≡ suc (place + 1) = omega arith in
    ap (λ n. first ∷ take place list ++ get_or list place 0 ∷ drop n (first ∷ list)) next ∙ ap (λ rest. first ∷ rest) (splits list place (omega (arith, there)))

-- Triggers ---------------------------------------------------------------------------------------

module _ (config : Config) (events : List Event) (pages : ℕ) where
  -- with this trigger the first full heap is at this event
  abbrev pub FullAt : ℕ → ℕ → Type 0
  FullAt event trigger = IsSomeAnd (heap_with config pages trigger) (λ heap. first_full heap events ≡ Some event)

  abbrev pub IsLatest : ℕ → Type 0
  IsLatest event = (trigger : ℕ) × IsSomeAnd (heap_with config pages trigger) (λ heap. IsSomeAnd (first_full heap events) (λ first. first ≡ event))

  pub some-and : (heap : Option Config) (P Q : Config → Type 0) → ((c : Config) → P c → Q c) → IsSomeAnd heap P → IsSomeAnd heap Q
  some-and None P Q more is = elim is [ ]
  some-and (Some c) P Q more is = more c is

  pub at-by : (event most trigger : ℕ) → event ≤ most → FullAt event trigger → IsFullBy config events pages most trigger
  at-by event most trigger few = some-and (heap_with config pages trigger) _ _ (λ heap is. subst (λ (first : Option ℕ). IsSomeAnd first (λ n. n ≤ most)) (sym is) few)

  pub at-with : (event trigger : ℕ) → FullAt event trigger → IsFullWith config events pages trigger
  at-with event trigger = some-and (heap_with config pages trigger) _ _ (λ heap is. subst IsSome (sym is) refl)

  pub at-latest : (event trigger : ℕ) → FullAt event trigger → IsLatest event
  at-latest event trigger is = (trigger, some-and (heap_with config pages trigger) _ _ (λ heap is. subst (λ (first : Option ℕ). IsSomeAnd first (λ n. n ≡ event)) (sym is) refl) is)

  by-first : (first : Option ℕ) (few most : ℕ) → few ≤ most → IsSomeAnd first (λ n. n ≤ few) → IsSomeAnd first (λ n. n ≤ most)
  by-first None few most more is = is
  by-first (Some n) few most more is = omega (arith, is, more)

  pub by-more : (few most : ℕ) → few ≤ most → (trigger : ℕ) → IsFullBy config events pages few trigger → IsFullBy config events pages most trigger
  by-more few most more trigger = some-and (heap_with config pages trigger) _ _ (λ heap. by-first (first_full heap events) few most more)

  -- With those before this place each run is full, by this event at the latest
  pub record AreFull (place latest : ℕ) : Type 0 where
    pub passed : AllByRecursion (IsFullWith config events pages) (take place (triggers_of pages))
    pub each : AllByRecursion (IsFullBy config events pages latest) (take place (triggers_of pages))
    pub none : place ≡ 0 → latest ≡ 0
    pub some : 1 ≤ place → IsLatest latest

  pub none-full : AreFull 0 0
  none-full = record { passed = tt; each = tt; none = λ _. refl; some = λ some. absurd (omega (arith, some)) }

  pub one-more : (place latest event trigger : ℕ) → place < 5 → trigger ≡ get_or (triggers_of pages) place 0 → FullAt event trigger → AreFull place latest → AreFull (place + 1) (max event latest)
  one-more place latest event trigger there same full are =
      let here = subst (FullAt event) same full in record {
        passed = all-next (IsFullWith config events pages) (triggers_of pages) place there are.passed (at-with event (get_or (triggers_of pages) place 0) here);
        each = all-next (IsFullBy config events pages (max event latest)) (triggers_of pages) place there
            (all-more (IsFullBy config events pages latest) (IsFullBy config events pages (max event latest)) (take place (triggers_of pages)) (by-more latest (max event latest) (omega arith)) are.each)
            (at-by event (max event latest) (get_or (triggers_of pages) place 0) (omega arith) here);
        none = λ none. absurd (omega (arith, none));
        some = λ _. elim (cases_lt event latest) [
          | inl later ↦
              let some : 1 ≤ place = not-first place latest later are.none in
              subst IsLatest (omega (arith, later)) (are.some some)
          | inr now ↦ subst IsLatest (omega (arith, now)) (at-latest event trigger full)
        ];
      }
    where
      not-first : (place latest : ℕ) → event < latest → (place ≡ 0 → latest ≡ 0) → 1 ≤ place
      not-first zero latest later none = absurd (omega (arith, later, none refl))
      not-first (suc place) latest later none = omega arith

  -- all were tried
  pub all-full : (place latest : ℕ) → 5 ≤ place → place ≤ 5 → AreFull place latest → IsFull config events pages latest
  all-full place latest all most are =
      let five : place ≡ 5 = omega (arith, all, most) in record {
        each = subst (λ n. AllByRecursion (IsFullBy config events pages latest) (take n (triggers_of pages))) five are.each;
        latest = are.some (omega (arith, all));
      }

  -- or one suffices
  pub one-fits : (place latest trigger : ℕ) → place < 5 → trigger ≡ get_or (triggers_of pages) place 0 → FitsWith config events pages trigger → AreFull place latest → IsFitting config events pages trigger
  one-fits place latest trigger there same fits are = record {
    before = take place (triggers_of pages);
    after = drop (place + 1) (triggers_of pages);
    stands = ap (λ t. take place (triggers_of pages) ++ t ∷ drop (place + 1) (triggers_of pages)) same ∙ splits (triggers_of pages) place there;
    passed = are.passed;
    fits = fits;
  }
