-- Runs that are looked at with one trigger after another.
use Rattle.std.proofs.Common.{◌≡◌, ◌∙◌, inl, inr, ℕ, ◌+◌, ◌<◌, max, true, false, Option, Some, None, IsSome, IsSomeAnd, List, [], ◌∷◌, ◌++◌, length, take, drop, get_or, refl, sym, ap, subst}
use Rattle.std.proofs.{Math.Seq.{drop-cons, take-add}, lemmas.Bool.true≢false, lemmas.List.append_assoc}
use Rattle.std.specs.{List.AllByRecursion, Option.option_or}
use Rattle.mh_model.specs.declared.{command.Event.Event, config.Config.Config}
use Rattle.mh_size_runs.specs.{declared.seen.HasRoom.HasRoom, declared.seen.HasRoom.TheVariants.{Yes, No, NoCycle}}
use Rattle.mh_size_runs.specs.{declared.seen.Seen.Seen, Full.first_full, Auxiliary.{IsLooked, is_roomless}}
use Rattle.mh_size_runs.specs.{Rows.{IsOutcome, IsPassed, WhyPassed}, Seen.{MeetsTheLaw, seen_in}}
use Rattle.mh_size_runs.specs.{Tried.{FitsWith, IsFullWith, heap_with, triggers_of}, declared.rows.Looked.Looked}
use Rattle.mh_size_runs.specs.declared.rows.PagesOutcome.{PagesOutcome}
use Rattle.mh_size_runs.proofs.TriedLemmas.{AreFull, FullAt, all-next, one-more, some-and, splits}

all-one : (P : ℕ → Type 0) (list : List ℕ) (x : ℕ) → AllByRecursion P list → P x → AllByRecursion P (list ++ x ∷ [])
all-one P [] x all here = (here, tt)
all-one P (first ∷ list) x all here = (all.0, all-one P list x all.1 here)

-- one more
take-next : (list : List ℕ) (place : ℕ) → place < length list → take (place + 1) list ≡ take place list ++ get_or list place 0 ∷ []
take-next list place there = take-add place 1 list ∙ ap (λ (rest : List ℕ). take place list ++ take 1 rest) (drop-cons list place 0 there)

module _ (config : Config) (events : List Event) (pages window : ℕ) where
  -- with this trigger no reply is a full heap, and this is seen
  pub record IsSeenWith (trigger : ℕ) (seen : Seen) : Type 0 where
    pub fits : FitsWith config events pages trigger
    pub seen_is : IsSomeAnd (heap_with config pages trigger) (λ heap. seen ≡ seen_in heap events window)
    pub law : seen.room ≡ Yes → IsSomeAnd (heap_with config pages trigger) (λ heap. MeetsTheLaw heap events seen.quanta)

  -- it is the first such, and has no room; nor have those after it
  pub record IsFirstFit (place trigger : ℕ) (seen : Seen) : Type 0 where
    pub before : List ℕ
    pub middle : List ℕ
    pub stands : before ++ trigger ∷ middle ≡ take place (triggers_of pages)
    pub seen_with : IsSeenWith trigger seen
    pub none : seen.room ≡ No
    pub passed : AllByRecursion (IsFullWith config events pages) before
    pub later : AllByRecursion (IsPassed config events pages window) middle

  abbrev pub HasFirst : ℕ → ℕ → Option (ℕ × Seen) → Type 0
  HasFirst place latest None = AreFull config events pages place latest
  HasFirst place latest (Some (trigger, seen)) = IsFirstFit place trigger seen

  -- what was found with the triggers before this place
  pub record HasLooked (place latest : ℕ) (first : Option (ℕ × Seen)) : Type 0 where
    pub passed : AllByRecursion (IsPassed config events pages window) (take place (triggers_of pages))
    pub found : HasFirst place latest first

  full-passed : (event trigger : ℕ) → FullAt config events pages event trigger → IsPassed config events pages window trigger
  full-passed event trigger = some-and config events pages (heap_with config pages trigger) _ _ (λ heap is. inl (subst IsSome (sym is) refl))

  roomless-passed : (trigger : ℕ) (seen : Seen) → IsSeenWith trigger seen → seen.room ≡ No → IsPassed config events pages window trigger
  roomless-passed trigger seen is none = some-and config events pages (heap_with config pages trigger) _ _ (λ heap same. inr (ap (λ (s : Seen). s.room) (sym same) ∙ none)) is.seen_is

  longer : (place trigger : ℕ) (seen : Seen) (next : ℕ) → place < 5 → next ≡ get_or (triggers_of pages) place 0 → IsPassed config events pages window next → IsFirstFit place trigger seen → IsFirstFit (place + 1) trigger seen
  longer place trigger seen next there same passed has = record {
    before = has.before;
    middle = has.middle ++ next ∷ [];
    stands = sym (append_assoc has.before (trigger ∷ has.middle) (next ∷ [])) ∙ ap (λ (list : List ℕ). list ++ next ∷ []) has.stands ∙ ap (λ n. take place (triggers_of pages) ++ n ∷ []) same ∙ sym (take-next (triggers_of pages) place there);
    seen_with = has.seen_with;
    none = has.none;
    passed = has.passed;
    later = all-one (IsPassed config events pages window) has.middle next has.later passed;
  }

  first-full : (place latest event trigger : ℕ) (first : Option (ℕ × Seen)) → place < 5 → trigger ≡ get_or (triggers_of pages) place 0 → FullAt config events pages event trigger → HasFirst place latest first → HasFirst (place + 1) (max event latest) first
  first-full place latest event trigger None there same full has = one-more config events pages place latest event trigger there same full has
  first-full place latest event trigger (Some (found, seen)) there same full has = longer place found seen trigger there same (full-passed event trigger full) has

  pub looked-full : (place latest event trigger : ℕ) (first : Option (ℕ × Seen)) → place < 5 → trigger ≡ get_or (triggers_of pages) place 0 → FullAt config events pages event trigger → HasLooked place latest first → HasLooked (place + 1) (max event latest) first
  looked-full place latest event trigger first there same full has = record {
    passed = all-next (IsPassed config events pages window) (triggers_of pages) place there has.passed (subst (IsPassed config events pages window) same (full-passed event trigger full));
    found = first-full place latest event trigger first there same full has.found;
  }

  first-roomless : (place latest trigger : ℕ) (seen : Seen) (first : Option (ℕ × Seen)) → place < 5 → trigger ≡ get_or (triggers_of pages) place 0 → IsSeenWith trigger seen → seen.room ≡ No → HasFirst place latest first → HasFirst (place + 1) latest (option_or first (Some (trigger, seen)))
  first-roomless place latest trigger seen None there same is none has = record {
    before = take place (triggers_of pages);
    middle = [];
    stands = ap (λ n. take place (triggers_of pages) ++ n ∷ []) same ∙ sym (take-next (triggers_of pages) place there);
    seen_with = is;
    none = none;
    passed = has.passed;
    later = tt;
  }
  first-roomless place latest trigger seen (Some (found, other)) there same is none has = longer place found other trigger there same (roomless-passed trigger seen is none) has

  pub looked-roomless : (place latest trigger : ℕ) (seen : Seen) (first : Option (ℕ × Seen)) → place < 5 → trigger ≡ get_or (triggers_of pages) place 0 → IsSeenWith trigger seen → seen.room ≡ No → HasLooked place latest first → HasLooked (place + 1) latest (option_or first (Some (trigger, seen)))
  looked-roomless place latest trigger seen first there same is none has = record {
    passed = all-next (IsPassed config events pages window) (triggers_of pages) place there has.passed (subst (IsPassed config events pages window) same (roomless-passed trigger seen is none));
    found = first-roomless place latest trigger seen first there same is none has.found;
  }

  -- what looking at a run in one heap came to, in the heap with this trigger
  pub seen-with : (trigger : ℕ) (heap : Config) (seen : Seen) → heap_with config pages trigger ≡ Some heap → IsLooked heap events window (Looked.Fits seen) → IsSeenWith trigger seen
  seen-with trigger heap seen is (none, same, law) = record {
    fits = subst (λ (o : Option Config). IsSomeAnd o (λ h. first_full h events ≡ None)) (sym is) none;
    seen_is = subst (λ (o : Option Config). IsSomeAnd o (λ h. seen ≡ seen_in h events window)) (sym is) same;
    law = λ roomed. subst (λ (o : Option Config). IsSomeAnd o (λ h. MeetsTheLaw h events seen.quanta)) (sym is) (law roomed);
  }

  pub full-at : (trigger event : ℕ) (heap : Config) → heap_with config pages trigger ≡ Some heap → first_full heap events ≡ Some event → FullAt config events pages event trigger
  full-at trigger event heap is full = subst (λ (o : Option Config). IsSomeAnd o (λ h. first_full h events ≡ Some event)) (sym is) full

  -- Choices --------------------------------------------------------------------------------------

  why : (room : HasRoom) → (room ≡ No → ⊥) → (list : List ℕ) → AllByRecursion (IsPassed config events pages window) list → AllByRecursion (WhyPassed room config events pages window) list
  why Yes other list all = all
  why NoCycle other list all = all
  why No other list all = absurd (other refl)

  -- one with room is chosen at once
  pub chosen-now : (place latest trigger : ℕ) (seen : Seen) (first : Option (ℕ × Seen)) → place < 5 → trigger ≡ get_or (triggers_of pages) place 0 → IsSeenWith trigger seen → (seen.room ≡ No → ⊥) → HasLooked place latest first → IsOutcome config events pages window (PagesOutcome.Fits trigger seen)
  chosen-now place latest trigger seen first there same is room has = record {
    before = take place (triggers_of pages);
    after = drop (place + 1) (triggers_of pages);
    stands = ap (λ t. take place (triggers_of pages) ++ t ∷ drop (place + 1) (triggers_of pages)) same ∙ splits (triggers_of pages) place there;
    fits = is.fits;
    seen_is = is.seen_is;
    law = is.law;
    passed = why seen.room room (take place (triggers_of pages)) has.passed;
    later = λ none. absurd (room none);
  }

  -- and else the first that fits
  pub chosen-last : (place latest trigger : ℕ) (seen : Seen) → place ≡ 5 → HasLooked place latest (Some (trigger, seen)) → IsOutcome config events pages window (PagesOutcome.Fits trigger seen)
  chosen-last place latest trigger seen five has =
      let found = has.found in record {
        before = found.before;
        after = found.middle;
        stands = found.stands ∙ ap (λ n. take n (triggers_of pages)) five;
        fits = found.seen_with.fits;
        seen_is = found.seen_with.seen_is;
        law = found.seen_with.law;
        passed = subst (λ (room : HasRoom). AllByRecursion (WhyPassed room config events pages window) found.before) (sym found.none) found.passed;
        later = λ _. found.later;
      }

-- Whether there is no room, by a test
pub is-roomy : (room : HasRoom) → is_roomless room ≡ false → room ≡ No → ⊥
is-roomy room other none = true≢false (sym (ap is_roomless none) ∙ other)

pub is-no : (room : HasRoom) → is_roomless room ≡ true → room ≡ No
is-no Yes is = absurd (true≢false (sym is))
is-no No is = refl
is-no NoCycle is = absurd (true≢false (sym is))
