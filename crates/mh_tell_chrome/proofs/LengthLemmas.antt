-- The lengths of slices that are in no other slice, on whatever threads they are counted.
use Rattle.std.proofs.Common.{◌≡◌, ◌∙◌, ℕ, zero, suc, ◌+◌, ◌-◌, ◌≤◌, ◌==◌, Bool, true, false, if◌then◌else◌, List, [], ◌∷◌, ◌++◌, refl, ap, subst, arith}
use Rattle.std.proofs.lemmas.Bool.{ne_eqb}
use Rattle.mh_tell_chrome.specs.TraceEvents.{TraceEvent, Process, Begin, End, Instant, Counter}
use Rattle.mh_tell_chrome.specs.Laws.{Nests, begin_times, counted_on, end_times}
use Rattle.mh_tell_chrome.proofs.BlockLemmas.{IsBlock, nests-then}

-- what slices begin and end with events that leave so many of them open
pub record Sums (is_on : ℕ → Bool) (before after begins ends : ℕ) (events : List TraceEvent) : Type 0 where
  pub nests : Nests is_on before after events
  pub begins_are : begin_times is_on before events ≡ begins
  pub ends_are : end_times is_on before events ≡ ends

module _ (is_on : ℕ → Bool) where
  begins-then : (a b : ℕ) (first next : List TraceEvent) → Nests is_on a b first → begin_times is_on a (first ++ next) ≡ begin_times is_on a first + begin_times is_on b next
  begins-then a b [] next h = let same : begin_times is_on a next ≡ begin_times is_on b next = ap (λ n. begin_times is_on n next) h in omega (arith, same)
  begins-then a b (Begin time thread name arguments ∷ events) next h = let more = begins-then (a + counted_on is_on thread) b events next h in omega (arith, more)
  begins-then a b (End time thread ∷ events) next h = begins-then (a - counted_on is_on thread) b events next h.1
  begins-then a b (other ∷ events) next h = begins-then a b events next h

  ends-then : (a b : ℕ) (first next : List TraceEvent) → Nests is_on a b first → end_times is_on a (first ++ next) ≡ end_times is_on a first + end_times is_on b next
  ends-then a b [] next h = let same : end_times is_on a next ≡ end_times is_on b next = ap (λ n. end_times is_on n next) h in omega (arith, same)
  ends-then a b (Begin time thread name arguments ∷ events) next h = ends-then (a + counted_on is_on thread) b events next h
  ends-then a b (End time thread ∷ events) next h = let more = ends-then (a - counted_on is_on thread) b events next h.1 in omega (arith, more)
  ends-then a b (other ∷ events) next h = ends-then a b events next h

  pub sums-then : (a b c m n p q : ℕ) (first next : List TraceEvent) → Sums is_on a b m n first → Sums is_on b c p q next → Sums is_on a c (m + p) (n + q) (first ++ next)
  sums-then a b c m n p q first next h more = record {
    nests = nests-then is_on a b c first next h.nests more.nests;
    begins_are = begins-then a b first next h.nests ∙ (ap (λ k. k + begin_times is_on b next) h.begins_are ∙ ap (λ k. m + k) more.begins_are);
    ends_are = ends-then a b first next h.nests ∙ (ap (λ k. k + end_times is_on b next) h.ends_are ∙ ap (λ k. n + k) more.ends_are);
  }

  -- the same after what is none of it
  pub sums-after : (a b c m n : ℕ) (first next : List TraceEvent) → Sums is_on a b 0 0 first → Sums is_on b c m n next → Sums is_on a c m n (first ++ next)
  sums-after a b c m n first next h more =
      let all = sums-then a b c 0 0 m n first next h more in
      record { nests = all.nests; begins_are = omega (arith, all.begins_are); ends_are = omega (arith, all.ends_are) }

  pub sums-as : (a b c d m n : ℕ) (events : List TraceEvent) → a ≡ c → b ≡ d → Sums is_on a b m n events → Sums is_on c d m n events
  sums-as a b c d m n events from to h = subst (λ k. Sums is_on k d m n events) from (subst (λ k. Sums is_on a k m n events) to h)

  -- Within another slice ---------------------------------------------------------------------------

  no_begin : (on : Bool) (a time : ℕ) → (if on then (if suc a == 0 then time else 0) else 0) ≡ 0
  no_begin true a time = rw (ne_eqb (suc a) 0 (λ same. omega arith)) refl
  no_begin false a time = refl

  no_end : (on : Bool) (a time : ℕ) → (if on then 1 else 0) ≤ a → (if on then (if suc a == 1 then time else 0) else 0) ≡ 0
  no_end true zero time less = absurd (omega arith)
  no_end true (suc a) time less = rw (ne_eqb (suc (suc a)) 1 (λ same. omega arith)) refl
  no_end false a time less = refl

  -- what nests within a slice begins and ends none that is in no other
  pub sums-within : (a b : ℕ) (events : List TraceEvent) → Nests is_on a b events → Sums is_on (suc a) (suc b) 0 0 events
  sums-within a b [] h = record { nests = ap suc h; begins_are = refl; ends_are = refl }
  sums-within a b (Process name ∷ events) h = let more = sums-within a b events h in record { nests = more.nests; begins_are = more.begins_are; ends_are = more.ends_are }
  sums-within a b (Begin time thread name arguments ∷ events) h =
      let more = sums-within (a + counted_on is_on thread) b events h in
      let none = no_begin (is_on thread) a time in
      let up : suc (a + counted_on is_on thread) ≡ suc a + counted_on is_on thread = omega arith in
      let begins : begin_times is_on (suc a + counted_on is_on thread) events ≡ 0 = subst (λ n. begin_times is_on n events ≡ 0) up more.begins_are in
      record {
        nests = subst (λ n. Nests is_on n (suc b) events) up more.nests;
        begins_are = omega (arith, none, begins);
        ends_are = subst (λ n. end_times is_on n events ≡ 0) up more.ends_are;
      }
  sums-within a b (End time thread ∷ events) h =
      let more = sums-within (a - counted_on is_on thread) b events h.1 in
      let down : suc (a - counted_on is_on thread) ≡ suc a - counted_on is_on thread = omega (arith, h.0) in
      let none = no_end (is_on thread) a time h.0 in
      let ends : end_times is_on (suc a - counted_on is_on thread) events ≡ 0 = subst (λ n. end_times is_on n events ≡ 0) down more.ends_are in
      record {
        nests = (omega (arith, h.0), subst (λ n. Nests is_on n (suc b) events) down more.nests);
        begins_are = subst (λ n. begin_times is_on n events ≡ 0) down more.begins_are;
        ends_are = omega (arith, none, ends);
      }
  sums-within a b (Instant time thread name arguments ∷ events) h = let more = sums-within a b events h in record { nests = more.nests; begins_are = more.begins_are; ends_are = more.ends_are }
  sums-within a b (Counter time name series ∷ events) h = let more = sums-within a b events h in record { nests = more.nests; begins_are = more.begins_are; ends_are = more.ends_are }
  sums-within a b (other ∷ events) h = let more = sums-within a b events h in record { nests = more.nests; begins_are = more.begins_are; ends_are = more.ends_are }

  -- Other threads ----------------------------------------------------------------------------------

  begun-off : (on : Bool) → on ≡ false → (depth time : ℕ) (events : List TraceEvent) → Sums is_on depth depth 0 0 events
      → Nests is_on (depth + (if on then 1 else 0)) depth events
      × (((if on then (if depth == 0 then time else 0) else 0) + begin_times is_on (depth + (if on then 1 else 0)) events ≡ 0) × (end_times is_on (depth + (if on then 1 else 0)) events ≡ 0))
  begun-off true off depth time events more = let other : true ≡ false = off in cc
  begun-off false off depth time events more =
      let same : depth ≡ depth + 0 = omega arith in
      let begins : begin_times is_on (depth + 0) events ≡ 0 = subst (λ n. begin_times is_on n events ≡ 0) same more.begins_are in
      (subst (λ n. Nests is_on n depth events) same more.nests, (omega (arith, begins), subst (λ n. end_times is_on n events ≡ 0) same more.ends_are))

  ended-off : (on : Bool) → on ≡ false → (depth time : ℕ) (events : List TraceEvent) → Sums is_on depth depth 0 0 events
      → (((if on then 1 else 0) ≤ depth) × Nests is_on (depth - (if on then 1 else 0)) depth events)
      × ((begin_times is_on (depth - (if on then 1 else 0)) events ≡ 0) × ((if on then (if depth == 1 then time else 0) else 0) + end_times is_on (depth - (if on then 1 else 0)) events ≡ 0))
  ended-off true off depth time events more = let other : true ≡ false = off in cc
  ended-off false off depth time events more =
      let same : depth ≡ depth - 0 = omega arith in
      let least : 0 ≤ depth = omega arith in
      let ends : end_times is_on (depth - 0) events ≡ 0 = subst (λ n. end_times is_on n events ≡ 0) same more.ends_are in
      ((least, subst (λ n. Nests is_on n depth events) same more.nests), (subst (λ n. begin_times is_on n events ≡ 0) same more.begins_are, omega (arith, ends)))

  -- a quantum has no slice on other threads
  pub sums-block : (depth from to : ℕ) (events : List TraceEvent) → ((thread : ℕ) → thread ≤ 2 → is_on thread ≡ false) → IsBlock from to events → Sums is_on depth depth 0 0 events
  sums-block depth from to [] other h = record { nests = refl; begins_are = refl; ends_are = refl }
  sums-block depth from to (Process name ∷ events) other h = absurd h
  sums-block depth from to (Begin time thread name arguments ∷ events) other h =
      let off = begun-off (is_on thread) (other thread h.1.0) depth time events (sums-block depth time to events other h.1.1) in
      record { nests = off.0; begins_are = off.1.0; ends_are = off.1.1 }
  sums-block depth from to (End time thread ∷ events) other h =
      let off = ended-off (is_on thread) (other thread h.1.0) depth time events (sums-block depth time to events other h.1.1) in
      record { nests = off.0; begins_are = off.1.0; ends_are = off.1.1 }
  sums-block depth from to (Instant time thread name arguments ∷ events) other h = absurd h
  sums-block depth from to (Counter time name series ∷ events) other h =
      let more = sums-block depth time to events other h.1 in record { nests = more.nests; begins_are = more.begins_are; ends_are = more.ends_are }
  sums-block depth from to (another ∷ events) other h = absurd h
