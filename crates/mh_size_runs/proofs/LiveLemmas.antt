-- What cycles leave in the quarters of a run.
use Rattle.std.proofs.Common.{◌≡◌, ◌∙◌, ◌↔◌, ℕ, ◌+◌, ◌-◌, ◌<◌, ◌≤◌, max, Bool, true, false, ◌&&◌, if◌then◌else◌, IsTrue, List, [], ◌∷◌, ◌++◌, length, map, take, drop, get_or, add-one, refl, sym, ap, ap₂, subst, Option, Some, None, arith}
use Rattle.std.proofs.{Math.Nat.zero-max, Math.Seq.{drop-cons, take-add, take-length}, lemmas.Bool.false≢true}
use Rattle.mh_model.specs.{declared.command.Event.Event, Collector.is_idle, Intervals.{cycle_ends, has_ended}}
use Rattle.mh_model.specs.{Machine.{Machine, event_step, machine_after}, World.{Answer, says}}
use Rattle.mh_model.specs.declared.reply.Reply.{Reply}
use Rattle.mh_size_runs.specs.Live.{AreQuartersFrom, AreWhole, live_blocks, most_left, quarter_of, quarter_start, quarters_of}
use Rattle.mh_size_runs.specs.{declared.sample.Stage.Stage, Auxiliary.{ended_between, stage_of}, Seen.greatest}

-- Events, one by one -----------------------------------------------------------------------------

most-if : (ended : Bool) (machine : Machine) (ends : List Machine) (most : ℕ)
    → max (if ended then max most (live_blocks machine) else most) (greatest (map live_blocks ends)) ≡ max most (greatest (map live_blocks (if ended then machine ∷ ends else ends)))
most-if true machine ends most = omega arith
most-if false machine ends most = refl

after-first : (machine : Machine) (event : Event) (rest : List Event) → machine_after machine (event ∷ rest) ≡ machine_after (event_step machine event).state rest
unfolding machine_after
after-first machine event rest = refl

pub after-none : (machine : Machine) → machine_after machine [] ≡ machine
unfolding machine_after
after-none machine = refl

module _ (first : Machine) (events : List Event) where
  -- what was found so far with what the rest shows is what all events show
  pub record HasFound (rest : List Event) (machine : Machine) (most : ℕ) (is_whole : Bool) : Type 0 where
    pub found : max most (greatest (map live_blocks (cycle_ends machine rest))) ≡ most_left first events
    pub whole : (IsTrue is_whole × AreWhole machine rest) ↔ AreWhole first events
    pub after : machine_after machine rest ≡ machine_after first events

  pub found-first : HasFound events first 0 true
  found-first = record { found = zero-max _; whole = (λ both. both.1, λ whole. (refl, whole)); after = refl }

  pub found-more : (i : ℕ) (default : Event) (machine next : Machine) (answer : Reply) (most : ℕ) (is_whole : Bool) → i < length events → event_step machine (get_or events i default) ≡ says answer next
      → HasFound (drop i events) machine most is_whole
      → HasFound (drop (i + 1) events) next (if has_ended machine.heap.collector next.heap.collector then max most (live_blocks next) else most) (is_whole && is_idle next.heap.collector.phase)
  found-more i default machine next answer most is_whole there steps has =
      let event : Event = get_or events i default in
      let rest : List Event = drop (i + 1) events in
      let cut : drop i events ≡ event ∷ rest = rw add-one (drop-cons events i default there) in
      let state : (event_step machine event).state ≡ next = ap (λ (a : Answer Machine). a.state) steps in
      let now = subst (λ (list : List Event). HasFound list machine most is_whole) cut has in
      subst (λ (m : Machine). HasFound rest m (if has_ended machine.heap.collector m.heap.collector then max most (live_blocks m) else most) (is_whole && is_idle m.heap.collector.phase)) state (go event rest now)
    where
      both : (whole idle : Bool) (Rest : Type 0) → IsTrue (whole && idle) × Rest → IsTrue whole × (IsTrue idle × Rest)
      both true true Rest (is, rest) = (refl, (refl, rest))
      both true false Rest (is, rest) = absurd (false≢true is)
      both false idle Rest (is, rest) = absurd (false≢true is)

      back : (whole idle : Bool) (Rest : Type 0) → IsTrue whole × (IsTrue idle × Rest) → IsTrue (whole && idle) × Rest
      back true idle Rest (is, (idles, rest)) = (idles, rest)
      back false idle Rest (is, rest) = absurd (false≢true is)

      go : (event : Event) (rest : List Event) → HasFound (event ∷ rest) machine most is_whole
          → HasFound rest (event_step machine event).state (if has_ended machine.heap.collector (event_step machine event).state.heap.collector then max most (live_blocks (event_step machine event).state) else most) (is_whole && is_idle (event_step machine event).state.heap.collector.phase)
      go event rest now =
          let after : Machine = (event_step machine event).state in
          record {
            found = most-if (has_ended machine.heap.collector after.heap.collector) after (cycle_ends after rest) most ∙ now.found;
            whole = (λ is. now.whole.0 (both is_whole (is_idle after.heap.collector.phase) (AreWhole after rest) is), λ all. back is_whole (is_idle after.heap.collector.phase) (AreWhole after rest) (now.whole.1 all));
            after = sym (after-first machine event rest) ∙ now.after;
          }

  -- the same by stages that were read
  pub found-noted : (i : ℕ) (default : Event) (machine next : Machine) (answer : Reply) (most later : ℕ) (is_whole whole_on : Bool) (old new : Stage) → i < length events → event_step machine (get_or events i default) ≡ says answer next
      → old ≡ stage_of machine.heap.collector → new ≡ stage_of next.heap.collector → later ≡ (if ended_between old new then max most (live_blocks next) else most) → whole_on ≡ (is_whole && new.is_idle)
      → HasFound (drop i events) machine most is_whole → HasFound (drop (i + 1) events) next later whole_on
  found-noted i default machine next answer most later is_whole whole_on old new there steps first second more on has =
      let most_is = more ∙ ap (λ (b : Stage). if ended_between b new then max most (live_blocks next) else most) first ∙ ap (λ (b : Stage). if ended_between (stage_of machine.heap.collector) b then max most (live_blocks next) else most) second in
      let whole_is = on ∙ ap (λ (b : Stage). is_whole && b.is_idle) second in
      subst (λ (n : ℕ). HasFound (drop (i + 1) events) next n whole_on) (sym most_is)
      (subst (λ (b : Bool). HasFound (drop (i + 1) events) next (if has_ended machine.heap.collector next.heap.collector then max most (live_blocks next) else most) b) (sym whole_is) (found-more i default machine next answer most is_whole there steps has))

  -- all events were done
  pub found-all : (i : ℕ) (machine : Machine) (most : ℕ) (is_whole : Bool) → drop i events ≡ [] → HasFound (drop i events) machine most is_whole
      → (most ≡ most_left first events) × (IsTrue is_whole ↔ AreWhole first events) × (machine ≡ machine_after first events)
  unfolding machine_after
  found-all i machine most is_whole done before =
      let has = subst (λ (rest : List Event). HasFound rest machine most is_whole) done before in
      (omega (arith, has.found), (λ is. has.whole.0 (is, tt), λ whole. (has.whole.1 whole).0), has.after)

-- Quarters ---------------------------------------------------------------------------------------

after-append : (machine : Machine) (first rest : List Event) → machine_after machine (first ++ rest) ≡ machine_after (machine_after machine first) rest
after-append machine [] rest = ap (λ m. machine_after m rest) (sym (after-none machine))
after-append machine (event ∷ first) rest = after-first machine event (first ++ rest) ∙ after-append (event_step machine event).state first rest ∙ ap (λ m. machine_after m rest) (sym (after-first machine event first))

whole-append : (machine : Machine) (first rest : List Event) → AreWhole machine (first ++ rest) ↔ (AreWhole machine first × AreWhole (machine_after machine first) rest)
whole-append machine [] rest = (λ whole. (tt, subst (λ m. AreWhole m rest) (sym (after-none machine)) whole), λ both. subst (λ m. AreWhole m rest) (after-none machine) both.1)
whole-append machine (event ∷ first) rest =
    let next : Machine = (event_step machine event).state in
    let on = whole-append next first rest in
    let same = after-first machine event first in (
      λ whole. let both = on.0 whole.1 in ((whole.0, both.0), subst (λ m. AreWhole m rest) (sym same) both.1),
      λ both. (both.0.0, on.1 (both.0.1, subst (λ m. AreWhole m rest) same both.1)),
    )

take-on : (list : List Event) (few more : ℕ) → few ≤ more → take few list ++ take (more - few) (drop few list) ≡ take more list
take-on list few more less =
    let sum : few + (more - few) ≡ more = omega (arith, less) in
    sym (take-add few (more - few) list) ∙ ap (λ n. take n list) sum

module _ (machine : Machine) (events : List Event) where
  abbrev pub start_of : ℕ → ℕ
  start_of number = quarter_start (length events) number

  -- the machine before a quarter
  abbrev pub at : ℕ → Machine
  at number = machine_after machine (take (start_of number) events)

  grows : (number : ℕ) → start_of number ≤ start_of (number + 1)
  grows number = omega arith

  quarter-joins : (number : ℕ) → take (start_of number) events ++ quarter_of events number ≡ take (start_of (number + 1)) events
  quarter-joins number = take-on events (start_of number) (start_of (number + 1)) (grows number)

  pub at-first : at 0 ≡ machine
  at-first = let none : start_of 0 ≡ 0 = omega arith in ap (λ n. machine_after machine (take n events)) none ∙ after-none machine

  pub at-next : (number : ℕ) → machine_after (at number) (quarter_of events number) ≡ at (number + 1)
  at-next number = sym (after-append machine (take (start_of number) events) (quarter_of events number)) ∙ ap (machine_after machine) (quarter-joins number)

  all-taken : take (start_of 4) events ≡ events
  all-taken = let all : start_of 4 ≡ length events = omega arith in ap (λ n. take n events) all ∙ take-length events

  pub at-last : at 4 ≡ machine_after machine events
  at-last = ap (machine_after machine) all-taken

  abbrev Whole : ℕ → Type 0
  Whole number = AreWhole machine (take (start_of number) events)

  whole-next : (number : ℕ) → Whole (number + 1) ↔ (Whole number × AreWhole (at number) (quarter_of events number))
  whole-next number =
      let both = whole-append machine (take (start_of number) events) (quarter_of events number) in (
        λ whole. both.0 (subst (AreWhole machine) (sym (quarter-joins number)) whole),
        λ parts. subst (AreWhole machine) (quarter-joins number) (both.1 parts),
      )

  abbrev pub Quarter : ℕ → Type 0
  Quarter number = AreWhole (at number) (quarter_of events number)

  -- all is whole if each quarter is
  pub whole-all : AreWhole machine events ↔ (Quarter 0 × (Quarter 1 × (Quarter 2 × Quarter 3)))
  whole-all = (
    λ whole.
        let four = (whole-next 3).0 (subst (AreWhole machine) (sym all-taken) whole) in
        let three = (whole-next 2).0 four.0 in
        let two = (whole-next 1).0 three.0 in
        let one = (whole-next 0).0 two.0 in
        (one.1, (two.1, (three.1, four.1))),
    λ parts.
        let none : start_of 0 ≡ 0 = omega arith in
        let nothing : Whole 0 = subst (λ n. AreWhole machine (take n events)) (sym none) tt in
        let one = (whole-next 0).1 (nothing, parts.0) in
        let two = (whole-next 1).1 (one, parts.1.0) in
        let three = (whole-next 2).1 (two, parts.1.1.0) in
        subst (AreWhole machine) all-taken ((whole-next 3).1 (three, parts.1.1.1)),
  )

  quarters-when : (whole : Bool) (p q r s : ℕ) → (IsTrue whole ↔ AreWhole machine events) → (p ∷ q ∷ r ∷ s ∷ []) ≡ quarters_of machine events
      → (result : Option (List ℕ)) → result ≡ (if whole then Some (p ∷ q ∷ r ∷ s ∷ []) else None) → AreQuartersFrom machine events result
  quarters-when true p q r s is list result same = subst (AreQuartersFrom machine events) (sym same) (is.0 refl, list)
  quarters-when false p q r s is list result same = subst (AreQuartersFrom machine events) (sym same) (λ whole. false≢true (is.1 whole))

  and-all : (a b c d : Bool) (A B C D : Type 0) → (IsTrue a ↔ A) → (IsTrue b ↔ B) → (IsTrue c ↔ C) → (IsTrue d ↔ D) → IsTrue (a && (b && (c && d))) ↔ (A × (B × (C × D)))
  and-all true true true true A B C D p q r s = (λ _. (p.0 refl, (q.0 refl, (r.0 refl, s.0 refl))), λ _. refl)
  and-all true true true false A B C D p q r s = (λ is. absurd (false≢true is), λ all. s.1 all.1.1.1)
  and-all true true false d A B C D p q r s = (λ is. absurd (false≢true is), λ all. r.1 all.1.1.0)
  and-all true false c d A B C D p q r s = (λ is. absurd (false≢true is), λ all. q.1 all.1.0)
  and-all false b c d A B C D p q r s = (λ is. absurd (false≢true is), λ all. p.1 all.0)

  -- what the quarters were found to have
  pub quarters-are : (a b c d : Bool) (p q r s : ℕ) (result : Option (List ℕ)) → result ≡ (if a && (b && (c && d)) then Some (p ∷ q ∷ r ∷ s ∷ []) else None)
      → (IsTrue a ↔ Quarter 0) → (IsTrue b ↔ Quarter 1) → (IsTrue c ↔ Quarter 2) → (IsTrue d ↔ Quarter 3)
      → p ≡ most_left (at 0) (quarter_of events 0) → q ≡ most_left (at 1) (quarter_of events 1) → r ≡ most_left (at 2) (quarter_of events 2) → s ≡ most_left (at 3) (quarter_of events 3) → AreQuartersFrom machine events result
  quarters-are a b c d p q r s result same one two three four first second third fourth =
      let all = and-all a b c d (Quarter 0) (Quarter 1) (Quarter 2) (Quarter 3) one two three four in
      quarters-when (a && (b && (c && d))) p q r s (λ is. whole-all.1 (all.0 is), λ whole. all.1 (whole-all.0 whole))
      (ap₂ (λ x xs. x ∷ xs) first (ap₂ (λ x xs. x ∷ xs) second (ap₂ (λ x xs. x ∷ xs) third (ap (λ x. x ∷ []) fourth)))) result same
