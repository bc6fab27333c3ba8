-- Sessions that keep to a rate open no more pages in a row of intervals than the rate allows, so room at the rate suffices.
use Rattle.std.proofs.Common.{◌≡◌, ℕ, ◌+◌, ◌-◌, ◌*◌, ◌≤◌, Bool, if◌then◌else◌, List, [], ◌∷◌, ◌++◌, length, map, take, drop, refl, sym, ap, ◌∙◌, subst, arith, append_assoc}
use Rattle.std.proofs.{Math.Nat.mul-le-mul_right, lemmas.List.{append-nil, length-take, take-map}}
use Rattle.std.proofs.lemmas.List.Sums.{sum_by-cons, sum-map}
use Rattle.std.specs.List.{AllByRecursion, sum, sum_by}
use Rattle.mh_model.specs.{declared.command.Event.Event, declared.config.Config.Config, Classes.{class_sizes, slots_in}}
use Rattle.mh_model.specs.Machine.{Machine, first_machine, event_step, machine_after, machine_replies}
use Rattle.mh_model.specs.Openings.{pages_for, asked_parts, opens_at_most, free_of}
use Rattle.mh_model.specs.Intervals.{moments, intervals, has_ended, cycle_ends, CyclesTakeAtMost, IsNeverFull}
use Rattle.mh_table_laws.proofs.tables.PageSlots.{slots_in-class_size}
use Rattle.mh_run_laws.proofs.forwarders.RunForwarders.{after-more}
use Rattle.mh_size_laws.specs.Rates.{Grows, HasRoomAtRate, KeepToRate, LeaveInUse, interval_units, units_in, class_opens, opens_at_rate, RoomAtRateSuffices}
use Rattle.mh_size_laws.specs.Room.{most_in_a_row, opened_by}
use Rattle.mh_size_laws.proofs.openings.Intervals.{asked_of, asked-append}
use Rattle.mh_size_laws.proofs.{openings.MadeParts.{IsAmong, among-is_class, sum-larger}, room.IntervalSteps.free-first}
use Rattle.mh_size_laws.proofs.{room.Moments.moment-suffices, room.RowPages.{sum-turned, class-row}}
use Rattle.mh_size_laws.proofs.room.Stretches.{joined, joined-cut, joined-split, AreShort, short-taken, units-joined, cut-short}

asked-joined : (config : Config) (size : ℕ) (row : List (List Event)) → asked_of config (joined row) size ≡ sum_by (λ interval. asked_of config interval size) row
asked-joined config size [] = refl
asked-joined config size (interval ∷ row) = omega (arith, asked-append config interval (joined row) size, asked-joined config size row, sum_by-cons (λ i. asked_of config i size) interval row)

-- Rows -------------------------------------------------------------------------------------------

module _ (allowed : ℕ → ℕ → ℕ) (grows : Grows allowed) (most : ℕ) (config : Config) (events : List Event) (keep : KeepToRate allowed most config events) (units : ℕ) where
  -- these intervals are a stretch of the run, and short
  record IsRow (before : List Event) (row : List (List Event)) (later : List Event) : Type 0 where
    whole : before ++ (joined row ++ later) ≡ events
    short : AreShort units (machine_after (first_machine config) before) row

  -- so are those after the first
  rest-row : (before : List Event) (interval : List Event) (row : List (List Event)) (later : List Event) → IsRow before (interval ∷ row) later → IsRow (before ++ interval) row later
  rest-row before interval row later is = record {
    whole = append_assoc before interval (joined row ++ later) ∙ ap (λ (l : List Event). before ++ l) (sym (append_assoc interval (joined row) later)) ∙ is.whole;
    short = subst (λ (m : Machine). AreShort units m row) (sym (after-more (first_machine config) before interval)) is.short.1;
  }

  -- and the first of them
  taken-row : (count : ℕ) (before : List Event) (row : List (List Event)) (later : List Event) → IsRow before row later → IsRow before (take count row) (joined (drop count row) ++ later)
  taken-row count before row later is = record {
    whole = ap (λ (l : List Event). before ++ l) (sym (append_assoc (joined (take count row)) (joined (drop count row)) later) ∙ ap (λ (l : List Event). l ++ later) (joined-split count row)) ∙ is.whole;
    short = short-taken units count row (machine_after (first_machine config) before) is.short;
  }

  -- each asks for no more than is allowed for one
  each-few : (size : ℕ) (row : List (List Event)) (before later : List Event) → IsRow before row later → AllByRecursion (λ interval. asked_of config interval size ≤ allowed size units) row
  each-few size [] before later is = tt
  each-few size (interval ∷ row) before later is =
      let start : Machine = machine_after (first_machine config) before in
      let asked = keep.asked before interval (joined row ++ later) (ap (λ (l : List Event). before ++ l) (sym (append_assoc interval (joined row) later)) ∙ is.whole) size in
      (omega (arith, asked, grows size (units_in start interval) units is.short.0), each-few size row (before ++ interval) later (rest-row before interval row later is))

  -- and all together for no more than is allowed for so many
  all-few : (size count : ℕ) (row : List (List Event)) (before later : List Event) → length row ≤ count → IsRow before row later → sum_by (λ interval. asked_of config interval size) row ≤ allowed size (count * units)
  all-few size count row before later few is =
      let start : Machine = machine_after (first_machine config) before in
      let asked = keep.asked before (joined row) later is.whole size in
      grind (arith, joined, units-joined, mul-le-mul_right, asked-joined)

  -- so they open no more pages than the rate allows
  row-few : (count : ℕ) (row : List (List Event)) (before later : List Event) → length row ≤ count → IsRow before row later → sum (map (opens_at_most config) row) ≤ opens_at_rate allowed units count
  row-few count row before later few is =
      let opens : ℕ → ℕ = λ size. sum_by (λ interval. pages_for size (asked_of config interval size)) row in
      omega (arith, sum-map (opens_at_most config) row, sum-turned (λ interval size. pages_for size (asked_of config interval size)) row class_sizes, sum-larger opens (class_opens allowed units count) class_sizes of_class)
    where
      of_class : (size : ℕ) → IsAmong size class_sizes → sum_by (λ interval. pages_for size (asked_of config interval size)) row ≤ class_opens allowed units count size
      of_class size among =
          class-row (λ interval. asked_of config interval size) (slots_in size) count (allowed size units) (allowed size (count * units)) row (slots_in-class_size size (among-is_class size among)).0 few (each-few size row before later is) (all-few size count row before later few is)

  -- whichever row of them is taken
  rows-few : (count : ℕ) (cut : List (List Event)) (before later : List Event) → IsRow before cut later → most_in_a_row count (map (opens_at_most config) cut) ≤ opens_at_rate allowed units count
  rows-few count [] before later is = omega arith
  rows-few count (interval ∷ cut) before later is =
      let row : List (List Event) = take count (interval ∷ cut) in
      let here = row-few count row before (joined (drop count (interval ∷ cut)) ++ later) (omega (arith, length-take count (interval ∷ cut))) (taken-row count before (interval ∷ cut) later is) in
      omega (arith, ap sum (take-map (opens_at_most config) count (interval ∷ cut)), here, rows-few count cut (before ++ interval) later (rest-row before interval cut later is))

-- Beginnings of runs ----------------------------------------------------------------------------

all-before : {X : Type 0} (P : X → Type 0) (list more : List X) → AllByRecursion P (list ++ more) → AllByRecursion P list
all-before P [] more all = tt
all-before P (x ∷ list) more all = (all.0, all-before P list more all.1)

module _ (P : Machine → Type 0) where
  moments-before : (events more : List Event) (machine : Machine) → AllByRecursion P (moments machine (events ++ more)) → AllByRecursion P (moments machine events)
  moments-before [] [] machine all = all
  moments-before [] (event ∷ more) machine all = (all.0, tt)
  moments-before (event ∷ events) more machine all = (all.0, moments-before events more (event_step machine event).state all.1)

  ends-before : (events more : List Event) (machine : Machine) → AllByRecursion P (cycle_ends machine (events ++ more)) → AllByRecursion P (cycle_ends machine events)
  ends-before [] more machine all = tt
  ends-before (event ∷ events) more machine all = go (has_ended machine.heap.collector next.heap.collector) all (ends-before events more next)
    where
      next : Machine
      next = (event_step machine event).state

      go : (ended : Bool) → AllByRecursion P (if ended then next ∷ cycle_ends next (events ++ more) else cycle_ends next (events ++ more)) → (AllByRecursion P (cycle_ends next (events ++ more)) → AllByRecursion P (cycle_ends next events))
          → AllByRecursion P (if ended then next ∷ cycle_ends next events else cycle_ends next events)
      go ended here rest = grind arith

keep-before : (allowed : ℕ → ℕ → ℕ) (most : ℕ) (config : Config) (events more : List Event) → KeepToRate allowed most config (events ++ more) → KeepToRate allowed most config events
keep-before allowed most config events more keep = record {
  objects = all-before (λ event. length (asked_parts config event) ≤ most) events more keep.objects;
  asked = λ before stretch later is.
      let whole : before ++ (stretch ++ (later ++ more)) ≡ events ++ more =
      ap (λ (l : List Event). before ++ l) (sym (append_assoc stretch later more)) ∙ sym (append_assoc before (stretch ++ later) more) ∙ ap (λ (l : List Event). l ++ more) is in
      keep.asked before stretch (later ++ more) whole;
}

-- Runs -------------------------------------------------------------------------------------------

all-left : (used pages room : ℕ) (machines : List Machine) → used + room ≤ pages → AllByRecursion (λ ended. pages ≤ used + free_of ended) machines → AllByRecursion (λ ended. room ≤ free_of ended) machines
all-left used pages room [] fits left = tt
all-left used pages room (ended ∷ machines) fits left = (omega (arith, fits, left.0), all-left used pages room machines fits left.1)

none_had : (quanta : ℕ) → quanta - 0 ≡ quanta
none_had quanta = omega arith

module _ (allowed : ℕ → ℕ → ℕ) (most quanta used : ℕ) (config : Config) (grows : Grows allowed) (some : 1 ≤ quanta) (has : HasRoomAtRate allowed most quanta used config) where
  record IsGiven (events : List Event) : Type 0 where
    keep : KeepToRate allowed most config events
    takes : CyclesTakeAtMost quanta config events
    left : LeaveInUse used config events

  given-before : (events more : List Event) → IsGiven (events ++ more) → IsGiven events
  given-before events more given = search (arith, keep-before, moments-before, ends-before)

  -- a run that was never full isn't full with one event more
  one-more : (events : List Event) (event : Event) → IsGiven (events ++ event ∷ []) → IsNeverFull config events → IsNeverFull config (events ++ event ∷ [])
  unfolding machine_after
  one-more events event given never =
      let first : Machine = first_machine config in
      let units : ℕ = interval_units config.every most in
      let cut : List (List Event) = intervals [] first (events ++ event ∷ []) in
      let few : opened_by quanta config cut ≤ opens_at_rate allowed units quanta =
      rows-few allowed grows most config (events ++ event ∷ []) given.keep units quanta cut [] [] (record {
        whole = append-nil (joined cut) ∙ joined-cut (events ++ event ∷ []) [] first;
        short = cut-short config has.scheduled most events [] event first first (record { config_is = refl; after = refl; units = refl; few = omega arith }) never.replies given.keep.objects;
      }) in
      let free : opened_by (quanta - 0) config cut ≤ free_of first = rw (none_had quanta) (omega (arith, few, has.pages, free-first config.pages)) in
      let all = moment-suffices config [] (events ++ event ∷ []) quanta some (record {
        fewer = given.takes;
        trigger = omega (arith, few, has.trigger);
        free = free;
        left = all-left used config.pages (opened_by quanta config cut) (cycle_ends first (events ++ event ∷ [])) (omega (arith, few, has.pages)) given.left;
      }) in
      record { replies = all.0; flagged = all.1 }

  goes-on : (events before : List Event) → IsGiven (before ++ events) → IsNeverFull config before → IsNeverFull config (before ++ events)
  goes-on [] before given never = subst (IsNeverFull config) (sym (append-nil before)) never
  goes-on (event ∷ events) before given never =
      let is : (before ++ event ∷ []) ++ events ≡ before ++ event ∷ events = append_assoc before (event ∷ []) events in
      let given' : IsGiven ((before ++ event ∷ []) ++ events) = subst IsGiven (sym is) given in
      subst (IsNeverFull config) is (goes-on events (before ++ event ∷ []) given' (one-more before event (given-before (before ++ event ∷ []) events given') never))

  pub never-at-rate : (events : List Event) → KeepToRate allowed most config events → CyclesTakeAtMost quanta config events → LeaveInUse used config events → IsNeverFull config events
  unfolding machine_replies
  never-at-rate events keep takes left = goes-on events [] (record { keep = keep; takes = takes; left = left }) (record { replies = tt; flagged = tt })

-- Room at a rate suffices
pub rate-suffices : RoomAtRateSuffices
rate-suffices allowed most quanta used config events grows some has keep takes left = never-at-rate allowed most quanta used config grows some has events keep takes left
