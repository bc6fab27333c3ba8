-- A run that is seen to have room meets the premises of the law of room.
use Rattle.std.proofs.Common.{◌≡◌, ℕ, ◌+◌, ◌-◌, ◌==◌, ◌<◌, ◌≤◌, nat_le, nat_lt, not, Bool, true, false, ◌&&◌, ◌||◌, if◌then◌else◌, Option, Some, None, List, [], ◌∷◌, map, refl, sym, ap, subst, arith}
use Rattle.std.proofs.lemmas.Bool.{and_parts, false≢true, true≢false, leb-true}
use Rattle.std.specs.List.{AllByRecursion}
use Rattle.mh_model.specs.{declared.command.Event.Event, declared.config.Config.Config, Collector.{Collector, is_idle}}
use Rattle.mh_model.specs.Intervals.{cycle_ends, moments}
use Rattle.mh_model.specs.{Machine.{Machine, event_step, first_machine, machine_replies}, Openings.free_of}
use Rattle.mh_model.specs.Trace.{least_of, lesser}
use Rattle.mh_size_laws.specs.Room.{first_start, has_cycle, opened_in_a_row, until_cycle}
use Rattle.mh_size_runs.specs.{declared.seen.HasRoom.HasRoom, declared.seen.HasRoom.TheVariants.{Yes, No, NoCycle}}
use Rattle.mh_size_runs.specs.{declared.seen.Seen.Seen, Full.{AreNotFull, HasNoFullReply}}
use Rattle.mh_size_runs.specs.Seen.{MeetsTheLaw, counts_of_quanta, fewest_left, free_at_start, greatest, is_roomy, is_within, most_quanta_of, quanta_taken, room_by, seen_in}

-- Free pages -------------------------------------------------------------------------------------

within-first : (bound number : ℕ) (rest : Option ℕ) → is_within bound (Some (lesser number rest)) ≡ true → (bound ≤ number) × (is_within bound rest ≡ true)
within-first bound number None is = (leb-true bound number is, refl)
within-first bound number (Some other) is = let least = leb-true bound (lesser number (Some other)) is in (omega (arith, least), grind arith)

-- what is within the least is within each
all-within : (bound : ℕ) (machines : List Machine) → is_within bound (least_of (map free_of machines)) ≡ true → AllByRecursion (λ machine. bound ≤ free_of machine) machines
all-within bound [] is = tt
all-within bound (machine ∷ machines) is = let (here, after) = within-first bound (free_of machine) (least_of (map free_of machines)) is in (here, all-within bound machines after)

-- Quanta -----------------------------------------------------------------------------------------

runs-on : (old new : Collector) → is_idle new.phase ≡ false → quanta_taken old new ≡ new.quanta + 1
runs-on old new runs = ap (λ (idle : Bool). if idle && (not (is_idle old.phase) || nat_lt old.cycle new.cycle) then old.quanta + 1 else (if idle then 0 else new.quanta + 1)) runs

moments-take : (most : ℕ) (machine : Machine) (events : List Event) → (is_idle machine.heap.collector.phase ≡ false → machine.heap.collector.quanta < most) → greatest (counts_of_quanta machine events) ≤ most
    → AllByRecursion (λ later. is_idle later.heap.collector.phase ≡ false → later.heap.collector.quanta < most) (moments machine events)
moments-take most machine [] now few = (now, tt)
moments-take most machine (event ∷ events) now few =
    let next : Machine = (event_step machine event).state in (
      now,
      moments-take most next events (λ runs. omega (arith, few, runs-on machine.heap.collector next.heap.collector runs)) (omega (arith, few)),
    )

-- Replies ----------------------------------------------------------------------------------------

until-not-full : (machine : Machine) (events : List Event) → AreNotFull (machine_replies machine events) → AreNotFull (machine_replies machine (until_cycle machine events))
unfolding machine_replies
until-not-full machine [] all = tt
until-not-full machine (event ∷ events) all = go (has_cycle next) (until-not-full next events all.1)
  where
    next : Machine
    next = (event_step machine event).state

    go : (cycle : Bool) → AreNotFull (machine_replies next (until_cycle next events)) → AreNotFull (machine_replies machine (if cycle then event ∷ [] else event ∷ until_cycle next events))
    go true rest = (all.0, tt)
    go false rest = (all.0, rest)

-- Room -------------------------------------------------------------------------------------------

abbrev is_yes : HasRoom → Bool
is_yes Yes = true
is_yes No = false
is_yes NoCycle = false

yes-parts : (quanta : ℕ) (roomy : Bool) → room_by quanta roomy ≡ Yes → (1 ≤ quanta) × (roomy ≡ true)
yes-parts quanta roomy is = go (quanta == 0) refl roomy is
  where
    go : (none : Bool) → (quanta == 0) ≡ none → (roomy : Bool) → (if none then NoCycle else (if roomy then Yes else No)) ≡ Yes → (1 ≤ quanta) × (roomy ≡ true)
    go true e roomy is = absurd (false≢true (ap is_yes is))
    go false e true is = (grind arith, refl)
    go false e false is = absurd (false≢true (ap is_yes is))

pub meets-the-law : (config : Config) (events : List Event) (window : ℕ) → HasNoFullReply config events → (seen_in config events window).room ≡ Yes → MeetsTheLaw config events (most_quanta_of config events)
meets-the-law config events window never roomed =
    let first : Machine = first_machine config in
    let quanta : ℕ = most_quanta_of config events in
    let opens : ℕ = opened_in_a_row quanta config events in
    let fewer : ℕ = opened_in_a_row (quanta - 1) config events in
    let (some, roomy) = yes-parts quanta (is_roomy config.trigger opens fewer (fewest_left config events) (free_at_start config events)) roomed in
    let (trigger, rest) = and_parts (nat_le opens (config.trigger + 1)) (is_within opens (fewest_left config events) && is_within fewer (free_at_start config events)) roomy in
    let (left, start) = and_parts (is_within opens (fewest_left config events)) (is_within fewer (free_at_start config events)) rest in
    record {
      some = some;
      cycles = moments-take quanta first events (λ runs. absurd (true≢false runs)) (omega arith);
      room = record {
        before = until-not-full first events never;
        trigger = leb-true opens (config.trigger + 1) trigger;
        start = all-within fewer (first_start first events) start;
        left = all-within opens (cycle_ends first events) left;
      };
    }

-- the same of what is seen
pub seen-law : (config : Config) (events : List Event) (window : ℕ) (seen : Seen) → seen ≡ seen_in config events window → seen.room ≡ Yes → HasNoFullReply config events → MeetsTheLaw config events seen.quanta
seen-law config events window seen is roomed never =
    subst (λ (s : Seen). s.room ≡ Yes → MeetsTheLaw config events s.quanta) (sym is) (λ roomed. meets-the-law config events window never roomed) roomed
