-- Heaps with room: how they are found, and what the law of room says of them.
use Rattle.std.proofs.Common.{◌≡◌, ℕ, ◌+◌, ◌-◌, ◌≤◌, nat_le, true, List, ap, refl, sym, subst, ◌∙◌, arith}
use Rattle.std.proofs.lemmas.Bool.{and_parts, leb-true}
use Rattle.mh_model.specs.{declared.command.Event.Event, declared.config.Config.Config}
use Rattle.mh_model.specs.{declared.config.Rules.TheVariants.Second, Bound.most_quanta, Intervals.CyclesTakeAtMost}
use Rattle.mh_model.specs.Limits.{least_quantum}
use Rattle.mh_orders.specs.{Given.is_length_within, declared.room_options.CycleLength.CycleLength}
use Rattle.mh_orders.specs.declared.room_options.CycleLength.TheVariants.{Quanta, Quantum}
use Rattle.mh_orders.specs.declared.room_options.RoomOptions.{RoomOptions}
use Rattle.mh_size_laws.specs.{Rates.{HasRoomAtRate, interval_units, opens_at_rate}, Rooms.EachRunHasItsRoom}
use Rattle.mh_size_laws.proofs.room.IntervalSteps.{some-quanta}
use Rattle.mh_size_counts.specs.Rates.{allowed_by}
use Rattle.mh_size_counts.specs.Room.{HasQuantum, HasRoom, IsRoomForAll, IsRoomHeap, KeepToLength, cycle_quanta, opens_in}
use Rattle.mh_size_counts.specs.declared.room.RoomHeap.{RoomHeap}
use Rattle.mh_size_counts.proofs.{LimitLemmas.limits, RateLemmas.rates_grow}

-- Pages that are tried ---------------------------------------------------------------------------

-- So many pages open so many in each configuration that has them
abbrev pub OpensWith : RoomOptions → ℕ → ℕ → Type 0
OpensWith options pages opens = (config : Config) → config.pages ≡ pages → HasQuantum options.length config → opens ≡ opens_in options (cycle_quanta options.length config)

-- No configuration with fewer pages has room
abbrev pub NoneBefore : RoomOptions → ℕ → Type 0
NoneBefore options pages = (config : Config) → HasRoom options config → pages ≤ config.pages

-- Heaps that are found ---------------------------------------------------------------------------

-- a quantum that is given, or else the least
quantum_of : CycleLength → ℕ
quantum_of (Quanta quanta) = least_quantum
quantum_of (Quantum quantum) = quantum

quantum_within : (length : CycleLength) → is_length_within length ≡ true → (least_quantum ≤ quantum_of length) × (quantum_of length ≤ 1000000)
unfolding quantum_of
quantum_within (Quanta quanta) is = (omega arith, omega arith)
quantum_within (Quantum quantum) is = let (least, most) = and_parts (nat_le least_quantum quantum) _ is in (leb-true least_quantum quantum least, leb-true quantum 1000000 most)

has_quantum : (length : CycleLength) (config : Config) → config.quantum ≡ quantum_of length → HasQuantum length config
unfolding quantum_of
has_quantum (Quanta quanta) config is = tt
has_quantum (Quantum quantum) config is = is

pub room_found : (options : RoomOptions) (heap : RoomHeap) → 1 ≤ heap.pages → heap.pages ≤ 4096 → OpensWith options heap.pages heap.opens → options.used + heap.opens ≤ heap.pages → heap.trigger ≡ heap.opens - 1 → NoneBefore options heap.pages
    → IsRoomHeap options heap
room_found options heap some few is fits last before =
    let limit = quantum_within options.length options.length_within in
    let config : Config = record {
      pages = heap.pages;
      quantum = quantum_of options.length;
      trigger = heap.trigger;
      every = options.every;
      rules = Second;
      in_limits = limits heap.pages (quantum_of options.length) heap.trigger options.every some few limit.0 limit.1 (omega (arith, last, fits)) options.every_within.1;
    } in
    let quantum = has_quantum options.length config refl in
    let opens = is config refl quantum in
    record {
      config = config;
      has = record { every = refl; quantum = quantum; pages = omega (arith, opens, fits); trigger = omega (arith, opens, last) };
      pages = refl;
      fewest = before;
      opens = opens;
      trigger = last;
    }

-- The law ----------------------------------------------------------------------------------------

bound_same : (one other : Config) → one.pages ≡ other.pages → one.quantum ≡ other.quantum → most_quanta one ≡ most_quanta other
bound_same one other pages quantum = rw (pages, quantum)

-- cycles take as many quanta as was said
cycles_take : (length : CycleLength) (heap : RoomHeap) (found config : Config) (events : List Event) → HasQuantum length found → heap.pages ≡ found.pages → KeepToLength length heap config events → CyclesTakeAtMost (most_quanta config) config events
    → CyclesTakeAtMost (cycle_quanta length found) config events
cycles_take (Quanta quanta) heap found config events is pages keep bound = keep
cycles_take (Quantum quantum) heap found config events is pages keep bound =
    subst (λ (n : ℕ). CyclesTakeAtMost n config events) (bound_same config found (keep.1 ∙ pages) (keep.0 ∙ sym is)) bound

some_quanta : (length : CycleLength) (config : Config) → is_length_within length ≡ true → 1 ≤ cycle_quanta length config
some_quanta (Quanta quanta) config is = leb-true 1 quanta (and_parts (nat_le 1 quanta) _ is).0
some_quanta (Quantum quantum) config is = some-quanta config

-- what intervals open of a configuration whose quanta come as often
opens_as_often : (options : RoomOptions) (every quanta : ℕ) → every ≡ options.every → opens_at_rate (allowed_by options.rates) (interval_units every options.most_parts) quanta ≡ opens_in options quanta
unfolding opens_in
opens_as_often options every quanta often = ap (λ n. opens_at_rate (allowed_by options.rates) (interval_units n options.most_parts) quanta) often

pub room_for_all : EachRunHasItsRoom → (options : RoomOptions) (heap : RoomHeap) → IsRoomHeap options heap → IsRoomForAll options heap
room_for_all law options heap is config events pages trigger often keep length left =
    let quanta = cycle_quanta options.length is.config in
    let opens = opens_as_often options config.every quanta often in
    let room : HasRoomAtRate (allowed_by options.rates) options.most_parts quanta options.used config = record {
      scheduled = omega (arith, often, options.every_within.0);
      pages = omega (arith, opens, is.has.pages, is.pages, pages);
      trigger = omega (arith, opens, is.opens, is.trigger, trigger);
    } in
    let enough = law config events in
    enough.rate (allowed_by options.rates) options.most_parts quanta options.used (rates_grow options.rates) (some_quanta options.length is.config options.length_within) room keep
    (cycles_take options.length heap is.config config events is.has.quantum is.pages length enough.bound) left
