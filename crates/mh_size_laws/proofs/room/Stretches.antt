-- The intervals of a run are stretches of it, of few units if the scheduler runs the quanta.
use Rattle.std.proofs.Common.{◌≡◌, ℕ, suc, ◌+◌, ◌-◌, ◌*◌, ◌≤◌, max, nat_le, nat_lt, Bool, true, false, if◌then◌else◌, None, List, [], ◌∷◌, ◌++◌, length, take, drop, refl, sym, ap, ◌∙◌, subst, arith, append_assoc}
use Rattle.std.proofs.{Math.Nat.suc-mul, lemmas.Bool.{leb-false, ne_eqb}}
use Rattle.std.specs.List.{AllByRecursion}
use Rattle.mh_model.specs.{declared.command.Command.Command, declared.command.Event.Event}
use Rattle.mh_model.specs.{declared.config.Config.Config, declared.reply.Refusal.Refusal}
use Rattle.mh_model.specs.{declared.reply.Refusal.TheVariants.HeapFull, declared.reply.Reply.Reply}
use Rattle.mh_model.specs.{World.{most_fields, refusal}, Mutator.{HeapState, heap_sight, heap_effect, mutator_step}}
use Rattle.mh_model.specs.Machine.{Machine, quantum_run, command_units, command_step, control_step, half_step, event_step, machine_after, machine_replies}
use Rattle.mh_model.specs.{Snapshot.{has_quantum, is_heap_full}, Openings.asked_parts, Intervals.intervals}
use Rattle.mh_laws.proofs.{rooms.QuietEvents.{quiet-event, quantum-event}, runs.EveryMoment.config-mutator_step}
use Rattle.mh_run_laws.proofs.{forwarders.RunForwarders.{after-more, after-one}, worlds.FullAlone.full-alone}
use Rattle.mh_size_laws.specs.Rates.{event_units, units_in, interval_units}
use Rattle.mh_size_laws.proofs.{openings.Intervals.new-allowed, room.Commands.full_is}

-- Units of commands ------------------------------------------------------------------------------

refused-unit : (config : Config) (asked : Command) (refused : Refusal) → command_units config asked (Reply.Refused refused) ≡ 1
refused-unit config asked refused = grind arith

-- an object that isn't too large is one unit if it is made, or as many as it has blocks
made-units : (config : Config) (who slot references numbers : ℕ) → nat_lt (most_fields config) (references + numbers) ≡ false
    → command_units config (Command.New slot references numbers) Reply.Done ≤ max 1 (length (asked_parts config (Event.Session who (Command.New slot references numbers))))
made-units config who slot references numbers allowed = grind arith

-- a command that isn't refused is one unit, or as many as it asks for blocks
allowed-units : (heap : HeapState) (who : ℕ) (c : Command) → refusal (heap_sight heap) who c ≡ None → command_units heap.config c (heap_effect heap who c).reply ≤ max 1 (length (asked_parts heap.config (Event.Session who c)))
unfolding heap_effect
allowed-units heap who c none = grind (arith, made-units, new-allowed)

-- so it is with any command
few-units : (heap : HeapState) (who : ℕ) (c : Command) → command_units heap.config c (mutator_step heap who c).reply ≤ max 1 (length (asked_parts heap.config (Event.Session who c)))
unfolding mutator_step
few-units heap who c = search (arith, allowed-units, refused-unit)

-- and if a full heap refuses it, as if it were made
full-units : (heap : HeapState) (who : ℕ) (c : Command) → (mutator_step heap who c).reply ≡ Reply.Refused HeapFull → command_units heap.config c Reply.Done ≤ max 1 (length (asked_parts heap.config (Event.Session who c)))
full-units heap who (Command.New slot references numbers) full = search (arith, made-units, new-allowed, full-alone)
full-units heap who _ full = omega arith

event-few : (machine : Machine) (event : Event) → event_units machine event ≤ max 1 (length (asked_parts machine.heap.config event))
unfolding command_step
event-few machine event = grind (arith, full-units, full_is, few-units)

-- Units of the machine ---------------------------------------------------------------------------

-- what the machine counts grows by the units of an event that no full heap refuses
half-units : (machine : Machine) (event : Event) → is_heap_full (event_step machine event).reply ≡ false → (half_step machine event).units ≡ machine.units + event_units machine event
unfolding event_step command_step
half-units machine event other = grind arith

quiet-units : (machine : Machine) (event : Event) → has_quantum machine event ≡ false → (event_step machine event).state.units ≡ (half_step machine event).units
unfolding event_step control_step
quiet-units machine event quiet = grind arith

run-units : (machine : Machine) → (quantum_run machine).state.units ≡ 0
unfolding quantum_run
run-units machine = refl

run-config : (machine : Machine) → (quantum_run machine).state.heap.config ≡ machine.heap.config
unfolding quantum_run
run-config machine = refl

half-config : (machine : Machine) (event : Event) → (half_step machine event).heap.config ≡ machine.heap.config
unfolding command_step
half-config machine event = grind (arith, config-mutator_step)

-- Stretches --------------------------------------------------------------------------------------

pub units-more : (before more : List Event) (machine : Machine) → units_in machine (before ++ more) ≡ units_in machine before + units_in (machine_after machine before) more
unfolding machine_after
units-more [] more machine = omega arith
units-more (event ∷ before) more machine = omega (arith, units-more before more (event_step machine event).state)

nothing-after : (machine : Machine) → machine_after machine [] ≡ machine
unfolding machine_after
nothing-after machine = refl

-- the events of these intervals
abbrev pub joined : List (List Event) → List Event
joined [] = []
joined (interval ∷ cut) = interval ++ joined cut

pub joined-cut : (events before : List Event) (machine : Machine) → joined (intervals before machine events) ≡ before ++ events
joined-cut [] before machine = refl
joined-cut (event ∷ events) before machine = go (has_quantum machine event) (joined-cut events [] next) (joined-cut events (before ++ event ∷ []) next)
  where
    next : Machine
    next = (event_step machine event).state

    go : (cut : Bool) → joined (intervals [] next events) ≡ events → joined (intervals (before ++ event ∷ []) next events) ≡ (before ++ event ∷ []) ++ events
        → joined (if cut then (before ++ event ∷ []) ∷ intervals [] next events else intervals (before ++ event ∷ []) next events) ≡ before ++ event ∷ events
    go true first going = ap (λ (rest : List Event). (before ++ event ∷ []) ++ rest) first ∙ append_assoc before (event ∷ []) events
    go false first going = going ∙ append_assoc before (event ∷ []) events

pub joined-split : (count : ℕ) (cut : List (List Event)) → joined (take count cut) ++ joined (drop count cut) ≡ joined cut
joined-split (suc count) (interval ∷ cut) = append_assoc interval (joined (take count cut)) (joined (drop count cut)) ∙ ap (λ (rest : List Event). interval ++ rest) (joined-split count cut)
joined-split count cut = refl

-- none of these intervals, from a machine on, has more units
abbrev pub AreShort : ℕ → Machine → List (List Event) → Type 0
AreShort units machine [] = Unit {0}
AreShort units machine (interval ∷ cut) = (units_in machine interval ≤ units) × AreShort units (machine_after machine interval) cut

pub short-taken : (units count : ℕ) (cut : List (List Event)) (machine : Machine) → AreShort units machine cut → AreShort units machine (take count cut)
short-taken units (suc count) (interval ∷ cut) machine short = (short.0, short-taken units count cut (machine_after machine interval) short.1)
short-taken units count cut machine short = tt

-- together they have no more units than so many times as many
pub units-joined : (units : ℕ) (cut : List (List Event)) (machine : Machine) → AreShort units machine cut → units_in machine (joined cut) ≤ length cut * units
units-joined units [] machine short = omega arith
units-joined units (interval ∷ cut) machine short = grind (arith, units-more, suc-mul, units-joined units cut (machine_after machine interval) short.1)

-- Intervals --------------------------------------------------------------------------------------

module _ (config : Config) (some : 1 ≤ config.every) (most : ℕ) where
  -- a machine within an interval, which began with another: it has had fewer units than run a quantum
  pub record IsWithin (before : List Event) (start machine : Machine) : Type 0 where
    pub config_is : machine.heap.config ≡ config
    pub after : machine_after start before ≡ machine
    pub units : units_in start before ≡ machine.units
    pub few : machine.units ≤ config.every - 1

  -- an event that has no quantum run leaves fewer
  quiet-few : (machine : Machine) (event : Event) → machine.heap.config ≡ config → machine.units ≤ config.every - 1 → has_quantum machine event ≡ false → (half_step machine event).units ≤ config.every - 1
  quiet-few machine event same few quiet = grind (arith, half-config, ne_eqb, leb-false, nat_le)

  -- the interval with one event more
  one-more : (before : List Event) (start machine : Machine) (event : Event) → IsWithin before start machine → units_in start (before ++ event ∷ []) ≡ machine.units + event_units machine event
  one-more before start machine event is = grind (arith, units-more)

  more-short : (before : List Event) (start machine : Machine) (event : Event) → IsWithin before start machine → length (asked_parts config event) ≤ most → units_in start (before ++ event ∷ []) ≤ interval_units config.every most
  more-short before start machine event is few =
      let asked : event_units machine event ≤ max 1 (length (asked_parts config event)) = subst (λ (k : Config). event_units machine event ≤ max 1 (length (asked_parts k event))) is.config_is (event-few machine event) in
      omega (arith, one-more before start machine event is, is.few, asked, few)

  next-after : (before : List Event) (start machine : Machine) (event : Event) → IsWithin before start machine → machine_after start (before ++ event ∷ []) ≡ (event_step machine event).state
  next-after before start machine event is = after-more start before (event ∷ []) ∙ ap (λ (m : Machine). machine_after m (event ∷ [])) is.after ∙ after-one machine event

  -- Each interval is short of events of which a full heap refuses none but the last
  pub cut-short : (events before : List Event) (last : Event) (start machine : Machine) → IsWithin before start machine → AllByRecursion (λ answer. is_heap_full answer ≡ false) (machine_replies machine events)
      → AllByRecursion (λ event. length (asked_parts config event) ≤ most) (events ++ last ∷ []) → AreShort (interval_units config.every most) start (intervals before machine (events ++ last ∷ []))
  unfolding machine_replies
  cut-short [] before last start machine is never few = go (has_quantum machine last)
    where
      ends : units_in start (before ++ last ∷ []) ≤ interval_units config.every most
      ends = more-short before start machine last is few.0

      go : (cut : Bool) → AreShort (interval_units config.every most) start (if cut then (before ++ last ∷ []) ∷ [] ∷ [] else (before ++ last ∷ []) ∷ [])
      go cut = grind (arith, ends)
  cut-short (event ∷ events) before last start machine is never few =
      go (has_quantum machine event) refl (λ begun. cut-short events [] last next next begun never.1 few.1) (λ goes. cut-short events (before ++ event ∷ []) last start next goes never.1 few.1)
    where
      next : Machine
      next = (event_step machine event).state

      half : Machine
      half = half_step machine event

      units : ℕ
      units = interval_units config.every most

      later : List Event
      later = events ++ last ∷ []

      same : half.heap.config ≡ config
      same = half-config machine event ∙ is.config_is

      go : (cut : Bool) → has_quantum machine event ≡ cut → (IsWithin [] next next → AreShort units next (intervals [] next later)) → (IsWithin (before ++ event ∷ []) start next → AreShort units start (intervals (before ++ event ∷ []) next later))
          → AreShort units start (if cut then (before ++ event ∷ []) ∷ intervals [] next later else intervals (before ++ event ∷ []) next later)
      go true cut first going =
          let runs : next ≡ (quantum_run half).state = quantum-event machine event cut in
          let none : next.units ≡ 0 = ap (λ (m : Machine). m.units) runs ∙ run-units half in
          let begun : IsWithin [] next next = record { config_is = ap (λ (m : Machine). m.heap.config) runs ∙ run-config half ∙ same; after = nothing-after next; units = sym none; few = omega (arith, none) } in
          (more-short before start machine event is few.0, subst (λ (m : Machine). AreShort units m (intervals [] next later)) (sym (next-after before start machine event is)) (first begun))
      go false cut first going = grind (arith, quiet-event, same, next-after, units, one-more, quiet-units, half-units, quiet-few)
