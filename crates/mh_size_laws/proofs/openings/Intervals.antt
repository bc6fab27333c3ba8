-- Between two quanta: what events open is no more than their parts fill by class.
-- An *interval* is the events between two quanta; the event that has the second one run is its last.
use Rattle.std.proofs.Common.{◌≡◌, ℕ, ◌+◌, ◌≤◌, nat_le, nat_lt, false, if◌then◌else◌, Option, Some, None, option_map, option_and_then, unwrap_or, List, [], ◌∷◌, ◌++◌, cond, refl, sym, ap, ◌∙◌, subst, arith}
use Rattle.std.proofs.{lemmas.Option.{none-some, same_Some}, lemmas.List.Sums.sum_by-append}
use Rattle.std.proofs.{lemmas.List.Concat.flat_map-cons, lemmas.Grind.flat_map-append}
use Rattle.std.specs.List.{flat_map}
use Rattle.mh_model.specs.{declared.command.Command.Command, declared.command.Event.Event}
use Rattle.mh_model.specs.{declared.config.Config.Config, declared.reply.Refusal.Refusal}
use Rattle.mh_model.specs.{World.{Sight, own_slot, refusal, unless_refused}, Classes.{Part, class_sizes, parts}}
use Rattle.mh_model.specs.Pages.{Table, HaveTheirSlots}
use Rattle.mh_model.specs.Table.{Block, Made, MadeParts, made_parts, linked_parts, group_of, made_group}
use Rattle.mh_model.specs.Collector.{Collector}
use Rattle.mh_model.specs.Mutator.{HeapState, new_group, with_born, heap_sight, heap_effect, mutator_step}
use Rattle.mh_model.specs.Machine.{Machine, first_machine, command_step, half_step, machine_after}
use Rattle.mh_model.specs.Openings.{is_of_class, class_parts, asked_parts}
use Rattle.mh_laws.proofs.bounds.CyclesInTime.{run-stays}
use Rattle.mh_laws.proofs.commands.LeftUnchanged.{mutator_step-course, machine_after-pages}
use Rattle.mh_laws.proofs.{runs.EveryMoment.config-mutator_step, rooms.Rooms.HasSameRoom}
use Rattle.mh_laws.proofs.rooms.KeptRoom.{linked_parts-room, with_root-room, heap_effect-room}
use Rattle.mh_laws.proofs.rooms.QuietEvents.{IsLikewise}
use Rattle.mh_size_laws.proofs.openings.MadeParts.{IsOpened, opened-none, opened-more, made_parts-opened}

-- Objects ----------------------------------------------------------------------------------------

module _ (asked : ℕ → ℕ) (start : Table Block) where
  same-opened : (now new : Table Block) → HasSameRoom now new → IsOpened class_sizes asked start now → IsOpened class_sizes asked start new
  same-opened now new same is = record { opened = is.opened; free = omega (arith, is.free, same.free); room = λ size. omega (arith, is.room size, same.room size); last = is.last }

  -- and so many blocks more may have been asked for
  kept-opened : (more : ℕ → ℕ) (now new : Table Block) → HasSameRoom now new → IsOpened class_sizes asked start now → IsOpened class_sizes (λ k. asked k + more k) start new
  kept-opened more now new same is = opened-more class_sizes asked (λ k. asked k + more k) start new (λ k. omega arith) (same-opened now new same is)

-- an object that is made opens pages by its parts
made_group-opened : (asked : ℕ → ℕ) (start now : Table Block) (birth stamp : ℕ) (list : List Part) (made : Made) → HaveTheirSlots now → made_group now birth stamp list ≡ Some made
    → IsOpened class_sizes asked start now → IsOpened class_sizes (λ k. asked k + class_parts k list) start made.table
made_group-opened asked start now birth stamp list made slots e is = by_parts (made_parts now birth stamp 0 list) refl e
  where
    by_places : (places : List ℕ) (table : Table Block) → IsOpened class_sizes (λ k. asked k + class_parts k list) start table → group_of table places list ≡ Some made → IsOpened class_sizes (λ k. asked k + class_parts k list) start made.table
    by_places [] table opened h = absurd (none-some made h)
    by_places (place ∷ places) table opened h =
        let linked : Table Block = linked_parts (place ∷ places) table (place ∷ places) list in
        subst (λ (m : Made). IsOpened class_sizes (λ k. asked k + class_parts k list) start m.table) (same_Some (record { place = place; table = linked }) made h)
        (same-opened (λ k. asked k + class_parts k list) start table linked (linked_parts-room (place ∷ places) (place ∷ places) list table) opened)

    by_parts : (all : Option MadeParts) → made_parts now birth stamp 0 list ≡ all → option_and_then (λ (m : MadeParts). group_of m.table m.places list) all ≡ Some made → IsOpened class_sizes (λ k. asked k + class_parts k list) start made.table
    by_parts None at h = absurd (none-some made h)
    by_parts (Some all) at h = by_places all.places all.table (made_parts-opened list asked start now birth stamp 0 all slots at is) h

-- Commands ---------------------------------------------------------------------------------------

-- a new object that isn't refused has no more fields than the rules allow
pub new-allowed : (sight : Sight) (who slot references numbers : ℕ) → refusal sight who (Command.New slot references numbers) ≡ None → nat_lt sight.most (references + numbers) ≡ false
new-allowed sight who slot references numbers e = grind (arith, nat_le, none-some)

module _ (asked : ℕ → ℕ) (start : Table Block) where
  -- the blocks of each class that a command asks for
  abbrev with_asked : HeapState → ℕ → Command → ℕ → ℕ
  with_asked heap who c k = asked k + class_parts k (asked_parts heap.config (Event.Session who c))

  new-opened : (heap : HeapState) (slot references numbers : ℕ) → HaveTheirSlots heap.collector.table → IsOpened class_sizes asked start heap.collector.table
      → (group : Option Made) → new_group heap references numbers ≡ group → IsOpened class_sizes (λ k. asked k + class_parts k (parts references numbers)) start (unwrap_or (option_map (with_born heap slot) group) heap).collector.table
  new-opened heap slot references numbers slots is None at = opened-more class_sizes asked (λ k. asked k + class_parts k (parts references numbers)) start heap.collector.table (λ k. omega arith) is
  new-opened heap slot references numbers slots is (Some made) at =
      let born : Collector = record (heap.collector) { table = made.table } in
      same-opened (λ k. asked k + class_parts k (parts references numbers)) start made.table (with_born heap slot made).collector.table (with_root-room born slot (Some made.place))
      (made_group-opened asked start heap.collector.table heap.next_birth heap.collector.cycle (parts references numbers) made slots at is)

  effect-opened : (heap : HeapState) (who : ℕ) (c : Command) → HaveTheirSlots heap.collector.table → refusal (heap_sight heap) who c ≡ None → IsOpened class_sizes asked start heap.collector.table
      → IsOpened class_sizes (with_asked heap who c) start (heap_effect heap who c).state.collector.table
  unfolding heap_effect
  effect-opened heap who (Command.New slot references numbers) slots e is =
      subst (λ b. IsOpened class_sizes (λ k. asked k + class_parts k (if b then [] else parts references numbers)) start (unwrap_or (option_map (with_born heap (own_slot who slot)) (new_group heap references numbers)) heap).collector.table)
      (sym (new-allowed (heap_sight heap) who slot references numbers e)) (new-opened heap (own_slot who slot) references numbers slots is (new_group heap references numbers) refl)
  effect-opened heap who c slots e is = kept-opened asked start (λ k. class_parts k (asked_parts heap.config (Event.Session who c))) heap.collector.table (heap_effect heap who c).state.collector.table (heap_effect-room heap who c refl) is

  -- A command opens pages by the parts that it asks for
  pub mutator_step-opened : (heap : HeapState) (who : ℕ) (c : Command) → HaveTheirSlots heap.collector.table → IsOpened class_sizes asked start heap.collector.table → IsOpened class_sizes (with_asked heap who c) start (mutator_step heap who c).state.collector.table
  unfolding mutator_step
  mutator_step-opened heap who c slots is = go (refusal (heap_sight heap) who c) refl
    where
      go : (refused : Option Refusal) → refusal (heap_sight heap) who c ≡ refused → IsOpened class_sizes (with_asked heap who c) start (unless_refused refused heap (heap_effect heap who c)).state.collector.table
      go None e = effect-opened heap who c slots e is
      go (Some refused) e = opened-more class_sizes asked (with_asked heap who c) start heap.collector.table (λ k. omega arith) is

-- Events -----------------------------------------------------------------------------------------

-- the parts of each class that a list of events asks for
abbrev pub asked_of : Config → List Event → ℕ → ℕ
asked_of config events size = class_parts size (flat_map (asked_parts config) events)

pub class_parts-append : (size : ℕ) (first second : List Part) → class_parts size (first ++ second) ≡ class_parts size first + class_parts size second
class_parts-append size first second = sum_by-append (λ part. cond (is_of_class size part) 1 0) first second

pub asked-cons : (config : Config) (event : Event) (events : List Event) (size : ℕ) → asked_of config (event ∷ events) size ≡ class_parts size (asked_parts config event) + asked_of config events size
asked-cons config event events size = ap (class_parts size) (flat_map-cons (asked_parts config) event events) ∙ class_parts-append size (asked_parts config event) (flat_map (asked_parts config) events)

pub asked-append : (config : Config) (first second : List Event) (size : ℕ) → asked_of config (first ++ second) size ≡ asked_of config first size + asked_of config second size
asked-append config first second size = ap (class_parts size) (flat_map-append (asked_parts config) first second) ∙ class_parts-append size (flat_map (asked_parts config) first) (flat_map (asked_parts config) second)

-- Intervals --------------------------------------------------------------------------------------

-- a machine of this configuration whose table has pages opened since another
pub record IsSince (config : Config) (asked : ℕ → ℕ) (start : Table Block) (machine : Machine) : Type 0 where
  pub config_is : machine.heap.config ≡ config
  pub slots : HaveTheirSlots machine.heap.collector.table
  pub opened : IsOpened class_sizes asked start machine.heap.collector.table

pub since-half : (config : Config) (asked : ℕ → ℕ) (start : Table Block) (machine : Machine) (event : Event) → IsSince config asked start machine → IsSince config (λ k. asked k + class_parts k (asked_parts config event)) start (half_step machine event)
unfolding command_step
since-half config asked start machine (Event.Session who command) since = record {
  config_is = config-mutator_step machine.heap who command ∙ since.config_is;
  slots = (mutator_step-course machine.heap who command).slots since.slots;
  opened = subst (λ c. IsOpened class_sizes (λ k. asked k + class_parts k (asked_parts c (Event.Session who command))) start (mutator_step machine.heap who command).state.collector.table) since.config_is
      (mutator_step-opened asked start machine.heap who command since.slots since.opened);
}
since-half config asked start machine (Event.Control control) since = grind (arith, opened-more)

pub since-likewise : (config : Config) (asked : ℕ → ℕ) (start : Table Block) (old new : Machine) → IsLikewise old new → IsSince config asked start old → IsSince config asked start new
since-likewise config asked start old new same since = record {
  config_is = same.config ∙ since.config_is;
  slots = subst HaveTheirSlots (sym same.table) since.slots;
  opened = subst (IsOpened class_sizes asked start) (sym same.table) since.opened;
}

pub since-more : (config : Config) (asked more : ℕ → ℕ) (start : Table Block) (machine : Machine) → ((k : ℕ) → asked k ≤ more k) → IsSince config asked start machine → IsSince config more start machine
since-more config asked more start machine larger since = record { config_is = since.config_is; slots = since.slots; opened = opened-more class_sizes asked more start machine.heap.collector.table larger since.opened }

-- a machine is so since its own moment
pub since-first : (config : Config) (events : List Event) → IsSince config (λ k. 0) (machine_after (first_machine config) events).heap.collector.table (machine_after (first_machine config) events)
since-first config events = record {
  config_is = (run-stays config events).config_is;
  slots = (machine_after-pages config events).slots;
  opened = opened-none class_sizes (λ k. 0) (machine_after (first_machine config) events).heap.collector.table;
}
