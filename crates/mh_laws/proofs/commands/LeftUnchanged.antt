-- What commands, steps, quanta and events leave as it was: the collector's course, the pages, and the heap of a refused command.
use Rattle.std.proofs.Common.{◌≡◌, ℕ, zero, suc, ◌+◌, ◌-◌, nat_lt, Bool, true, false, ◌||◌, if◌then◌else◌, inl, inr, Option, Some, None, option_and_then, option_map, List, [], ◌∷◌, length, set, slice_get, ◌<◌, ◌≤◌, refl, sym, ap, ◌∙◌, subst, arith, nat_le}
use Rattle.std.proofs.{lemmas.Bool.{cases_Bool, ltb-false}, lemmas.List.{length-replicate, length-set}}
use Rattle.std.proofs.lemmas.Option.{none-some, same_Some}
use Rattle.mh_model.specs.{declared.command.Command.Command, declared.command.Event.Event}
use Rattle.mh_model.specs.{declared.config.Config.Config, declared.cycle.Phase.Phase}
use Rattle.mh_model.specs.declared.cycle.Phase.TheVariants.{Idle, Roots, Mark, Sweep, Defrag}
use Rattle.mh_model.specs.{declared.reply.Refusal.Refusal, declared.reply.Reply.Reply}
use Rattle.mh_model.specs.World.{refusal, unless_refused, most_fields}
use Rattle.mh_model.specs.Classes.{Part, class_of, part_words, parts, is_class_size}
use Rattle.mh_model.specs.Pages.{Page, Table, page_number, slot_number, block_in, least_place, page_with, with_taken, HasItsSlots}
use Rattle.mh_model.specs.Table.{Block, IsWithinLimits, HasSmallBlocks, number_index, Made, MadeParts, with_reference_at, with_number_at, new_block, made_in_class, made_parts, with_block_change, linked_block, linked_parts, group_of, made_group}
use Rattle.mh_model.specs.Collector.{Collector, first_collector, Marking, shade, mark_first, is_last_slot, survivor, judged_page, swept_page, swept_table, next_move, Move, with_move, marking_of, step_in, phase_after, collector_step, step_cost, is_moving, is_idle, quantum_start, Spending, steps, quantum}
use Rattle.mh_model.specs.Mutator.{HeapState, heap_sight, heap_effect, mutator_step}
use Rattle.mh_model.specs.Machine.{Machine, first_machine, with_collector, quantum_run, command_step, machine_after}
use Rattle.mh_model.specs.Auxiliary.{HasItsPages}
use Rattle.mh_table_laws.specs.Tables.{KeepsItsPages}
use Rattle.mh_laws.specs.{Auxiliary.{EventKeeps, TablesKeepTheirPages}, Commands.IsOnCourse}
use Rattle.mh_table_laws.proofs.Lists.{none_at}
use Rattle.mh_table_laws.proofs.tables.PageSlots.{IsSmallPage, class_of-class_size, judged_page-is, page_with-slots, page_with-small, small_page, small_block, same_limits, keeps_same, keeps_then, set-keeps, with_block-slots, with_block-limits, with_block-keeps, change-keeps, with_taken-keeps}
use Rattle.mh_table_laws.proofs.objects.Parts.{some_parts, few_fields, small_parts}
use Rattle.mh_table_laws.proofs.tables.BlockRoom.{class_of-is, class_of-fits}
use Rattle.mh_laws.proofs.commands.EachCommand.{IsKeptByWrites, IsKeptByCommands, shade-each, mark_first-each, heap_effect-each, mutator_step-each}
use Rattle.mh_laws.proofs.runs.EveryMoment.{config-mutator_step, half_step-keeps, event_step-keeps, machine_after-keeps}
use Rattle.mh_laws.proofs.{costs.Quanta.{steps-stop, steps-go}, moving.NextMove.{IsNextMove, next_move-is}}

-- New objects ------------------------------------------------------------------------------------

-- an object that is made isn't too large, for its first part has a class
made_parts-class : (part : Part) (after : List Part) (table : Table Block) (birth stamp index : ℕ) (made : MadeParts) → made_parts table birth stamp index (part ∷ after) ≡ Some made → part_words part ≤ 64
made_parts-class part after table birth stamp index made e = go (class_of (part_words part)) refl e
  where
    go : (size : Option ℕ) → class_of (part_words part) ≡ size
        → option_and_then (λ (first : Made). option_map (λ (r : MadeParts). record { places = first.place ∷ r.places; table = r.table }) (made_parts first.table birth stamp (suc index) after)) (option_and_then (made_in_class table (new_block birth stamp index part)) size) ≡ Some made → part_words part ≤ 64
    go None is h = absurd (none-some made h)
    go (Some size) is h = omega (arith, class_of-fits (part_words part) size is, (class_of-is (part_words part) size is).most)

pub made_group-fields : (table : Table Block) (birth stamp references numbers : ℕ) (made : Made) → made_group table birth stamp (parts references numbers) ≡ Some made → references + numbers ≤ 216000
made_group-fields table birth stamp references numbers made e = by_parts (made_parts table birth stamp 0 (parts references numbers)) refl e
  where
    by_list : (list : List Part) → parts references numbers ≡ list → (all : MadeParts) → made_parts table birth stamp 0 list ≡ Some all → references + numbers ≤ 216000
    by_list [] same all is = absurd (omega (arith, some_parts references numbers, ap length same))
    by_list (part ∷ after) same all is = few_fields references numbers part (ap (λ l. slice_get l 0) same) (made_parts-class part after table birth stamp 0 all is)

    by_parts : (all : Option MadeParts) → made_parts table birth stamp 0 (parts references numbers) ≡ all → option_and_then (λ m. group_of m.table m.places (parts references numbers)) all ≡ Some made → references + numbers ≤ 216000
    by_parts None is h = absurd (none-some made h)
    by_parts (Some all) is h = by_list (parts references numbers) refl all is

-- Steps ------------------------------------------------------------------------------------------

pub table-phase_after : (phase : Phase) (collector : Collector) → (phase_after phase collector).table ≡ collector.table
table-phase_after phase collector = grind arith

pub table-quantum_start : (config : Config) (collector : Collector) → (quantum_start config collector).table ≡ collector.table
table-quantum_start config collector = grind arith

judged_page-slots : (table : Table Block) (number : ℕ) (page new : Page Block) → HasItsSlots page → judged_page table number page ≡ Some new → HasItsSlots new
judged_page-slots table number page new has e = grind arith

swept_page-slots : (cycle : ℕ) (table : Table Block) (place : ℕ) (page new : Page Block) → HasItsSlots page → swept_page cycle table place page ≡ Some new → HasItsSlots new
swept_page-slots cycle table place page new has e = grind (arith, page_with-slots, judged_page-slots, same_Some)

-- If the objects that are made have at most so many fields
module _ (room : ℕ) where
  -- Tables ---------------------------------------------------------------------------------------

  kept : IsKeptByWrites (KeepsItsPages room)
  kept = record {
    same = keeps_same room;
    joined = keeps_then room;
    stamped = λ table place block stamp at.
        let stamped : Block = record block { stamp = stamp } in
        with_block-keeps room table place (Some stamped) (λ most large small new e. subst (IsWithinLimits most) (same_Some stamped new e) (same_limits most block stamped refl refl (small_block most table place block small at)));
    referred = λ table place index reference. change-keeps room table place _ (λ block. (refl, refl));
    numbered = λ table place index number. change-keeps room table place _ (λ block. (refl, refl));
  }

  pub shade-keeps : (marking : Marking) (reference : Option ℕ) → KeepsItsPages room marking.table (shade marking reference).table
  shade-keeps marking reference = shade-each (KeepsItsPages room) kept marking reference

  pub mark_first-keeps : (marking : Marking) (grey : List ℕ) → KeepsItsPages room marking.table (mark_first marking grey).table
  mark_first-keeps marking grey = mark_first-each (KeepsItsPages room) kept marking grey

  -- the parts from this number on are within the limits
  abbrev AreSmallParts : ℕ → List Part → Type 0
  AreSmallParts index parts = (i : ℕ) (part : Part) → slice_get parts i ≡ Some part → (part.header.references + part.header.numbers ≤ room) × (index + i < 3661)

  made_parts-keeps : (parts : List Part) (table : Table Block) (birth stamp index : ℕ) (made : MadeParts) → AreSmallParts index parts → made_parts table birth stamp index parts ≡ Some made → KeepsItsPages room table made.table
  made_parts-keeps [] table birth stamp index made few e = subst (λ m. KeepsItsPages room table m.table) (same_Some (record { places = []; table = table }) made e) (keeps_same room table)
  made_parts-keeps (part ∷ after) table birth stamp index made few e = by_class (class_of (part_words part)) refl e (λ t m. made_parts-keeps after t birth stamp (suc index) m later)
    where
      later : AreSmallParts (suc index) after
      later i next at = let (fields, number) = few (suc i) next at in (fields, omega (arith, number))

      here : (most : ℕ) → room ≤ most → IsWithinLimits most (new_block birth stamp index part)
      here most large = let (fields, number) = few 0 part refl in record { fields = omega (arith, fields, large); part = omega (arith, number) }

      block : Block
      block = new_block birth stamp index part

      -- the parts after a first one
      rest_of : Made → Option MadeParts
      rest_of first = option_map (λ (r : MadeParts). record { places = first.place ∷ r.places; table = r.table }) (made_parts first.table birth stamp (suc index) after)

      by_rest : (first : Made) (rest : Option MadeParts) → made_parts first.table birth stamp (suc index) after ≡ rest → option_map (λ (r : MadeParts). record { places = first.place ∷ r.places; table = r.table }) rest ≡ Some made
          → ((m : MadeParts) → made_parts first.table birth stamp (suc index) after ≡ Some m → KeepsItsPages room first.table m.table) → KeepsItsPages room first.table made.table
      by_rest first None is h more = absurd (none-some made h)
      by_rest first (Some rest) is h more = subst (λ m. KeepsItsPages room first.table m.table) (same_Some (record { places = first.place ∷ rest.places; table = rest.table }) made h) (more rest is)

      by_place : (size : ℕ) → class_of (part_words part) ≡ Some size → (place : Option ℕ) → option_and_then rest_of (option_map (λ p. record { place = p; table = with_taken table size p block }) place) ≡ Some made
          → ((t : Table Block) (m : MadeParts) → made_parts t birth stamp (suc index) after ≡ Some m → KeepsItsPages room t m.table) → KeepsItsPages room table made.table
      by_place size is None h more = absurd (none-some made h)
      by_place size is (Some p) h more =
          let first : Made = record { place = p; table = with_taken table size p block } in
          keeps_then room table first.table made.table (with_taken-keeps room table size p block (λ shaped. class_of-class_size (part_words part) size is) (λ most large small. here most large)) (by_rest first (made_parts first.table birth stamp (suc index) after) refl h (more first.table))

      by_class : (size : Option ℕ) → class_of (part_words part) ≡ size → option_and_then rest_of (option_and_then (made_in_class table block) size) ≡ Some made
          → ((t : Table Block) (m : MadeParts) → made_parts t birth stamp (suc index) after ≡ Some m → KeepsItsPages room t m.table) → KeepsItsPages room table made.table
      by_class None is h more = absurd (none-some made h)
      by_class (Some size) is h more = by_place size is (least_place table size) h more

  linked_parts-keeps : (all places : List ℕ) (parts : List Part) (table : Table Block) → KeepsItsPages room table (linked_parts all table places parts)
  linked_parts-keeps all (place ∷ places) (part ∷ parts) table =
      let one : Table Block = with_block_change table place (linked_block all part) in
      keeps_then room table one (linked_parts all one places parts) (change-keeps room table place _ (λ block. (refl, refl))) (linked_parts-keeps all places parts one)
  linked_parts-keeps all places parts table = keeps_same room table

  group_of-keeps : (table : Table Block) (places : List ℕ) (parts : List Part) (made : Made) → group_of table places parts ≡ Some made → KeepsItsPages room table made.table
  group_of-keeps table [] parts made e = absurd (none-some made e)
  group_of-keeps table (place ∷ places) parts made e =
      subst (λ m. KeepsItsPages room table m.table) (same_Some (record { place = place; table = linked_parts (place ∷ places) table (place ∷ places) parts }) made e) (linked_parts-keeps (place ∷ places) (place ∷ places) parts table)

  -- making an object keeps the pages
  pub made_group-keeps : (table : Table Block) (birth stamp references numbers : ℕ) (made : Made) → references + numbers ≤ room → made_group table birth stamp (parts references numbers) ≡ Some made → KeepsItsPages room table made.table
  made_group-keeps table birth stamp references numbers made fields e = go (made_parts table birth stamp 0 (parts references numbers)) refl e
    where
      few : AreSmallParts 0 (parts references numbers)
      few i part at = let (header, number) = small_parts references numbers i part (made_group-fields table birth stamp references numbers made e) at in (omega (arith, header, fields), number)

      go : (all : Option MadeParts) → made_parts table birth stamp 0 (parts references numbers) ≡ all → option_and_then (λ m. group_of m.table m.places (parts references numbers)) all ≡ Some made → KeepsItsPages room table made.table
      go None is h = absurd (none-some made h)
      go (Some all) is h = search (arith, keeps_then, made_parts-keeps, few, group_of-keeps)

  -- Commands -------------------------------------------------------------------------------------

  on_course : (collector : Collector) → IsOnCourse room collector collector
  on_course collector = grind arith

  then_on_course : (first second third : Collector) → IsOnCourse room first second → IsOnCourse room second third → IsOnCourse room first third
  then_on_course first second third one two = record { pages = two.pages ∙ one.pages; slots = λ slots. two.slots (one.slots slots); limits = λ most large small. two.limits most large (one.limits most large small); phase = two.phase ∙ one.phase; cursor = two.cursor ∙ one.cursor; cycle = two.cycle ∙ one.cycle; is_asked = two.is_asked ∙ one.is_asked; quanta = two.quanta ∙ one.quanta }

  -- a collector with another table whose pages are kept, and with another grey list and other slots
  other_table : (collector : Collector) (table : Table Block) (grey : List ℕ) (slots : List (Option ℕ)) → KeepsItsPages room collector.table table → IsOnCourse room collector (record collector { table = table; grey = grey; slots = slots })
  other_table collector table grey slots pages = grind arith

  course : IsKeptByCommands (IsOnCourse room)
  course = record {
    same = on_course;
    joined = then_on_course;
    shaded = λ collector reference inside. let shaded : Marking = shade (marking_of collector) reference in other_table collector shaded.table shaded.grey collector.slots (shade-keeps (marking_of collector) reference);
    rooted = λ collector slot reference. other_table collector collector.table collector.grey (set collector.slots slot reference) (keeps_same room collector.table);
    referred = λ collector position reference. other_table collector (with_reference_at collector.table position.place position.index reference) collector.grey collector.slots (kept.referred collector.table position.place position.index reference);
    numbered = λ collector position number. other_table collector (with_number_at collector.table position.place (number_index collector.table position) number) collector.grey collector.slots (kept.numbered collector.table position.place (number_index collector.table position) number);
  }

  -- Steps and quanta -----------------------------------------------------------------------------

  swept_page-small : (most cycle : ℕ) (table : Table Block) (place : ℕ) (page new : Page Block) → IsSmallPage most page → swept_page cycle table place page ≡ Some new → IsSmallPage most new
  swept_page-small most cycle table place page new small e = go (is_last_slot place page) e
    where
      swept : Page Block
      swept = page_with (slot_number place) (option_and_then (survivor cycle) (block_in (slot_number place) page)) page

      swept_small : IsSmallPage most swept
      swept_small = page_with-small most page (slot_number place) _ small (λ block left. by_slot (block_in (slot_number place) page) refl block left)
        where
          by_slot : (content : Option Block) → block_in (slot_number place) page ≡ content → (block : Block) → option_and_then (survivor cycle) content ≡ Some block → IsWithinLimits most block
          by_slot content at block left = grind arith

      go : (last : Bool) → (if last then judged_page table (page_number place) swept else Some swept) ≡ Some new → IsSmallPage most new
      go last h = search (arith, judged_page-is, swept, same_Some, swept_small)

  swept_table-keeps : (cycle : ℕ) (table : Table Block) (place : ℕ) → KeepsItsPages room table (swept_table cycle table place)
  swept_table-keeps cycle table place = search (arith, set-keeps, slots, limits, small_page)
    where
      slots : (content : Option (Page Block)) → ((p : Page Block) → content ≡ Some p → HasItsSlots p) → (new : Page Block) → option_and_then (swept_page cycle table place) content ≡ Some new → HasItsSlots new
      slots content has new e = grind (arith, none-some, swept_page-slots)

      limits : (most : ℕ) (content : Option (Page Block)) → ((p : Page Block) → content ≡ Some p → IsSmallPage most p) → (new : Page Block) → option_and_then (swept_page cycle table place) content ≡ Some new → IsSmallPage most new
      limits most None small new e = absurd (none-some new e)
      limits most (Some page) small new e = swept_page-small most cycle table place page new (small page refl) e

  pub with_move-keeps : (collector : Collector) (move : Option Move) → next_move collector.table collector.cursor ≡ move → KeepsItsPages room collector.table (with_move collector move).table
  with_move-keeps collector None is = keeps_same room collector.table
  with_move-keeps collector (Some move) is = record {
    pages = length-set taken (page_number collector.cursor) _ ∙ first.pages;
    slots = λ shaped. with_block-slots taken collector.cursor (Some forwarder) (first.slots shaped);
    limits = λ most large small. with_block-limits most taken collector.cursor (Some forwarder) (λ block e. subst (IsWithinLimits most) (same_Some forwarder block e) (same_limits most move.block forwarder refl refl (moved most large small))) (first.limits most large small);
  }
    where
      taken : Table Block
      taken = with_taken collector.table move.class_size move.target move.block

      forwarder : Block
      forwarder = record (move.block) { forward = Some move.target }

      one : IsNextMove collector.table collector.cursor move
      one = next_move-is collector.table collector.cursor move is

      moved : (most : ℕ) → room ≤ most → HasSmallBlocks most collector.table → IsWithinLimits most move.block
      moved most large small = grind arith

      first : KeepsItsPages room collector.table taken
      first = with_taken-keeps room collector.table move.class_size move.target move.block (λ shaped. ap is_class_size (sym one.class) ∙ (shaped (page_number collector.cursor) one.page one.in_use).class) moved

  pub step_in-keeps : (phase : Phase) (collector : Collector) → KeepsItsPages room collector.table (step_in phase collector).table
  step_in-keeps Idle collector = keeps_same room collector.table
  step_in-keeps Roots collector = shade-keeps (marking_of collector) _
  step_in-keeps Mark collector = mark_first-keeps (marking_of collector) collector.grey
  step_in-keeps Sweep collector = swept_table-keeps collector.cycle collector.table collector.cursor
  step_in-keeps Defrag collector = with_move-keeps collector (next_move collector.table collector.cursor) refl

  -- A step keeps the pages
  pub collector_step-keeps : (collector : Collector) → KeepsItsPages room collector.table (collector_step collector).table
  unfolding collector_step
  collector_step-keeps collector = search (arith, table-phase_after, step_in-keeps)

  pub steps-keeps : (more left : ℕ) (has_moved : Bool) (collector : Collector) → KeepsItsPages room collector.table (steps more left has_moved collector).collector.table
  unfolding steps
  steps-keeps zero left has_moved collector = keeps_same room collector.table
  steps-keeps (suc more) left has_moved collector = elim (cases_Bool (is_idle collector.phase || nat_lt left (step_cost collector has_moved))) [
    | inl stops ↦ subst (λ s. KeepsItsPages room collector.table s.collector.table) (sym (steps-stop more left has_moved collector stops)) (keeps_same room collector.table)
    | inr goes ↦
        let rest : Spending = steps more (left - step_cost collector has_moved) (has_moved || is_moving collector) (collector_step collector) in
        subst (λ s. KeepsItsPages room collector.table s.collector.table) (sym (steps-go more left has_moved collector goes))
        (keeps_then room collector.table (collector_step collector).table rest.collector.table (collector_step-keeps collector) (steps-keeps more (left - step_cost collector has_moved) (has_moved || is_moving collector) (collector_step collector)))
  ]

  -- and so does a quantum
  pub quantum-keeps : (config : Config) (collector : Collector) → KeepsItsPages room collector.table (quantum config collector).collector.table
  unfolding quantum
  quantum-keeps config collector = subst (λ t. KeepsItsPages room t (quantum config collector).collector.table) (table-quantum_start config collector) (steps-keeps config.quantum config.quantum false (quantum_start config collector))

-- Commands ---------------------------------------------------------------------------------------

-- A command of a session leaves the collector's course: its pages, phase, cursor, cycle number, asking and quanta
pub mutator_step-course : (heap : HeapState) (who : ℕ) (c : Command) → IsOnCourse (most_fields heap.config) heap.collector (mutator_step heap who c).state.collector
mutator_step-course heap who c =
    let room : ℕ = most_fields heap.config in
    mutator_step-each (IsOnCourse room) (course room) heap who c (λ allows. heap_effect-each (IsOnCourse room) (course room) heap who c (λ slot references numbers is made e.
    let fields = allowed slot references numbers (ap (refusal (heap_sight heap) who) (sym is) ∙ allows) in
    other_table room heap.collector made.table heap.collector.grey heap.collector.slots (made_group-keeps room heap.collector.table heap.next_birth heap.collector.cycle references numbers made fields e)))
  where
    allowed : (slot references numbers : ℕ) → refusal (heap_sight heap) who (Command.New slot references numbers) ≡ None → references + numbers ≤ most_fields heap.config
    allowed slot references numbers e = grind (arith, ltb-false, nat_le, none-some)

effect-refused : (heap : HeapState) (who : ℕ) (command : Command) (refused : Refusal) → (heap_effect heap who command).reply ≡ Reply.Refused refused → (heap_effect heap who command).state ≡ heap
unfolding heap_effect
effect-refused heap who asked refused e = grind arith

-- A command that is answered by a refusal leaves the heap as it was
pub mutator_step-refused : (heap : HeapState) (who : ℕ) (command : Command) (refused : Refusal) → (mutator_step heap who command).reply ≡ Reply.Refused refused → (mutator_step heap who command).state ≡ heap
unfolding mutator_step
mutator_step-refused heap who command refused e = go (refusal (heap_sight heap) who command) e
  where
    go : (answer : Option Refusal) → (unless_refused answer heap (heap_effect heap who command)).reply ≡ Reply.Refused refused → (unless_refused answer heap (heap_effect heap who command)).state ≡ heap
    go None h = effect-refused heap who command refused h
    go (Some answer) h = refl

-- Events -----------------------------------------------------------------------------------------

quantum_run-keeps : (machine : Machine) → KeepsItsPages (most_fields machine.heap.config) machine.heap.collector.table (quantum_run machine).state.heap.collector.table
unfolding quantum_run
quantum_run-keeps machine = search (arith, quantum-keeps)

command_step-keeps : (machine : Machine) (who : ℕ) (command : Command) → KeepsItsPages (most_fields machine.heap.config) machine.heap.collector.table (command_step machine who command).state.heap.collector.table
unfolding command_step
command_step-keeps machine who command = grind (arith, mutator_step-course machine.heap who command)

-- the pages of this table are kept by what happens to a machine of this configuration
module _ (config : Config) (table : Table Block) where
  abbrev Keeps : Machine → Type 0
  Keeps machine = (machine.heap.config ≡ config) × KeepsItsPages (most_fields config) table machine.heap.collector.table

  -- what is kept of a machine's own table
  kept-on : (machine : Machine) (new : Table Block) → Keeps machine → KeepsItsPages (most_fields machine.heap.config) machine.heap.collector.table new → KeepsItsPages (most_fields config) table new
  kept-on machine new (same, keeps) more = keeps_then (most_fields config) table machine.heap.collector.table new keeps (subst (λ c. KeepsItsPages (most_fields c) machine.heap.collector.table new) same more)

  by_command : (machine : Machine) (who : ℕ) (command : Command) → Keeps machine → Keeps (command_step machine who command).state
  unfolding command_step
  by_command machine who command keeps = (config-mutator_step machine.heap who command ∙ keeps.0, kept-on machine (command_step machine who command).state.heap.collector.table keeps (command_step-keeps machine who command))

  by_quantum : (machine : Machine) → Keeps machine → Keeps (quantum_run machine).state
  unfolding quantum_run
  by_quantum machine keeps = (keeps.0, kept-on machine (quantum_run machine).state.heap.collector.table keeps (quantum_run-keeps machine))

  by_asking : (machine : Machine) → Keeps machine → Keeps (with_collector machine (record (machine.heap.collector) { is_asked = true }))
  by_asking machine keeps = keeps

-- An event keeps the pages
pub event-keeps : (machine : Machine) (event : Event) → EventKeeps machine event
event-keeps machine event =
    let config : Config = machine.heap.config in
    let table : Table Block = machine.heap.collector.table in
    record {
      half = (half_step-keeps (Keeps config table) (by_command config table) (by_quantum config table) (by_asking config table) machine event (refl, keeps_same (most_fields config) table)).1;
      whole = (event_step-keeps (Keeps config table) (by_command config table) (by_quantum config table) (by_asking config table) machine event (refl, keeps_same (most_fields config) table)).1;
    }

-- the pages of the first table are free
pub first_table-pages : (config : Config) → HasItsPages config (first_collector config).table
first_table-pages config = record { pages = length-replicate config.pages None; slots = λ number page at. absurd (none-some page (sym (none_at config.pages number) ∙ at)); limits = record { blocks = λ number slot page block at. absurd (none-some page (sym (none_at config.pages number) ∙ at)) } }

pub machine_after-pages : (config : Config) (events : List Event) → HasItsPages config (machine_after (first_machine config) events).heap.collector.table
machine_after-pages config events =
    let first = first_table-pages config in
    let table : Table Block = (first_collector config).table in
    let kept = (machine_after-keeps (Keeps config table) (by_command config table) (by_quantum config table) (by_asking config table) events (first_machine config) (refl, keeps_same (most_fields config) table)).1 in
    record { pages = kept.pages ∙ first.pages; slots = kept.slots first.slots; limits = kept.limits (most_fields config) (omega arith) first.limits }

kept-pages : (config : Config) (made : ℕ) (old new : Table Block) → made ≤ most_fields config → KeepsItsPages made old new → HasItsPages config old → HasItsPages config new
kept-pages config made old new room keeps has = record { pages = keeps.pages ∙ has.pages; slots = keeps.slots has.slots; limits = keeps.limits (most_fields config) room has.limits }

-- A heap's table keeps its pages
pub tables-keep : TablesKeepTheirPages
tables-keep = record {
  commands = λ heap who command has. let course = mutator_step-course heap who command in kept-pages heap.config (most_fields heap.config) heap.collector.table _ (omega arith) (record { pages = course.pages; slots = course.slots; limits = course.limits }) has;
  steps = λ config collector has. kept-pages config 0 collector.table _ (omega arith) (collector_step-keeps 0 collector) has;
  quanta = λ config collector has. kept-pages config 0 collector.table _ (omega arith) (quantum-keeps 0 config collector) has;
  made = λ config table birth stamp references numbers made fields e has. kept-pages config (references + numbers) table made.table fields (made_group-keeps (references + numbers) table birth stamp references numbers made (omega arith) e) has;
}
