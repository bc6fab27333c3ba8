-- Forwarders of a run lead to places of 4,096 pages: each is made with the place of its copy, and no other step writes one.
use Rattle.std.proofs.Common.{◌≡◌, ℕ, zero, suc, ◌-◌, ◌<◌, ◌||◌, nat_lt, Bool, true, inl, inr, List, [], ◌∷◌, set, Option, Some, None, option_map, option_and_then, refl, sym, ◌∙◌, subst, arith}
use Rattle.std.proofs.{lemmas.Bool.cases_Bool, lemmas.Option.{none-some, same_Some}}
use Rattle.mh_model.specs.{declared.command.Command.Command, declared.command.Event.Event}
use Rattle.mh_model.specs.{declared.config.Config.Config, declared.cycle.Phase.Phase}
use Rattle.mh_model.specs.Classes.{Part, class_of, part_words, parts, slots_in}
use Rattle.mh_model.specs.Pages.{Page, Table, page_number, slot_number, page_at, block_in, block_at, page_with, with_block, page_for, with_taken}
use Rattle.mh_model.specs.Table.{Block, Made, MadeParts, new_block, made_in_class, made_part, made_parts, with_block_change, linked_block, linked_parts, group_of, made_group}
use Rattle.mh_model.specs.Collector.{Collector, first_collector, swept_page, swept_table, next_move, Move, with_move, step_in, collector_step, step_cost, is_moving, is_idle, Spending, steps, quantum}
use Rattle.mh_model.specs.Mutator.{HeapState, mutator_step}
use Rattle.mh_model.specs.Machine.{Machine, first_machine, with_collector, quantum_run, command_step, machine_after}
use Rattle.mh_model.specs.Auxiliary.{HasItsPages}
use Rattle.mh_table_laws.proofs.Lists.{below_length, get_or-set_either, none_at}
use Rattle.mh_table_laws.proofs.{placing.Places.{least_dense_place-page, shaped-slots}, tables.BlockRoom.survivor-same}
use Rattle.mh_table_laws.proofs.tables.PageSlots.{judged_page-is}
use Rattle.mh_laws.proofs.commands.EachCommand.{IsKeptByWrites, shade-each, mark_first-each, over_tables, heap_effect-each, mutator_step-each}
use Rattle.mh_laws.proofs.commands.LeftUnchanged.{table-phase_after, table-quantum_start, tables-keep, first_table-pages}
use Rattle.mh_laws.proofs.{costs.Quanta.{steps-stop, steps-go}, moving.NextMove.{IsNextMove, next_move-is}}
use Rattle.mh_laws.proofs.runs.EveryMoment.{config-mutator_step, machine_after-keeps}
use Rattle.mh_text_laws.proofs.round_trips.HeaderRoundTrips.{config_limits}

-- Options ----------------------------------------------------------------------------------------

pub and_then-some : {A B : Type 0} (f : A → Option B) (o : Option A) (b : B) → option_and_then f o ≡ Some b → (a : A) × (o ≡ Some a) × (f a ≡ Some b)
and_then-some f o b e = grind (arith, none-some)

pub map-some : {A B : Type 0} (f : A → B) (o : Option A) (b : B) → option_map f o ≡ Some b → (a : A) × (o ≡ Some a) × (f a ≡ b)
map-some f o b e = grind (arith, none-some, same_Some)

-- Blocks and pages -------------------------------------------------------------------------------

-- so many places have 4,096 pages
abbrev pub most_places : ℕ
most_places = 262144

-- if the block is a forwarder, it leads to one of them
pub record IsNear (block : Block) : Type 0 where
  pub target : (place : ℕ) → block.forward ≡ Some place → place < most_places

pub record IsNearPage (page : Page Block) : Type 0 where
  pub blocks : (slot : ℕ) (block : Block) → block_in slot page ≡ Some block → IsNear block

pub record IsNearTable (table : Table Block) : Type 0 where
  pub pages : (number : ℕ) (page : Page Block) → page_at table number ≡ Some page → IsNearPage page

same_near : (block new : Block) → new.forward ≡ block.forward → IsNear block → IsNear new
same_near block new same near = record { target = λ place e. near.target place (sym same ∙ e) }

plain_near : (block : Block) → block.forward ≡ None → IsNear block
plain_near block none = record { target = λ place e. absurd (none-some place (sym none ∙ e)) }

near_block : (table : Table Block) (place : ℕ) (block : Block) → IsNearTable table → block_at table place ≡ Some block → IsNear block
near_block table place block near e =
    let (page, at, there) = and_then-some (block_in (slot_number place)) (page_at table (page_number place)) block e in
    (near.pages (page_number place) page at).blocks (slot_number place) block there

page_with-near : (page : Page Block) (slot : ℕ) (content : Option Block) → IsNearPage page → ((block : Block) → content ≡ Some block → IsNear block) → IsNearPage (page_with slot content page)
page_with-near page slot content near new = record {
  blocks = λ other block e. elim (get_or-set_either page.slots slot other content None (Some block) e) [ inl written ↦ new block written | inr before ↦ near.blocks other block before ];
}

page_for-near : (size : ℕ) (content : Option (Page Block)) → ((page : Page Block) → content ≡ Some page → IsNearPage page) → IsNearPage (page_for size content)
page_for-near size None near = record { blocks = λ slot block e. absurd (none-some block (sym (none_at (slots_in size) slot) ∙ e)) }
page_for-near size (Some page) near = near page refl

set-near : (table : Table Block) (number : ℕ) (new : Option (Page Block)) → ((page : Page Block) → new ≡ Some page → IsNearPage page) → IsNearTable table → IsNearTable (set table number new)
set-near table number new fits near = record {
  pages = λ other page at. elim (get_or-set_either table number other new None (Some page) at) [ inl written ↦ fits page written | inr before ↦ near.pages other page before ];
}

with_block-near : (table : Table Block) (place : ℕ) (content : Option Block) → ((block : Block) → content ≡ Some block → IsNear block) → IsNearTable table → IsNearTable (with_block table place content)
with_block-near table place content new near = set-near table (page_number place) _ written near
  where
    written : (page : Page Block) → option_map (page_with (slot_number place) content) (page_at table (page_number place)) ≡ Some page → IsNearPage page
    written page e = grind (arith, map-some, page_with-near)

-- a block changed that leads where it led
change-near : (table : Table Block) (place : ℕ) (change : Block → Block) → ((block : Block) → (change block).forward ≡ block.forward) → IsNearTable table → IsNearTable (with_block_change table place change)
change-near table place change same near = with_block-near table place (option_map change (block_at table place)) written near
  where
    written : (block : Block) → option_map change (block_at table place) ≡ Some block → IsNear block
    written block e =
        let (old, at, is) = map-some change (block_at table place) block e in
        subst IsNear is (same_near old (change old) (same old) (near_block table place old near at))

with_taken-near : (table : Table Block) (size place : ℕ) (block : Block) → IsNear block → IsNearTable table → IsNearTable (with_taken table size place block)
with_taken-near table size place block here near = set-near table (page_number place) _ written near
  where
    taken : Page Block
    taken = page_for size (page_at table (page_number place))

    written : (page : Page Block) → Some (page_with (slot_number place) (Some block) taken) ≡ Some page → IsNearPage page
    written page e = grind (arith, same_Some, page_with-near, page_for-near)

-- the forwarders of the second are near if those of the first are
abbrev StaysNear : Table Block → Table Block → Type 0
StaysNear old new = IsNearTable old → IsNearTable new

stays_near : IsKeptByWrites StaysNear
stays_near = record {
  same = λ table near. near;
  joined = λ first second third one two near. two (one near);
  stamped = λ table place block stamp at near.
      let stamped : Block = record block { stamp = stamp } in
      with_block-near table place (Some stamped) (λ new e. subst IsNear (same_Some stamped new e) (same_near block stamped refl (near_block table place block near at))) near;
  referred = λ table place index reference near. change-near table place _ (λ block. refl) near;
  numbered = λ table place index number near. change-near table place _ (λ block. refl) near;
}

-- New objects ------------------------------------------------------------------------------------

made_part-near : (table : Table Block) (birth stamp index : ℕ) (part : Part) (made : Made) → made_part table birth stamp index part ≡ Some made → IsNearTable table → IsNearTable made.table
made_part-near table birth stamp index part made e near =
    let block : Block = new_block birth stamp index part in
    let (size, is, placed) = and_then-some (made_in_class table block) (class_of (part_words part)) made e in
    grind (arith, map-some, with_taken-near, plain_near)

made_parts-near : (list : List Part) (table : Table Block) (birth stamp index : ℕ) (made : MadeParts) → made_parts table birth stamp index list ≡ Some made → IsNearTable table → IsNearTable made.table
made_parts-near [] table birth stamp index made e near = subst (λ (m : MadeParts). IsNearTable m.table) (same_Some (record { places = []; table = table }) made e) near
made_parts-near (part ∷ list) table birth stamp index made e near =
    let (first, is, others) = and_then-some
    (λ (first : Made). option_map (λ (rest : MadeParts). record { places = first.place ∷ rest.places; table = rest.table }) (made_parts first.table birth stamp (suc index) list))
    (made_part table birth stamp index part) made e in
    let (rest, all, same) = map-some (λ (rest : MadeParts). record { places = first.place ∷ rest.places; table = rest.table }) (made_parts first.table birth stamp (suc index) list) made others in
    subst (λ (m : MadeParts). IsNearTable m.table) same (made_parts-near list first.table birth stamp (suc index) rest all (made_part-near table birth stamp index part first is near))

linked_parts-near : (all places : List ℕ) (list : List Part) (table : Table Block) → IsNearTable table → IsNearTable (linked_parts all table places list)
linked_parts-near all (place ∷ places) (part ∷ list) table near =
    linked_parts-near all places list (with_block_change table place (linked_block all part)) (change-near table place (linked_block all part) (λ block. refl) near)
linked_parts-near all places list table near = near

group_of-near : (table : Table Block) (places : List ℕ) (list : List Part) (made : Made) → group_of table places list ≡ Some made → IsNearTable table → IsNearTable made.table
group_of-near table [] list made e near = absurd (none-some made e)
group_of-near table (place ∷ places) list made e near =
    subst (λ (m : Made). IsNearTable m.table) (same_Some (record { place = place; table = linked_parts (place ∷ places) table (place ∷ places) list }) made e)
    (linked_parts-near (place ∷ places) (place ∷ places) list table near)

made_group-near : (table : Table Block) (birth stamp : ℕ) (list : List Part) (made : Made) → made_group table birth stamp list ≡ Some made → IsNearTable table → IsNearTable made.table
made_group-near table birth stamp list made e near = grind (arith, and_then-some, group_of-near, made_parts-near)

-- Sweep and moves --------------------------------------------------------------------------------

swept_page-near : (cycle : ℕ) (table : Table Block) (place : ℕ) (page new : Page Block) → IsNearPage page → swept_page cycle table place page ≡ Some new → IsNearPage new
swept_page-near cycle table place page new near e = grind (arith, and_then-some, survivor-same, page_with-near, judged_page-is, same_Some)

swept_table-near : (cycle : ℕ) (table : Table Block) (place : ℕ) → IsNearTable table → IsNearTable (swept_table cycle table place)
swept_table-near cycle table place near = set-near table (page_number place) _ written near
  where
    written : (new : Page Block) → option_and_then (swept_page cycle table place) (page_at table (page_number place)) ≡ Some new → IsNearPage new
    written new e =
        let (page, at, is) = and_then-some (swept_page cycle table place) (page_at table (page_number place)) new e in
        swept_page-near cycle table place page new (near.pages (page_number place) page at) is

module _ (config : Config) where
  -- the first tier gives a place of the table
  place_near : (table : Table Block) (place : ℕ) (page : Page Block) → HasItsPages config table → page_at table (page_number place) ≡ Some page → place < most_places
  place_near table place page has at = omega (arith, below_length table (page_number place) page at, has.pages, (config_limits config).pages_most)

  with_move-near : (collector : Collector) (move : Option Move) → next_move collector.table collector.cursor ≡ move → HasItsPages config collector.table → IsNearTable collector.table → IsNearTable (with_move collector move).table
  with_move-near collector None is has near = near
  with_move-near collector (Some move) is has near = grind (arith, with_block-near, taken, forwarder, same_Some, leads, with_taken-near, plain_near)
    where
      taken : Table Block
      taken = with_taken collector.table move.class_size move.target move.block

      forwarder : Block
      forwarder = record (move.block) { forward = Some move.target }

      one : IsNextMove collector.table collector.cursor move
      one = next_move-is collector.table collector.cursor move is

      leads : IsNear forwarder
      leads =
          let there = least_dense_place-page collector.table move.class_size (shaped-slots collector.table has.slots) move.target one.target in
          record { target = λ place e. subst (λ p. p < most_places) (same_Some move.target place e) (place_near collector.table move.target there.0 has there.1) }

  step_in-near : (phase : Phase) (collector : Collector) → HasItsPages config collector.table → IsNearTable collector.table → IsNearTable (step_in phase collector).table
  step_in-near phase collector has near = grind (arith, shade-each, stays_near, mark_first-each, swept_table-near, with_move-near)

  collector_step-near : (collector : Collector) → HasItsPages config collector.table → IsNearTable collector.table → IsNearTable (collector_step collector).table
  unfolding collector_step
  collector_step-near collector has near = rw (table-phase_after collector.phase (step_in collector.phase collector)) (step_in-near collector.phase collector has near)

  steps-near : (more left : ℕ) (has_moved : Bool) (collector : Collector) → HasItsPages config collector.table → IsNearTable collector.table → IsNearTable (steps more left has_moved collector).collector.table
  unfolding steps
  steps-near zero left has_moved collector has near = near
  steps-near (suc more) left has_moved collector has near = elim (cases_Bool (is_idle collector.phase || nat_lt left (step_cost collector has_moved))) [
    | inl stops ↦ subst (λ (s : Spending). IsNearTable s.collector.table) (sym (steps-stop more left has_moved collector stops)) near
    | inr goes ↦
        subst (λ (s : Spending). IsNearTable s.collector.table) (sym (steps-go more left has_moved collector goes))
        (steps-near more (left - step_cost collector has_moved) (has_moved || is_moving collector) (collector_step collector) (tables-keep.steps config collector has) (collector_step-near collector has near))
  ]

  quantum-near : (collector : Collector) → HasItsPages config collector.table → IsNearTable collector.table → IsNearTable (quantum config collector).collector.table
  unfolding quantum
  quantum-near collector has near = grind (arith, table-quantum_start, steps-near)

-- Commands ---------------------------------------------------------------------------------------

mutator_step-near : (heap : HeapState) (who : ℕ) (c : Command) → IsNearTable heap.collector.table → IsNearTable (mutator_step heap who c).state.collector.table
mutator_step-near heap who c near = mutator_step-each _ (over_tables StaysNear stays_near) heap who c
    (λ allowed. heap_effect-each _ (over_tables StaysNear stays_near) heap who c (λ slot references numbers is made e. made_group-near heap.collector.table heap.next_birth heap.collector.cycle (parts references numbers) made e)) near

-- Runs -------------------------------------------------------------------------------------------

module _ (config : Config) where
  -- a machine of this configuration with its pages, whose forwarders are near
  record IsFit (machine : Machine) : Type 0 where
    config_is : machine.heap.config ≡ config
    has : HasItsPages config machine.heap.collector.table
    near : IsNearTable machine.heap.collector.table

  by_command : (machine : Machine) (who : ℕ) (c : Command) → IsFit machine → IsFit (command_step machine who c).state
  unfolding command_step
  by_command machine who c fit = record {
    config_is = config-mutator_step machine.heap who c ∙ fit.config_is;
    has = subst (λ (k : Config). HasItsPages k (mutator_step machine.heap who c).state.collector.table) fit.config_is
        (tables-keep.commands machine.heap who c (subst (λ (k : Config). HasItsPages k machine.heap.collector.table) (sym fit.config_is) fit.has));
    near = mutator_step-near machine.heap who c fit.near;
  }

  by_quantum : (machine : Machine) → IsFit machine → IsFit (quantum_run machine).state
  unfolding quantum_run
  by_quantum machine fit =
      let own : HasItsPages machine.heap.config machine.heap.collector.table = subst (λ (k : Config). HasItsPages k machine.heap.collector.table) (sym fit.config_is) fit.has in
      record {
        config_is = fit.config_is;
        has = subst (λ (k : Config). HasItsPages k (quantum machine.heap.config machine.heap.collector).collector.table) fit.config_is (tables-keep.quanta machine.heap.config machine.heap.collector own);
        near = quantum-near machine.heap.config machine.heap.collector own fit.near;
      }

  by_asking : (machine : Machine) → IsFit machine → IsFit (with_collector machine (record (machine.heap.collector) { is_asked = true }))
  by_asking machine fit = record { config_is = fit.config_is; has = fit.has; near = fit.near }

  first_near : IsNearTable (first_collector config).table
  first_near = record { pages = λ number page at. absurd (none-some page (sym (none_at config.pages number) ∙ at)) }

  -- after every list of events
  pub run-near : (events : List Event) → IsNearTable (machine_after (first_machine config) events).heap.collector.table
  run-near events = (machine_after-keeps IsFit by_command by_quantum by_asking events (first_machine config) (record { config_is = refl; has = first_table-pages config; near = first_near })).near
