-- Dumps and stats of a run are well formed: pages and slots ascend, and their numbers are in range.
use Rattle.std.proofs.Common.{◌≡◌, ◌∙◌, ℕ, suc, ◌+◌, ◌*◌, ◌/◌, ◌%◌, ◌<◌, ◌≤◌, ◌^◌, not, nat_le, Bool, true, List, [], ◌∷◌, ◌++◌, length, filter, get_or, Option, Some, None, option_and_then, ap, refl, arith, length-append}
use Rattle.std.proofs.{lemmas.List.Filters.length-filter_both, lemmas.Bool.{and_from, leb-true, ltb-true, lt-ltb}}
use Rattle.mh_model.specs.{declared.command.Event.Event, declared.config.Config.Config, declared.dump.DumpItem.DumpItem}
use Rattle.mh_model.specs.{declared.history.Version.TheVariants.Two, declared.reply.Reply.Reply}
use Rattle.mh_model.specs.{Classes.{class_sizes, is_class_size}, Collector.Collector, Forms.u64}
use Rattle.mh_model.specs.Machine.{Machine, blocks_in, blocks_of, dump_block, dump_pages, dump_slots, first_machine, machine_after, stat_on}
use Rattle.mh_model.specs.Pages.{Page, Table, block_at, block_in, free_pages, page_at}
use Rattle.mh_model.specs.{Replies.{are_u64, ascends, is_after, is_reply, item_numbers, items_in_range}, Table.Block}
use Rattle.mh_table_laws.proofs.{Lists.{below_length, member-passes}, tables.PageSlots.slots_in-class_size}
use Rattle.mh_laws.proofs.{commands.LeftUnchanged.machine_after-pages, snapshots.RunningCycles.moments_keep}
use Rattle.mh_run_laws.proofs.bounds.WithinEvents.{runs_within_events}
use Rattle.mh_text_laws.proofs.{round_trips.HeaderRoundTrips.config_limits, run_histories.Forwarders.{IsNear, run-near}}

-- Ascending --------------------------------------------------------------------------------------

after-next : (last : Option ℕ) (n : ℕ) → is_after last n ≡ true → is_after last (suc n) ≡ true
after-next None n h = refl
after-next (Some before) n h = lt-ltb before (suc n) (omega (arith, ltb-true before n h))

after-itself : (n : ℕ) → is_after (Some n) (suc n) ≡ true
after-itself n = lt-ltb n (suc n) (omega arith)

block_ascends : (page slot : ℕ) (last : Option ℕ) (block : Block) (forward : Option ℕ) (more : List DumpItem) → is_after last slot ≡ true → ascends (Some page) (Some slot) more ≡ true
    → ascends (Some page) last (dump_block slot block forward ∷ more) ≡ true
block_ascends page slot last block None more after rest = and_from _ _ after rest
block_ascends page slot last block (Some copy) more after rest = and_from _ _ after rest

slots_ascend : (page slot : ℕ) (slots : List (Option Block)) (last : Option ℕ) (more : List DumpItem) → is_after last slot ≡ true → ((last : Option ℕ) → ascends (Some page) last more ≡ true)
    → ascends (Some page) last (dump_slots slot slots ++ more) ≡ true
slots_ascend page slot [] last more after rest = rest last
slots_ascend page slot (None ∷ slots) last more after rest = slots_ascend page (suc slot) slots last more (after-next last slot after) rest
slots_ascend page slot (Some block ∷ slots) last more after rest =
    block_ascends page slot last block block.forward (dump_slots (suc slot) slots ++ more) after (slots_ascend page (suc slot) slots (Some slot) more (after-itself slot) rest)

pages_ascend : (number : ℕ) (table : Table Block) (page slot : Option ℕ) → is_after page number ≡ true → ascends page slot (dump_pages number table) ≡ true
pages_ascend number [] page slot after = refl
pages_ascend number (None ∷ pages) page slot after = pages_ascend (suc number) pages page slot (after-next page number after)
pages_ascend number (Some used ∷ pages) page slot after =
    and_from _ _ after (slots_ascend number 0 used.slots None (dump_pages (suc number) pages) refl (λ last. pages_ascend (suc number) pages (Some number) last (after-itself number)))

-- In range ---------------------------------------------------------------------------------------

-- a block whose numbers a dump may show, and a page
record IsShown (block : Block) : Type 0 where
  birth : block.birth < 2 ^ 64
  part : block.part < 2 ^ 64
  near : IsNear block

record IsShownPage (page : Page Block) : Type 0 where
  class : page.class_size ≤ 64
  slots : length page.slots ≤ 64
  blocks : (slot : ℕ) (block : Block) → block_in slot page ≡ Some block → IsShown block

abbrev AreShown : Table Block → Type 0
AreShown table = (number : ℕ) (page : Page Block) → page_at table number ≡ Some page → IsShownPage page

block_in_range : (slot : ℕ) (block : Block) (forward : Option ℕ) → block.forward ≡ forward → slot < 64 → IsShown block → are_u64 (item_numbers (dump_block slot block forward)) ≡ true
block_in_range slot block None is few shown = and_from _ _ (lt-ltb slot u64 (omega arith)) (and_from _ _ (lt-ltb block.birth u64 shown.birth) (and_from _ _ (lt-ltb block.part u64 shown.part) refl))
block_in_range slot block (Some copy) is few shown = grind (arith, and_from, lt-ltb)

slots_in_range : (slot : ℕ) (slots : List (Option Block)) (more : List DumpItem) → slot + length slots ≤ 64 → ((i : ℕ) (block : Block) → get_or slots i None ≡ Some block → IsShown block) → items_in_range more ≡ true
    → items_in_range (dump_slots slot slots ++ more) ≡ true
slots_in_range slot [] more few shown rest = rest
slots_in_range slot (None ∷ slots) more few shown rest = slots_in_range (suc slot) slots more (omega (arith, few)) (λ i block at. shown (suc i) block at) rest
slots_in_range slot (Some block ∷ slots) more few shown rest =
    and_from _ _ (block_in_range slot block block.forward refl (omega (arith, few)) (shown 0 block refl)) (slots_in_range (suc slot) slots more (omega (arith, few)) (λ i next at. shown (suc i) next at) rest)

pages_in_range : (number : ℕ) (table : Table Block) → number + length table ≤ 4096 → AreShown table → items_in_range (dump_pages number table) ≡ true
pages_in_range number [] few shown = refl
pages_in_range number (None ∷ pages) few shown = pages_in_range (suc number) pages (omega (arith, few)) (λ i page at. shown (suc i) page at)
pages_in_range number (Some used ∷ pages) few shown =
    let first = shown 0 used refl in
    and_from _ _ (and_from _ _ (lt-ltb number u64 (omega (arith, few))) (and_from _ _ (lt-ltb used.class_size u64 (omega (arith, first.class))) refl))
    (slots_in_range 0 used.slots (dump_pages (suc number) pages) (omega (arith, first.slots)) first.blocks (pages_in_range (suc number) pages (omega (arith, few)) (λ i page at. shown (suc i) page at)))

-- Counts -----------------------------------------------------------------------------------------

free-few : (table : Table Block) → free_pages table ≤ length table
free-few [] = omega arith
free-few (None ∷ pages) = omega (arith, free-few pages)
free-few (Some page ∷ pages) = omega (arith, free-few pages)

in-few : (slots : List (Option Block)) → length (blocks_in slots) ≤ length slots
in-few [] = omega arith
in-few (None ∷ slots) = omega (arith, in-few slots)
in-few (Some block ∷ slots) = omega (arith, in-few slots)

blocks-few : (table : Table Block) → AreShown table → length (blocks_of table) ≤ 64 * length table
blocks-few [] shown = omega arith
blocks-few (None ∷ pages) shown = omega (arith, blocks-few pages (λ i page at. shown (suc i) page at))
blocks-few (Some used ∷ pages) shown =
    omega (arith, blocks-few pages (λ i page at. shown (suc i) page at), in-few used.slots, (shown 0 used refl).slots, length-append (blocks_in used.slots) (blocks_of pages))

filter-few : {X : Type 0} (test : X → Bool) (xs : List X) → length (filter test xs) ≤ length xs
filter-few test xs = omega (arith, length-filter_both test (λ x. not (test x)) (λ x. refl) xs)

-- Runs -------------------------------------------------------------------------------------------

class_small : (size : ℕ) → is_class_size size ≡ true → size ≤ 64
unfolding is_class_size
class_small size member = leb-true size 64 (member-passes (λ s. nat_le s 64) size class_sizes refl member)

module _ (config : Config) (events : List Event) (few : length events < 1000000) where
  abbrev machine : Machine
  machine = machine_after (first_machine config) events

  abbrev collector : Collector
  collector = machine.heap.collector

  born : (number slot : ℕ) (page : Page Block) (block : Block) → page_at collector.table number ≡ Some page → block_in slot page ≡ Some block → slot < 64 → block.birth < 2 ^ 64
  born number slot page block at there below =
      let a : (64 * number + slot) / 64 ≡ number = omega arith in
      let b : (64 * number + slot) % 64 ≡ slot = omega arith in
      let here : block_at collector.table (64 * number + slot) ≡ Some block = rw (a, b) (ap (λ content. option_and_then (block_in slot) content) at ∙ there) in
      let first = (moments_keep.at_each config events).0.1.sound.births (64 * number + slot) block here in
      omega (arith, first, (runs_within_events.after_events config events).births)

  table_shown : AreShown collector.table
  table_shown number page at =
      let has = machine_after-pages config events in
      let slots = has.slots number page at in
      let narrow : length page.slots ≤ 64 = omega (arith, slots.slots, (slots_in-class_size page.class_size slots.class).1) in
      record {
        class = class_small page.class_size slots.class;
        slots = narrow;
        blocks = λ slot block there. record {
          birth = born number slot page block at there (omega (arith, below_length page.slots slot block there, narrow));
          part = omega (arith, (has.limits.blocks number slot page block at there).part);
          near = ((run-near config events).pages number page at).blocks slot block there;
        };
      }

  pages_few : length collector.table ≤ 4096
  pages_few = omega (arith, (machine_after-pages config events).pages, (config_limits config).pages_most)

  pub dump-in_range : is_reply Two (Reply.Dump (dump_pages 0 collector.table)) ≡ true
  dump-in_range = and_from _ _ (pages_in_range 0 collector.table (omega (arith, pages_few)) table_shown) (pages_ascend 0 collector.table None None refl)

  pub stat-in_range : is_reply Two (Reply.Stat (stat_on collector)) ≡ true
  stat-in_range =
      let blocks = blocks-few collector.table table_shown in
      grind (arith, and_from, lt-ltb, free-few, pages_few, filter-few, blocks, runs_within_events)
