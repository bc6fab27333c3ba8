-- The picture of a heap: what a map of the heap shows of its blocks, its pages and its collector, and what each deed changes of it. What deeds don't
-- say is not in a picture: root slots, the cursor, what references and numbers hold, and the counts in headers. The page of `mh_tell_show` writes the
-- roots of an event beside its deeds. Where a quantum leaves the cursor, its deeds say by a law of that crate.
use Rattle.std.specs.Prelude.{ℕ, true, false, if◌then◌else◌, Option, Some, None, option_map, List, [], ◌∷◌, ◌++◌, length, set, drop, replicate}
use Rattle.mh_model.specs.{declared.command.Event.Event, declared.config.Config.Config, declared.cycle.Phase.Phase}
use Rattle.mh_model.specs.{declared.cycle.Phase.TheVariants.Idle, declared.deed.Deed.Deed, declared.deed.Edge.Edge}
use Rattle.mh_model.specs.{declared.deed.Fate.Fate, declared.deed.PartName.PartName, declared.dump.DumpItem.DumpItem}
use Rattle.mh_model.specs.{declared.shape.Shape.Shape, declared.stat.Stat.Stat}
use Rattle.mh_model.specs.{Pages.{Table, block_at, with_block, with_taken, with_flag}, Table.Block, Collector.Collector}
use Rattle.mh_model.specs.Deeds.{Ran, Account, account_of, name_of}
use Rattle.mh_model.specs.Machine.{Machine, event_step, dump_pages, stat_on}
use Rattle.mh_table_laws.specs.TableMaps.{table_map}

-- Pictures ---------------------------------------------------------------------------------------

-- What is drawn of a block: which part of which object it is, the counts of its own fields, its mark stamp, and the place that it moved to
pub record Drawn : Type 0 where
  pub name : PartName
  pub fields : Shape
  pub stamp : ℕ
  pub forward : Option ℕ

-- What is drawn of a heap: its pages with their classes, flags and blocks, the grey list, the cycle's number, and the phase
pub record Picture : Type 0 where
  pub table : Table Drawn
  pub grey : List ℕ
  pub cycle : ℕ
  pub phase : Phase

-- a block as it is drawn
abbrev pub drawn_of : Block → Drawn
drawn_of block = record { name = name_of block; fields = record { references = length block.references; numbers = length block.numbers }; stamp = block.stamp; forward = block.forward }

-- a heap as it is drawn, by its collector
abbrev pub picture_of : Collector → Picture
picture_of collector = record { table = table_map drawn_of collector.table; grey = collector.grey; cycle = collector.cycle; phase = collector.phase }

-- the picture before a run: all pages are free, no block is grey and no cycle runs
abbrev pub empty_picture : Config → Picture
empty_picture config = record { table = replicate config.pages None; grey = []; cycle = 0; phase = Idle }

-- Deeds ------------------------------------------------------------------------------------------

-- the picture with other pages
abbrev pub with_table : Picture → Table Drawn → Picture
with_table picture table = record picture { table = table }

-- a block marked in a cycle
abbrev pub marked_in : ℕ → Drawn → Drawn
marked_in cycle drawn = record drawn { stamp = cycle }

-- a place shaded: its block marked in the cycle, and the place appended to the grey list
abbrev pub shaded : Picture → ℕ → Picture
shaded picture place = record picture { table = with_block picture.table place (option_map (marked_in picture.cycle) (block_at picture.table place)); grey = picture.grey ++ place ∷ [] }

-- the place that a reference leads to shaded, if it leads to one
abbrev pub shaded_at : Picture → Option ℕ → Picture
shaded_at picture None = picture
shaded_at picture (Some place) = shaded picture place

-- the picture after an edge: where its reference leads is shaded, if it says so
abbrev pub with_edge : Picture → Edge → Picture
with_edge picture edge = if edge.is_shaded then shaded_at picture edge.target else picture

-- the pages after the sweep of a slot, which is empty if its fate frees what it had, a block or a forwarder
abbrev pub swept_slot : Table Drawn → ℕ → Fate → Table Drawn
swept_slot table place Fate.Empty = table
swept_slot table place (Fate.Kept name) = table
swept_slot table place (Fate.Freed name) = with_block table place None
swept_slot table place (Fate.FreedForwarder target) = with_block table place None

-- a block moved: the same at its new place, in a page of the class, and a forwarder to it where it was
abbrev pub moved_drawn : Table Drawn → ℕ → ℕ → ℕ → Option Drawn → Table Drawn
moved_drawn table place to class_size None = table
moved_drawn table place to class_size (Some drawn) = with_block (with_taken table class_size to drawn) place (Some (record drawn { forward = Some to }))

-- The picture after a deed
abbrev pub drawn : Picture → Deed → Picture
drawn picture (Deed.Start cycle) = record picture { cycle = cycle }
drawn picture (Deed.Enter phase) = record picture { phase = phase }
drawn picture Deed.End = record picture { phase = Idle }
drawn picture (Deed.Root slot edge) = with_edge picture edge
drawn picture (Deed.Mark place name) = record picture { grey = drop 1 picture.grey }
drawn picture (Deed.Reference index edge) = with_edge picture edge
drawn picture (Deed.Sweep place fate) = with_table picture (swept_slot picture.table place fate)
drawn picture (Deed.FreePage page) = with_table picture (set picture.table page None)
drawn picture (Deed.FlagPage page) = with_table picture (with_flag picture.table page true)
drawn picture (Deed.UnflagPage page) = with_table picture (with_flag picture.table page false)
drawn picture (Deed.Move place to name class_size) = with_table picture (moved_drawn picture.table place to class_size (block_at picture.table place))
drawn picture (Deed.Shade place) = shaded picture place
drawn picture (Deed.Make place name class_size fields tier) = with_table picture (with_taken picture.table class_size place (record { name = name; fields = fields; stamp = picture.cycle; forward = None }))
drawn picture other = picture

-- The picture after deeds in order
abbrev pub drawn_all : Picture → List Deed → Picture
drawn_all picture [] = picture
drawn_all picture (deed ∷ deeds) = drawn_all (drawn picture deed) deeds

-- the picture after a quantum, if one was run
abbrev pub drawn_quantum : Picture → Option Ran → Picture
drawn_quantum picture None = picture
drawn_quantum picture (Some ran) = drawn_all picture ran.deeds

-- The picture after an event: the deeds of its command, and then those of its quantum
abbrev pub drawn_account : Picture → Account → Picture
drawn_account picture account = drawn_quantum (drawn_all picture account.command) account.quantum

-- Runs -------------------------------------------------------------------------------------------

-- the accounts of events in order
unfoldable pub accounts_of : Machine → List Event → List Account
accounts_of machine [] = []
accounts_of machine (event ∷ events) = account_of machine event ∷ accounts_of (event_step machine event).state events

-- The picture after a run
abbrev pub drawn_run : Picture → List Account → Picture
drawn_run picture [] = picture
drawn_run picture (account ∷ accounts) = drawn_run (drawn_account picture account) accounts

-- What pictures show -----------------------------------------------------------------------------

-- a block that is drawn like this, with empty fields: null references and the numbers 0, and the counts 0 in its header
abbrev pub bare_block : Drawn → Block
bare_block drawn = record {
  birth = drawn.name.birth;
  part = drawn.name.part;
  header = record { references = 0; numbers = 0 };
  stamp = drawn.stamp;
  forward = drawn.forward;
  references = replicate drawn.fields.references None;
  numbers = replicate drawn.fields.numbers 0;
}

-- a collector that is drawn like this, with such blocks and no root slots
abbrev pub bare_collector : Picture → Collector
bare_collector picture = record { table = table_map bare_block picture.table; slots = []; phase = picture.phase; cursor = 0; grey = picture.grey; cycle = picture.cycle; is_asked = false; quanta = 0 }

-- the dump, and the counts, of a heap with this picture
abbrev pub pictured_dump : Picture → List DumpItem
pictured_dump picture = dump_pages 0 (bare_collector picture).table

abbrev pub pictured_stat : Picture → Stat
pictured_stat picture = stat_on (bare_collector picture)
