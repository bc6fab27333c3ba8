-- The cursor: where deeds leave it, and where a collector has it.
use Rattle.std.specs.Prelude.{◌≡◌, ℕ, ◌+◌, ◌*◌, Bool, false, Option, Some, None, is_some, unwrap_or, List, [], ◌∷◌}
use Rattle.mh_model.specs.{declared.config.Config.Config, declared.cycle.Phase.Phase}
use Rattle.mh_model.specs.{declared.cycle.Phase.TheVariants.{Roots, Sweep, Defrag}, declared.deed.Deed.Deed}
use Rattle.mh_model.specs.{Pages.{Table, page_at, page_number}, Table.Block, Collector.{Collector, next_place, quantum}}
use Rattle.mh_model.specs.Deeds.{quantum_deeds}

-- Deeds ------------------------------------------------------------------------------------------

-- Where the cursor stands: at no slot and no place, at a slot of the roots, at the first slot of a page, or behind a place: at the next slot of its page, or at the next page
pub data Stand : Type 0 where
  Nowhere : Stand
  AtRoot : ℕ → Stand
  AtPage : ℕ → Stand
  Behind : ℕ → Stand

-- where a phase begins
abbrev pub first_stand : Phase → Stand
first_stand Roots = AtRoot 0
first_stand Sweep = AtPage 0
first_stand Defrag = AtPage 0
first_stand _ = Nowhere

-- where a deed moves the cursor, if it moves it
abbrev pub stand_of : Deed → Option Stand
stand_of (Deed.Enter phase) = Some (first_stand phase)
stand_of Deed.End = Some Nowhere
stand_of (Deed.Root slot edge) = Some (AtRoot (slot + 1))
stand_of (Deed.Pass page) = Some (AtPage (page + 1))
stand_of (Deed.Sweep place fate) = Some (Behind place)
stand_of (Deed.FreePage page) = Some (AtPage (page + 1))
stand_of (Deed.FlagPage page) = Some (AtPage (page + 1))
stand_of (Deed.UnflagPage page) = Some (AtPage (page + 1))
stand_of (Deed.Stay place) = Some (Behind place)
stand_of (Deed.Move place to name class_size) = Some (Behind place)
stand_of _ = None

-- whether it does
abbrev pub moves_cursor : Deed → Bool
moves_cursor deed = is_some (stand_of deed)

-- the first of these deeds moves the cursor
abbrev pub moves_next : List Deed → Bool
moves_next [] = false
moves_next (deed ∷ later) = moves_cursor deed

-- where a deed leaves the cursor, and deeds in order
abbrev pub stand_after : Stand → Deed → Stand
stand_after stand deed = unwrap_or (stand_of deed) stand

abbrev pub stand_after_all : Stand → List Deed → Stand
stand_after_all stand [] = stand
stand_after_all stand (deed ∷ deeds) = stand_after_all (stand_after stand deed) deeds

-- Collectors -------------------------------------------------------------------------------------

-- What there is of a cursor: nothing, the next slot of the roots, or the next place of the sweep or of defragmentation
pub data Cursor : Type 0 where
  NoCursor : Cursor
  RootSlot : ℕ → Cursor
  Place : ℕ → Cursor

-- the cursor in a phase
abbrev pub cursor_in : Phase → ℕ → Cursor
cursor_in Roots cursor = RootSlot cursor
cursor_in Sweep cursor = Place cursor
cursor_in Defrag cursor = Place cursor
cursor_in _ cursor = NoCursor

-- the cursor of a collector
abbrev pub cursor_of : Collector → Cursor
cursor_of collector = cursor_in collector.phase collector.cursor

-- where a cursor that stands so is in a table
abbrev pub cursor_at : Table Block → Stand → Cursor
cursor_at table Nowhere = NoCursor
cursor_at table (AtRoot slot) = RootSlot slot
cursor_at table (AtPage page) = Place (64 * page)
cursor_at table (Behind place) = Place (next_place place (page_at table (page_number place)))

-- a collector has its cursor where it stands
abbrev pub StandsAt : Stand → Collector → Type 0
StandsAt stand collector = cursor_of collector ≡ cursor_at collector.table stand

-- After a quantum the collector has its cursor where the deeds leave it
abbrev pub QuantaTellTheCursor : Type 0
QuantaTellTheCursor = (config : Config) (collector : Collector) (stand : Stand) → StandsAt stand collector → StandsAt (stand_after_all stand (quantum_deeds config collector)) (quantum config collector).collector
