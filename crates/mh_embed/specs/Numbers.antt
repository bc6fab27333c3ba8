-- Events, replies, the items of dumps, deeds and units as plain numbers.
use Rattle.std.specs.Prelude.{◌≡◌, ℕ, suc, ◌+◌, ◌-◌, ◌==◌, min, if◌then◌else◌, Option, Some, None, option_map, List, [], ◌∷◌, ◌++◌, length, take, replicate}
use Rattle.std.specs.Option.{option_or}
use Rattle.mh_model.specs.{declared.command.Command.Command, declared.command.Control.Control}
use Rattle.mh_model.specs.{declared.command.Event.Event, declared.dump.DumpItem.DumpItem, declared.deed.Deed.Deed}
use Rattle.mh_model.specs.{declared.deed.Edge.Edge, declared.deed.Fate.Fate, declared.deed.PartName.PartName}
use Rattle.mh_model.specs.{declared.deed.Tier.Tier, declared.deed.Tier.TheVariants.{Dense, Fresh, Sparse}}
use Rattle.mh_model.specs.{declared.history.Version.TheVariants.Two, declared.reply.Reply.Reply}
use Rattle.mh_model.specs.declared.reply.Refusal.{Refusal}
use Rattle.mh_model.specs.declared.reply.Refusal.TheVariants.{BadSlot, Null, NoField, TooLarge, HeapFull, Ended, TooManySessions}
use Rattle.mh_model.specs.{Deeds.deed_units, Machine.Machine, Trace.{mutator_count, collector_count}}
use Rattle.mh_model.specs.Forms.{Row, within, are_below, command_rows, control_rows}
use Rattle.mh_model.specs.Numbered.{phase_number, flag_number}
use Rattle.mh_embed.specs.declared.numbers.{EventNumbers.EventNumbers, ReplyNumbers.ReplyNumbers}
use Rattle.mh_embed.specs.declared.numbers.{ItemNumbers.ItemNumbers, DeedNumbers.DeedNumbers, UnitNumbers.UnitNumbers}

-- Events -----------------------------------------------------------------------------------------

-- the row with a number, in a table whose first row has another
abbrev pub row_from : {X : Type 0} → ℕ → ℕ → List (Row X) → Option (Row X)
row_from first n [] = None
row_from first n (row ∷ rows) = if n == first then Some row else row_from (suc first) n rows

-- what a row makes of numbers, as many of them as it has bounds
abbrev pub made_by : {X : Type 0} → Option (Row X) → List ℕ → Option X
made_by None ns = None
made_by (Some row) ns = within (are_below row.bounds (take (length row.bounds) ns)) (row.made ns)

-- the kinds 1 to 12 are the commands, in the order of their table
abbrev pub command_numbered : EventNumbers → Option Command
command_numbered n = made_by (row_from 1 n.kind command_rows) (n.first ∷ n.second ∷ n.third ∷ [])

-- the kinds 13 to 18 are the controls, in the order of theirs, whose number is the third
abbrev pub control_numbered : EventNumbers → Option Control
control_numbered n = made_by (row_from 13 n.kind (control_rows Two)) (n.third ∷ [])

-- The event that numbers are. A session past the 255th stands for that one: there are eight
abbrev pub event_numbered : EventNumbers → Option Event
event_numbered n = option_or (option_map (λ command. Event.Session (min n.session 255) command) (command_numbered n)) (option_map (λ control. Event.Control control) (control_numbered n))

-- Replies ----------------------------------------------------------------------------------------

-- the number of a refusal, and that of a phase
abbrev pub refusal_number : Refusal → ℕ
refusal_number BadSlot = 1
refusal_number Null = 2
refusal_number NoField = 3
refusal_number TooLarge = 4
refusal_number HeapFull = 5
refusal_number Ended = 6
refusal_number TooManySessions = 7

-- 1 and a number, or 0 and 0 for none
abbrev pub option_values : Option ℕ → List ℕ
option_values None = 0 ∷ 0 ∷ []
option_values (Some n) = 1 ∷ n ∷ []

-- the number of the kind of a reply
abbrev pub reply_kind : Reply → ℕ
reply_kind Reply.Done = 1
reply_kind (Reply.Number number) = 2
reply_kind Reply.Yes = 3
reply_kind Reply.No = 4
reply_kind (Reply.Shape shape) = 5
reply_kind (Reply.Refused refusal) = 6
reply_kind (Reply.Spent units phase) = 7
reply_kind (Reply.Stat stat) = 8
reply_kind (Reply.Dump items) = 9
reply_kind (Reply.Report report) = 10
reply_kind (Reply.Left quanta) = 11

-- the numbers of a reply, in the order of its text. Those of a dump are how many items it has
abbrev pub reply_values : Reply → List ℕ
reply_values (Reply.Number number) = number ∷ []
reply_values (Reply.Shape shape) = shape.references ∷ shape.numbers ∷ []
reply_values (Reply.Refused refusal) = refusal_number refusal ∷ []
reply_values (Reply.Spent units phase) = units ∷ phase_number phase ∷ []
reply_values (Reply.Stat stat) = stat.free ∷ stat.live ∷ stat.old ∷ phase_number stat.phase ∷ stat.cycle ∷ []
reply_values (Reply.Dump items) = length items ∷ []
reply_values (Reply.Report report) = report.mutator ∷ report.collector ∷ report.quanta ∷ report.greatest ∷ report.window ∷ (option_values report.least ++ option_values report.floor)
reply_values (Reply.Left quanta) = quanta ∷ []
reply_values _ = []

-- numbers with zeros after them, so many in all
abbrev pub padded_to : ℕ → List ℕ → List ℕ
padded_to count ns = ns ++ replicate (count - length ns) 0

-- the numbers of a reply, nine in all
abbrev pub padded : List ℕ → List ℕ
padded ns = padded_to 9 ns

-- The numbers show a reply
pub record IsShownBy (given : Reply) (n : ReplyNumbers) : Type 0 where
  pub kind : n.kind ≡ reply_kind given
  pub numbers : n.numbers ≡ padded (reply_values given)

-- Items of dumps ---------------------------------------------------------------------------------

-- the number of the kind of an item
abbrev pub item_kind : DumpItem → ℕ
item_kind (DumpItem.Page page class_size is_flagged) = 1
item_kind (DumpItem.Block slot birth part) = 2
item_kind (DumpItem.Forwarder slot to_page to_slot) = 3

-- the numbers of an item, in the order of its text
abbrev pub item_values : DumpItem → List ℕ
item_values (DumpItem.Page page class_size is_flagged) = page ∷ class_size ∷ flag_number is_flagged ∷ []
item_values (DumpItem.Block slot birth part) = slot ∷ birth ∷ part ∷ []
item_values (DumpItem.Forwarder slot to_page to_slot) = slot ∷ to_page ∷ to_slot ∷ []

-- The numbers show an item
pub record IsItemShownBy (found : DumpItem) (n : ItemNumbers) : Type 0 where
  pub kind : n.kind ≡ item_kind found
  pub numbers : n.numbers ≡ item_values found

-- the items of a reply, none if it isn't a dump
abbrev pub items_of : Option Reply → List DumpItem
items_of (Some (Reply.Dump items)) = items
items_of _ = []

-- Units ------------------------------------------------------------------------------------------

-- a number, or the largest of 64 bits
abbrev pub capped : ℕ → ℕ
capped n = min n 18446744073709551615

-- what an event added to the trace, by the machine before it and after
abbrev pub units_between : Machine → Machine → UnitNumbers
units_between old new = record {
  at = capped (mutator_count old.trace.letters + collector_count old.trace.letters);
  mutator = mutator_count new.trace.letters - mutator_count old.trace.letters;
  collector = collector_count new.trace.letters - collector_count old.trace.letters;
  ran = if new.trace.quanta == old.trace.quanta then 0 else 1;
  phase = phase_number new.heap.collector.phase;
}

-- before the first event
abbrev pub no_units : UnitNumbers
no_units = record { at = 0; mutator = 0; collector = 0; ran = 0; phase = 0 }

-- Deeds ------------------------------------------------------------------------------------------

-- the number of a place, and that of no place
abbrev pub place_number_or : Option ℕ → ℕ
place_number_or None = 18446744073709551615
place_number_or (Some place) = place

-- the numbers of a part: its object's birth, and which part of that it is
abbrev pub part_values : PartName → List ℕ
part_values name = name.birth ∷ name.part ∷ []

-- the numbers of a reference that the collector came to: as it stood, where it leads, and whether its target was shaded
abbrev pub edge_values : Edge → List ℕ
edge_values edge = place_number_or edge.reference ∷ place_number_or edge.target ∷ flag_number edge.is_shaded ∷ []

-- the number of a tier of placement
abbrev pub tier_number : Tier → ℕ
tier_number Dense = 0
tier_number Fresh = 1
tier_number Sparse = 2

-- the number of the kind of a deed, of which a sweep has four by what it found
abbrev pub fate_kind : Fate → ℕ
fate_kind Fate.Empty = 8
fate_kind (Fate.Kept name) = 9
fate_kind (Fate.Freed name) = 10
fate_kind (Fate.FreedForwarder target) = 11

abbrev pub deed_kind : Deed → ℕ
deed_kind (Deed.Start cycle) = 1
deed_kind (Deed.Enter phase) = 2
deed_kind Deed.End = 3
deed_kind (Deed.Root slot edge) = 4
deed_kind (Deed.Mark place name) = 5
deed_kind (Deed.Reference index edge) = 6
deed_kind (Deed.Pass page) = 7
deed_kind (Deed.Sweep place found) = fate_kind found
deed_kind (Deed.FreePage page) = 12
deed_kind (Deed.FlagPage page) = 13
deed_kind (Deed.UnflagPage page) = 14
deed_kind (Deed.Stay place) = 15
deed_kind (Deed.Move place to name class_size) = 16
deed_kind Deed.ForwardRoots = 17
deed_kind (Deed.Shade place) = 18
deed_kind (Deed.Make place name class_size fields tier) = 19

-- the numbers of a deed, in the order of its words
abbrev pub fate_values : Fate → List ℕ
fate_values Fate.Empty = []
fate_values (Fate.Kept name) = part_values name
fate_values (Fate.Freed name) = part_values name
fate_values (Fate.FreedForwarder target) = target ∷ []

abbrev pub deed_values : Deed → List ℕ
deed_values (Deed.Start cycle) = cycle ∷ []
deed_values (Deed.Enter phase) = phase_number phase ∷ []
deed_values Deed.End = []
deed_values (Deed.Root slot edge) = slot ∷ edge_values edge
deed_values (Deed.Mark place name) = place ∷ part_values name
deed_values (Deed.Reference index edge) = index ∷ edge_values edge
deed_values (Deed.Pass page) = page ∷ []
deed_values (Deed.Sweep place found) = place ∷ fate_values found
deed_values (Deed.FreePage page) = page ∷ []
deed_values (Deed.FlagPage page) = page ∷ []
deed_values (Deed.UnflagPage page) = page ∷ []
deed_values (Deed.Stay place) = place ∷ []
deed_values (Deed.Move place to name class_size) = place ∷ to ∷ (part_values name ++ class_size ∷ [])
deed_values Deed.ForwardRoots = []
deed_values (Deed.Shade place) = place ∷ []
deed_values (Deed.Make place name class_size fields tier) = place ∷ (part_values name ++ class_size ∷ fields.references ∷ fields.numbers ∷ tier_number tier ∷ [])

-- the numbers of a deed, seven in all
abbrev pub padded_deed : List ℕ → List ℕ
padded_deed ns = padded_to 7 ns

-- The numbers show a deed
pub record IsDeedShownBy (found : Deed) (n : DeedNumbers) : Type 0 where
  pub kind : n.kind ≡ deed_kind found
  pub units : n.units ≡ capped (deed_units found)
  pub numbers : n.numbers ≡ padded_deed (deed_values found)
