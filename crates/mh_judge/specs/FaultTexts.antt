-- What is said of an entry that is wrong, as texts.
use Rattle.std.specs.Prelude.{◌++◌, Option, Some, None, codes, decimal, length}
use Rattle.mh_model.specs.{Bytes.Text, Replies.{item_words, reply_text}, declared.dump.DumpItem.DumpItem}
use Rattle.mh_model.specs.declared.reply.Reply.{Reply}
use Rattle.mh_text.specs.ReplyWords.{spaced}
use Rattle.mh_judge.specs.declared.entry_fault.{EntryFault.EntryFault, Units.Units}

-- a reply, but of a dump only how many items it has
abbrev pub brief_text : Reply → Text
brief_text (Reply.Dump items) = codes "a dump of " ++ decimal (length items) ++ codes " items"
brief_text reply = reply_text reply

-- an item of a dump with a space before each word, if there is one
abbrev pub optional_item_text : Option DumpItem → Text
optional_item_text (Some item) = spaced (item_words item)
optional_item_text None = codes " none"

abbrev pub units_text : Units → Text
units_text units = codes "units " ++ decimal units.mutator ++ codes " " ++ decimal units.collector

-- What is said of an entry: what it has, and what would be right
abbrev pub entry_fault_text : EntryFault → Text
entry_fault_text EntryFault.TooMany = codes "a history has at most 1000000 entries"
entry_fault_text (EntryFault.Reply given right) = brief_text given ++ codes ", and right is " ++ brief_text right
entry_fault_text (EntryFault.Item number given right) =
    codes "item " ++ (decimal number ++ (codes " of the dump is" ++ (optional_item_text given ++ (codes ", and right is" ++ optional_item_text right))))
entry_fault_text (EntryFault.Units given right) = units_text given ++ codes ", and right is " ++ units_text right
