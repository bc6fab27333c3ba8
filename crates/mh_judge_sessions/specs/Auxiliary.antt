-- Auxiliary definitions: what loops, private functions and the insides of types keep. No public contract depends on them.
use Rattle.std.specs.Prelude.{◌≡◌, ◌⊎◌, ℕ, Bool, Option, ◌≢◌, ◌+◌, true, false, Some, None}
use Rattle.mh_model.specs.{declared.history.Entry.Entry, declared.history.Verdict.TheVariants.Refused}
use Rattle.mh_model.specs.{declared.history.Version.Version, Bytes.Text, Script.BadLine}
use Rattle.mh_model.specs.Sessions.{Bad, entries_reading, seen_text, IsSeen, whole_lines}
use Rattle.mh_model.specs.{declared.reply.Refusal.TheVariants.HeapFull, declared.reply.Reply.Reply, Limits.most_entries}
use Rattle.mh_model.specs.{Snapshot.world_beside_event, World.World}
use Rattle.mh_judge.specs.{declared.entry_fault.EntryFault.EntryFault, declared.bad_entry.BadEntry.BadEntry}
use Rattle.mh_judge.specs.Following.{whole}
use Rattle.mh_history.specs.Beginnings.{HasEntry, entries_left}
use Rattle.mh_text.specs.Pieces.{Lines}
use Rattle.mh_judge_sessions.specs.{Faults.IsUnseen, Full.is_full, Texts.BeginsWithEither, Watching.seen_line}

-- a text is refused with this line, and wasn't cut off
pub record IsRefusedWith (text : Text) (line : ℕ) : Type 0 where
  pub reading : entries_reading text ≡ BadLine line
  pub seen : seen_text text ≡ Bad line

-- what following an entry shows: it is what its session may see, and the world took its step; or it is not
abbrev pub IsFollowed : World → Entry → World → Bool → Type 0
IsFollowed old entry new true = IsSeen old entry.event entry.reply × (new ≡ world_beside_event old entry.event entry.reply)
IsFollowed old entry new false = ¬ IsSeen old entry.event entry.reply

-- what is wrong with a full entry that may not be
abbrev pub full_fault : EntryFault
full_fault = EntryFault.Reply (Reply.Refused HeapFull) Reply.Done

-- what is wrong with an entry after so many: it is one too many, its session may not see it, or it is full and may not be
abbrev pub IsWatchedFault : Bool → World → ℕ → Entry → World → EntryFault → Type 0
IsWatchedFault may_be_full old count entry new f =
    ((count ≡ most_entries) × (f ≡ EntryFault.TooMany))
    ⊎ (((count ≢ most_entries) × IsFollowed old entry new false × IsUnseen old entry f)
    ⊎ ((count ≢ most_entries) × IsFollowed old entry new true × (may_be_full ≡ false) × (is_full entry ≡ true) × (f ≡ full_fault)))

-- What the try of an entry after so many shows: it was followed and is right, or something is wrong with it
abbrev pub IsWatched : Bool → World → ℕ → Entry → World → Option BadEntry → Type 0
IsWatched may_be_full old count entry new None = (count ≢ most_entries) × IsFollowed old entry new true × (may_be_full ≡ false → is_full entry ≡ false)
IsWatched may_be_full old count entry new (Some bad) = (bad.number ≡ count + 1) × IsWatchedFault may_be_full old count entry new bad.fault

-- the lines of a text of this version after its first, not read yet
pub record IsOpened (text : Text) (version : Version) (lines : Lines) : Type 0 where
  pub reading : entries_reading text ≡ entries_left (seen_line version) lines
  pub whole : entries_reading (whole_lines text) ≡ entries_left (seen_line version) (whole lines)
  pub begins : HasEntry (seen_line version) lines → BeginsWithEither text
  pub second : lines.number ≡ 2
