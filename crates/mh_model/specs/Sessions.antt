-- Histories of any collector, judged by what their sessions see. Both versions are read, under rules that are asked for or that the history names. So
-- each history of ours is legal by this, which is a law.
-- Of a history that was cut off the whole lines are judged, since a crash is when its author most wants the verdict. The line that was cut off is
-- refused all the same, if nothing before it is wrong: nobody knows what it was to be. By `IsChecked` and `IsAudited` such a text is refused.
use Rattle.std.specs.Prelude.{◌≡◌, ◌≤◌, ◌⊎◌, ℕ, zero, suc, Bool, true, false, if◌then◌else◌, Option, Some, None, List, [], ◌∷◌, length, map, codes}
use Rattle.std.specs.Option.{option_map_or}
use Rattle.mh_model.specs.{declared.command.Command.Command, declared.command.Event.Event}
use Rattle.mh_model.specs.{declared.config.Config.Config, declared.config.Rules.Rules}
use Rattle.mh_model.specs.{declared.config.Rules.TheVariants.First, declared.history.Entry.Entry}
use Rattle.mh_model.specs.declared.history.Verdict.{Verdict}
use Rattle.mh_model.specs.{declared.history.Verdict.TheVariants.{Refused, Legal, FirstBad}, declared.reply.Reply.Reply}
use Rattle.mh_model.specs.{Bytes.{Text, Cut, cut_after, is_text, lines_text, words}, History.IsFirstBadOf}
use Rattle.mh_model.specs.HistoryTexts.{IsJudged, Recorded, header_of, history_reading, recorded_reading}
use Rattle.mh_model.specs.{Limits.most_entries, Script.{Reading, BadLine, Means, reading_map}}
use Rattle.mh_model.specs.{Snapshot.{is_heap_full, world_beside_event}, World.{World, first_world, world_step}}

-- What sessions see ------------------------------------------------------------------------------

-- a new object that is answered `heap full`
abbrev pub lacks_room : Command → Reply → Bool
lacks_room (Command.New slot references numbers) answer = is_heap_full answer
lacks_room _ answer = false

-- a new object may be answered that there is no room, if the ever-growing world makes it. What is refused for another reason is refused for that one.
-- Our own heap is full only so, and the order of refusals is a rule that every heap can follow
abbrev pub MayLackRoom : World → ℕ → Command → Reply → Type 0
MayLackRoom world who command answer = (lacks_room command answer ≡ true) × ((world_step world who command).reply ≡ Reply.Done)

-- what a correct collector may answer. To a session: what the ever-growing world does, or that there is no room for a new object that it makes. To a
-- control: any reply of the grammar, so a history of another collector has the one form that all histories have
abbrev pub IsSeen : World → Event → Reply → Type 0
IsSeen world (Event.Session who command) answer = (answer ≡ (world_step world who command).reply) ⊎ MayLackRoom world who command answer
IsSeen world (Event.Control control) answer = Unit {0}

-- entries in turn that a correct collector may answer so, with the world beside them; a command that was answered by a full heap changes nothing in it
abbrev pub AreSeen : World → List Entry → Type 0
AreSeen world [] = Unit {0}
AreSeen world (entry ∷ entries) = IsSeen world entry.event entry.reply × AreSeen (world_beside_event world entry.event entry.reply) entries

-- at most 1,000,000 entries, as a correct collector under these rules may answer its sessions, whatever its pages and quanta
pub record IsLegalForSessions (rules : Rules) (history : List Entry) : Type 0 where
  pub few : length history ≤ most_entries
  pub seen : (config : Config) → config.rules ≡ rules → AreSeen (first_world config) history

-- Texts ------------------------------------------------------------------------------------------

-- the text begins with the first line of a history of version 1
abbrev pub is_of_version_one : Cut → Bool
is_of_version_one cut = begins cut.pieces where
  begins : List Text → Bool
  begins [] = false
  begins (line ∷ lines) = is_text line (codes "history 1")

-- the entries of a history of version 2, without their units
abbrev pub entries_recorded : Recorded → List Entry
entries_recorded recorded = map (λ measured. measured.entry) recorded.entries

-- a text as a history of either version, without its configuration and its units
abbrev pub entries_reading : Text → Reading (List Entry)
entries_reading text = if is_of_version_one (cut_after 10 text) then history_reading text else reading_map entries_recorded (recorded_reading text)

-- the rules that the first line of a text names, and the first rules if it names none, as in version 1
abbrev pub rules_named : Text → Rules
rules_named text = named (cut_after 10 text).pieces where
  named : List Text → Rules
  named [] = First
  named (line ∷ lines) = option_map_or (λ config. config.rules) (header_of (words line)) First

-- a text up to the end of its last line that has one
abbrev pub whole_lines : Text → Text
whole_lines text = lines_text (cut_after 10 text).pieces

-- how a text is read for its sessions: whole, with the rules that it names and its entries; cut off within its last line, which has this number, with
-- the entries of the lines before; or bad, with its first bad line
pub data SeenText : Type 0 where
  Whole : Rules → List Entry → SeenText
  CutOff : Rules → ℕ → List Entry → SeenText
  Bad : ℕ → SeenText

-- a text with this bad line, by what its whole lines are: cut off there, if they are entries, and else bad
abbrev pub cut_off_at : Rules → ℕ → Reading (List Entry) → SeenText
cut_off_at rules line (BadLine other) = Bad line
cut_off_at rules line (Means entries) = CutOff rules line entries

-- a text as it is read for its sessions. One that is too long is not looked into
abbrev pub seen_text : Text → SeenText
seen_text text = seen_as (entries_reading text) where
  seen_as : Reading (List Entry) → SeenText
  seen_as (Means entries) = Whole (rules_named text) entries
  seen_as (BadLine zero) = Bad zero
  seen_as (BadLine (suc line)) = cut_off_at (rules_named text) (suc line) (entries_reading (whole_lines text))

-- the rules that are asked for, or else those that a text names
abbrev pub rules_or : Option Rules → Rules → Rules
rules_or None named = named
rules_or (Some asked) named = asked

-- the verdict on a history that was cut off within this line: the first bad one of the entries before, and if they are legal the line
abbrev pub IsJudgedCutOff : Rules → ℕ → List Entry → Verdict → Type 0
IsJudgedCutOff rules line entries (Refused refused) = (refused ≡ line) × IsLegalForSessions rules entries
IsJudgedCutOff rules line entries (Legal count) = ⊥
IsJudgedCutOff rules line entries (FirstBad number) = IsFirstBadOf (IsLegalForSessions rules) entries number

-- the verdict on a text that is read so: by what its sessions see, under the rules that are asked for or that it names
abbrev pub IsSeenAs : Option Rules → Verdict → SeenText → Type 0
IsSeenAs asked verdict (Whole named entries) = IsJudged (IsLegalForSessions (rules_or asked named)) entries verdict
IsSeenAs asked verdict (CutOff named line entries) = IsJudgedCutOff (rules_or asked named) line entries verdict
IsSeenAs asked verdict (Bad line) = verdict ≡ Refused line

-- the verdict on a text of either version, by what its sessions see, under the rules that are asked for or that it names
abbrev pub IsSeenThrough : Option Rules → Text → Verdict → Type 0
IsSeenThrough asked text verdict = IsSeenAs asked verdict (seen_text text)
