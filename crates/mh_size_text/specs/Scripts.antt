-- What the sizing of a script has read and written.
use Rattle.std.specs.Prelude.{◌≡◌, ℕ, ◌+◌, ◌*◌, Bool, true, false, unwrap_or, Result, Ok, Err, List, [], take}
use Rattle.mh_model.specs.{declared.command.Event.Event, declared.config.Config.Config, Bytes.{Text, line_text}}
use Rattle.mh_model.specs.{Configs.with_rules, Limits.most_entries, Replies.bad_line_text}
use Rattle.mh_model.specs.Script.{BadLine, Meaning, Means, Reading, reading}
use Rattle.mh_orders.specs.declared.order.SizeOptions.{SizeOptions}
use Rattle.mh_script.specs.{declared.end.End.End, declared.fault.ScriptFault.ScriptFault}
use Rattle.mh_script.specs.{declared.fault.ScriptFault.TheVariants.NoMemory, Run.MayEndSo, Tasks.IsDone}
use Rattle.mh_text.specs.Devices.{Device}
use Rattle.mh_size_text.specs.{declared.end.SizeEnd.SizeEnd, declared.end.SizeEnd.TheVariants.{Sized, NoSize, Refused}}
use Rattle.mh_size_text.specs.{declared.sizes.Heaps.Heaps, declared.sizes.Heaps.TheVariants.{Found, Nowhere}}
use Rattle.mh_size_text.specs.{declared.sizes.Sizes.Sizes, Sizes.AreSizes, Texts.sizes_text}

-- Texts ------------------------------------------------------------------------------------------

-- the length of the windows: ten rounds of a quantum with the units before it, if none is given
abbrev pub window_of : SizeOptions → Config → ℕ
window_of options config = unwrap_or options.window (10 * (config.every + config.quantum))

-- some pages suffice
abbrev pub has_heaps : Heaps → Bool
has_heaps (Found edge rows) = true
has_heaps (Nowhere number) = false

-- what is written of a run with windows of this length: its sizes. Some pages suffice, or none do
pub record IsTextOfRun (config : Config) (events : List Event) (window : ℕ) (text : Text) (found : Bool) : Type 0 where
  pub sizes : Sizes
  pub are_sizes : AreSizes config events window sizes
  pub is : text ≡ sizes_text config events sizes
  pub found_is : found ≡ has_heaps sizes.heaps

-- What is written of a reading under the rules of the options: the first bad line, or the sizes of the first 1,000,000 events
abbrev pub IsSizeText : SizeOptions → Bool → Reading Meaning → Text → Type 0
IsSizeText options found (BadLine line) text = text ≡ line_text (bad_line_text line)
IsSizeText options found (Means script) text =
    let config = with_rules options.rules script.config in
    IsTextOfRun config (take most_entries script.events) (window_of options config) text found

-- Sizings ----------------------------------------------------------------------------------------

-- how the sizing of a text may end that found this: as its run
abbrev pub MayEndSized : Bool → Text → Result SizeEnd ScriptFault → Type 0
MayEndSized found text (Ok Sized) = MayEndSo text (Ok End.Done) × (found ≡ true)
MayEndSized found text (Ok NoSize) = MayEndSo text (Ok End.Done) × (found ≡ false)
MayEndSized found text (Ok (Refused refusal)) = MayEndSo text (Ok (End.Refused refusal))
MayEndSized found text (Err fault) = MayEndSo text (Err fault)

-- This is to be written of a script if its sizing ended so: nothing if memory is refused
abbrev pub IsSized : SizeOptions → Text → Result SizeEnd ScriptFault → Text → Type 0
IsSized options text (Err NoMemory) out = MayEndSo text (Err NoMemory) × (out ≡ [])
IsSized options text ended out = (found : Bool) × IsSizeText options found (reading text) out × MayEndSized found text ended

-- The script of a source was sized into a sink, and how that ended
abbrev pub IsSizing : SizeOptions → (source source' sink sink' : Device) → Result SizeEnd ScriptFault → Type 0
IsSizing options = IsDone (IsSized options) 67108864
