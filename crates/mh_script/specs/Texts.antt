-- Texts that are written to a sink, by lines that wait in a buffer, and faults in the words of other calls.
use Rattle.std.specs.Prelude.{◌≡◌, ◌++◌, Option, IfSome, Result, Ok, Err}
use Rattle.mh_model.specs.Bytes.{Text}
use Rattle.mh_machine.specs.declared.machine.Stop.{Stop}
use Rattle.mh_text.specs.{Devices.{Device, FailsAt, Takes, TakesSome}, declared.stream.ReadError.ReadError}
use Rattle.mh_script.specs.declared.fault.ScriptFault.{ScriptFault}
use Rattle.mh_script.specs.declared.fault.ScriptFault.TheVariants.{Read, Write, NoMemory, HistoryFull}
use Rattle.mh_script.specs.declared.fault.WriteError.{WriteError}

-- the bytes that a source had left are the text, if they are known
abbrev pub IsTextOf : Option Text → Text → Type 0
IsTextOf known text = IfSome known (λ bytes. bytes ≡ text)

-- A text was written, or as much of it as the device took, or memory allowed
abbrev pub IsWriting : {X : Type 0} → (old new : Device) → Text → Result X WriteError → Type 0
IsWriting old new text (Ok done) = Takes old new text
IsWriting old new text (Err WriteError.Device) = FailsAt old new text
IsWriting old new text (Err WriteError.NoMemory) = TakesSome old new text

-- a text was taken in: a front of it is written, and the rest waits in the buffer
pub record TakesIn (old new : Device) (buffer text : Text) : Type 0 where
  pub front : Text
  pub takes : Takes old new front
  pub is : front ++ buffer ≡ text

-- Faults -----------------------------------------------------------------------------------------

-- a source that failed, or refused memory, as a fault
abbrev pub IsReadFault : ReadError → ScriptFault → Type 0
IsReadFault ReadError.Device fault = fault ≡ Read
IsReadFault ReadError.NoMemory fault = fault ≡ NoMemory

-- a sink that failed, or refused memory, as a fault
abbrev pub IsWriteFault : WriteError → ScriptFault → Type 0
IsWriteFault WriteError.Device fault = fault ≡ Write
IsWriteFault WriteError.NoMemory fault = fault ≡ NoMemory

-- why a machine did no further event, as a fault
abbrev pub IsStopFault : Stop → ScriptFault → Type 0
IsStopFault Stop.HistoryFull fault = fault ≡ HistoryFull
IsStopFault Stop.NoMemory fault = fault ≡ NoMemory
