-- What is done with the whole text of a source, and written into a sink.
use Rattle.std.specs.Prelude.{◌⊎◌, ℕ, [], Result, Err, IsErrAnd}
use Rattle.mh_model.specs.Bytes.{Text}
use Rattle.mh_text.specs.Devices.{Device, FailsAt, GivesWhole, NotRead, Takes, TakesSome}
use Rattle.mh_text.specs.declared.stream.ReadError.{ReadError}
use Rattle.mh_script.specs.declared.fault.ScriptFault.{ScriptFault}
use Rattle.mh_script.specs.declared.fault.ScriptFault.TheVariants.{Read, Write, NoMemory}
use Rattle.mh_script.specs.Texts.{IsReadFault, IsTextOf}

-- so much of a text was written, if that is how it ended: all of it, or as much as the device took, or memory allowed
abbrev pub IsWritten : {X : Type 0} → (sink sink' : Device) → Text → Result X ScriptFault → Type 0
IsWritten sink sink' written (Err Read) = ⊥
IsWritten sink sink' written (Err Write) = FailsAt sink sink' written
IsWritten sink sink' written (Err NoMemory) = TakesSome sink sink' written
IsWritten sink sink' written ended = Takes sink sink' written

-- What was done with a text, if that is how it ended. `Does` relates the text, how it ended, and what is to be written
pub record IsPerformed {X : Type 0} (Does : Text → Result X ScriptFault → Text → Type 0) (sink sink' : Device) (ended : Result X ScriptFault) (text : Text) : Type 0 where
  pub written : Text
  pub does : Does text ended written
  pub wrote : IsWritten sink sink' written ended

-- a source was read, to its end or until it had given more bytes than these, and this was done with its text
pub record IsFound {X : Type 0} (Does : Text → Result X ScriptFault → Text → Type 0) (most : ℕ) (source source' sink sink' : Device) (ended : Result X ScriptFault) : Type 0 where
  pub text : Text
  pub is_text : IsTextOf source.bytes text
  pub performed : IsPerformed Does sink sink' ended text
  pub read : Text
  pub gives : GivesWhole most source source' read

-- a source was not read for this reason, so that it ended, and nothing was written
pub record IsUnread {X : Type 0} (source source' sink sink' : Device) (ended : Result X ScriptFault) : Type 0 where
  pub error : ReadError
  pub why : NotRead source source' error
  pub is : IsErrAnd ended (IsReadFault error)
  pub unwritten : Takes sink sink' []

-- What was done with the text of a source, of so many bytes at most
abbrev pub IsDone : {X : Type 0} → (Text → Result X ScriptFault → Text → Type 0) → ℕ → (source source' sink sink' : Device) → Result X ScriptFault → Type 0
IsDone Does most source source' sink sink' ended = IsUnread source source' sink sink' ended ⊎ IsFound Does most source source' sink sink' ended
