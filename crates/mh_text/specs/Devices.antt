-- What is known of a device, and what calls that read or write a text leave of it.
use Rattle.std.specs.Prelude.{◌≡◌, ◌≢◌, ℕ, ◌<◌, ◌≤◌, ◌++◌, length, Option, Result, Ok, Err}
use Rattle.std.specs.Io.KnownBytes.{Appends, Consumes, IsAtEnd, Keeps}
use Rattle.mh_model.specs.Bytes.{Text}
use Rattle.mh_text.specs.declared.{device.DeviceFailed.DeviceFailed, stream.ReadError.ReadError}

-- What is known of a device: the bytes that a source has left or that a sink was given, and how often it failed, counted modulo 2^64
pub record Device : Type 0 where
  pub bytes : Option Text
  pub failures : ℕ

-- a device didn't fail
abbrev pub Works : Device → Device → Type 0
Works old new = new.failures ≡ old.failures

-- a device failed
abbrev pub Fails : Device → Device → Type 0
Fails old new = new.failures ≢ old.failures

-- a device failed at once
pub record FailsAtOnce (old new : Device) : Type 0 where
  pub bytes : Keeps old.bytes new.bytes
  pub fails : Fails old new

-- Sources ----------------------------------------------------------------------------------------

-- a source gave these bytes
pub record Gives (old new : Device) (text : Text) : Type 0 where
  pub bytes : Consumes old.bytes new.bytes text
  pub works : Works old new

-- a source gave a byte at least
pub record GivesSome (old new : Device) : Type 0 where
  pub text : Text
  pub some : 0 < length text
  pub gives : Gives old new text

-- a source gave some bytes, or none, and then failed
pub record FailsToGive (old new : Device) : Type 0 where
  pub text : Text
  pub bytes : Consumes old.bytes new.bytes text
  pub fails : Fails old new

-- a text was read to its source's end, or until it had more bytes than this
pub record GivesWhole (most : ℕ) (old new : Device) (text : Text) : Type 0 where
  pub gives : Gives old new text
  pub whole : length text ≤ most → IsAtEnd new.bytes

-- why no text was read: memory is taken only for bytes that the source gave
abbrev pub NotRead : (old new : Device) → ReadError → Type 0
NotRead old new ReadError.Device = FailsToGive old new
NotRead old new ReadError.NoMemory = GivesSome old new

-- Sinks ------------------------------------------------------------------------------------------

-- if the bytes are known, they grow by a prefix of the text
abbrev pub AppendsBeginning : Option Text → Option Text → Text → Type 0
AppendsBeginning old new text = (front rest : Text) × (front ++ rest ≡ text) × Appends old new front

-- a sink was given this text
pub record Takes (old new : Device) (text : Text) : Type 0 where
  pub bytes : Appends old.bytes new.bytes text
  pub works : Works old new

-- a sink was given a prefix of this text, and didn't fail
pub record TakesSome (old new : Device) (text : Text) : Type 0 where
  pub bytes : AppendsBeginning old.bytes new.bytes text
  pub works : Works old new

-- a sink was given a prefix of this text, and then failed
pub record FailsAt (old new : Device) (text : Text) : Type 0 where
  pub bytes : AppendsBeginning old.bytes new.bytes text
  pub fails : Fails old new

-- A text was written, or as much of it as the device took
abbrev pub IsWrite : (old new : Device) → Text → Result (Unit {0}) DeviceFailed → Type 0
IsWrite old new text (Ok done) = Takes old new text
IsWrite old new text (Err failed) = FailsAt old new text
