-- How a call of the library ends, by the number that C sees and the machine of the handle before and after.
use Rattle.std.specs.Prelude.{◌≡◌, ℕ, ◌+◌, ◌*◌, ℤ, Option, Some, None}
use Rattle.mh_model.specs.Bytes.{Text}
use Rattle.mh_embed.specs.{declared.status.Status.Status, Driving.Driven, Statuses.code_of}

-- A call on a handle: it is closed and stays so, and what else the call writes is left so; or its machine becomes what a status says
pub data OnHandle (left : Type 0) (ends : Driven → Driven → Status → Type 0) (old new : Option Driven) (code : ℤ) : Type 0 where
  Closed : old ≡ None → new ≡ None → left → code ≡ code_of Status.Closed → OnHandle left ends old new code
  Open : (before after : Driven) (status : Status) → old ≡ Some before → new ≡ Some after → ends before after status → code ≡ code_of status → OnHandle left ends old new code

-- a call that only reads a machine
pub record Reads (ends : Driven → Status → Type 0) (old new : Driven) (status : Status) : Type 0 where
  pub kept : new ≡ old
  pub ends_so : ends old status

-- no text was given: the buffer is as it was, and the length is 0
pub record IsUntold (old new : Text) (written : ℕ) : Type 0 where
  pub kept : new ≡ old
  pub none : written ≡ 0

-- A handle is opened: it has what the numbers stand for before its first event, or is as it was
pub data Opens (first : Option Driven) (old new : Option Driven) (code : ℤ) : Type 0 where
  Opened : (found : Driven) → first ≡ Some found → new ≡ Some found → code ≡ code_of Status.Done → Opens first old new code
  BadConfig : first ≡ None → new ≡ old → code ≡ code_of Status.BadConfig → Opens first old new code
  NoMemory : (found : Driven) → first ≡ Some found → new ≡ old → code ≡ code_of Status.NoMemory → Opens first old new code

-- a call that asks no handle ends so
pub record AnswersSo (ends : Status → Type 0) (code : ℤ) : Type 0 where
  pub status : Status
  pub ends_so : ends status
  pub is : code ≡ code_of status

-- the number of a version with these three numbers
abbrev pub version_number : ℕ → ℕ → ℕ → ℕ
version_number first second third = first * 1000000 + second * 1000 + third
