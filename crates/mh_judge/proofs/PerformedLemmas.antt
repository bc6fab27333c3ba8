-- What was done with a text where `?` passes on a fault.
use Rattle.mh_script.proofs.TaskLemmas.{takes-nothing}
use Rattle.std.proofs.Common.{◌≡◌, [], refl}
use Rattle.std.specs.Prelude.{Result, Ok, Err, IsErrAnd}
use Rattle.mh_model.specs.Bytes.{Text}
use Rattle.mh_text.specs.Devices.{Device, TakesSome}
use Rattle.mh_script.specs.{declared.fault.ScriptFault.ScriptFault, declared.fault.WriteError.WriteError}
use Rattle.mh_script.specs.{declared.fault.ScriptFault.TheVariants.{Write, NoMemory}, Tasks.IsPerformed}
use Rattle.mh_script.specs.Texts.{IsWriteFault, IsWriting}

-- nothing was written of a text
pub takes-none : (sink : Device) (text : Text) → TakesSome sink sink text
takes-none sink text = record { bytes = ([], text, refl, (takes-nothing sink).bytes); works = refl }

module _ {X : Type 0} {Does : Text → Result X ScriptFault → Text → Type 0} {sink sink' : Device} {text : Text} where
  pub performed-fault : {fault : ScriptFault} (r : Result X ScriptFault) → IsErrAnd r (λ e. e ≡ fault) → IsPerformed Does sink sink' (Err fault) text → IsPerformed Does sink sink' r text
  performed-fault (Ok x) is h = absurd is
  performed-fault (Err other) is h = rw is h

  -- a writing was cut short
  pub performed-part : {error : WriteError} (out : Text) (r : Result X ScriptFault) → IsErrAnd r (IsWriteFault error) → IsWriting {X = Unit {0}} sink sink' out (Err error) → (error ≡ WriteError.Device → Does text (Err Write) out)
      → (error ≡ WriteError.NoMemory → Does text (Err NoMemory) out) → IsPerformed Does sink sink' r text
  performed-part {error = WriteError.Device} out r is wrote fails stops = performed-fault r is (record { written = out; does = fails refl; wrote = wrote })
  performed-part {error = WriteError.NoMemory} out r is wrote fails stops = performed-fault r is (record { written = out; does = stops refl; wrote = wrote })
