-- What is written of a size is a text of its kind.
use Rattle.std.proofs.Common.{◌≡◌, Bool, true, false, sym, subst}
use Rattle.std.specs.{Prelude.{IfOk, OnErr, Result, Ok, Err}, String.string_bytes}
use Rattle.mh_model.specs.Bytes.{Text}
use Rattle.mh_script.specs.declared.fault.ScriptFault.{ScriptFault, TheVariants.{Write, NoMemory}}
use Rattle.mh_size_counts.specs.declared.text.SizeText.{SizeText}
use Rattle.mh_size_text.specs.declared.end.SizeEnd.{SizeEnd, TheVariants.{Sized, NoSize, Refused}}
use Rattle.mh_text.specs.Devices.{Device}
use Rattle.mh_program.specs.{Auxiliary.IsMadeText, Program.WritesSize}

-- what holds of the text that was made holds of one that is it
same-text : (Is : Text → Bool → Type 0) (made : SizeText) (text : Text) (found : Bool) → Is (string_bytes made.text) made.is_found → IsMadeText made text found → Is text found
same-text Is made text found is (same, whether) = subst (λ (b : Bool). Is text b) (sym whether) (subst (λ (t : Text). Is t made.is_found) (sym same) is)

of-text : (Is : Text → Bool → Type 0) (made : SizeText) (old new : Device) (ended : Result SizeEnd ScriptFault) → Is (string_bytes made.text) made.is_found → WritesSize (IsMadeText made) old new ended → WritesSize Is old new ended
of-text Is made old new (Ok Sized) is (text, of, takes) = (text, same-text Is made text true is of, takes)
of-text Is made old new (Ok NoSize) is (text, of, takes) = (text, same-text Is made text false is of, takes)
of-text Is made old new (Ok (Refused refusal)) is none = none
of-text Is made old new (Err Write) is (text, (found, of), fails) = (text, (found, same-text Is made text found is of), fails)
of-text Is made old new (Err NoMemory) is same = same
of-text Is made old new (Err other) is none = none

pub written-is : {E : Type 0} (Is : Text → Bool → Type 0) (made : Result SizeText E) (old new : Device) (ended : Result SizeEnd ScriptFault) → IfOk made (λ m. Is (string_bytes m.text) m.is_found) → IfOk made (λ m. WritesSize (IsMadeText m) old new ended)
    → OnErr made ((ended ≡ Err NoMemory) × (new ≡ old)) → WritesSize Is old new ended
written-is Is (Ok made) old new ended is wrote none = of-text Is made old new ended is wrote
written-is Is (Err error) old new ended is wrote (none, same) = subst (WritesSize Is old new) (sym none) same
