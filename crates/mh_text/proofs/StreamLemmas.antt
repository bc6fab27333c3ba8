-- What calls in a row make of a device.
use Rattle.std.proofs.Common.{◌∙◌, sym, ℕ, ◌+◌, ◌-◌, ◌<◌, take, drop, length, length-append, take-append-drop, arith}
use Rattle.std.proofs.{KnownBytes.{Appends-kept, Appends-trans, Consumes-trans}, lemmas.Grind.common_steps}
use Rattle.std.proofs.Math.Seq.{take-add}
use Rattle.mh_model.specs.Bytes.{Text}
use Rattle.mh_text.specs.Devices.{Device, FailsAt, FailsAtOnce, Gives, GivesSome, Takes}

-- a source gave some bytes, and then one at least
pub gives-some : {a b c : Device} {text more : Text} → Gives a b text → Gives b c more → 0 < length more → GivesSome a c
gives-some {a} {b} {c} {text} {more} before after some = grind (arith, length-append, Consumes-trans)

-- a sink was given the text up to a place, and then failed
pub takes-fails : {a b c : Device} (text : Text) (i : ℕ) → Takes a b (take i text) → FailsAtOnce b c → FailsAt a c text
takes-fails {a} {b} {c} text i before failed = record {
  bytes = (take i text, drop i text, take-append-drop i text, Appends-kept a.bytes b.bytes c.bytes (take i text) before.bytes failed.bytes);
  fails = λ same. failed.fails (same ∙ sym before.works);
}

-- the text up to a place, and then more of it from there
pub takes-more : {a b c : Device} (text : Text) (i n : ℕ) → Takes a b (take i text) → Takes b c (take n (take (length text - i) (drop i text))) → Takes a c (take (i + n) text)
takes-more {a} {b} {c} text i n before more = grind (arith, common_steps, take-add, Appends-trans)
