use Rattle.std.proofs.Common.{◌∷◌, flat_map, take}
use Rattle.std.specs.Fmt.{HasWritten, IsPlainFormatter}
use Rattle.mh_reasons.specs.Texts.{escaped_text}
use Rattle.mh_reasons.proofs.quoted.QuotedDisplay.fmt.Given as goal

abbrev pub invariant-loop-byte : goal.invariant-loop-byte
invariant-loop-byte g l = IsPlainFormatter l.fn.f → HasWritten g.W.Write.write_str_gives l.fn.f (34 ∷ flat_map escaped_text (take l.byte-index l.byte-items)) l.f
