-- Auxiliary definitions: what loops, private functions and the insides of types keep. No public contract depends on them.
use Rattle.std.specs.Prelude.{Bool, true, false}
use Rattle.mh_size_text.specs.declared.end.SizeEnd.{SizeEnd, TheVariants.{Sized, NoSize}}

-- how a sizing ended that was written
abbrev pub ended_with : Bool → SizeEnd
ended_with true = Sized
ended_with false = NoSize
