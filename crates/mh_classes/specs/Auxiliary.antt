-- Auxiliary definitions: what loops, private functions and the insides of types keep. No public contract depends on them.
use Rattle.std.specs.Prelude.{◌+◌, ◌≤◌}
use Rattle.mh_model.specs.Classes.{Part}
use Rattle.mh_classes.specs.Fits.{FitsItsHeader}

-- what holds of every part of an object that isn't too large: it fits its header, and has at most 60 references and numbers
pub record IsPart (part : Part) : Type 0 where
  pub few : part.references + part.numbers ≤ 60
  pub fits : FitsItsHeader part
