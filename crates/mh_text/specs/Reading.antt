-- How a script is read from a line on.
use Rattle.std.specs.Prelude.{◌≡◌, ℕ, ◌<◌, ◌≤◌, [], length, take}
use Rattle.mh_model.specs.{Bytes.{Text, Cut, cut_after}, Script.{Meaning, Means, script_of}}

-- the first lines of a text, and nothing after them
abbrev pub first_lines : ℕ → Cut → Cut
first_lines count cut = record { pieces = take count cut.pieces; rest = [] }

-- A text that isn't too long, of which some lines, from the first on, are a script with an event
pub record BeginsWithEvent (text : Text) : Type 0 where
  pub short : length text ≤ 67108864
  pub count : ℕ
  pub script : Meaning
  pub read : script_of (first_lines count (cut_after 10 text)) ≡ Means script
  pub some : 0 < length script.events
