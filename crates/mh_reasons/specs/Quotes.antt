-- Words as messages quote them.
use Rattle.std.specs.Prelude.{◌≡◌, ◌<◌, ◌↔◌, IsTrue, length, take}
use Rattle.mh_model.specs.Bytes.{Text}
use Rattle.mh_reasons.specs.declared.quoted.Quoted.{Quoted}

-- The first 80 bytes of a word, and whether it has more
pub record Quotes (word : Text) (quoted : Quoted) : Type 0 where
  pub first : quoted.bytes.items ≡ take 80 word
  pub cut : IsTrue quoted.is_cut ↔ (80 < length word)
