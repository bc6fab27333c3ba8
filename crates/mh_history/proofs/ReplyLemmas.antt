-- Replies by their first word.
use Rattle.std.proofs.Common.{◌≡◌, true, List, ◌∷◌, refl}
use Rattle.std.specs.Prelude.{codes}
use Rattle.mh_model.specs.{declared.history.Version.Version, Bytes.{Text, is_text}, Replies.{reply_of, dump_of}}
use Rattle.mh_model.proofs.TextLemmas.{text_is}

pub dump_said : (version : Version) (line : List Text) (verb : Text) (words : List Text) → line ≡ verb ∷ words → is_text verb (codes "dump") ≡ true → reply_of version line ≡ dump_of words
dump_said version line verb words line_is is = rw (line_is, text_is verb (codes "dump") is) refl
