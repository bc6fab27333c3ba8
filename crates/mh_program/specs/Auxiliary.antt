-- Auxiliary definitions: what loops, private functions and the insides of types keep. No public contract depends on them.
use Rattle.std.specs.{Prelude.{◌≡◌, Bool}, String.string_bytes}
use Rattle.mh_model.specs.Bytes.{Text}
use Rattle.mh_size_counts.specs.declared.text.SizeText.{SizeText}

-- this is the text that was made, and whether it has a size
abbrev pub IsMadeText : SizeText → Text → Bool → Type 0
IsMadeText made text found = (text ≡ string_bytes made.text) × (found ≡ made.is_found)
