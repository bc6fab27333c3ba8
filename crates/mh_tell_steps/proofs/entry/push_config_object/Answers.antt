use Rattle.std.proofs.Common.{◌∙◌, ◌++◌, ap, append_assoc}
use Rattle.std.specs.String.{string_bytes}
use Rattle.mh_model.specs.Bytes.{Text}
use Rattle.mh_tell_steps.proofs.entry.push_config_object.Goals as goal

pub returns : goal.returns
returns c = rw c.rules_number-rules.ensures at c.in_ok-writeln.ensures.bytes ∙ ap (λ (text : Text). string_bytes c.args.text.now ++ text) (simp append_assoc)
