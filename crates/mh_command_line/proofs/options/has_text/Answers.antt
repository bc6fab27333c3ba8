use Rattle.std.proofs.Common.{◌∙◌, ap, is_some, sym}
use Rattle.clap.specs.Words.{found_of}
use Rattle.mh_command_line.proofs.ReadingLemmas.{is_some-given, is_some-mapped}
use Rattle.mh_command_line.proofs.options.has_text.Goals as goal

pub returns : goal.returns
returns c = c.is_some.ensures ∙ (sym (is_some-mapped (λ s. s.now) c.get_str.result) ∙ (ap is_some c.get_str.ensures ∙ is_some-given (found_of c.args.matches.now) c.args.name.now))
