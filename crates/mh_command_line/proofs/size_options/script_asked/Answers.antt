use Rattle.clap.specs.Words.{found_of, rows_of}
use Rattle.mh_command_line.proofs.AskedLemmas.{no_heap}
use Rattle.mh_command_line.proofs.size_options.script_asked.Goals as goal

pub returns : goal.returns
returns c = record {
  rules = c.rules_asked.ensures;
  window = c.large_number.ensures.value;
  heap = no_heap (rows_of (found_of c.args.matches.now)) c.requires.meets c.requires.target c.requires.used;
  target = c.requires.target;
}
