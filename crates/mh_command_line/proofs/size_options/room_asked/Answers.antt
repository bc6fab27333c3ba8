use Rattle.std.proofs.Common.{◌∙◌, ap, codes, refl}
use Rattle.std.specs.Prelude.{unwrap_or}
use Rattle.clap.specs.Words.{found_of, rows_of}
use Rattle.mh_command_line.proofs.AskedLemmas.{every_of_heap, given_passes, rules_of_heap, window_of_heap}
use Rattle.mh_command_line.proofs.size_options.room_asked.Goals as goal

pub needed-requires-2 : goal.needed-requires-2
needed-requires-2 c =
    let rows = rows_of (found_of c.args.matches.now) in
    given_passes (codes "size") (codes "every") 1 1000000 rows refl c.requires.takes (every_of_heap rows c.requires.meets c.requires.used)

pub returns : goal.returns
returns c = let rows = rows_of (found_of c.args.matches.now) in record {
  used = c.needed.ensures.value;
  every = c.needed-2.ensures.value;
  rates = c.rates_asked.ensures;
  most_parts = c.unwrap_or.ensures ∙ ap (λ parts. unwrap_or parts 1) c.number.ensures.value;
  cycles = c.cycles_asked.ensures.cycles;
  target = c.requires.target;
  window = window_of_heap rows c.requires.meets c.requires.used c.requires.target;
  rules = rules_of_heap rows c.requires.meets c.requires.used;
}
