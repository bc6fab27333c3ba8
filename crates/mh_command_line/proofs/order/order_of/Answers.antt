use Rattle.clap.specs.{Words.{found_of, rows_of}, declared.parser.matches.ArgMatches.TheViews.out-ArgMatches}
use Rattle.mh_command_line.proofs.OrderLemmas.{takes_named}
use Rattle.mh_command_line.proofs.order.order_of.Goals as goal

pub order_with-requires : goal.order_with-requires
order_with-requires c = takes_named (out-ArgMatches c.args.matches.now).subcommand c.in-Some.name.now (rows_of (found_of c.in-Some.matches.now)) c.in-Some.ensures.name c.in-Some.ensures.rows c.requires
