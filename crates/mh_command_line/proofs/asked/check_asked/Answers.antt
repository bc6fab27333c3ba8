use Rattle.std.proofs.Common.{◌≡◌, ◌∙◌, ap, codes, false, not, refl, sym, true}
use Rattle.clap.specs.Words.{found_of, rows_of}
use Rattle.mh_command_line.specs.Values.{is_flagged}
use Rattle.mh_command_line.proofs.AskedLemmas.{no_config_of_sessions}
use Rattle.mh_command_line.proofs.asked.check_asked.Goals as goal

pub returns-then-is_flagged-2-clause-order : goal.returns-then-is_flagged-2-clause-order
returns-then-is_flagged-2-clause-order c =
    let rows = rows_of (found_of c.args.matches.now) in
    let log : is_flagged (codes "log") rows ≡ false = sym c.is_flagged.ensures ∙ c.if-is_flagged.false in
    let sessions : is_flagged (codes "sessions") rows ≡ true = sym c.is_flagged-2.ensures ∙ c.if-is_flagged-2.true in
    (refl, sessions, log, no_config_of_sessions rows c.requires.meets sessions, record { rules = c.rules_given-rules.ensures; may_be_full = ap not c.is_flagged-may_be_full.ensures })
