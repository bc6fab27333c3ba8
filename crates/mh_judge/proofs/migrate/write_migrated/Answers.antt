use Rattle.std.proofs.Common.{inr}
use Rattle.mh_judge.proofs.MigratedLemmas.{legal_entries, legal_text, other_line}
use Rattle.mh_judge.proofs.migrate.write_migrated.Goals as goal

pub returns-in-Ok-clause-written : goal.returns-in-Ok-clause-written
returns-in-Ok-clause-written g c =
    let same = legal_text c.args.config c.args.text.now c.in-Legal.field-0 _ (rw c.in-Legal.is at c.requires) c.in-Ok.ensures.lines in
    rw c.in-Legal.is (rw same at c.write_events.ensures)

pub returns-in-Ok-clause-memory : goal.returns-in-Ok-clause-memory
returns-in-Ok-clause-memory g c =
    let legal = legal_entries c.args.config c.args.text.now c.in-Legal.field-0 (rw c.in-Legal.is at c.requires) in
    λ _. inr (legal.entries, legal.means)

pub returns-in_ok-write_verdict-in_default-clause-written : goal.returns-in_ok-write_verdict-in_default-clause-written
returns-in_ok-write_verdict-in_default-clause-written g c =
    rw (other_line c.args.config c.args.judgement.now _ c.in_default.not-Legal) (rw c.verdict.ensures at c.in_ok-write_verdict-in_default.ensures)
