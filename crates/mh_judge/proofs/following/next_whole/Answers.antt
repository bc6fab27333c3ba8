use Rattle.mh_history.proofs.LineLemmas.{line_entry}
use Rattle.mh_judge.proofs.following.next_whole.Goals as goal

pub returns-in_err-entry-clause-memory : goal.returns-in_err-entry-clause-memory
returns-in_err-entry-clause-memory g c = λ _. line_entry _ _ _ _ _ c.in-Some.ensures.next c.in_err-entry.ensures.memory
