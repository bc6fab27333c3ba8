use Rattle.std.proofs.{Common.{◌++◌, [], unwrap_or, sym, ◌∙◌}, lemmas.Bool.true≢false}
use Rattle.mh_size_runs.proofs.watched.Watched.note_interval.Goals as goal

pub returns-in_ok-end_interval-clause-goes_on : goal.returns-in_ok-end_interval-clause-goes_on
returns-in_ok-end_interval-clause-goes_on c = λ some. record {
  start = c.in_ok-end_interval.ensures.rest.start;
  on = λ none. absurd (true≢false (sym c.if-has_quantum_since.true ∙ c.has_quantum_since.ensures ∙ none));
  ended = λ _. (
    c.in_ok-end_interval.ensures.running,
    λ parts counted. c.in_ok-end_interval.ensures.opened (parts ++ unwrap_or c.args.asked.now []) (c.ask_for.ensures.counted parts counted),
  );
}
