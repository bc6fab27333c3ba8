use Rattle.std.proofs.{Common.{List, map, ap, arith}, lemmas.List.drop_all}
use Rattle.mh_model.specs.declared.command.Event.{Event}
use Rattle.mh_size_runs.specs.Seen.{greatest}
use Rattle.mh_size_text.specs.Texts.{session_count, session_of}
use Rattle.mh_size_text.proofs.lines.session_count.Goals as goal

pub returns : goal.returns
unfolding session_count
returns c =
    let none = ap (λ (events : List Event). greatest (map session_of events)) (drop_all _ _ c.loop-event-test.false) in
    omega (arith, none, c.loop-event.invariant)
