use Rattle.std.proofs.Common.{◌≡◌, ◌∙◌, ◌↔◌, ap, sym, subst, IsTrue}
use Rattle.mh_model.specs.Machine.{Machine, machine_after}
use Rattle.mh_size_runs.specs.Live.{AreWhole, most_left, quarter_of}
use Rattle.mh_size_runs.proofs.LiveLemmas.{at, at-first, at-last, at-next, quarters-are}
use Rattle.mh_size_runs.proofs.live.quarters.Goals as goal

pub returns-clause-quarters : goal.returns-clause-quarters
returns-clause-quarters g c =
    let first = c.args.machine.now.machine in
    let events = c.args.events.now in
    let zero : first ≡ at first events 0 = sym (at-first first events) in
    let one : c.look_at_quarter.new.machine.machine ≡ at first events 1 = c.in_ok-first.ensures.after ∙ ap (λ m. machine_after m (quarter_of events 0)) zero ∙ at-next first events 0 in
    let two : c.look_at_quarter-2.new.machine.machine ≡ at first events 2 = c.in_ok-second.ensures.after ∙ ap (λ m. machine_after m (quarter_of events 1)) one ∙ at-next first events 1 in
    let three : c.look_at_quarter-3.new.machine.machine ≡ at first events 3 = c.in_ok-third.ensures.after ∙ ap (λ m. machine_after m (quarter_of events 2)) two ∙ at-next first events 2 in
    quarters-are first events _ _ _ _ _ _ _ _ _ c.together.ensures
    (subst (λ (m : Machine). IsTrue c.in_ok-first.first.is_whole ↔ AreWhole m (quarter_of events 0)) zero c.in_ok-first.ensures.whole)
    (subst (λ (m : Machine). IsTrue c.in_ok-second.second.is_whole ↔ AreWhole m (quarter_of events 1)) one c.in_ok-second.ensures.whole)
    (subst (λ (m : Machine). IsTrue c.in_ok-third.third.is_whole ↔ AreWhole m (quarter_of events 2)) two c.in_ok-third.ensures.whole)
    (subst (λ (m : Machine). IsTrue c.in_ok-fourth.fourth.is_whole ↔ AreWhole m (quarter_of events 3)) three c.in_ok-fourth.ensures.whole)
    (c.in_ok-first.ensures.most ∙ ap (λ m. most_left m (quarter_of events 0)) zero) (c.in_ok-second.ensures.most ∙ ap (λ m. most_left m (quarter_of events 1)) one)
    (c.in_ok-third.ensures.most ∙ ap (λ m. most_left m (quarter_of events 2)) two) (c.in_ok-fourth.ensures.most ∙ ap (λ m. most_left m (quarter_of events 3)) three)

pub returns-clause-after : goal.returns-clause-after
returns-clause-after g c =
    let first = c.args.machine.now.machine in
    let events = c.args.events.now in
    let one : c.look_at_quarter.new.machine.machine ≡ at first events 1 = c.in_ok-first.ensures.after ∙ ap (λ m. machine_after m (quarter_of events 0)) (sym (at-first first events)) ∙ at-next first events 0 in
    let two : c.look_at_quarter-2.new.machine.machine ≡ at first events 2 = c.in_ok-second.ensures.after ∙ ap (λ m. machine_after m (quarter_of events 1)) one ∙ at-next first events 1 in
    let three : c.look_at_quarter-3.new.machine.machine ≡ at first events 3 = c.in_ok-third.ensures.after ∙ ap (λ m. machine_after m (quarter_of events 2)) two ∙ at-next first events 2 in
    c.in_ok-fourth.ensures.after ∙ ap (λ m. machine_after m (quarter_of events 3)) three ∙ at-next first events 3 ∙ at-last first events
