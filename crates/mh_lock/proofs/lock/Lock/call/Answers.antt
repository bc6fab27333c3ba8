use Rattle.std.proofs.Common.{arith, ◌≡◌, ◌++◌, ℕ, Option, Some, ap, sym, ◌∙◌, subst}
use Rattle.std.specs.Option.{option_to_list}
use Rattle.mh_seat_laws.specs.declared.seat_view.FoundValue.{FoundValue}
use Rattle.mh_lock.specs.{Seats.entry_of_call, Steps.{number_in, log_in, held, found_of, holding}}
use Rattle.mh_lock.specs.Auxiliary.{held_origin, Grows}
use Rattle.mh_lock.proofs.{CalledLocks.{entries-answered, entry-owned, owned-more, taken-given}, LockSteps.answer-grows}
use Rattle.mh_lock.proofs.LockSeats.{can_give-grown}
use Rattle.mh_lock.proofs.lock.Lock.call.Goals as goal

pub give-requires-clause-holding : goal.give-requires-clause-holding
give-requires-clause-holding g c =
    let owner = g.E.Owned.owner in
    let entries = g.T.Entries.entries in
    let origin = g.T.Entries.origin in
    let first = c.seat.inside.seat.me in
    let number : ℕ = number_in first in
    let taken = c.take.ensures.taken in
    let run = c.run_on-answer in
    let value = run.ensures.held.0 in
    let found : FoundValue g.row.E.Denot g.row.T-Origin.Denot = found_of entries origin taken.0 in
    let mine : c.args.seat.now.number ≡ number = sym (ap (λ me. number_in me) c.seat.invariant ∙ ap (λ view. view.number) c.seat.view_is) in
    let grows : Grows owner number (held entries c.take.new.seat.me.1) (held entries run.new.seat.me.1)
    = answer-grows owner number (held entries c.take.new.seat.me.1) (held entries run.new.seat.me.1) run.result (g.W.Work.entry c.args.work) run.ensures.ok run.ensures.err (λ reply. c.requires.owned reply ∙ mine) in
    let same : Some (origin value) ≡ Some found.origin = sym (ap (held_origin origin) run.ensures.held.1) ∙ (run.ensures.origin ∙ ap (λ me. held_origin origin me.1) taken.1) in
    let is : run.new.seat.me ≡ holding number (log_in first) found value = λ i. ((run.ensures.own.2 ∙ ap (λ me. me.0) taken.1) i, run.ensures.held.1 i) in
    can_give-grown owner entries origin run.new.seat.me number (log_in first) found value is
    (subst
    (λ before. Grows owner number before (entries value))
    (ap (λ me. held entries me.1) taken.1)
    (subst (Grows owner number (held entries c.take.new.seat.me.1)) (ap (held entries) run.ensures.held.1) grows))
    (let e : origin value ≡ found.origin = cc in e)

pub returns-clause-alone : goal.returns-clause-alone
returns-clause-alone g c =
    let owner = g.E.Owned.owner in
    let entries = g.T.Entries.entries in
    let origin = g.T.Entries.origin in
    let lock = c.args.self.now in
    let first = c.seat.inside.seat.me in
    let taken = c.take.ensures.taken in
    let run = c.run_on-answer in
    let work = run.ensures.does in
    let entry : Option g.row.E.Denot = entry_of_call (g.W.Work.entry c.args.work) run.result in
    let value : Some work.0 ≡ Some taken.0 = sym (ap (held_origin (λ (v : g.row.T.Denot). v)) work.2) ∙ ap (λ me. held_origin (λ (v : g.row.T.Denot). v) me.1) taken.1 in
    let same : work.0 ≡ taken.0 = cc in
    let number : number_in first ≡ c.args.seat.now.number = ap (λ me. number_in me) c.seat.invariant ∙ ap (λ view. view.number) c.seat.view_is in
    let log : log_in first ≡ c.args.seat.now.log = ap (λ view. view.log) c.seat.view_is in
    let grown : entries work.1 ≡ entries work.0 ++ option_to_list entry
    = sym (ap (held entries) work.3)
    ∙ (entries-answered (held entries c.take.new.seat.me.1) (held entries run.new.seat.me.1) run.result (g.W.Work.entry c.args.work) run.ensures.ok run.ensures.err ∙ ap (λ me. held entries me ++ option_to_list entry) work.2) in
    let owned = entry-owned owner c.args.seat.now.number run.result (g.W.Work.entry c.args.work) c.requires.owned in
    let origins : Some (origin work.1) ≡ Some (origin work.0) = sym (ap (held_origin origin) work.3) ∙ (run.ensures.origin ∙ ap (held_origin origin) work.2) in
    grind (arith, taken-given, owned-more)
