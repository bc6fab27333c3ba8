use Rattle.std.proofs.{Common.{arith, ◌≡◌, [], ap, refl, sym, ◌∙◌}, lemmas.Bool.false≢true}
use Rattle.mh_text.proofs.ScriptLemmas.{walks_blank, walks_known, walks_calls, walks_called, walks_asks, walks_wrong, walks_event, walks_end, walks_rest, event_fewer}
use Rattle.mh_text.specs.Pieces.{Lines}
use Rattle.mh_text.proofs.script.events_from.Goals as goal

pub loop-taken-preserved-in-Blank : goal.loop-taken-preserved-in-Blank
loop-taken-preserved-in-Blank c = walks_blank _ _ _ _ _ _ _ c.loop-taken.invariant (rw c.in-Line.is at c.in-Some.ensures.next) (sym c.in-Blank.ensures)

pub loop-taken-preserved-in-Continue-branch-3 : goal.loop-taken-preserved-in-Continue-branch-3
loop-taken-preserved-in-Continue-branch-3 c =
    walks_called _ _ _ _ _ _ _ _ _ _ _ _ c.loop-taken.invariant (rw c.in-Line.is at c.in-Some.ensures.next) (sym c.in-Calls.ensures) c.in_ok-who-in-Calls.ensures.number c.in_ok-who-in-Calls.ensures.seen c.in_ok-push-in-Calls.ensures.items

pub returns-in_err-who-in-Calls-clause-memory : goal.returns-in_err-who-in-Calls-clause-memory
returns-in_err-who-in-Calls-clause-memory c =
    λ _. walks_event _ _ _ _ _ (walks_calls _ _ _ _ _ _ _ _ _ c.loop-taken.invariant (rw c.in-Line.is at c.in-Some.ensures.next) (sym c.in-Calls.ensures))

pub returns-in_err-push-in-Calls-clause-memory : goal.returns-in_err-push-in-Calls-clause-memory
returns-in_err-push-in-Calls-clause-memory c =
    λ _. walks_event _ _ _ _ _ (walks_calls _ _ _ _ _ _ _ _ _ c.loop-taken.invariant (rw c.in-Line.is at c.in-Some.ensures.next) (sym c.in-Calls.ensures))

pub loop-taken-preserved : goal.loop-taken-preserved
loop-taken-preserved c =
    let done = walks_asks _ _ _ _ _ _ _ _ c.loop-taken.invariant (rw c.in-Line.is at c.in-Some.ensures.next) (sym c.in-Asks.ensures) in
    rw c.in_ok-push-in-Asks.ensures.items done

pub returns-in_err-push-in-Asks-clause-memory : goal.returns-in_err-push-in-Asks-clause-memory
returns-in_err-push-in-Asks-clause-memory c =
    λ _. walks_event _ _ _ _ _ (walks_asks _ _ _ _ _ _ _ _ c.loop-taken.invariant (rw c.in-Line.is at c.in-Some.ensures.next) (sym c.in-Asks.ensures))

pub returns-in-Wrong-clause-line : goal.returns-in-Wrong-clause-line
returns-in-Wrong-clause-line c = walks_wrong _ _ _ _ _ _ _ c.loop-taken.invariant (rw c.in-Line.is at c.in-Some.ensures.next) (sym c.in-Wrong.ensures)

pub returns-then-is_empty-clause-events : goal.returns-then-is_empty-clause-events
returns-then-is_empty-clause-events c =
    let left = c.if-is_empty.ensures.0 refl in
    walks_end _ _ _ _ c.loop-taken.invariant c.in_default.ensures.end (ap (λ (l : Lines). l.rest) (sym c.in_default.ensures.same) ∙ left.0)

pub returns-else-is_empty-clause-line : goal.returns-else-is_empty-clause-line
returns-else-is_empty-clause-line c =
    let same = c.in_default.ensures.same in
    let some : c.loop-taken.lines.rest ≡ [] → ⊥ = λ none. false≢true (c.if-is_empty.ensures.1 (ap (λ (l : Lines). l.rest) same ∙ none, ap (λ (l : Lines). l.lines) same ∙ c.in_default.ensures.end)) in
    rw (c.number-else-is_empty.ensures, same) (walks_rest _ _ _ _ c.loop-taken.invariant c.in_default.ensures.end some)

pub loop-taken-preserved-in-Continue-1 : goal.loop-taken-preserved-in-Continue-1
loop-taken-preserved-in-Continue-1 c = grind (arith, walks_known)

pub loop-taken-smaller-in-Continue-1 : goal.loop-taken-smaller-in-Continue-1
loop-taken-smaller-in-Continue-1 c = event_fewer _ _ _ _ (rw c.in-Plain.is at c.in-Some.ensures.next)

pub returns-in_err-push-in-Plain-clause-memory : goal.returns-in_err-push-in-Plain-clause-memory
returns-in_err-push-in-Plain-clause-memory c = λ _. walks_event _ _ _ _ _ (walks_known _ _ _ _ _ _ c.loop-taken.invariant (rw c.in-Plain.is at c.in-Some.ensures.next))
