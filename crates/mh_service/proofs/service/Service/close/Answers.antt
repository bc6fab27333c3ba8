use Rattle.std.proofs.Common.{arith, ◌≡◌, ◌∙◌, ap, sym, subst, All}
use Rattle.mh_model.specs.History.{owner_of, owned_by}
use Rattle.mh_service.proofs.{ClosedServices.closed-machine, SharedStates.closed-merged}
use Rattle.mh_service.specs.Services.{AreMerged}
use Rattle.mh_service.proofs.service.Service.close.Goals as goal

pub returns-in-Ok-clause-legal : goal.returns-in-Ok-clause-legal
returns-in-Ok-clause-legal g c =
    let config : c.into_state-state.result.machine.heap.config ≡ c.args.self.config = ap (λ stored. stored.machine.heap.config) c.into_state-state.ensures ∙ (c.in-Ok.ensures.origin ∙ ap (λ s. s.config) c.self.view_is) in
    rw (← config, c.into_parts-history.ensures.history) c.into_parts-history.ensures.legal

pub returns-in-Ok-clause-machine : goal.returns-in-Ok-clause-machine
returns-in-Ok-clause-machine g c =
    let config : c.into_state-state.result.machine.heap.config ≡ c.args.self.config = ap (λ stored. stored.machine.heap.config) c.into_state-state.ensures ∙ (c.in-Ok.ensures.origin ∙ ap (λ s. s.config) c.self.view_is) in
    let parts = c.into_parts-history.result in
    let told = c.into_parts-history.ensures in
    closed-machine c.args.self.config c.into_state-state.result parts.0.items parts.1.kept c.free_pages-free.result parts.2.trace config told.history told.heap (cc) told.trace told.replay

pub returns-in-Ok-clause-logs : goal.returns-in-Ok-clause-logs
returns-in-Ok-clause-logs g c =
    let same : c.into_parts-history.result.0.items ≡ c.in-Ok.shared.history = c.into_parts-history.ensures.history ∙ ap (λ stored. stored.history) c.into_state-state.ensures in
    subst (λ entries. All (λ seat. seat.log ≡ owned_by (λ entry. owner_of entry.event) seat.number entries) c.args.seats.items) (sym same) c.in-Ok.ensures.logs

pub returns-in-Ok-clause-numbers : goal.returns-in-Ok-clause-numbers
returns-in-Ok-clause-numbers g c = λ number below. c.in-Ok.ensures.numbers number (omega (arith, below, c.self.invariant))

pub returns-in-Ok-clause-merged : goal.returns-in-Ok-clause-merged
returns-in-Ok-clause-merged g c =
    let same : c.into_parts-history.result.0.items ≡ c.in-Ok.shared.history = c.into_parts-history.ensures.history ∙ ap (λ stored. stored.history) c.into_state-state.ensures in
    subst (AreMerged c.args.seats.items) (sym same) (closed-merged c.logs_merge_to_the_history.ensures c.self.inside.lock c.args.seats.items c.in-Ok.shared.history c.in-Ok.ensures.kept c.self.invariant.2)
