use Rattle.std.proofs.Common.{◌≡◌, ◌∙◌, ap}
use Rattle.mh_laws.proofs.bounds.CyclesInTime.{run-stays}
use Rattle.mh_model.specs.{Machine.{Machine, first_machine, machine_after, report_on}, declared.config.Config.Config}
use Rattle.mh_size_runs.proofs.LawLemmas.{seen-law}
use Rattle.mh_size_runs.proofs.seen.seen_of.Goals as goal

pub returns-clause-seen : goal.returns-clause-seen
returns-clause-seen g c =
    let config = c.args.config in
    let events = c.args.events.now in
    let after : c.watch.new.machine.machine ≡ machine_after (first_machine config) events = c.in_ok-facts.ensures.after in
    c.seen_by.ensures events c.args.window c.in_ok-facts.ensures.facts
    (c.report-report.ensures.report ∙ ap (λ (m : Machine). report_on m.heap.config m.trace c.args.window) after
    ∙ ap (λ (k : Config). report_on k (machine_after (first_machine config) events).trace c.args.window) (run-stays config events).config_is)

pub returns-clause-law : goal.returns-clause-law
returns-clause-law g c =
    let config = c.args.config in
    let events = c.args.events.now in
    let after : c.watch.new.machine.machine ≡ machine_after (first_machine config) events = c.in_ok-facts.ensures.after in
    let seen = c.seen_by.ensures events c.args.window c.in_ok-facts.ensures.facts
    (c.report-report.ensures.report ∙ ap (λ (m : Machine). report_on m.heap.config m.trace c.args.window) after
    ∙ ap (λ (k : Config). report_on k (machine_after (first_machine config) events).trace c.args.window) (run-stays config events).config_is) in
    seen-law config events c.args.window c.seen_by.result seen
