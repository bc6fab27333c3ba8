use Rattle.std.proofs.Common.{◌≡◌, ◌∙◌, ◌+◌, ◌-◌, suc, length, ap, arith, refl, sym}
use Rattle.mh_model.specs.{Machine.{Machine, event_step}, Trace.mutator_count, World.Answer}
use Rattle.mh_deeds.specs.Accounts.{account_in}
use Rattle.mh_tell_steps.specs.Figures.{counts_of}
use Rattle.mh_tell_chrome.specs.Runs.{is_told, scene_of}
use Rattle.mh_tell_chrome.proofs.SceneLemmas.{draw_written}
use Rattle.mh_tell_chrome.proofs.run.ChromeLines.add.Goals as goal

pub returns-clause-text : goal.returns-clause-text
returns-clause-text g c =
    let scene = scene_of c.args.machine.now c.args.drawn.now in
    let step = c.in_ok-reply.ensures.does.step in
    let after : (event_step c.args.machine.now.machine c.args.event).state ≡ c.answer_told.new.machine.machine = ap (λ (s : Answer Machine). s.state) step in
    let number : c.done-number.result + 1 ≡ suc c.args.machine.now.done = omega (arith, c.done-number.ensures.done) in
    let mutator : c.saturating_sub.result ≡ mutator_count (event_step c.args.machine.now.machine c.args.event).state.trace.letters - mutator_count c.args.machine.now.machine.trace.letters =
    c.saturating_sub.ensures ∙ rw (c.mutator_count.ensures, c.mutator_count-before.ensures, c.trace-2.ensures, c.trace.ensures, after) refl in
    draw_written c.args.self.options scene c.args.event _ _ _ _ c.is_told-told.result (c.done-number.result + 1) c.trace_units-at.result c.saturating_sub.result c.in_ok-reply.reply c.heap_counts-shown.result c.heap_counts.result
    (account_in c.answer_told.new.account) c.in_ok-course.course c.trace_units.result (c.is_told-told.ensures ∙ ap (is_told c.args.self.options) number) number c.trace_units-at.ensures.units mutator c.heap_counts-shown.ensures.counts
    (sym (ap (λ (s : Answer Machine). s.reply) step)) c.in_ok-reply.ensures.told (c.trace_units.ensures.units ∙ sym (ap (λ (m : Machine). length m.trace.letters) after))
    (c.heap_counts.ensures.counts ∙ sym (ap (λ (m : Machine). counts_of m.heap.collector) after)) c.in_ok-course.ensures.course (rw c.deeds-deeds.ensures at c.in_ok-push_told.ensures.text) c.in_ok-course.ensures.text
    c.in_ok-push_counters.ensures
