use Rattle.std.proofs.Common.{◌≡◌, ◌∙◌, ◌+◌, add-one, append-nil, ap, arith, refl, sym}
use Rattle.mh_machine.specs.Running.{Running}
use Rattle.mh_script.proofs.{HistoryLemmas.history_by_lines, TakenLemmas.{in-waiting, writing-fails, writing-stops}}
use Rattle.mh_script.proofs.LineLemmas.{told-all, told-fails, told-more, told-none, told-on, told-stops, told-unfinished}
use Rattle.mh_judge.proofs.{PerformedLemmas.takes-none, RecordLemmas.{ended, next_of, none_left}}
use Rattle.mh_judge.proofs.record.write_events.Goals as goal

pub returns-in_err-machine : goal.returns-in_err-machine
returns-in_err-machine g c = writing-stops _ c.from_residual.ensures.1 (takes-none _ _)

pub returns-in_err-text : goal.returns-in_err-text
returns-in_err-text g c = writing-stops _ c.from_residual-in_err-text.ensures.1 (takes-none _ _)

pub loop-text-init : goal.loop-text-init
loop-text-init g c =
    let none = ap (λ (r : Running). r.done) c.in_ok-machine.ensures in
    record {
      sound = c.requires.sound;
      left = rw none refl;
      told = rw none (told-none (ap (λ (r : Running). r.machine) c.in_ok-machine.ensures) (in-waiting _ c.in_ok-text.ensures));
    }

pub returns-in_err-event : goal.returns-in_err-event
returns-in_err-event g c = writing-stops _ c.from_residual-in_err-event.ensures.1 (told-stops c.loop-text.invariant.told (history_by_lines c.args.config _))

pub add-requires : goal.add-requires
add-requires g c =
    let reads = rw c.in-Some.is at c.in_ok-event.ensures.next in
    let next = next_of (g.E.Events.left c.args.events) c.loop-text.machine.done c.in-Some.event (g.E.Events.left c.next_event.new.self) (sym c.loop-text.invariant.left ∙ reads) in
    record { room = omega (arith, next.below, c.requires.few); holds = tt }

pub returns-in_err-add : goal.returns-in_err-add
returns-in_err-add g c = writing-stops _ c.from_residual-in_err-add.ensures.1 (told-stops c.loop-text.invariant.told (history_by_lines c.args.config _))

pub returns-in_err-flush_full : goal.returns-in_err-flush_full
returns-in_err-flush_full g c =
    let reads = rw c.in-Some.is at c.in_ok-event.ensures.next in
    let next = next_of (g.E.Events.left c.args.events) c.loop-text.machine.done c.in-Some.event (g.E.Events.left c.next_event.new.self) (sym c.loop-text.invariant.left ∙ reads) in
    let told = told-more c.loop-text.invariant.told c.in-Some.event {state' = c.add.new.machine.machine} (rw add-one next.cut) c.in_ok-add.ensures.state c.in_ok-add.ensures.text in
    writing-fails _ c.from_residual-in_err-flush_full.ensures.1 (told-fails told (history_by_lines c.args.config _) c.in_err-flush_full.ensures.failed)

pub loop-text-preserved : goal.loop-text-preserved
loop-text-preserved g c =
    let reads = rw c.in-Some.is at c.in_ok-event.ensures.next in
    let next = next_of (g.E.Events.left c.args.events) c.loop-text.machine.done c.in-Some.event (g.E.Events.left c.next_event.new.self) (sym c.loop-text.invariant.left ∙ reads) in
    let told = told-more c.loop-text.invariant.told c.in-Some.event {state' = c.add.new.machine.machine} (rw add-one next.cut) c.in_ok-add.ensures.state c.in_ok-add.ensures.text in
    let one : c.add.new.machine.done ≡ c.loop-text.machine.done + 1 = omega (arith, c.in_ok-add.ensures.count) in
    record { sound = c.in_ok-event.ensures.sound; left = rw c.in_ok-add.ensures.count next.left; told = rw one (told-on told c.in_ok-flush_full.ensures.kept) }

pub returns-in_err-flush : goal.returns-in_err-flush
returns-in_err-flush g c =
    let all = none_left _ _ (sym c.loop-text.invariant.left ∙ ended _ _ c.in_default.not-Some c.in_ok-event.ensures.next) in
    writing-fails _ c.from_residual-in_err-flush.ensures.1 (told-unfinished c.loop-text.invariant.told (history_by_lines c.args.config _) all (sym (append-nil _)) c.in_err-flush.ensures.written)

pub returns : goal.returns
returns g c =
    let all = none_left _ _ (sym c.loop-text.invariant.left ∙ ended _ _ c.in_default.not-Some c.in_ok-event.ensures.next) in
    told-all c.loop-text.invariant.told (history_by_lines c.args.config _) all (sym (append-nil _)) c.in_ok-flush.ensures.written
