use Rattle.std.proofs.Common.{◌∙◌, ap, arith}
use Rattle.mh_tell_cycles.specs.declared.watch.Watch.{Watch}
use Rattle.mh_tell_cycles.proofs.WatchLemmas.{note-by, ok-then, watched}
use Rattle.mh_tell_cycles.proofs.watch.Watch.tell.Goals as goal

pub note-requires : goal.note-requires
note-requires c =
    let does = c.in_ok-answer_told.ensures.does in
    let can = note-by _ _ _ _ _ _ _ c.requires.watches (ap (λ a. a.state) does.step) c.in_ok-answer_told.ensures.told (c.done-number.ensures.done ∙ does.done) in
    record {
      few = omega (arith, c.done-number.ensures.done, does.done, c.requires.room);
      within = can.within;
      later = omega (arith, c.done-number.ensures.done, does.done);
      spent = can.spent;
      opened = can.opened;
      commands = can.commands;
      units = can.units;
    }

pub returns-clause-watches : goal.returns-clause-watches
returns-clause-watches c =
    let does = c.in_ok-answer_told.ensures.does in
    ok-then _ (watched _ _ _ _ _ _ _ _ _ c.requires.watches (ap (λ a. a.state) does.step) c.done-number.ensures.done (ap (λ (w : Watch). w.stat) c.note.ensures.noted) c.note.ensures.within) c.close.ensures.closed
