use Rattle.std.proofs.Common.{rules, ◌≡◌, ◌<◌, ◌∷◌, ◌++◌, List, [], None, get_or, map, ap, append_assoc, sym, subst, ◌∙◌}
use Rattle.std.proofs.lemmas.List.{map-append}
use Rattle.mh_lock.specs.Seats.{LockSeatView}
use Rattle.mh_model.specs.declared.history.Entry.{Entry}
use Rattle.mh_race.specs.declared.racer.Racer.{Racer}
use Rattle.mh_race.proofs.RunSeats.{noted-more}
use Rattle.mh_race.proofs.race.take_seats.Goals as goal

pub loop-seat-preserved : goal.loop-seat-preserved
loop-seat-preserved c =
    let number : c.number.result ≡ c.in-Some.field-0.seat.number = c.number.ensures in record {
      room = search rules;
      seats = c.push_reserved.ensures.items ∙ ap (λ (l : List (LockSeatView Entry)). l ++ c.in-Some.field-0.seat ∷ []) c.loop-seat.invariant.seats ∙ append_assoc c.args.seats.now.items (map (λ r. r.seat) c.loop-seat.yielded) (c.in-Some.field-0.seat ∷ [])
          ∙ ap (λ l. c.args.seats.now.items ++ l) (sym (map-append (λ (r : Racer). r.seat) c.loop-seat.yielded (c.in-Some.field-0 ∷ [])));
      noted = noted-more c.loop-seat.yielded c.in-Some.field-0 c.args.stops.now c.loop-seat.stops c.note.new.stops c.note.ensures.none (λ over. c.note.ensures.past (subst (λ n. 8 < n) (sym number) over))
          (λ reason below is. ap (λ n. get_or c.note.new.stops n None) (sym number) ∙ c.note.ensures.noted reason (subst (λ n. n < 9) (sym number) below) is) (λ other apart. c.note.ensures.others other (λ same. apart (same ∙ number))) c.loop-seat.invariant.noted;
    }
