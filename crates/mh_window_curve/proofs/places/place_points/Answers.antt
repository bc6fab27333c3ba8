use Rattle.std.proofs.Common.{◌∙◌, length, max, subst, sym, arith}
use Rattle.mh_window_curve.specs.{Auxiliary.AddsPlace, Places.ArePlaced}
use Rattle.mh_window_curve.proofs.PlaceLemmas.{goes_on, pauses-some, places_all, places_more}
use Rattle.mh_window_curve.proofs.places.place_points.Goals as goal

pub loop-window-preserved : goal.loop-window-preserved
loop-window-preserved c =
    rw c.next_window-window.ensures
    (places_more c.args.trace.now.trace.letters _ _ _ _ _ _ c.loop-window.invariant (omega (arith, c.loop-window-test.true, c.letter_count-letters.ensures)) c.in_ok-add.ensures)

pub returns-clause-placed : goal.returns-clause-placed
returns-clause-placed c =
    let letters = c.args.trace.now.trace.letters in
    let adds = subst (λ w. AddsPlace letters w c.loop-window.placed.points.items c.add-2.new.self.points.items c.loop-window.placed.places.items c.add-2.new.self.places.items) c.letter_count-letters.ensures c.in_ok-add-2.ensures in
    let placed = places_all letters _ _ _ _ _ _ c.loop-window.invariant (omega (arith, c.loop-window-test.false, c.letter_count-letters.ensures)) adds in
    subst (λ ws. ArePlaced letters ws c.add-2.new.self.points.items c.add-2.new.self.places.items)
    (sym (pauses-some c.args.longest (length letters) (λ none. c.if-letters-eq0.false (c.letter_count-letters.ensures ∙ none)))) placed

pub returns-clause-goes : goal.returns-clause-goes
returns-clause-goes c =
    let letters = c.args.trace.now.trace.letters in
    let adds = subst (λ w. AddsPlace letters w c.loop-window.placed.points.items c.add-2.new.self.points.items c.loop-window.placed.places.items c.add-2.new.self.places.items) c.letter_count-letters.ensures c.in_ok-add-2.ensures in
    let placed = places_all letters _ _ _ _ _ _ c.loop-window.invariant (omega (arith, c.loop-window-test.false, c.letter_count-letters.ensures)) adds in
    goes_on letters (length letters) (max 1 c.args.longest) _ _ placed
