use Rattle.std.proofs.Common.{◌≡◌, ◌++◌, Option, length}
use Rattle.mh_model.specs.{Bytes.Text, Live.Live}
use Rattle.mh_text.specs.Devices.{Works}
use Rattle.mh_live.specs.Auxiliary.{IsFed}
use Rattle.mh_live.proofs.feed.Feed.bytes.Given as goal

-- the lines in what was taken of the bytes were answered, and the refused ones told
abbrev pub invariant-loop-piece : goal.invariant-loop-piece
invariant-loop-piece g l =
    (Works (g.W.Sink.device l.initial.sink) (g.W.Sink.device l.sink))
    × ((taken : Text) × (l.bytes ≡ taken ++ l.rest)
    × ((opened : Live) (text : Text) (first : Option Text) (start : g.row.L.Denot) → IsFed opened (λ refusals. g.L.Listener.hears start refusals l.initial.listener) text first (g.W.Sink.device l.initial.sink).bytes l.initial.self
    → IsFed opened (λ refusals. g.L.Listener.hears start refusals l.listener) (text ++ taken) first (g.W.Sink.device l.sink).bytes l.self))

abbrev pub decreases-loop-piece : goal.decreases-loop-piece
decreases-loop-piece g l = length l.rest
