use Rattle.std.proofs.Common.{◌≤◌, length}
use Rattle.std.specs.Io.KnownBytes.{Consumes}
use Rattle.mh_model.specs.Bytes.{Text}
use Rattle.mh_text.specs.Devices.{Works}
use Rattle.mh_live.specs.{Auxiliary.IsFed, Talks.Sends}
use Rattle.mh_live.proofs.feed.run_live.Given as goal

-- what was read so far was answered, the refused lines in it were told, and no device has failed
abbrev pub invariant-loop : goal.invariant-loop
invariant-loop g l =
    (Works (g.C.Client.device l.initial.client) (g.C.Client.device l.client))
    × (Works (g.W.Sink.device l.initial.sink) (g.W.Sink.device l.sink))
    × ((text : Text) × Consumes (g.C.Client.device l.initial.client).bytes (g.C.Client.device l.client).bytes text
    × IsFed l.fn.live (λ refusals. g.L.Listener.hears l.initial.listener refusals l.listener) text (g.W.Sink.device l.initial.sink).bytes (g.W.Sink.device l.sink).bytes l.feed
    × (l.counter ≤ length text)
    × Sends (g.C.Client.talk l.initial.client) (g.C.Client.talk l.client) text)
