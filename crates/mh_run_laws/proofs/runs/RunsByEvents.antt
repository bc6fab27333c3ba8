-- Runs cut after some of their events.
use Rattle.std.proofs.Common.{◌≡◌, suc, List, [], ◌∷◌, ◌++◌, Some, length, slice_get, refl, ap, arith}
use Rattle.mh_model.specs.{declared.command.Event.Event, declared.config.Config.Config, World.World}
use Rattle.mh_model.specs.Machine.{Machine, first_machine, event_step, machine_after, machine_replies}
use Rattle.mh_model.specs.Snapshot.{world_beside, world_beside_event}
use Rattle.mh_run_laws.proofs.forwarders.RunForwarders.{after-more, after-one}
use Rattle.mh_run_laws.specs.Replays.{machine_at, MachineAfterMore, MachineRepliesMore}

pub after_more : MachineAfterMore
after_more = grind (arith, after-more, after-one)

machine_replies-more : (machine : Machine) (before more : List Event) → machine_replies machine (before ++ more) ≡ machine_replies machine before ++ machine_replies (machine_after machine before) more
unfolding machine_after machine_replies
machine_replies-more machine [] more = refl
machine_replies-more machine (event ∷ before) more = ap (λ replies. (event_step machine event).reply ∷ replies) (machine_replies-more (event_step machine event).state before more)

machine_replies-one : (machine : Machine) (event : Event) → machine_replies machine (event ∷ []) ≡ (event_step machine event).reply ∷ []
unfolding machine_replies
machine_replies-one machine event = refl

pub replies_more : MachineRepliesMore
replies_more = grind (arith, machine_replies-more, machine_replies-one)

-- there is a reply to each event
pub replies-length : (machine : Machine) (events : List Event) → length (machine_replies machine events) ≡ length events
unfolding machine_replies
replies-length machine [] = refl
replies-length machine (event ∷ events) = ap suc (replies-length (event_step machine event).state events)

-- the reply to an event stands after those to the events before it
pub reply-at : (machine : Machine) (before : List Event) (event : Event) (later : List Event) → slice_get (machine_replies machine (before ++ event ∷ later)) (length before) ≡ Some (event_step (machine_after machine before) event).reply
unfolding machine_replies machine_after
reply-at machine [] event later = refl
reply-at machine (first ∷ before) event later = reply-at (event_step machine first).state before event later

-- the world of the first events needs their replies alone
pub beside-at : (world : World) (machine : Machine) (before later : List Event) → world_beside world before (machine_replies machine (before ++ later)) ≡ world_beside world before (machine_replies machine before)
unfolding machine_replies
beside-at world machine [] later = refl
beside-at world machine (first ∷ before) later = beside-at (world_beside_event world first (event_step machine first).reply) (event_step machine first).state before later

pub no-events : (config : Config) → first_machine config ≡ machine_at config []
unfolding machine_after
no-events config = refl

pub no-replies : (config : Config) → [] ≡ machine_replies (first_machine config) []
unfolding machine_replies
no-replies config = refl
