-- A machine behind a handle that has room for events.
use Rattle.std.proofs.Common.{◌≡◌, ℕ, refl, subst, sym}
use Rattle.mh_model.specs.declared.{command.Event.Event, reply.Reply.Reply}
use Rattle.mh_machine.specs.{Reserved.ReservedEventsAskForNoMemory, Running.{Running, Does, Forgets, MayAskForMemory}}
use Rattle.mh_embed.specs.{declared.driver.Driver.Driver, declared.driver.Driver.TheVariants.Collects}
use Rattle.mh_embed.specs.{declared.status.Status.Status, Drivers.Collected}
use Rattle.mh_embed.specs.Driving.{ByMachine, ByWorld, IsUndone, Starved, Takes}
use Rattle.mh_embed.specs.Laws.{AtFirst, Done, Forgotten, ReservedEventsAreNotRefusedMemory, Since, Telling}
use Rattle.mh_machine.specs.Reserved as machines

pub same_machine : (was now : Collected) → Collects was ≡ Collects now → was ≡ now
same_machine was now e = cc

-- a machine is driven, which has done so many events since its first moment or its last forgetting
record IsSince (first : Running) (count : ℕ) (driver : Driver) : Type 0 where
  now : Collected
  is : driver ≡ Collects now
  since : machines.Since first count now.machine

-- an event that a machine has done
pub record DoneOn (was : Collected) (event : Event) (given : Reply) (driver : Driver) : Type 0 where
  pub now : Collected
  pub is : driver ≡ Collects now
  pub does : Does was.machine event given now.machine

pub done_on : (was : Collected) (old new : Driver) (event : Event) (given : Reply) → old ≡ Collects was → Takes old event given new → DoneOn was event given new
done_on was _ _ event given is (ByMachine old _ _ new does) =
    subst (λ (from : Collected). DoneOn from event given (Collects new)) (same_machine old was is) (record { now = new; is = refl; does = does.does })
done_on was _ _ _ given is (ByWorld old who said _ new does) = cc

is_since : (first : Collected) (count : ℕ) (new : Driver) → Since (Collects first) count new → IsSince first.machine count new
is_since first _ _ AtFirst = record { now = first; is = refl; since = machines.AtFirst }
is_since first _ _ (Done count old new event given since takes) =
    let before : IsSince first.machine count old = is_since first count old since in
    let done : DoneOn before.now event given new = done_on before.now old new event given before.is takes in
    record { now = done.now; is = done.is; since = machines.Done count before.now.machine done.now.machine event given before.since done.does }
is_since first _ _ (Forgotten count was now since forgetting) =
    let before : IsSince first.machine count (Collects was) = is_since first count (Collects was) since in
    let forgets : Forgets before.now.machine now.machine = subst (λ (from : Collected). Forgets from.machine now.machine) (same_machine was before.now before.is) forgetting.forgets in
    record { now = now; is = refl; since = machines.Forgotten count before.now.machine now.machine before.since forgets }
is_since first _ _ (Telling count was tells since) =
    let before : IsSince first.machine count (Collects was) = is_since first count (Collects was) since in
    let counted : machines.Since first.machine count was.machine = subst (λ (from : Collected). machines.Since first.machine count from.machine) (sym (same_machine was before.now before.is)) before.since in
    record { now = record was { tells = tells }; is = refl; since = counted }

-- memory is refused only to an event that may ask for it
starved_asks : (driver : Driver) (event : Event) (ends : Status) (now : Collected) → ends ≡ Status.NoMemory → driver ≡ Collects now → IsUndone driver event ends → MayAskForMemory now.machine.room event
starved_asks _ _ _ now none is (Starved old event room asks) = subst (λ (from : Collected). MayAskForMemory from.machine.room event) (same_machine old now is) asks
starved_asks _ _ _ now none is other = cc

pub not_refused : ReservedEventsAskForNoMemory → ReservedEventsAreNotRefusedMemory
not_refused law events before first new count event reserving since few other undone =
    let at : IsSince first.machine count new = is_since first count new since in
    law events before.machine first.machine at.now.machine count event reserving.reserves at.since few other (starved_asks new event Status.NoMemory at.now refl at.is undone)
