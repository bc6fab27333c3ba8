-- What was replayed is lawful.
use Rattle.std.proofs.Common.{List}
use Rattle.mh_model.specs.declared.{command.Event.Event, config.Config.Config}
use Rattle.mh_judge.specs.Replaying.{HasReplayed, Replayed}

pub replayed_legal : {X : Type 0} (event_of : X → Event) (Lawful : Config → List X → Type 0) (first : Replayed) (entries : List X) (now : Replayed) → HasReplayed event_of Lawful first.config entries now → Lawful first.config entries
replayed_legal event_of Lawful first entries now has = has.judged.lawful
