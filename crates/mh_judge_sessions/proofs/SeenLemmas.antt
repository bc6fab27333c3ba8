-- Entries of histories, with the world beside those before them.
use Rattle.std.proofs.Common.{◌≡◌, inl, inr, ℕ, Bool, true, false, List, [], ◌∷◌, ◌++◌, length, slice_get, Some, ap, refl}
use Rattle.std.proofs.lemmas.Bool.{false≢true}
use Rattle.mh_model.specs.{declared.command.Command.Command, declared.command.Event.Event, declared.history.Entry.Entry}
use Rattle.mh_model.specs.{declared.reply.Reply.Reply, History.{events_of, replies_of}}
use Rattle.mh_model.specs.Sessions.{AreSeen, IsSeen, MayLackRoom, lacks_room}
use Rattle.mh_model.specs.{Snapshot.{is_heap_full, world_beside, world_beside_event}, World.{World, world_step}}

-- the world beside the entries of a history
abbrev pub world_after : World → List Entry → World
world_after world history = world_beside world (events_of history) (replies_of history)

pub after_more : (world : World) (before : List Entry) (entry : Entry) → world_after world (before ++ entry ∷ []) ≡ world_beside_event (world_after world before) entry.event entry.reply
after_more world [] entry = refl
after_more world (first ∷ before) entry = after_more (world_beside_event world first.event first.reply) before entry

-- each entry is seen, in the world beside those before it
pub seen_at : (world : World) (before : List Entry) (entry : Entry) (later : List Entry) → AreSeen world (before ++ entry ∷ later) → IsSeen (world_after world before) entry.event entry.reply
seen_at world [] entry later seen = seen.0
seen_at world (first ∷ before) entry later seen = seen_at (world_beside_event world first.event first.reply) before entry later seen.1

pub seen_each : (world : World) (history : List Entry) → ((before : List Entry) (entry : Entry) (later : List Entry) → history ≡ before ++ entry ∷ later → IsSeen (world_after world before) entry.event entry.reply) → AreSeen world history
seen_each world [] each = tt
seen_each world (entry ∷ entries) each = (
  each [] entry entries refl,
  seen_each (world_beside_event world entry.event entry.reply) entries (λ before x later is. each (entry ∷ before) x later (ap (λ (es : List Entry). entry ∷ es) is)),
)

-- one entry more
pub seen_more : (world : World) (before : List Entry) (entry : Entry) → AreSeen world before → IsSeen (world_after world before) entry.event entry.reply → AreSeen world (before ++ entry ∷ [])
seen_more world [] entry seen is = (is, tt)
seen_more world (first ∷ before) entry seen is = (seen.0, seen_more (world_beside_event world first.event first.reply) before entry seen.1 is)

-- Replies ----------------------------------------------------------------------------------------

-- the reply of an entry stands after those before it
pub reply_at : (before : List Entry) (entry : Entry) (later : List Entry) → slice_get (replies_of (before ++ entry ∷ later)) (length (events_of before)) ≡ Some entry.reply
reply_at [] entry later = refl
reply_at (first ∷ before) entry later = reply_at before entry later

-- the world beside the first entries needs their replies alone
pub beside_first : (world : World) (before later : List Entry) → world_beside world (events_of before) (replies_of (before ++ later)) ≡ world_after world before
beside_first world [] later = refl
beside_first world (first ∷ before) later = beside_first (world_beside_event world first.event first.reply) before later

-- Full heaps -------------------------------------------------------------------------------------

-- who lacks room is answered by a full heap
pub lacks_full : (command : Command) (answer : Reply) → lacks_room command answer ≡ true → is_heap_full answer ≡ true
lacks_full (Command.New slot references numbers) answer lacks = lacks
lacks_full asked answer lacks = absurd (false≢true lacks)

-- what isn't a full heap is the world's, and a full heap answers new objects alone, which the world would make
pub is_seen : (world : World) (asked : Event) (answer : Reply) → ((who : ℕ) (command : Command) → asked ≡ Event.Session who command → is_heap_full answer ≡ false → answer ≡ (world_step world who command).reply)
    → ((who : ℕ) (command : Command) → asked ≡ Event.Session who command → is_heap_full answer ≡ true → MayLackRoom world who command answer) → IsSeen world asked answer
is_seen world (Event.Session who command) answer other full = by (is_heap_full answer) refl where
  by : (b : Bool) → is_heap_full answer ≡ b → IsSeen world (Event.Session who command) answer
  by true is = inr (full who command refl is)
  by false is = inl (other who command refl is)
is_seen world (Event.Control control) answer other full = tt
