-- What was followed is lawful by the rule that is asked for.
use Rattle.std.proofs.Common.{◌≡◌, Bool, true, false, List, count_by, refl}
use Rattle.mh_model.specs.{declared.config.Rules.Rules, declared.history.Entry.Entry, Sessions.IsLegalForSessions}
use Rattle.mh_judge_sessions.specs.{Full.{is_full, lawful_by}, Watching.{HasWatched, Watched}}

-- entries that are legal, and of which none is full if none may be
pub by_rule : (may_be_full : Bool) (rules : Rules) (entries : List Entry) → IsLegalForSessions rules entries → (may_be_full ≡ false → count_by is_full entries ≡ 0) → lawful_by may_be_full rules entries
by_rule true rules entries legal room = legal
by_rule false rules entries legal room = record { legal = legal; room = room refl }

pub watched_legal : (first : Watched) (entries : List Entry) (now : Watched) → HasWatched first entries now → lawful_by first.may_be_full first.rules entries
watched_legal first entries now has = by_rule first.may_be_full first.rules entries has.followed.legal has.room
