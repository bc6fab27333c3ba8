use Rattle.std.proofs.Common.{refl}
use Rattle.mh_judge.proofs.ReplayLemmas.{replayed_none}
use Rattle.mh_judge.proofs.replay.Replay.new.Goals as goal

pub returns-clause-none : goal.returns-clause-none
returns-clause-none g c = replayed_none g.E.JudgedEntry.event_of g.E.JudgedEntry.fits g.E.JudgedEntry.lawful g.met.E.JudgedEntry.rule c.args.config _ refl refl
