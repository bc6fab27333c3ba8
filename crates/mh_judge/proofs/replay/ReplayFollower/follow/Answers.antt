use Rattle.std.proofs.{Common.{◌∙◌, ap}, lemmas.Result.IfOk-weaker}
use Rattle.mh_judge.specs.Replaying.{Replayed}
use Rattle.mh_judge.proofs.ReplayLemmas.{follows_right, follows_wrong}
use Rattle.mh_judge.proofs.replay.ReplayFollower.follow.Goals as goal

pub returns-clause-right : goal.returns-clause-right
returns-clause-right g c =
    let at : Replayed = record { config = c.self.inside.config; machine = c.self.inside.machine } in
    IfOk-weaker c.try_on.result _ _
    (follows_right g.E.JudgedEntry.event_of g.E.JudgedEntry.fits g.E.JudgedEntry.lawful g.met.E.JudgedEntry.rule c.args.self.now at c.in-Some.machine c.try_on.new.machine
    (ap (λ (r : Replayed). r.config) c.self.view_is ∙ c.in_ok-open.ensures.0) (ap (λ (r : Replayed). r.machine) c.self.view_is ∙ c.in_ok-open.ensures.1) c.in-Some.is c.args.entry) c.try_on.ensures.right

pub returns-clause-wrong : goal.returns-clause-wrong
returns-clause-wrong g c =
    let at : Replayed = record { config = c.self.inside.config; machine = c.self.inside.machine } in
    IfOk-weaker c.try_on.result _ _
    (follows_wrong g.E.JudgedEntry.event_of g.E.JudgedEntry.fits g.E.JudgedEntry.lawful g.met.E.JudgedEntry.rule c.args.self.now at c.in-Some.machine c.try_on.new.machine
    (ap (λ (r : Replayed). r.config) c.self.view_is ∙ c.in_ok-open.ensures.0) (ap (λ (r : Replayed). r.machine) c.self.view_is ∙ c.in_ok-open.ensures.1) c.in-Some.is c.args.entry g.E.TextEntry.is_wrong) c.try_on.ensures.wrong
