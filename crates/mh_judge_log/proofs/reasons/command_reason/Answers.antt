use Rattle.std.proofs.Common.{◌≡◌, ◌∙◌, ap, false, sym}
use Rattle.mh_judge_log.specs.Beginnings.{HasTimes, begins_with_star}
use Rattle.mh_judge_log.proofs.ReasonLemmas.{has_times, lacks_entry}
use Rattle.mh_judge_log.proofs.reasons.command_reason.Goals as goal

pub entry_reason-requires : goal.entry_reason-requires
entry_reason-requires c =
    let has : HasTimes c.args.words c.in-Some-number.begin c.in-Some-number-2.end c.in-Some.called = has_times c.in-Some.ensures.split c.in-Some-number.ensures c.in-Some-number-2.ensures in
    let star : begins_with_star c.in-Some.called ≡ false = ap begins_with_star (sym c.copy.ensures) ∙ sym c.if-is_of_control.ensures in
    lacks_entry c.args.words c.in-Some.called c.in-Some-number.begin c.in-Some-number-2.end has c.if-begin-end.false star c.requires

pub returns : goal.returns
returns c =
    let has : HasTimes c.args.words c.in-Some-number.begin c.in-Some-number-2.end c.in-Some.called = has_times c.in-Some.ensures.split c.in-Some-number.ensures c.in-Some-number-2.ensures in
    let star : begins_with_star c.in-Some.called ≡ false = ap begins_with_star (sym c.copy.ensures) ∙ sym c.if-is_of_control.ensures in
    (c.in-Some-number.begin, c.in-Some-number-2.end, c.in-Some.called, has, c.in-Some.ensures.some, (c.if-begin-end.false, star, c.entry_reason.ensures))
