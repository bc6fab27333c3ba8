use Rattle.mh_program.proofs.errors.Errors.say_curve.Goals as goal

pub returns-in-ScriptRefused : goal.returns-in-ScriptRefused
returns-in-ScriptRefused g c = rw c.in-ScriptRefused.is c.say_refusal.ensures

pub returns-in-HistoryRefused : goal.returns-in-HistoryRefused
returns-in-HistoryRefused g c = rw c.in-HistoryRefused.is c.say_complaint.ensures

pub returns-in-HistoryTooLong : goal.returns-in-HistoryTooLong
returns-in-HistoryTooLong g c = rw c.in-HistoryTooLong.is c.say-in-HistoryTooLong.ensures

pub returns-in-LogRefused : goal.returns-in-LogRefused
returns-in-LogRefused g c = rw c.in-LogRefused.is c.say_complaint-in-LogRefused.ensures
