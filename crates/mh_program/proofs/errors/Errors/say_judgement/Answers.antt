use Rattle.mh_program.proofs.errors.Errors.say_judgement.Goals as goal

pub returns-in-Refused : goal.returns-in-Refused
returns-in-Refused g c = rw c.in-Refused.is c.say_complaint.ensures

pub returns-in-FirstBad : goal.returns-in-FirstBad
returns-in-FirstBad g c = rw c.in-FirstBad.is c.say_complaint-in-FirstBad.ensures
