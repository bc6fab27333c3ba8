use Rattle.mh_program.proofs.errors.Errors.say_seen_found.Goals as goal

pub returns-in-Refused : goal.returns-in-Refused
returns-in-Refused g c = rw c.in-Refused.is c.say_complaint.ensures
