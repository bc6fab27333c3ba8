use Rattle.std.proofs.Common.{sym, subst}
use Rattle.mh_program.specs.Complaints.{SaysSized}
use Rattle.mh_size_text.specs.declared.end.SizeEnd.{SizeEnd}
use Rattle.mh_program.proofs.errors.Errors.say_size.Goals as goal

pub returns-in-Refused : goal.returns-in-Refused
returns-in-Refused g c =
    let P : SizeEnd → Type 0 = λ end. SaysSized c.args.self.now c.say_refusal.new.self end in
    subst P (sym c.in-Refused.is) c.say_refusal.ensures
