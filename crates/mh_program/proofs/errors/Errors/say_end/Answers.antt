use Rattle.std.proofs.Common.{sym, subst}
use Rattle.mh_program.specs.Complaints.{SaysEnd}
use Rattle.mh_script.specs.declared.end.End.{End}
use Rattle.mh_program.proofs.errors.Errors.say_end.Goals as goal

pub returns-in-Refused : goal.returns-in-Refused
returns-in-Refused g c =
    let P : End → Type 0 = λ end. SaysEnd c.args.self.now c.say_refusal.new.self end in
    subst P (sym c.in-Refused.is) c.say_refusal.ensures
