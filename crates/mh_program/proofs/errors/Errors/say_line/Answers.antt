use Rattle.std.proofs.Common.{sym, subst}
use Rattle.mh_program.specs.Complaints.{SaysLine}
use Rattle.mh_command_line.specs.declared.fault.LineFault.{LineFault}
use Rattle.mh_program.proofs.errors.Errors.say_line.Goals as goal

pub returns-in-Words : goal.returns-in-Words
returns-in-Words g c =
    let P : LineFault → Type 0 = λ fault. SaysLine c.args.self.now c.say_words.new.self fault in
    subst P (sym c.in-Words.is) c.say_words.ensures

pub returns-in-NotText : goal.returns-in-NotText
returns-in-NotText g c =
    let P : LineFault → Type 0 = λ fault. SaysLine c.args.self.now c.say.new.self fault in
    subst P (sym c.in-NotText.is) c.say.ensures

pub returns-in-NoMemory : goal.returns-in-NoMemory
returns-in-NoMemory g c =
    let P : LineFault → Type 0 = λ fault. SaysLine c.args.self.now c.say-in-NoMemory.new.self fault in
    subst P (sym c.in-NoMemory.is) c.say-in-NoMemory.ensures
