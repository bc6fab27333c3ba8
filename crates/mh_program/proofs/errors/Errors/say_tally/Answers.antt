use Rattle.std.proofs.Common.{◌≡◌, ◌∙◌, Option, sym, subst}
use Rattle.mh_judge_sessions.specs.declared.tally.EntryCounts.{EntryCounts}
use Rattle.mh_program.specs.Complaints.{Says, SaysTally, tally_text}
use Rattle.mh_program.proofs.errors.Errors.say_tally.Goals as goal

pub returns-in-Some : goal.returns-in-Some
returns-in-Some g c =
    let P : Option EntryCounts → Type 0 = λ found. SaysTally c.args.self.now c.say.new.self found in
    let text : c.as_bytes.result.now ≡ tally_text c.in-Some.tally = c.as_bytes.ensures.value ∙ c.as_str.ensures.value ∙ c.tally_line.ensures in
    subst P (sym c.in-Some.is) (subst (Says c.args.self.now c.say.new.self) text c.say.ensures)
