use Rattle.std.proofs.Common.{◌≡◌, ◌∙◌, Option, sym, subst}
use Rattle.mh_judge_log.specs.declared.tally.OrderCounts.{OrderCounts}
use Rattle.mh_program.specs.Complaints.{Says, SaysCounts, counts_text}
use Rattle.mh_program.proofs.errors.Errors.say_counts.Goals as goal

pub returns-in-Some : goal.returns-in-Some
returns-in-Some g c =
    let P : Option OrderCounts → Type 0 = λ found. SaysCounts c.args.self.now c.say.new.self found in
    let text : c.as_bytes.result.now ≡ counts_text c.in-Some.counts = c.as_bytes.ensures.value ∙ c.as_str.ensures.value ∙ c.counts_line.ensures in
    subst P (sym c.in-Some.is) (subst (Says c.args.self.now c.say.new.self) text c.say.ensures)
