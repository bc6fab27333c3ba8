use Rattle.std.proofs.{Common.{rules, refl, sym, ◌∙◌, ◌≡◌}, lemmas.Bool.false≢true}
use Rattle.mh_embed.specs.{Endings.{Differs, NoEvent, NotJudged, Passed, PassesOver, Right}, Numbers.IsShownBy}
use Rattle.mh_embed.specs.declared.status.Status.{Status}
use Rattle.mh_embed.proofs.EndingLemmas.{shown_after, shown_once}
use Rattle.mh_embed.proofs.embedded.Embedded.judge.Goals as goal

pub returns-in_default : goal.returns-in_default
returns-in_default c = NoEvent (search rules) refl refl

pub returns-then-passes_over : goal.returns-then-passes_over
returns-then-passes_over c = rw (← c.self.view_is) (Passed c.in-Some.event (search rules) (c.passes_over.ensures.0 c.if-passes_over.true) refl refl)

pub returns-then-are_same : goal.returns-then-are_same
returns-then-are_same c =
    let shown = shown_after c.args.self.now c.in-Some.event c.args.self.now.names c.event.new.self Status.Done c.reply-shown.result c.args.right.now c.reply-shown.new.shown refl c.in-Done.ensures c.reply-shown.ensures in
    let apart : ¬ PassesOver c.args.self.now.driver c.in-Some.event c.args.given.now = rw (← c.self.view_is) (λ passes. false≢true (sym c.if-passes_over.false ∙ c.passes_over.ensures.1 passes)) in
    let same : c.args.given.now ≡ c.reply-shown.new.shown = c.are_same.ensures.0 c.if-are_same.true in
    Right c.in-Some.event shown.0 (search rules) apart c.in-Done.ensures shown.1 (rw same shown.2) (sym same)

pub returns-else-are_same : goal.returns-else-are_same
returns-else-are_same c =
    let shown = shown_after c.args.self.now c.in-Some.event c.args.self.now.names c.event.new.self Status.Done c.reply-shown.result c.args.right.now c.reply-shown.new.shown refl c.in-Done.ensures c.reply-shown.ensures in
    let apart : ¬ PassesOver c.args.self.now.driver c.in-Some.event c.args.given.now = rw (← c.self.view_is) (λ passes. false≢true (sym c.if-passes_over.false ∙ c.passes_over.ensures.1 passes)) in
    let other : ¬ IsShownBy shown.0 c.args.given.now = λ shows. false≢true (sym c.if-are_same.false ∙ c.are_same.ensures.1 (shown_once shown.0 c.args.given.now c.reply-shown.new.shown shows shown.2)) in
    Differs c.in-Some.event shown.0 (search rules) apart c.in-Done.ensures shown.1 other shown.2

pub returns-in_default-event : goal.returns-in_default-event
returns-in_default-event c = NotJudged c.in-Some.event c.event.result (search rules) c.in_default-event.not-Done (search rules) (search rules)
