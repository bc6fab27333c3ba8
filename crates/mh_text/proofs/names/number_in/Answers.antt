use Rattle.std.proofs.Common.{sym, ◌∙◌, arith}
use Rattle.mh_text.proofs.NameLemmas.{place_found, place_missing, known_name, looked_up, inserted_name}
use Rattle.mh_text.proofs.names.number_in.Goals.{then-number-eq0+in_ok-reserve, else-number-eq0}
use Rattle.mh_text.proofs.names.number_in.Goals as goal

pub returns-in-Some-clause-number : goal.returns-in-Some-clause-number
returns-in-Some-clause-number c =
    sym (place_found c.args.seen.now.keys c.args.name.now c.in-Some.place (looked_up c.args.seen.now.keys c.args.name.now ∙ sym c.in-Some.ensures.index))

pub returns-in-Some-clause-seen : goal.returns-in-Some-clause-seen
returns-in-Some-clause-seen c =
    sym (known_name c.args.seen.now.keys c.args.name.now c.in-Some.place (looked_up c.args.seen.now.keys c.args.name.now ∙ sym c.in-Some.ensures.index))

pub returns-then-number-ge-NAMES-clause-number : goal.returns-then-number-ge-NAMES-clause-number
returns-then-number-ge-NAMES-clause-number c = grind (arith, looked_up, place_missing)

pub returns-clause-number : goal.returns-clause-number
returns-clause-number c = grind (arith, looked_up, place_missing)

pub returns-clause-seen : goal.returns-clause-seen
returns-clause-seen c =
    let missing = looked_up c.args.seen.now.keys c.args.name.now ∙ sym c.in_default.ensures.index in
    grind (arith, then-number-eq0+in_ok-reserve, else-number-eq0, inserted_name)
