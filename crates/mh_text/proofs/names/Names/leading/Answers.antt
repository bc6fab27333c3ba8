use Rattle.std.proofs.Common.{Option, List, ℕ, sym, subst}
use Rattle.std.specs.{Prelude.IfSome, Borrow.Bor}
use Rattle.mh_text.specs.Auxiliary.{IsKnown}
use Rattle.mh_text.proofs.PlainLemmas.{name_there}
use Rattle.mh_text.proofs.names.Names.leading.Goals as goal

pub returns-then-is_word-clause-some : goal.returns-then-is_word-clause-some
returns-then-is_word-clause-some c =
    let known = subst (λ (it : Option (Bor (List ℕ) × ℕ)). IfSome it (λ numbered. IsKnown c.args.self.now numbered.0.now numbered.1)) c.in_ok-name.was (rw (← c.self.view_is) (c.self.invariant.1 c.place_by.result)) in
    name_there _ _ _ _ c.if-count-text.true c.if-text-count-eq32.true (sym c.if-is_word.ensures) known
