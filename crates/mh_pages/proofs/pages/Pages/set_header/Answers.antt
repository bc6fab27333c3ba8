use Rattle.std.proofs.Common.{ap, sym, subst, arith}
use Rattle.mh_pages.proofs.{KeptLemmas.header_words, HeaderLemmas.{HasHeader, header_after}}
use Rattle.mh_pages.proofs.pages.Pages.set_header.Goals as goal

pub set_word_from-requires-clause-within : goal.set_word_from-requires-clause-within
set_word_from-requires-clause-within c = grind (arith, header_words)

pub set_word_from-requires-2-clause-within : goal.set_word_from-requires-2-clause-within
set_word_from-requires-2-clause-within c =
    let has = subst (HasHeader c.args.self.now) (sym (ap (λ a. a.place) c.address-address.ensures)) (record { there = c.requires; four = header_words _ _ _ _ _ c.self.invariant _ _ c.self.view_is c.requires }) in
    omega (arith, (header_after _ _ _ _ _ c.set_word_from.ensures has).four)

pub set_word_from-requires-3-clause-within : goal.set_word_from-requires-3-clause-within
set_word_from-requires-3-clause-within c =
    let has = subst (HasHeader c.args.self.now) (sym (ap (λ a. a.place) c.address-address.ensures)) (record { there = c.requires; four = header_words _ _ _ _ _ c.self.invariant _ _ c.self.view_is c.requires }) in
    omega (arith, (header_after _ _ _ _ _ c.set_word_from-2.ensures (header_after _ _ _ _ _ c.set_word_from.ensures has)).four)

pub set_word_from-requires-4-clause-within : goal.set_word_from-requires-4-clause-within
set_word_from-requires-4-clause-within c =
    let has = subst (HasHeader c.args.self.now) (sym (ap (λ a. a.place) c.address-address.ensures)) (record { there = c.requires; four = header_words _ _ _ _ _ c.self.invariant _ _ c.self.view_is c.requires }) in
    omega (arith, (header_after _ _ _ _ _ c.set_word_from-3.ensures (header_after _ _ _ _ _ c.set_word_from-2.ensures (header_after _ _ _ _ _ c.set_word_from.ensures has))).four)
