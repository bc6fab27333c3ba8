use Rattle.std.proofs.Common.{ap, arith}
use Rattle.mh_pages.proofs.{ShownLemmas.word-shown, KeptLemmas.{word_of, word_within, word_at}}
use Rattle.mh_pages.proofs.pages.Pages.word_from.Goals as goal

pub overflow_add-address-inside : goal.overflow_add-address-inside
overflow_add-address-inside c =
    let is = word_of _ _ _ _ _ c.self.invariant _ _ _ c.self.view_is c.requires.within in
    omega (arith, ap (λ a. a.word) c.address.view_is, word_at _ _ _ _ _ c.self.invariant _ _ c.self.view_is c.requires.at is.place_taken, word_within _ _ _ _ _ c.self.invariant _ _ is, c.self.invariant.sized.as_many_words, c.self.invariant.sized.few_pages)

pub read-requires-clause-within : goal.read-requires-clause-within
read-requires-clause-within c =
    let is = word_of _ _ _ _ _ c.self.invariant _ _ _ c.self.view_is c.requires.within in
    omega (arith, ap (λ a. a.word) c.address.view_is, word_at _ _ _ _ _ c.self.invariant _ _ c.self.view_is c.requires.at is.place_taken, word_within _ _ _ _ _ c.self.invariant _ _ is)

pub returns : goal.returns
returns c =
    let is = word_of _ _ _ _ _ c.self.invariant _ _ _ c.self.view_is c.requires.within in
    grind (arith, word_at, word-shown)
