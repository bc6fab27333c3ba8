use Rattle.std.proofs.Common.{◌∙◌, ap, arith}
use Rattle.mh_pages.proofs.KeptLemmas.{word_of, word_within, word_at, kept-word, word_shown}
use Rattle.mh_pages.proofs.pages.Pages.set_word_from.Goals as goal

pub overflow_add-address-inside : goal.overflow_add-address-inside
overflow_add-address-inside c =
    let is = word_of _ _ _ _ _ c.self.invariant _ _ _ c.self.view_is c.requires.within in
    omega (arith, ap (λ a. a.word) c.address.view_is, word_at _ _ _ _ _ c.self.invariant _ _ c.self.view_is c.requires.at is.place_taken, word_within _ _ _ _ _ c.self.invariant _ _ is, c.self.invariant.sized.as_many_words, c.self.invariant.sized.few_pages)

pub write-requires : goal.write-requires
write-requires c =
    let is = word_of _ _ _ _ _ c.self.invariant _ _ _ c.self.view_is c.requires.within in
    omega (arith, ap (λ a. a.word) c.address.view_is, word_at _ _ _ _ _ c.self.invariant _ _ c.self.view_is c.requires.at is.place_taken, word_within _ _ _ _ _ c.self.invariant _ _ is)

pub invariant_of-self : goal.invariant_of-self
invariant_of-self c =
    let is = word_of _ _ _ _ _ c.self.invariant _ _ _ c.self.view_is c.requires.within in
    let at = ap (λ a. a.word) c.address.view_is ∙ word_at _ _ _ _ _ c.self.invariant _ _ c.self.view_is c.requires.at is.place_taken in
    rw (c.write.ensures, at) (kept-word _ _ _ _ _ c.self.invariant _ _ c.args.word is)

pub returns : goal.returns
returns c =
    let is = word_of _ _ _ _ _ c.self.invariant _ _ _ c.self.view_is c.requires.within in
    let at = ap (λ a. a.word) c.address.view_is ∙ word_at _ _ _ _ _ c.self.invariant _ _ c.self.view_is c.requires.at is.place_taken in
    rw (c.write.ensures, at, ← c.self.view_is) (word_shown _ _ _ _ _ c.self.invariant _ _ c.args.word is)
