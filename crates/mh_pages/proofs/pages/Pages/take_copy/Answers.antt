use Rattle.mh_pages.proofs.KeptLemmas.{size_used}
use Rattle.mh_pages.proofs.CopyLemmas.{copy_taken, source_taken, copy_size, source_size, blocks_apart, source_within, copy_within, kept-copied, copied_shown}
use Rattle.mh_pages.proofs.pages.Pages.take_copy.Goals as goal

pub start_of-source-requires-clause-page : goal.start_of-source-requires-clause-page
start_of-source-requires-clause-page c = (source_taken _ _ _ _ _ c.self.invariant _ _ _ _ _ _ c.self.view_is c.take_slot.ensures c.requires.free c.requires.there c.requires.class).inside

pub start_of-source-requires-clause-class : goal.start_of-source-requires-clause-class
start_of-source-requires-clause-class c = (size_used _ _ _ _ _ c.self.invariant _ (source_taken _ _ _ _ _ c.self.invariant _ _ _ _ _ _ c.self.view_is c.take_slot.ensures c.requires.free c.requires.there c.requires.class).used).most

pub start_of-first-requires-clause-page : goal.start_of-first-requires-clause-page
start_of-first-requires-clause-page c = (copy_taken _ _ _ _ _ c.self.invariant _ _ _ _ _ _ c.self.view_is c.take_slot.ensures c.requires.free c.requires.there c.requires.class).inside

pub start_of-first-requires-clause-class : goal.start_of-first-requires-clause-class
start_of-first-requires-clause-class c = (size_used _ _ _ _ _ c.self.invariant _ (copy_taken _ _ _ _ _ c.self.invariant _ _ _ _ _ _ c.self.view_is c.take_slot.ensures c.requires.free c.requires.there c.requires.class).used).most

pub copy_words-requires-clause-source : goal.copy_words-requires-clause-source
copy_words-requires-clause-source c =
    rw (c.start_of-source.ensures, c.size.ensures.value, source_size _ _ _ _ _ c.self.invariant _ _ _ _ _ _ c.self.view_is c.take_slot.ensures c.requires.free c.requires.there c.requires.class)
    (source_within _ _ _ _ _ c.self.invariant _ _ _ _ _ _ c.self.view_is c.take_slot.ensures c.requires.free c.requires.there c.requires.class)

pub copy_words-requires-clause-first : goal.copy_words-requires-clause-first
copy_words-requires-clause-first c =
    rw (c.start_of-first.ensures, c.size.ensures.value, copy_size _ _ _ _ _ c.self.invariant _ _ _ _ _ _ c.self.view_is c.take_slot.ensures c.requires.free c.requires.there c.requires.class)
    (copy_within _ _ _ _ _ c.self.invariant _ _ _ _ _ _ c.self.view_is c.take_slot.ensures c.requires.free c.requires.there c.requires.class)

pub copy_words-requires-clause-apart : goal.copy_words-requires-clause-apart
copy_words-requires-clause-apart c =
    rw (c.start_of-source.ensures, c.start_of-first.ensures, c.size.ensures.value, source_size _ _ _ _ _ c.self.invariant _ _ _ _ _ _ c.self.view_is c.take_slot.ensures c.requires.free c.requires.there c.requires.class, copy_size _ _ _ _ _ c.self.invariant _ _ _ _ _ _ c.self.view_is c.take_slot.ensures c.requires.free c.requires.there c.requires.class)
    (blocks_apart _ _ _ _ _ c.self.invariant _ _ _ _ _ _ c.self.view_is c.take_slot.ensures c.requires.free c.requires.there c.requires.class)

pub invariant_of-self : goal.invariant_of-self
invariant_of-self c =
    let copied = rw (c.start_of-source.ensures, c.start_of-first.ensures, c.size.ensures.value, source_size _ _ _ _ _ c.self.invariant _ _ _ _ _ _ c.self.view_is c.take_slot.ensures c.requires.free c.requires.there c.requires.class, copy_size _ _ _ _ _ c.self.invariant _ _ _ _ _ _ c.self.view_is c.take_slot.ensures c.requires.free c.requires.there c.requires.class) at c.copy_words.ensures in
    kept-copied _ _ _ _ _ c.self.invariant _ _ _ _ _ _ c.self.view_is c.take_slot.ensures c.requires.free c.requires.there c.requires.class _ copied

pub returns : goal.returns
returns c =
    let copied = rw (c.start_of-source.ensures, c.start_of-first.ensures, c.size.ensures.value, source_size _ _ _ _ _ c.self.invariant _ _ _ _ _ _ c.self.view_is c.take_slot.ensures c.requires.free c.requires.there c.requires.class, copy_size _ _ _ _ _ c.self.invariant _ _ _ _ _ _ c.self.view_is c.take_slot.ensures c.requires.free c.requires.there c.requires.class) at c.copy_words.ensures in
    copied_shown _ _ _ _ _ c.self.invariant _ _ _ _ _ _ c.self.view_is c.take_slot.ensures c.requires.free c.requires.there c.requires.class _ copied
