use Rattle.std.proofs.Common.{◌∙◌, length, ap, sym}
use Rattle.mh_pages.proofs.{ShownLemmas.length-shown, KeptLemmas.their_slots}
use Rattle.mh_pages.proofs.pages.Pages.len.Goals as goal

pub returns-clause-count : goal.returns-clause-count
returns-clause-count c = c.len.ensures ∙ (sym (length-shown c.self.inside.heads c.self.inside.frees c.self.inside.words) ∙ ap length c.self.view_is)

pub returns-clause-slots : goal.returns-clause-slots
returns-clause-slots c = rw (← c.self.view_is) (their_slots _ _ _ _ _ c.self.invariant)
