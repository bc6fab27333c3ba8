use Rattle.std.proofs.{Common.arith, lemmas.List.set-set}
use Rattle.mh_model.specs.Pages.{page_number}
use Rattle.mh_pages.proofs.TableLemmas.{count_after}
use Rattle.mh_pages.proofs.pages.Pages.release.Goals as goal

pub free_page-requires-clause-empty : goal.free_page-requires-clause-empty
free_page-requires-clause-empty c = grind (arith, count_after)

pub returns-then-frees_page : goal.returns-then-frees_page
returns-then-frees_page c = rw (c.free_page.ensures, c.release_slot.ensures, c.page.ensures, c.if-frees_page.true) (set-set c.args.self.now (page_number c.args.place) _ _)
