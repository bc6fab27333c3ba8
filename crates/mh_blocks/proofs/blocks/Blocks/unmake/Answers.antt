use Rattle.mh_blocks.proofs.{IndexedLemmas.released_indexed, CountedLemmas.released_counts}
use Rattle.mh_blocks.proofs.InvariantLemmas.{released_counted}
use Rattle.std.proofs.Common.{arith, ◌∙◌, sym, ap}
use mir.Val.{bool_byte}
use Rattle.mh_table_laws.proofs.TableMapLemmas.{with_released-table_map}
use Rattle.mh_table_laws.proofs.PageMapLemmas.{is_taken-table_map, count_at-table_map}
use Rattle.mh_blocks.specs.Auxiliary.{block_of}
use Rattle.mh_blocks.proofs.blocks.Blocks.unmake.Goals as goal

pub release-requires-clause-there : goal.release-requires-clause-there
release-requires-clause-there c = let there = rw (← c.self.view_is) at c.requires.there in sym (is_taken-table_map block_of c.self.inside.pages _) ∙ there

pub release-requires-clause-alone : goal.release-requires-clause-alone
release-requires-clause-alone c = λ frees. let alone = rw (← c.self.view_is) at (c.requires.alone frees) in sym (count_at-table_map block_of c.self.inside.pages _) ∙ alone

pub overflow_sub-self : goal.overflow_sub-self
overflow_sub-self c =
    let there = rw (← c.self.view_is) at c.requires.there in
    let released = released_counts _ c.args.place c.args.frees_page _ _ there (λ frees. rw (← c.self.view_is) at (c.requires.alone frees)) c.self.invariant.0.counts in
    released.some

pub overflow_sub-self-2 : goal.overflow_sub-self-2
overflow_sub-self-2 c =
    let there = rw (← c.self.view_is) at c.requires.there in
    let released = released_counts _ c.args.place c.args.frees_page _ _ there (λ frees. rw (← c.self.view_is) at (c.requires.alone frees)) c.self.invariant.0.counts in
    grind arith

pub invariant_of-self : goal.invariant_of-self
invariant_of-self c =
    let there = rw (← c.self.view_is) at c.requires.there in
    let released = released_counts _ c.args.place c.args.frees_page _ _ there (λ frees. rw (← c.self.view_is) at (c.requires.alone frees)) c.self.invariant.0.counts in
    let old = rw (← c.self.view_is) at (c.from.ensures ∙ ap bool_byte c.is_forwarder-is_forwarder.ensures) in
    rw (c.release.ensures, c.release-2.ensures, old) (released_counted _ _ _ _ _ released c.self.invariant.0, released_indexed _ _ _ _ there (λ frees. rw (← c.self.view_is) at (c.requires.alone frees)) c.self.invariant.1)

pub returns : goal.returns
returns c = rw (c.release.ensures, ← c.self.view_is) (with_released-table_map block_of c.self.inside.pages _ _)
