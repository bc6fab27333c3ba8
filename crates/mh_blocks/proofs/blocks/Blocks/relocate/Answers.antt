use Rattle.mh_blocks.proofs.{IndexedLemmas.moved_indexed, ReadLemmas.{page_there, class_there}, MovedLemmas.moves}
use Rattle.mh_blocks.proofs.{CountedLemmas.few_counts, InvariantLemmas.moved_counted}
use Rattle.std.proofs.Common.{◌∙◌, refl, sym, arith, ap}
use Rattle.mh_model.specs.Pages.{class_at}
use Rattle.mh_table_laws.proofs.TableMapLemmas.{length-table_map}
use Rattle.mh_table_laws.proofs.PageMapLemmas.{is_taken-table_map, class_at-table_map}
use Rattle.mh_blocks.proofs.blocks.Blocks.relocate.Goals as goal

pub class_at-requires : goal.class_at-requires
class_at-requires c = grind (arith, page_there, length-table_map)

pub unwrap-class-requires : goal.unwrap-class-requires
unwrap-class-requires c = grind (arith, class_at-table_map, class_there)

pub take_copy-requires-clause-free : goal.take_copy-requires-clause-free
take_copy-requires-clause-free c =
    let class = ap (class_at c.self.inside.pages) (sym c.page.ensures) ∙ sym c.class_at.ensures ∙ c.unwrap-class.ensures in
    let moved = moves c.self.inside.pages _ _ c.args.place c.args.to c.self.view_is c.self.invariant.0.packed c.requires.there c.requires.free class in
    moved.free

pub take_copy-requires-clause-there : goal.take_copy-requires-clause-there
take_copy-requires-clause-there c = grind (arith, is_taken-table_map)

pub address-address-requires : goal.address-address-requires
address-address-requires c =
    let class = ap (class_at c.self.inside.pages) (sym c.page.ensures) ∙ sym c.class_at.ensures ∙ c.unwrap-class.ensures in
    let moved = moves c.self.inside.pages _ _ c.args.place c.args.to c.self.view_is c.self.invariant.0.packed c.requires.there c.requires.free class in
    rw c.take_copy.ensures moved.there

pub place_word-requires : goal.place_word-requires
place_word-requires c = grind (arith, moves)

pub set_word_from-requires-clause-within : goal.set_word_from-requires-clause-within
set_word_from-requires-clause-within c =
    let class = ap (class_at c.self.inside.pages) (sym c.page.ensures) ∙ sym c.class_at.ensures ∙ c.unwrap-class.ensures in
    let moved = moves c.self.inside.pages _ _ c.args.place c.args.to c.self.view_is c.self.invariant.0.packed c.requires.there c.requires.free class in
    rw (c.address-address.ensures, c.take_copy.ensures) moved.within

pub overflow_add-self : goal.overflow_add-self
overflow_add-self c = grind (arith, few_counts)

pub overflow_add-self-2 : goal.overflow_add-self-2
overflow_add-self-2 c = grind (arith, few_counts)

pub invariant_of-self : goal.invariant_of-self
invariant_of-self c =
    let there = rw (← c.self.view_is) at c.requires.there in
    let original = rw (← c.self.view_is) at c.requires.original in
    let free = rw (← c.self.view_is) at c.requires.free in
    let class = ap (class_at c.self.inside.pages) (sym c.page.ensures) ∙ sym c.class_at.ensures ∙ c.unwrap-class.ensures in
    let moved = moves c.self.inside.pages _ _ c.args.place c.args.to refl c.self.invariant.0.packed there free class in
    let written = rw (c.address-address.ensures, c.take_copy.ensures) at c.set_word_from.ensures in
    rw (written, c.relocate.ensures) (moved_counted _ _ _ _ _ _ _ moved there original class c.place_word.ensures c.self.invariant.0, moved_indexed _ _ _ _ _ _ moved there original class c.place_word.ensures c.self.invariant.1)

pub returns : goal.returns
returns c =
    let class = ap (class_at c.self.inside.pages) (sym c.page.ensures) ∙ sym c.class_at.ensures ∙ c.unwrap-class.ensures in
    let moved = moves c.self.inside.pages _ _ c.args.place c.args.to c.self.view_is c.self.invariant.0.packed c.requires.there c.requires.free class in
    grind arith
