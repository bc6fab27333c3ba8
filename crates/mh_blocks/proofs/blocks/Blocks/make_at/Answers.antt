use Rattle.mh_blocks.proofs.{IndexedLemmas.made_indexed, FreeLemmas.free_for_class, MadeLemmas.made_at}
use Rattle.mh_blocks.proofs.{CountedLemmas.few_counts, InvariantLemmas.made_counted}
use Rattle.std.proofs.Common.{ap, is_some, refl, arith}
use Rattle.mh_model.specs.Classes.{class_of, part_words}
use Rattle.mh_table_laws.proofs.placing.Places.{block_at-with_taken_same}
use Rattle.mh_blocks.proofs.blocks.Blocks.make_at.Goals as goal

pub take-requires : goal.take-requires
take-requires c = free_for_class c.self.inside.pages _ (class_of (part_words c.args.part)) _ _ c.self.view_is c.requires.free c.class.ensures.class

pub set_header-requires : goal.set_header-requires
set_header-requires c =
    let free = free_for_class c.self.inside.pages _ (class_of (part_words c.args.part)) _ _ c.self.view_is c.requires.free c.class.ensures.class in
    rw c.take.ensures (ap is_some (block_at-with_taken_same c.self.inside.pages _ _ _ free))

pub overflow_add-self : goal.overflow_add-self
overflow_add-self c =
    let slots = rw (← c.self.view_is) at c.len.ensures.slots in
    let count = rw (← c.self.view_is) at c.len.ensures.count in
    omega (arith, (few_counts _ _ _ slots (omega (arith, count, c.len.ensures.few)) c.self.invariant.0.counts).0)

pub invariant_of-self : goal.invariant_of-self
invariant_of-self c =
    let free = free_for_class c.self.inside.pages _ (class_of (part_words c.args.part)) _ _ c.self.view_is c.requires.free c.class.ensures.class in
    let new = rw c.header.ensures at c.new_header-header.ensures in
    let made = made_at c.self.inside.pages _ _ _ _ _ _ _ _ refl c.self.invariant.0.packed free c.class.ensures.class c.class.ensures.packed new in
    rw (c.set_header.ensures, c.take.ensures, c.stamp.ensures) (made_counted _ _ _ _ _ _ _ _ _ _ free c.class.ensures.class made c.self.invariant.0, made_indexed _ _ _ _ _ _ _ _ _ free c.class.ensures.class made c.self.invariant.1)

pub returns : goal.returns
returns c =
    let free = free_for_class c.self.inside.pages _ (class_of (part_words c.args.part)) _ _ c.self.view_is c.requires.free c.class.ensures.class in
    let new = rw c.header.ensures at c.new_header-header.ensures in
    rw (c.set_header.ensures, c.take.ensures) (made_at _ _ _ _ _ _ _ _ _ c.self.view_is c.self.invariant.0.packed free c.class.ensures.class c.class.ensures.packed new).made
