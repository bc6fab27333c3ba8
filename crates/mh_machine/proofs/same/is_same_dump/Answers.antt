use Rattle.std.proofs.{Common.{rules, ◌≡◌, Decides}, lemmas.Slice.Eq.slice_eq-Decides}
use Rattle.mh_model.specs.{declared.dump.DumpItem.DumpItem, declared.dump.DumpItem.TheVariants.{Page, Block, Forwarder}}
use Rattle.mh_model.specs.contracts.dump.DumpItemPartialEq.TheImpl.{eq-value}
use Rattle.mh_machine.proofs.same.is_same_dump.Goals as goal

items_decided : (a b : DumpItem) → Decides (eq-value.it a b) (a ≡ b)
items_decided (Page page size flagged) (Page other other_size other_flagged) = search rules
items_decided (Page page size flagged) (Block slot birth part) = search rules
items_decided (Page page size flagged) (Forwarder slot to_page to_slot) = search rules
items_decided (Block slot birth part) (Page page size flagged) = search rules
items_decided (Block slot birth part) (Block other other_birth other_part) = search rules
items_decided (Block slot birth part) (Forwarder other to_page to_slot) = search rules
items_decided (Forwarder slot to_page to_slot) (Page page size flagged) = search rules
items_decided (Forwarder slot to_page to_slot) (Block other birth part) = search rules
items_decided (Forwarder slot to_page to_slot) (Forwarder other other_page other_slot) = search rules

pub returns : goal.returns
returns c = rw (← c.items.ensures, ← c.items-2.ensures) (slice_eq-Decides items_decided _ _ _ c.eq.ensures)
