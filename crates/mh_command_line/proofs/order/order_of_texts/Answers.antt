use Rattle.mh_command_line.proofs.order.order_of_texts.Goals as goal

pub returns-clause-order : goal.returns-clause-order
returns-clause-order c = rw c.as_slice.ensures.value at c.order.ensures.order

pub returns-clause-fault : goal.returns-clause-fault
returns-clause-fault c = rw c.as_slice.ensures.value at c.order.ensures.fault
