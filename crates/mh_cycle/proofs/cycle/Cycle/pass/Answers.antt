use Rattle.std.proofs.Common.{◌/◌, ◌<◌, ◌≤◌, length, arith}
use Rattle.mh_cycle.proofs.PassLemmas.{pass-goes, pass-ends}
use Rattle.mh_cycle.proofs.cycle.Cycle.pass.Goals as goal

pub returns-then-page-len-clause-stride : goal.returns-then-page-len-clause-stride
returns-then-page-len-clause-stride c =
    let phase = rw (← c.self.view_is) at c.requires.phase in
    let still = rw (← c.self.view_is) at c.requires.still in
    let past : length c.self.inside.blocks ≤ c.args.run.next / 64 = omega (arith, c.if-page-len.true, c.len.ensures.count, c.page.ensures) in
    rw (← c.self.view_is) (λ slots moved. pass-ends (record { table = c.self.inside.blocks; slots = slots; phase = c.self.inside.phase; cursor = c.self.inside.cursor; grey = c.self.inside.grey.places; cycle = c.self.inside.number; is_asked = c.self.inside.is_asked; quanta = c.self.inside.quanta }) _ _ moved phase still c.requires.some past)

pub returns-else-page-len-clause-stride : goal.returns-else-page-len-clause-stride
returns-else-page-len-clause-stride c =
    let phase = rw (← c.self.view_is) at c.requires.phase in
    let still = rw (← c.self.view_is) at c.requires.still in
    let inside : c.args.run.next / 64 < length c.self.inside.blocks = omega (arith, c.if-page-len.false, c.len.ensures.count, c.page.ensures) in
    rw (c.after.view_is, ← c.self.view_is) (λ slots moved. pass-goes (record { table = c.self.inside.blocks; slots = slots; phase = c.self.inside.phase; cursor = c.self.inside.cursor; grey = c.self.inside.grey.places; cycle = c.self.inside.number; is_asked = c.self.inside.is_asked; quanta = c.self.inside.quanta }) _ _ moved phase still c.requires.some inside)
