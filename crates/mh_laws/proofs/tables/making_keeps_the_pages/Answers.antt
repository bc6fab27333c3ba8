use Rattle.std.proofs.Common.{◌+◌, arith}
use Rattle.mh_laws.proofs.commands.LeftUnchanged.{made_group-keeps}
use Rattle.mh_laws.proofs.tables.making_keeps_the_pages.Goals as goal

pub returns : goal.returns
returns c = λ table birth stamp references numbers made e. made_group-keeps (references + numbers) table birth stamp references numbers made (omega arith) e
