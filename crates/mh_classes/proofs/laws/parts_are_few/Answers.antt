use Rattle.std.proofs.Common.{arith}
use Rattle.mh_table_laws.proofs.objects.Parts.{parts-few}
use Rattle.mh_classes.proofs.laws.parts_are_few.Goals as goal

pub returns : goal.returns
returns c = λ r n most. (parts-few r n most, λ i below. omega (arith, parts-few r n most, below))
