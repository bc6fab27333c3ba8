use Rattle.std.proofs.Common.{arith}
use Rattle.mh_model.specs.Classes.{part_words}
use Rattle.mh_table_laws.proofs.objects.Parts.{class_of-some}
use Rattle.mh_classes.proofs.PartLemmas.{part_is}
use Rattle.mh_classes.proofs.laws.parts_have_classes.Goals as goal

pub returns : goal.returns
returns c = λ r n i part most e. class_of-some (part_words part) (omega arith) (omega (arith, (part_is r n i part most e).few))
