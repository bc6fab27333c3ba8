use Rattle.mh_size_counts.specs.Texts.{IsTargetText}
use Rattle.mh_program.proofs.SizeLemmas.{written-is}
use Rattle.mh_program.proofs.made.write_target.Goals as goal

pub returns : goal.returns
returns g c = written-is (IsTargetText c.args.options.now) c.target_text.result _ _ c.write_size.result c.target_text.ensures c.write_size.ensures.made c.write_size.ensures.none
