use Rattle.mh_window_curve.proofs.RunLemmas.{drawn_so, found_so}
use Rattle.mh_window_curve.proofs.script.curve_script.Goals as goal

pub curve_end-requires : goal.curve_end-requires
curve_end-requires g c = found_so c.args.options c.args.rules _ _ c.transcribe-ended.ensures

pub returns : goal.returns
returns g c = drawn_so c.args.options c.args.rules _ _ _ c.curve_end.ensures c.transcribe-ended.ensures
