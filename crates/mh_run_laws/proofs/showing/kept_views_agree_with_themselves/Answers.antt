use Rattle.mh_run_laws.proofs.showing.ClosedViews.{self-agrees}
use Rattle.mh_run_laws.proofs.showing.kept_views_agree_with_themselves.Goals as goal

pub returns : goal.returns
returns c = self-agrees
