use Rattle.mh_run_laws.proofs.showing.ClosedViews.{closed-view}
use Rattle.mh_run_laws.proofs.showing.kept_views_are_closed.Goals as goal

pub returns : goal.returns
returns c = closed-view
