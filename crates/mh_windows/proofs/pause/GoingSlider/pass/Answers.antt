use Rattle.std.proofs.Common.{subst}
use Rattle.std.specs.Prelude.{◌-◌, ◌+◌}
use Rattle.mh_report.specs.{Segments.letter_of, Slides.alike}
use Rattle.mh_windows.specs.Pauses.{Goes, PauseState}
use Rattle.mh_windows.proofs.PauseLemmas.{goes_alike}
use Rattle.mh_windows.proofs.pause.GoingSlider.pass.Goals as goal

pub returns-clause-slides : goal.returns-clause-slides
returns-clause-slides c =
    let n = c.args.count in
    let leaves = letter_of c.args.leaves in
    let enters = letter_of c.args._enters in
    let inside = c.self.inside in
    let s : PauseState = record { place = inside.place; here = inside.here; longest = inside.longest; left = inside.left } in
    let new : PauseState = record { place = inside.place + n; here = c.here_after-self-inside.result; longest = c.longer_of-self-inside.result; left = inside.left - n } in
    let goes : Goes s (alike n leaves enters) new = rw (c.longer_of-self-inside.ensures, c.here_after-self-inside.ensures) (goes_alike s n leaves enters) in
    subst (λ (t : PauseState). Goes t (alike n leaves enters) new) c.self.view_is goes
