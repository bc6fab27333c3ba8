-- Letters that pass in two parts.
use Rattle.std.proofs.Common.{◌∙◌, List, [], ◌++◌, drop, length, ap, append_assoc, drop-drop, drop_at, sym, refl, arith}
use Rattle.std.proofs.lemmas.List.{length-append}
use Rattle.mh_model.specs.Trace.{Letter}
use Rattle.mh_report.specs.Slides.{Passing, passings}
use Rattle.mh_windows.specs.{Pauses.{Goes, PauseState, StandsNext}, ShareRules.passings_after}

pub pauses_still : (s : PauseState) → Goes s [] s
pauses_still s = record { place = omega arith; goes = λ letters next gone. gone }

pub pauses_onward : (old mid new : PauseState) (before after : List Passing) → Goes old before mid → Goes mid after new → Goes old (before ++ after) new
pauses_onward old mid new before after first last =
    let long = length-append before after in
    record {
      place = omega (arith, long, first.place, last.place);
      goes = λ letters next gone. last.goes letters (rest letters next) (first.goes letters (after ++ next.0, next.1 ∙ append_assoc before after next.0) gone);
    }
  where
    rest : (letters : List Letter) → StandsNext letters old (before ++ after) → StandsNext letters mid after
    rest letters next = (
      next.0,
      ap (λ n. passings (drop n letters) (drop n letters)) first.place
          ∙ (λ i. passings (sym (drop-drop (length before) old.place letters) i) (sym (drop-drop (length before) old.place letters) i))
          ∙ passings_after (length before) (drop old.place letters) (drop old.place letters)
          ∙ ap (drop (length before)) (next.1 ∙ append_assoc before after next.0)
          ∙ drop_at before (after ++ next.0) (length before) refl,
    )
