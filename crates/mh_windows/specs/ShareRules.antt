-- What passes in two parts.
use Rattle.std.proofs.Common.{◌≡◌, ◌∙◌, ℕ, zero, suc, ◌+◌, List, [], ◌∷◌, ◌++◌, drop, length, ap, append_assoc, drop-drop, drop_at, sym, refl, arith}
use Rattle.std.proofs.lemmas.List.{length-append}
use Rattle.mh_model.specs.Trace.{Letter}
use Rattle.mh_report.specs.Slides.{Passing, passings}
use Rattle.mh_windows.specs.Shares.{IsNext, ShareState, Slides}

-- after so many steps
pub passings_after : (n : ℕ) (leaving entering : List Letter) → passings (drop n leaving) (drop n entering) ≡ drop n (passings leaving entering)
passings_after zero leaving entering = refl
passings_after (suc n) leaving [] = refl
passings_after (suc n) [] (enters ∷ entering) = by (drop n entering) where
  by : (rest : List Letter) → passings [] rest ≡ []
  by [] = refl
  by (enters ∷ entering) = refl
passings_after (suc n) (leaves ∷ leaving) (enters ∷ entering) = passings_after n leaving entering

pub shares_still : (s : ShareState) → Slides s [] s
shares_still s = record { part = refl; start = omega arith; end = omega arith; finds = λ letters from next found. found }

pub shares_onward : (old mid new : ShareState) (before after : List Passing) → Slides old before mid → Slides mid after new → Slides old (before ++ after) new
shares_onward old mid new before after first last =
    let long = length-append before after in
    record {
      part = last.part ∙ first.part;
      start = omega (arith, long, first.start, last.start);
      end = omega (arith, long, first.end, last.end);
      finds = λ letters from next found. last.finds letters from (rest letters next) (first.finds letters from (after ++ next.0, next.1 ∙ append_assoc before after next.0) found);
    }
  where
    rest : (letters : List Letter) → IsNext letters old (before ++ after) → IsNext letters mid after
    rest letters next = (
      next.0,
      ap (λ n. passings (drop n letters) (drop mid.end.place letters)) first.start
          ∙ ap (λ n. passings (drop (old.start.place + length before) letters) (drop n letters)) first.end
          ∙ (λ i. passings (sym (drop-drop (length before) old.start.place letters) i) (sym (drop-drop (length before) old.end.place letters) i))
          ∙ passings_after (length before) (drop old.start.place letters) (drop old.end.place letters)
          ∙ ap (drop (length before)) (next.1 ∙ append_assoc before after next.0)
          ∙ drop_at before (after ++ next.0) (length before) refl,
    )
