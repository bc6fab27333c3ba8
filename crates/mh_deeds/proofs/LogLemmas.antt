-- Deeds told to a log that keeps them were added to it.
use Rattle.std.proofs.Common.{◌≡◌, true, false, Bool, List, [], ◌∷◌, ◌++◌, length, refl, sym, ap, ◌∙◌, append_assoc, append-nil, arith}
use Rattle.std.proofs.lemmas.Bool.{false≢true}
use Rattle.mh_model.specs.{declared.deed.Deed.Deed, declared.deed.Deed.TheVariants.End, Deeds.{DeedLog, Adds}}
use Rattle.mh_deeds.specs.Logs.{Has, Told}

pub adds-none : (log : DeedLog) → Adds log [] log
adds-none log whole = (whole, sym (append-nil log.deeds))

pub adds-then : (old now new : DeedLog) (first second : List Deed) → Adds old first now → Adds now second new → Adds old (first ++ second) new
adds-then old now new first second a b whole =
    let (so_far, then) = b whole in
    let (before, told) = a so_far in
    (before, then ∙ ap (λ deeds. deeds ++ second) told ∙ append_assoc old.deeds first second)

-- a log that isn't whole has any deeds, so one that is whole after it would have one more than it has
pub told-adds : (old new : DeedLog) (deeds : List Deed) → Told Has old deeds new → Adds old deeds new
told-adds old new deeds told whole = (stays old.is_whole refl, told old.deeds (λ was. refl) whole)
  where
    stays : (was : Bool) → old.is_whole ≡ was → old.is_whole ≡ true
    stays true is = is
    stays false is =
        let any : (before : List Deed) → Has before old = λ before first. absurd (false≢true (sym is ∙ first)) in
        let none : length new.deeds ≡ length deeds = ap length (told [] (any []) whole) in
        let one : length new.deeds ≡ length (End ∷ deeds) = ap length (told (End ∷ []) (any (End ∷ [])) whole) in
        absurd (omega (arith, none, one))
