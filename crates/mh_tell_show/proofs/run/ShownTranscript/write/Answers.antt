use Rattle.std.proofs.Common.{◌≡◌, ◌∙◌, [], ◌++◌, append-nil, append_assoc, subst}
use Rattle.mh_model.specs.Bytes.{Text}
use Rattle.mh_script.proofs.TakenLemmas.{takes-none, writing-fails, writing-stops}
use Rattle.mh_text.specs.Devices.{FailsAt, Takes}
use Rattle.mh_tell_show.specs.declared.{controls.TheConstants.CONTROLS, drawing.TheConstants.DRAWING}
use Rattle.mh_tell_show.specs.declared.page.TheConstants.{HEAD}
use Rattle.mh_tell_show.proofs.run.ShownTranscript.write.Goals as goal

-- the pieces of a page
page_is : (head names numbers drawing controls names' numbers' : Text) → names ≡ names' → numbers ≡ numbers' → head ++ (names ++ (numbers ++ (drawing ++ (controls ++ [])))) ≡ head ++ ((names' ++ numbers') ++ (drawing ++ controls))
page_is head names numbers drawing controls names' numbers' names_are numbers_are = rw (names_are, numbers_are) (simp (append_assoc, append-nil))

pub returns-in_err-names-clause-written : goal.returns-in_err-names-clause-written
returns-in_err-names-clause-written g c = writing-stops _ c.from_residual.ensures.1 (takes-none _ _)

pub returns-in_err-numbers-clause-written : goal.returns-in_err-numbers-clause-written
returns-in_err-numbers-clause-written g c = writing-stops _ c.from_residual-in_err-numbers.ensures.1 (takes-none _ _)

pub returns-in_err-write_pieces-clause-written : goal.returns-in_err-write_pieces-clause-written
returns-in_err-write_pieces-clause-written g c =
    writing-fails _ c.from_residual-in_err-write_pieces.ensures.1
    (subst (FailsAt _ _) (page_is HEAD.now _ _ DRAWING.now CONTROLS.now _ _ (c.as_slice.ensures.value ∙ c.in_ok-names.ensures) (c.as_bytes.ensures.value ∙ c.in_ok-numbers.ensures)) c.in_err-write_pieces.ensures)

pub returns-clause-written : goal.returns-clause-written
returns-clause-written g c = subst (Takes _ _) (page_is HEAD.now _ _ DRAWING.now CONTROLS.now _ _ (c.as_slice.ensures.value ∙ c.in_ok-names.ensures) (c.as_bytes.ensures.value ∙ c.in_ok-numbers.ensures)) c.in_ok-write_pieces.ensures
