use Rattle.std.proofs.Common.{◌≡◌, ◌++◌, refl}
use Rattle.std.specs.String.{string_bytes}
use Rattle.mh_model.specs.Bytes.{line_text}
use Rattle.mh_program.specs.Complaints.{subject_text}
use Rattle.mh_program.proofs.TellingLemmas.{shown}
use Rattle.mh_program.proofs.complaints.complaint.Goals as goal

pub returns : goal.returns
returns g c = shown _ (string_bytes c.in_ok-what.what) (λ said. c.into_bytes.result.items ≡ subject_text c.args.subject ++ line_text said) c.in_ok-what.ensures.ok (rw (c.into_bytes.ensures.value, c.in_ok-text.ensures.ok) refl)
