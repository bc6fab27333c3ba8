-- The numbers of statuses fit 32 bits.
use Rattle.std.proofs.Common.{◌≡◌, w32, ℤ, to_z, of_z, refl, ap, ◌∙◌}
use Rattle.mh_embed.specs.{declared.status.Status.Status, declared.status.Status.TheVariants.Done, Statuses.code_of}

fits : (status : Status) → to_z w32 (of_z w32 (code_of status)) ≡ code_of status
fits Done = refl
fits other = refl

pub code_seen : (status : Status) (code : ℤ) → code ≡ code_of status → to_z w32 (of_z w32 code) ≡ code_of status
code_seen status code is = ap (λ z. to_z w32 (of_z w32 z)) is ∙ fits status
