-- Errors that are passed on.
use Rattle.std.proofs.Common.{◌≡◌, refl}
use Rattle.std.specs.Prelude.{Err, IsErrOf}

-- an error in a result of another type
pub same_error : {X Y E : Type 0} (error other : E) → IsErrOf {T = X} (Err error) other → IsErrOf {T = Y} (Err error) other
same_error error other is = let same : error ≡ other = cc in rw same refl
