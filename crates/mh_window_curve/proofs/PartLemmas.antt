-- What is written of points one after another.
use Rattle.std.proofs.Common.{◌≡◌, ◌+◌, ◌++◌, append_assoc}
use Rattle.mh_model.specs.Bytes.{Text}

-- four texts that were added one after another, of which the third is also said another way
pub pushed_four : (t t1 t2 t3 t4 a b c c' d : Text) → t1 ≡ t ++ a → t2 ≡ t1 ++ b → t3 ≡ t2 ++ c' → c' ≡ c → t4 ≡ t3 ++ d → t4 ≡ t ++ (a ++ (b ++ (c ++ d)))
pushed_four t t1 t2 t3 t4 a b c c' d e1 e2 e3 same e4 = rw (e4, e3, same, e2, e1) (simp append_assoc)
