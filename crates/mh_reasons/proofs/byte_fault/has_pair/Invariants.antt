use Rattle.std.proofs.Common.{◌≡◌, ℕ, suc, ◌<◌, get_or}
use Rattle.mh_reasons.proofs.byte_fault.has_pair.Given as goal

abbrev pub invariant-loop-place : goal.invariant-loop-place
invariant-loop-place l = (k : ℕ) → suc k < l.place → get_or l.line k 0 ≡ l.first → get_or l.line (suc k) 0 ≡ l.second → ⊥
