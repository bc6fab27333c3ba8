-- Deeds told to any log, one after the other.
use Rattle.std.proofs.Common.{◌≡◌, List, [], ◌++◌, sym, subst, append_assoc, append-nil}
use Rattle.mh_model.specs.declared.deed.Deed.{Deed}
use Rattle.mh_deeds.specs.{Logs.Told, Auxiliary.Leads}

module _ {Log : Type 0} (has : List Deed → Log → Type 0) where
  pub told-none : (log : Log) → Told has log [] log
  told-none log before is = subst (λ deeds. has deeds log) (sym (append-nil before)) is

  pub told-then : (old now new : Log) (first second : List Deed) → Told has old first now → Told has now second new → Told has old (first ++ second) new
  told-then old now new first second a b before is = subst (λ deeds. has deeds new) (append_assoc before first second) (b (before ++ first) (a before is))

  -- the first deeds that are left were told
  pub leads-goes : (old now new : Log) (all told rest : List Deed) → Leads has old all now (told ++ rest) → Told has now told new → Leads has old all new rest
  leads-goes old now new all told rest leads goes end last = leads end (told-then now new end told rest goes last)

  -- none is left
  pub leads-ends : (old now : Log) (all rest : List Deed) → Leads has old all now rest → rest ≡ [] → Told has old all now
  leads-ends old now all rest leads none = leads now (subst (λ deeds. Told has now deeds now) (sym none) (told-none now))
