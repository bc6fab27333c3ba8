-- Auxiliary definitions: what loops, private functions and the insides of types keep. No public contract depends on them.
use Rattle.std.specs.Prelude.{List}
use Rattle.mh_model.specs.declared.deed.Deed.{Deed}
use Rattle.mh_deeds.specs.Logs.{Told}

-- some deeds were told from the first log to the second: who adds the rest from there has all of them from the first
abbrev pub Leads : {Log : Type 0} → (List Deed → Log → Type 0) → Log → List Deed → Log → List Deed → Type 0
Leads has old all now rest = (end : _) → Told has now rest end → Told has old all end
