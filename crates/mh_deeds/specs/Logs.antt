-- What a log gets.
use Rattle.std.specs.Prelude.{◌≡◌, true, List, ◌++◌}
use Rattle.mh_model.specs.{declared.deed.Deed.Deed, Deeds.DeedLog}

-- a log has exactly these deeds, unless memory was refused for one
abbrev pub Has : List Deed → DeedLog → Type 0
Has deeds log = log.is_whole ≡ true → log.deeds ≡ deeds

-- these deeds were told to a log after those that it has, by a relation that says which it has
abbrev pub Told : {Log : Type 0} → (List Deed → Log → Type 0) → Log → List Deed → Log → Type 0
Told has old deeds new = (before : List Deed) → has before old → has (before ++ deeds) new
