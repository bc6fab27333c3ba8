-- Auxiliary definitions: what loops, private functions and the insides of types keep. No public contract depends on them.
use Rattle.std.specs.Prelude.{ℕ, suc, ◌+◌, ◌-◌, nat_lt, if◌then◌else◌, List, length, take, zero}
use Rattle.mh_model.specs.Trace.{Letter, mutator_count, M, C}
use Rattle.mh_windows.specs.{Lowest.LowestState, declared.pause.Pause.Pause}

-- at the first stretch
abbrev pub first_lowest : ℕ → List Letter → LowestState
first_lowest window letters =
    let count : ℕ = mutator_count (take window letters) in
    record { start = 0; count = count; least = count; at = 0; left = length letters - window }

-- how many of the last letters are the collector's, after so many letters alike more
abbrev pub here_after : Letter → ℕ → ℕ → ℕ
here_after M zero here = here
here_after M (suc more) here = 0
here_after C many here = here + many

-- the longer of two pauses, the first of two that are as long
abbrev pub longer_of : Pause → Pause → Pause
longer_of pause other = if nat_lt pause.units other.units then other else pause
