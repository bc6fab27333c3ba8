-- Phases and flags by their numbers, as tables of numbers have them.
use Rattle.std.specs.Prelude.{ℕ, Bool, true, false}
use Rattle.mh_model.specs.declared.cycle.Phase.{Phase, TheVariants.{Idle, Roots, Mark, Sweep, Defrag}}

-- the number of a phase, in the order of a cycle
abbrev pub phase_number : Phase → ℕ
phase_number Idle = 0
phase_number Roots = 1
phase_number Mark = 2
phase_number Sweep = 3
phase_number Defrag = 4

-- 1 for a flag that is set, and 0 for one that isn't
abbrev pub flag_number : Bool → ℕ
flag_number true = 1
flag_number false = 0
