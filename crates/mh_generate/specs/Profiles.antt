-- Profiles: the sessions that their scripts name, and which have a heap that runs along.
use Rattle.std.specs.Prelude.{ℕ, Bool, true, false}
use Rattle.mh_orders.specs.declared.profile.Profile.{Profile}
use Rattle.mh_orders.specs.declared.profile.Profile.TheVariants.{Refusals, Barriers, Comb, Fans, Race, Cycles, Mixed}

-- how many sessions are named: those that do the work, or for some profiles all that there are and one more
abbrev pub named_by : Profile → ℕ → ℕ
named_by Refusals sessions = 9
named_by Mixed sessions = 9
named_by profile sessions = sessions

-- the commands come from acts, by a heap that never collects and that runs along
abbrev pub has_acts : Profile → Bool
has_acts Barriers = true
has_acts Comb = true
has_acts Fans = true
has_acts Race = true
has_acts Cycles = true
has_acts profile = false
