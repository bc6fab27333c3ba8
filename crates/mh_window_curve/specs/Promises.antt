-- What is promised of all windows of a trace, and what of it isn't so.
use Rattle.std.specs.Prelude.{◌≡◌, ℕ, ◌+◌, ◌-◌, ◌<◌, ◌≤◌, ◌==◌, nat_lt, if◌then◌else◌, Bool, not, ◌||◌, Option, Some, None, MatchOption, is_some, List, length}
use Rattle.mh_model.specs.Trace.{Letter, floor}
use Rattle.mh_orders.specs.declared.promises.{Promises.Promises, Round.Round, Share.Share}
use Rattle.mh_run_laws.specs.Windows.{KeepsFloor, KeepsShare, units_in}
use Rattle.mh_windows.specs.{declared.floor.BrokenFloor.BrokenFloor, Always.IsBroken, Pauses.IsLongest, Shares.IsShort}
use Rattle.mh_window_curve.specs.declared.promises.{Broken.Broken, LongPause.LongPause}
use Rattle.mh_window_curve.specs.declared.promises.{PromiseJudgement.PromiseJudgement, ShortStretch.ShortStretch}
use Rattle.mh_window_curve.specs.declared.promises.Untried.{Untried}

-- no stretch without a unit of the mutator is longer
abbrev pub KeepsPauses : ℕ → List Letter → Type 0
KeepsPauses most letters = (start units : ℕ) → start + units ≤ length letters → units_in letters start units ≡ 0 → units ≤ most

-- a pause that is the longest, and longer than so much
pub record IsTooLong (most : ℕ) (letters : List Letter) (long : LongPause) : Type 0 where
  pub longest : IsLongest letters long.pause
  pub more : most < long.pause.units
  pub promised : long.promised ≡ most

-- a stretch that is as long as a share is promised of, and has less
pub record LacksShare (share : Share) (letters : List Letter) (found : ShortStretch) : Type 0 where
  pub short : IsShort share.percent share.from letters found.stretch
  pub units : found.units ≡ units_in letters found.stretch.start (found.stretch.end - found.stretch.start)
  pub promised : found.promised ≡ share

-- Each promise is kept if nothing is found, and what is found breaks it. What wasn't promised isn't found
abbrev pub JudgesRound : List Letter → Option Round → Option BrokenFloor → Type 0
JudgesRound letters None found = found ≡ None
JudgesRound letters (Some round) found = MatchOption found (KeepsFloor round.every round.quantum letters) (IsBroken round.every round.quantum letters)

abbrev pub JudgesPauses : List Letter → Option ℕ → Option LongPause → Type 0
JudgesPauses letters None found = found ≡ None
JudgesPauses letters (Some most) found = MatchOption found (KeepsPauses most letters) (IsTooLong most letters)

abbrev pub JudgesShare : List Letter → Option Share → Option ShortStretch → Type 0
JudgesShare letters None found = found ≡ None
JudgesShare letters (Some share) found = MatchOption found (KeepsShare share.percent 100 share.from letters) (LacksShare share letters)

-- rounds by which no window of so many units has a floor: none that is shorter has one
abbrev pub untried_round : ℕ → Option Round → Option Round
untried_round units None = None
untried_round units (Some round) = if floor round.every round.quantum units == 0 then Some round else None

-- a longest pause that is as long as all the units
abbrev pub untried_pause : ℕ → Option ℕ → Option ℕ
untried_pause units None = None
untried_pause units (Some most) = if nat_lt most units then None else Some most

-- a share of stretches that are longer than all the units
abbrev pub untried_share : ℕ → Option Share → Option Share
untried_share units None = None
untried_share units (Some share) = if nat_lt units share.from then Some share else None

-- The promises for which a trace of so many units is too short: none of as many breaks them
abbrev pub untried : ℕ → Promises → Untried
untried units promises = record { units = units; floor = untried_round units promises.round; pause = untried_pause units promises.longest; stretch = untried_share units promises.share }

-- What is broken of what was promised of a trace, and what of it the trace is too short to break
pub record IsJudged (promises : Promises) (letters : List Letter) (found : PromiseJudgement) : Type 0 where
  pub round : JudgesRound letters promises.round found.broken.floor
  pub pauses : JudgesPauses letters promises.longest found.broken.pause
  pub share : JudgesShare letters promises.share found.broken.stretch
  pub untried : found.untried ≡ untried (length letters) promises

-- whether each promise was tried, and is kept
abbrev pub is_kept : PromiseJudgement → Bool
is_kept found =
    not ((is_some found.broken.floor || (is_some found.broken.pause || is_some found.broken.stretch)) || (is_some found.untried.floor || (is_some found.untried.pause || is_some found.untried.stretch)))
