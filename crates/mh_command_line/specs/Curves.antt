-- What the options of `curve` ask for.
use Rattle.std.specs.Prelude.{◌≡◌, if◌then◌else◌, List, Option, Some, None, codes, IsSomeAnd, MatchOption}
use Rattle.clap.specs.Words.{Row, one_of}
use Rattle.mh_orders.specs.declared.{curve.CurveForm.CurveForm, curve.CurveForm.TheVariants.{Table, Picture}}
use Rattle.mh_orders.specs.declared.{curve.CurveOptions.CurveOptions, promises.Promises.Promises, promises.Round.Round}
use Rattle.mh_orders.specs.declared.promises.Share.{Share}
use Rattle.mh_command_line.specs.{Shares.{asked_share, shared_of}, Values.{HasNumber, is_flagged, optional_number}}

-- rounds are promised if both their numbers are given
abbrev pub AsksRound : List Row → Option Round → Type 0
AsksRound rows round = MatchOption round ((one_of (codes "every") rows ≡ None) × (one_of (codes "quantum") rows ≡ None)) (λ r. HasNumber rows (codes "every") r.every × HasNumber rows (codes "quantum") r.quantum)

-- a share is promised if one is given
abbrev pub AsksKept : List Row → Option Share → Type 0
AsksKept rows share = MatchOption share (one_of (codes "keeps") rows ≡ None) (λ s. IsSomeAnd (one_of (codes "keeps") rows) (λ text. asked_share text ≡ Some (shared_of s)))

-- what is promised of a trace
pub record ArePromises (rows : List Row) (promises : Promises) : Type 0 where
  pub round : AsksRound rows promises.round
  pub longest : promises.longest ≡ optional_number (codes "longest") rows
  pub share : AsksKept rows promises.share

-- what a curve is written as: a table, or a picture if the flag is given
abbrev pub curve_form_of : List Row → CurveForm
curve_form_of rows = if is_flagged (codes "svg") rows then Picture else Table

-- The options of a curve
pub record AreCurveOptions (rows : List Row) (options : CurveOptions) : Type 0 where
  pub form : options.form ≡ curve_form_of rows
  pub promises : ArePromises rows options.promises
