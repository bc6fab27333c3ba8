-- The texts of curves of logs of pauses: a table with the place of each window and what all longer ones have, or a picture.
use Rattle.std.specs.Prelude.{◌≡◌, ℕ, Option, None, List, [], ◌∷◌, ◌++◌, length, codes, decimal}
use Rattle.mh_model.specs.{Bytes.{Text, joined, line_text}, Replies.{bad_line_text, optional_word}}
use Rattle.mh_model.specs.{Script.{Reading, BadLine, Means}, Trace.{Letter, collector_count, mutator_count}}
use Rattle.mh_orders.specs.declared.{curve.CurveForm.CurveForm, curve.CurveForm.TheVariants.{Table, Picture}}
use Rattle.mh_orders.specs.declared.{curve.CurveOptions.CurveOptions, promises.Round.Round}
use Rattle.mh_report.specs.Windows.{percent_text, share_of}
use Rattle.mh_windows.specs.{Always.share_from, Lengths.AreCounts, Pauses.IsLongest}
use Rattle.mh_windows.specs.{declared.always.WindowLeast.WindowLeast, declared.pause.Pause.Pause}
use Rattle.mh_windows.specs.declared.pauses.PauseCounts.{PauseCounts}
use Rattle.mh_window_curve.specs.{declared.pause_table.LogCounts.LogCounts, declared.pause_table.Row.Row}
use Rattle.mh_window_curve.specs.{Places.{ArePlaced, drawn_points, floor_by, windows_of_pauses}, Texts.picture_text}

-- a window as a line of the table
abbrev pub row_words : Row → List Text
row_words row =
    codes "window" ∷ decimal row.point.window ∷ codes "least" ∷ decimal row.point.least ∷ codes "at" ∷ decimal row.place ∷ codes "share" ∷ percent_text (share_of row.point.least row.point.window)
    ∷ codes "always" ∷ percent_text row.always ∷ codes "floor" ∷ optional_word row.floor ∷ []

-- the line of the first of some points, of which all say what each window from it on has
abbrev pub row_text : Option Round → List WindowLeast → ℕ → Text
row_text round [] place = []
row_text round (point ∷ points) place = line_text (joined (row_words (record { point = point; place = place; always = share_from (point ∷ points); floor = floor_by round point.window })))

abbrev pub rows_text : Option Round → List WindowLeast → List ℕ → Text
rows_text round (point ∷ points) (place ∷ places) = row_text round (point ∷ points) place ++ rows_text round points places
rows_text round points places = []

-- what a log counts, as a line: its units, its pauses, and what a half, nine tenths and 99 hundredths of these don't exceed
abbrev pub percentile_words : PauseCounts → List Text
percentile_words counts = codes "median" ∷ optional_word counts.median ∷ codes "p90" ∷ optional_word counts.p90 ∷ codes "p99" ∷ optional_word counts.p99 ∷ []

abbrev pub log_words : LogCounts → List Text
log_words counts =
    codes "mutator" ∷ decimal counts.mutator ∷ codes "collector" ∷ decimal counts.collector ∷ codes "pauses" ∷ decimal counts.pauses.pauses ∷ codes "greatest" ∷ decimal counts.greatest ∷ percentile_words counts.pauses

-- its table, or its picture, in which the greatest is the longest pause
abbrev pub log_text : CurveForm → Option Round → LogCounts → List WindowLeast → List ℕ → Text
log_text Table round counts points places = line_text (joined (log_words counts)) ++ rows_text round points places
log_text Picture round counts points places =
    picture_text (record { mutator = counts.mutator; collector = counts.collector; quanta = None; greatest = counts.greatest }) (drawn_points round points)

-- The text of the curve of these letters: their counts, their longest pause, and their windows from that on
pub record IsLogCurve (options : CurveOptions) (letters : List Letter) (written : Text) : Type 0 where
  pub pauses : PauseCounts
  pub longest : Pause
  pub points : List WindowLeast
  pub places : List ℕ
  pub are_counts : AreCounts letters pauses
  pub is_longest : IsLongest letters longest
  pub are_placed : ArePlaced letters (windows_of_pauses longest.units (length letters)) points places
  pub text : written ≡ log_text options.form options.promises.round (record { mutator = mutator_count letters; collector = collector_count letters; pauses = pauses; greatest = longest.units }) points places

-- What is written of a log that is read so: its curve, or its first bad line
abbrev pub IsOfLog : CurveOptions → Reading (List Letter) → Text → Type 0
IsOfLog options (BadLine line) written = written ≡ line_text (bad_line_text line)
IsOfLog options (Means letters) written = IsLogCurve options letters written
