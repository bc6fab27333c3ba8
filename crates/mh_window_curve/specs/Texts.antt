-- The texts of curves: a table, with a line for each window, and a picture.
use Rattle.std.specs.Prelude.{ℕ, suc, ◌+◌, ◌-◌, ◌*◌, ◌/◌, ◌%◌, ◌==◌, if◌then◌else◌, Option, Some, None, List, [], ◌∷◌, ◌++◌, length, codes, decimal}
use Rattle.mh_model.specs.{Bytes.{Text, joined, line_text}, Replies.optional_word}
use Rattle.mh_window_curve.specs.declared.{point.TraceCounts.TraceCounts, point.CurvePoint.CurvePoint, parts.Part.Part}
use Rattle.mh_window_curve.specs.declared.parts.Part.TheVariants.{Row, Share, Floor, Tick}
use Rattle.mh_window_curve.specs.declared.skeleton.TheConstants.{HEAD, COUNTS, AXES, WINDOWS, LEGEND, FLOOR_LEGEND, SHARES, END}
use Rattle.mh_orders.specs.declared.curve.CurveForm.{CurveForm, TheVariants.{Table, Picture}}
use Rattle.mh_report.specs.Windows.{percent_text, share_of}

-- Tables -----------------------------------------------------------------------------------------

-- a point as a line of the table
abbrev pub point_words : CurvePoint → List Text
point_words point =
    codes "window" ∷ decimal point.window ∷ codes "least" ∷ decimal point.least ∷ codes "share" ∷ percent_text (share_of point.least point.window) ∷ codes "floor" ∷ optional_word point.floor ∷ []

-- how many quanta, if they are counted
abbrev pub quanta_words : Option ℕ → List Text
quanta_words None = []
quanta_words (Some quanta) = codes "quanta" ∷ decimal quanta ∷ []

-- what a trace counts as a line; of a history the quanta aren't counted
abbrev pub counts_line_words : TraceCounts → List Text
counts_line_words counts =
    codes "mutator" ∷ decimal counts.mutator ∷ codes "collector" ∷ decimal counts.collector ∷ (quanta_words counts.quanta ++ codes "greatest" ∷ decimal counts.greatest ∷ [])

-- Pictures ---------------------------------------------------------------------------------------

-- where window i of so many begins, from left to right
abbrev pub place_x : ℕ → ℕ → ℕ
place_x count i = 70 + 700 * i / count

-- where a share is drawn, from the top down
abbrev pub place_y : ℕ → ℕ
place_y share = 60 + (10000 - share) / 32

-- the step of a line over window i of so many at a share: from its left end to its right
abbrev pub step_text : ℕ → ℕ → ℕ → Text
step_text count i share =
    decimal (place_x count i) ++ codes "," ++ decimal (place_y share) ++ codes " " ++ decimal (place_x count (i + 1)) ++ codes "," ++ decimal (place_y share) ++ codes " "

-- the step of a floor over window i of so many, if there is a floor
abbrev pub floor_step : ℕ → ℕ → ℕ → Option ℕ → Text
floor_step count i window None = []
floor_step count i window (Some floor) = step_text count i (share_of floor window)

-- the label of window i of so many, of which six at most have one
abbrev pub tick_text : ℕ → ℕ → ℕ → Text
tick_text count i window =
    if i % (count / 6 + 1) == 0 then codes "<text x=\"" ++ decimal (place_x count i) ++ codes "\" y=\"390\">" ++ decimal window ++ codes "</text>\n" else []

-- Parts ------------------------------------------------------------------------------------------

-- what a part of a text has of point i of so many
abbrev pub part_text : Part → ℕ → ℕ → CurvePoint → Text
part_text Row count i point = line_text (joined (point_words point))
part_text Share count i point = step_text count i (share_of point.least point.window)
part_text Floor count i point = floor_step count i point.window point.floor
part_text Tick count i point = tick_text count i point.window

-- what a part of a text has of points from point i of so many on
abbrev pub parts_from : Part → ℕ → ℕ → List CurvePoint → Text
parts_from part count i [] = []
parts_from part count i (point ∷ points) = part_text part count i point ++ parts_from part count (suc i) points

-- what a part of a text has of all points
abbrev pub parts_text : Part → List CurvePoint → Text
parts_text part points = parts_from part (length points) 0 points

-- what the line of the floors is, if there are floors
abbrev pub legend_of : List CurvePoint → Text
legend_of [] = []
legend_of (point ∷ points) = legend point.floor where
  legend : Option ℕ → Text
  legend None = []
  legend (Some floor) = FLOOR_LEGEND.now

-- Curves -----------------------------------------------------------------------------------------

-- a curve as a table
abbrev pub table_text : TraceCounts → List CurvePoint → Text
table_text counts points = line_text (joined (counts_line_words counts)) ++ parts_text Row points

-- as a picture in SVG: its title and axes, its labels, and its two lines
abbrev pub head_text : TraceCounts → Text
head_text counts = HEAD.now ++ (joined (counts_line_words counts) ++ (COUNTS.now ++ (joined (counts_line_words counts) ++ AXES.now)))

abbrev pub labels_text : List CurvePoint → Text
labels_text points = parts_text Tick points ++ (WINDOWS.now ++ (legend_of points ++ LEGEND.now))

abbrev pub lines_text : List CurvePoint → Text
lines_text points = parts_text Floor points ++ (SHARES.now ++ (parts_text Share points ++ END.now))

abbrev pub picture_text : TraceCounts → List CurvePoint → Text
picture_text counts points = head_text counts ++ (labels_text points ++ lines_text points)

-- The text of a curve in a form
abbrev pub curve_text : CurveForm → TraceCounts → List CurvePoint → Text
curve_text Table = table_text
curve_text Picture = picture_text
