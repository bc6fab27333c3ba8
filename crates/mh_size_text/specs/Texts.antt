-- The lines of a script's sizes.
use Rattle.std.specs.Prelude.{ℕ, ◌+◌, ◌-◌, ◌*◌, ◌/◌, max, nat_lt, Bool, true, false, Option, None, Some, length, map, List, [], ◌∷◌, ◌++◌, codes, decimal}
use Rattle.mh_model.specs.{Bytes.{Text, joined, lines_text}, Replies.optional_word, declared.command.Event.Event}
use Rattle.mh_model.specs.{declared.config.Config.Config, declared.report.Report.Report}
use Rattle.mh_report.specs.Windows.{percent_text, share_of}
use Rattle.mh_size_runs.specs.{declared.edge.Edge.Edge, declared.live.Live.Live}
use Rattle.mh_size_runs.specs.declared.rows.PagesOutcome.{PagesOutcome}
use Rattle.mh_size_runs.specs.{declared.rows.PagesOutcome.TheVariants.{Fits, Full}, declared.seen.HasRoom.HasRoom}
use Rattle.mh_size_runs.specs.{declared.seen.HasRoom.TheVariants.{Yes, No, NoCycle}, declared.seen.Seen.Seen}
use Rattle.mh_size_runs.specs.Seen.{greatest}
use Rattle.mh_size_text.specs.{declared.sizes.Heaps.Heaps, declared.sizes.Heaps.TheVariants.{Found, Nowhere}}
use Rattle.mh_size_text.specs.{declared.sizes.Rows.Rows, declared.sizes.Sizes.Sizes}
use Rattle.mh_size_text.specs.declared.sizes.Times.TheVariants.{One, OneAndAQuarter, OneAndAHalf, Two, Three}
use Rattle.mh_size_text.specs.Sizes.{pages_in}

-- The script -------------------------------------------------------------------------------------

-- the number of the session of an event, counted from 1; 0 for a control
abbrev pub session_of : Event → ℕ
session_of (Event.Session who command) = who + 1
session_of (Event.Control control) = 0

-- how many sessions these events have, which are numbered as they come
unfoldable pub session_count : List Event → ℕ
session_count events = greatest (map session_of events)

-- of so many events and sessions
abbrev pub script_line : Config → ℕ → ℕ → Live → Text
script_line config events sessions live =
    joined (codes "script" ∷ codes "events" ∷ decimal events ∷ codes "units" ∷ decimal live.units ∷ codes "objects" ∷ decimal live.objects ∷ codes "sessions" ∷ decimal sessions ∷ codes "quantum" ∷ decimal config.quantum ∷ codes "every" ∷ decimal config.every ∷ [])

-- What is live -----------------------------------------------------------------------------------

-- fewer than 10 cycles ended in the fewest pages, if there are such
abbrev pub is_short_in : PagesOutcome → Option Bool
is_short_in (Fits trigger seen) = Some (nat_lt seen.cycles 10)
is_short_in (Full number) = None

abbrev pub is_short : Heaps → Option Bool
is_short (Found edge rows) = is_short_in rows.one
is_short (Nowhere number) = None

-- `yes`, `no` or `none`
abbrev pub answer_word : Option Bool → Text
answer_word None = codes "none"
answer_word (Some true) = codes "yes"
answer_word (Some false) = codes "no"

abbrev pub quarter_words : Option (List ℕ) → List Text
quarter_words None = codes "none" ∷ codes "quarters" ∷ codes "none" ∷ []
quarter_words (Some quarters) = decimal (greatest quarters) ∷ codes "quarters" ∷ map decimal quarters

-- the most that is live, that of each quarter, and whether the script is short
abbrev pub live_line : Option (List ℕ) → Option Bool → Text
live_line quarters short = joined (codes "live" ∷ (quarter_words quarters ++ codes "short" ∷ answer_word short ∷ []))

-- Heaps ------------------------------------------------------------------------------------------

-- the event by which the run is full in one page less
abbrev pub below_words : ℕ → Option ℕ → List Text
below_words pages None = []
below_words pages (Some number) = codes "below" ∷ decimal (pages - 1) ∷ codes "full" ∷ decimal number ∷ []

abbrev pub edge_line : Edge → Text
edge_line edge = joined (codes "fewest" ∷ decimal edge.pages ∷ codes "trigger" ∷ decimal edge.trigger ∷ below_words edge.pages edge.below)

abbrev pub nowhere_line : ℕ → Text
nowhere_line number = joined (codes "fewest" ∷ codes "none" ∷ codes "full" ∷ decimal number ∷ [])

abbrev pub room_word : HasRoom → Text
room_word Yes = codes "yes"
room_word No = codes "no"
room_word NoCycle = codes "none"

-- the collector's units for each of the mutator, in hundredths, rounded down
abbrev pub ratio_of : ℕ → ℕ → ℕ
ratio_of collector mutator = collector * 100 / max 1 mutator

-- units of a window in per cent of it, or `none`
abbrev pub share_word : Option ℕ → ℕ → Text
share_word None window = codes "none"
share_word (Some units) window = percent_text (share_of units window)

-- the cycles of a run with a trigger
unfoldable pub cycles_part : ℕ → Seen → Text
cycles_part trigger seen = joined (codes "trigger" ∷ decimal trigger ∷ codes "cycles" ∷ decimal seen.cycles ∷ codes "quanta" ∷ decimal seen.quanta ∷ [])

-- what its intervals open and its cycles leave, and whether that is room
unfoldable pub room_part : Seen → Text
room_part seen = joined (codes "opens" ∷ decimal seen.opens ∷ codes "left" ∷ optional_word seen.left ∷ codes "room" ∷ room_word seen.room ∷ [])

-- the shares of the mutator and the collector
unfoldable pub shares_part : Report → Text
shares_part report =
    joined (codes "collector" ∷ percent_text (ratio_of report.collector report.mutator) ∷ codes "window" ∷ decimal report.window ∷ codes "least" ∷ share_word report.least report.window ∷ codes "floor" ∷ share_word report.floor report.window ∷ [])

abbrev pub outcome_words : PagesOutcome → List Text
outcome_words (Fits trigger seen) = cycles_part trigger seen ∷ room_part seen ∷ shares_part seen.report ∷ []
outcome_words (Full number) = codes "full" ∷ decimal number ∷ []

-- the line of a run in so many pages
abbrev pub row_line : ℕ → PagesOutcome → Text
row_line pages outcome = joined (codes "pages" ∷ decimal pages ∷ outcome_words outcome)

abbrev pub rows_text : ℕ → Rows → Text
rows_text pages rows =
    lines_text (row_line (pages_in pages One) rows.one ∷ [])
    ++ (lines_text (row_line (pages_in pages OneAndAQuarter) rows.one_and_a_quarter ∷ [])
    ++ (lines_text (row_line (pages_in pages OneAndAHalf) rows.one_and_a_half ∷ [])
    ++ (lines_text (row_line (pages_in pages Two) rows.two ∷ []) ++ lines_text (row_line (pages_in pages Three) rows.three ∷ []))))

abbrev pub heaps_text : Heaps → Text
heaps_text (Found edge rows) = lines_text (edge_line edge ∷ []) ++ rows_text edge.pages rows
heaps_text (Nowhere number) = lines_text (nowhere_line number ∷ [])

-- What is written of a script's sizes
abbrev pub sizes_text : Config → List Event → Sizes → Text
sizes_text config events sizes = lines_text (script_line config (length events) (session_count events) sizes.live ∷ []) ++ (lines_text (live_line sizes.live.quarters (is_short sizes.heaps) ∷ []) ++ heaps_text sizes.heaps)
