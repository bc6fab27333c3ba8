-- How fast mutators make blocks, as words of the command line have it.
use Rattle.std.specs.Prelude.{◌≡◌, ℕ, ◌==◌, if◌then◌else◌, Option, Some, None, option_and_then, option_map, unwrap_or, Result, Ok, Err, List, [], ◌∷◌, replicate, slice_index, slice_set}
use Rattle.mh_model.specs.{Bytes.{Text, cut_after, number, parts_at}, Classes.class_of}
use Rattle.mh_classes.specs.Numbers.{class_number}
use Rattle.mh_orders.specs.{Given.is_between, declared.rates.Rates.Rates}
use Rattle.mh_command_line.specs.declared.rates.{AskedRates.AskedRates, Rate.Rate, NotRates.NotRates}

-- Rates ------------------------------------------------------------------------------------------

-- how many blocks of each class are made to how many units, and how many more at once, in the order of the classes
pub record Rated : Type 0 where
  pub parts : List ℕ
  pub units : List ℕ
  pub bursts : List ℕ

-- what rates say
abbrev pub rated_of : Rates → Rated
rated_of rates = record { parts = rates.parts; units = rates.units; bursts = rates.bursts }

-- if no blocks are made
abbrev pub none_rated : Rated
none_rated = record { parts = replicate 20 0; units = replicate 20 1; bursts = replicate 20 0 }

-- the rates with one of a class more, which has none yet
abbrev pub rated_with : Rated → Rate → Option Rated
rated_with rated rate =
    let number = class_number (unwrap_or (class_of rate.words) 0) in
    if slice_index rated.parts number == 0
    then Some (record { parts = slice_set rated.parts number rate.parts; units = slice_set rated.units number rate.units; bursts = slice_set rated.bursts number rate.burst })
    else None

-- Texts ------------------------------------------------------------------------------------------

-- the only piece that ends at a byte, and what follows it
abbrev pub only_piece : List Text → Text → Option (Text × Text)
only_piece [] rest = None
only_piece (piece ∷ []) rest = Some (piece, rest)
only_piece (piece ∷ more ∷ pieces) rest = None

-- the texts before and after a byte, if it stands in a text once
abbrev pub cut_once : ℕ → Text → Option (Text × Text)
cut_once byte text = let cut = cut_after byte text in only_piece cut.pieces cut.rest

-- the number that a text is, if it is between these
abbrev pub number_between : ℕ → ℕ → Text → Option ℕ
number_between least most text = option_and_then (λ n. if is_between least most n then Some n else None) (number text)

-- a number of blocks or of units
abbrev pub count_in : Text → Option ℕ
count_in text = number_between 1 1000000 text

-- `UNITS` or, if a plus cuts it, `UNITS+BURST`: how many units, and how many blocks more at once
abbrev pub units_cut : Text → Option (Text × Text) → Option (ℕ × ℕ)
units_cut text None = option_map (λ units. (units, 0)) (count_in text)
units_cut text (Some cut) = option_and_then (λ units. option_map (λ burst. (units, burst)) (count_in cut.1)) (count_in cut.0)

abbrev pub asked_units : Text → Option (ℕ × ℕ)
asked_units text = units_cut text (cut_once 43 text)

-- the rate of three texts, if each is what it should be; words count the header
abbrev pub rate_of : Text → Text → Text → Option Rate
rate_of words parts units =
    option_and_then (λ w. option_and_then (λ p. option_map (λ u. record { words = w; parts = p; units = u.0; burst = u.1 }) (asked_units units)) (count_in parts)) (number_between 4 64 words)

-- `WORDS:PARTS/UNITS` or `WORDS:PARTS/UNITS+BURST`
abbrev pub asked_rate : Text → Option Rate
asked_rate text = option_and_then (λ outer. option_and_then (λ inner. rate_of outer.0 inner.0 inner.1) (cut_once 47 outer.1)) (cut_once 58 text)

-- the rates with that of each text
abbrev pub rated_in : Rated → List Text → Option Rated
rated_in rated [] = Some rated
rated_in rated (text ∷ texts) = option_and_then (λ rate. option_and_then (λ more. rated_in more texts) (rated_with rated rate)) (asked_rate text)

-- such texts with a comma between each two
abbrev pub rates_in : Text → Option Rated
rates_in text = rated_in none_rated (parts_at 44 text)

-- what a text is read as, if it has rates
abbrev pub ReadsRates : Text → Result AskedRates NotRates → Type 0
ReadsRates text (Ok asked) = rates_in text ≡ Some (rated_of asked.rates)
ReadsRates text (Err fault) = rates_in text ≡ None
