-- The options of `size`: of a script, of a heap that has room for programs, or of a share of the mutator.
use Rattle.std.specs.Prelude.{◌≡◌, ◌||◌, Bool, false, List, Some, None, codes, is_some, IsSomeAnd}
use Rattle.clap.specs.Words.{Row, Text, one_of}
use Rattle.mh_command_line.specs.Rates.{rated_of, rates_in}
use Rattle.mh_command_line.specs.Values.{HasNumber, number_or, optional_number, rules_chosen}
use Rattle.mh_model.specs.declared.config.Rules.TheVariants.{Second}
use Rattle.mh_orders.specs.declared.{order.SizeOptions.SizeOptions, rates.Rates.Rates}
use Rattle.mh_orders.specs.declared.{room_options.CycleLength.CycleLength, room_options.RoomOptions.RoomOptions}
use Rattle.mh_orders.specs.declared.target_options.Given.{Given}
use Rattle.mh_orders.specs.declared.target_options.Given.TheVariants.{Every, Nothing, Quantum}
use Rattle.mh_orders.specs.declared.target_options.TargetOptions.{TargetOptions}

-- Forms ------------------------------------------------------------------------------------------

-- an option is given
abbrev pub is_given : List Row → Text → Bool
is_given rows name = is_some (one_of name rows)

-- one of the options of a heap is given
abbrev pub has_heap : List Row → Bool
has_heap rows =
    is_given rows (codes "used") || (is_given rows (codes "rate") || (is_given rows (codes "parts") || (is_given rows (codes "quanta") || (is_given rows (codes "every") || is_given rows (codes "quantum")))))

-- none of the options is given that a share has not
pub record HasNoCounts (rows : List Row) : Type 0 where
  pub used : one_of (codes "used") rows ≡ None
  pub rate : one_of (codes "rate") rows ≡ None
  pub parts : one_of (codes "parts") rows ≡ None
  pub quanta : one_of (codes "quanta") rows ≡ None

-- Orders -----------------------------------------------------------------------------------------

-- the options of a script: under the second rules if the matches don't say
pub record AreScriptOptions (rows : List Row) (options : SizeOptions) : Type 0 where
  pub rules : options.rules ≡ rules_chosen Second rows
  pub window : options.window ≡ optional_number (codes "window") rows
  pub heap : has_heap rows ≡ false
  pub target : one_of (codes "target") rows ≡ None

-- rates are given, and read so
abbrev pub AsksRates : List Row → Rates → Type 0
AsksRates rows rates = IsSomeAnd (one_of (codes "rate") rows) (λ text. rates_in text ≡ Some (rated_of rates))

-- how long cycles take: one number is given of two
abbrev pub AsksCycles : List Row → CycleLength → Type 0
AsksCycles rows (CycleLength.Quanta quanta) = HasNumber rows (codes "quanta") quanta × (one_of (codes "quantum") rows ≡ None)
AsksCycles rows (CycleLength.Quantum quantum) = HasNumber rows (codes "quantum") quantum × (one_of (codes "quanta") rows ≡ None)

-- the options of a heap that has room
pub record AreRoomOptions (rows : List Row) (options : RoomOptions) : Type 0 where
  pub used : HasNumber rows (codes "used") options.used
  pub every : HasNumber rows (codes "every") options.every
  pub rates : AsksRates rows options.rates
  pub most_parts : options.most_parts ≡ number_or 1 (codes "parts") rows
  pub cycles : AsksCycles rows options.length
  pub target : one_of (codes "target") rows ≡ None
  pub window : one_of (codes "window") rows ≡ None
  pub rules : one_of (codes "rules") rows ≡ None

-- what is given beside a target: one number or none
abbrev pub IsGivenBesideTarget : List Row → Given → Type 0
IsGivenBesideTarget rows Nothing = (one_of (codes "every") rows ≡ None) × (one_of (codes "quantum") rows ≡ None)
IsGivenBesideTarget rows (Every every) = HasNumber rows (codes "every") every × (one_of (codes "quantum") rows ≡ None)
IsGivenBesideTarget rows (Quantum quantum) = (one_of (codes "every") rows ≡ None) × HasNumber rows (codes "quantum") quantum

-- the options of a share of the mutator
pub record AreTargetOptions (rows : List Row) (options : TargetOptions) : Type 0 where
  pub percent : HasNumber rows (codes "target") options.target.percent
  pub window : HasNumber rows (codes "window") options.target.window
  pub given : IsGivenBesideTarget rows options.given
  pub counts : HasNoCounts rows
  pub rules : one_of (codes "rules") rows ≡ None
