-- Auxiliary definitions: what loops, private functions and the insides of types keep. No public contract depends on them.
use Rattle.std.specs.Prelude.{◌≡◌, ◌≤◌, ℕ, Bool, List, ◌∷◌, ◌&&◌, nat_le, Option, Some, map, IsSomeAnd, ◌≢◌, None, codes, drop, slice_get, take}
use Rattle.std.specs.Borrow.{Bor}
use Rattle.clap.specs.{Words.{Row, Text, one_of, kind_of}, declared.error.kind.ErrorKind.ErrorKind}
use Rattle.clap.specs.declared.error.kind.ErrorKind.TheVariants.{MissingRequiredArgument, OutOfMemory, ValueValidation}
use Rattle.mh_command_line.specs.{declared.table.Kind.Kind, declared.table.Rule.Rule}
use Rattle.mh_command_line.specs.{Table.{OptionRule, Subcommand, Choice}, declared.fault.LineFault.LineFault}
use Rattle.mh_command_line.specs.declared.fault.LineFault.TheVariants.{Words, Configuration, NoMemory}
use Rattle.mh_command_line.specs.declared.options.OptionFault.{OptionFault}
use Rattle.mh_command_line.specs.declared.options.OptionFault.TheVariants.{Breaks, NoNumber, Missing, Outside}
use Rattle.mh_command_line.specs.Values.{IsConfigOption, LacksNumber, IsNumber, IsHeld, number_in_digits}
use Rattle.mh_command_line.specs.Orders.{rule_kind, AreOutside, Takes, IsOutsideBy, broken_rule, WantsConfig, IsOutside}
use Rattle.mh_orders.specs.declared.order.ConfigOption.{ConfigOption, TheVariants.Trigger}
use Rattle.mh_model.specs.Limits.{least_quantum}

-- the byte can be printed: it is a space, a letter, a digit or another sign of ASCII
abbrev pub is_printable : ℕ → Bool
is_printable byte = nat_le 32 byte && nat_le byte 126

-- the rows of the code, without what help says
abbrev pub OptionRow : Type 0
OptionRow = Bor Text × Bor Text × Kind × Bor Text

abbrev pub RuleRow : Type 0
RuleRow = Rule × Kind × Bor Text × Kind × Bor Text × Bor Text

abbrev pub SubcommandRow : Type 0
SubcommandRow = Bor Text × Bor Text × Bor Text × Bor Text × Bor (List OptionRow) × Bor (List RuleRow)

abbrev pub choice_of : OptionRow → Choice
choice_of row = (row.0.now, row.2)

abbrev pub rule_of_row : RuleRow → OptionRule
rule_of_row row = (row.0, row.1, row.2.now, row.3, row.4.now, row.5.now)

abbrev pub subcommand_of_row : SubcommandRow → Subcommand
subcommand_of_row row = (row.0.now, map choice_of row.4.now, map rule_of_row row.5.now)

-- the words name one
abbrev pub NamesOne : Option (Text × List Row) → Type 0
NamesOne matched = IsSomeAnd matched (λ subcommand. Takes subcommand.0 subcommand.1)

-- the option that is blamed of numbers that are no configuration: one that is outside its limits, and that of the trigger if no other is
abbrev pub IsBlamed : (pages quantum every : ℕ) → ConfigOption → Type 0
IsBlamed pages quantum every Trigger = (1 ≤ pages) × (pages ≤ 4096) × (least_quantum ≤ quantum) × (quantum ≤ 1000000) × (every ≤ 1000000)
IsBlamed pages quantum every option = IsOutsideBy option (record { pages = pages; quantum = quantum; trigger = 0; every = every })

-- what is wrong with the options of a configuration: one is no number, or is missing, or is outside its limits
abbrev pub IsNumberFault : List Row → OptionFault → Type 0
IsNumberFault rows (Breaks row text) = ⊥
IsNumberFault rows (NoNumber name text) = IsConfigOption name.now × LacksNumber rows name.now
IsNumberFault rows (Missing name) = IsConfigOption name.now × (one_of name.now rows ≡ None)
IsNumberFault rows (Outside option) = AreOutside rows option

-- what is wrong with those of a subcommand: they break a rule; one is outside its limits; or these are, if it wants a configuration
abbrev pub HasOptionFault : Text → List Row → OptionFault → Type 0
HasOptionFault subcommand rows (Breaks row text) = broken_rule subcommand rows ≡ Some (rule_of_row row)
HasOptionFault subcommand rows (Outside option) = IsOutside subcommand rows option
HasOptionFault subcommand rows fault = WantsConfig subcommand rows × IsNumberFault rows fault

-- the kind by which `clap` refuses options with a fault, which is none of its own if a number is outside its limits
abbrev pub kind_of_fault : OptionFault → Option ErrorKind
kind_of_fault (Breaks row text) = Some (rule_kind row.0)
kind_of_fault (NoNumber name text) = Some ValueValidation
kind_of_fault (Missing name) = Some MissingRequiredArgument
kind_of_fault (Outside option) = None

-- what is said of options with a fault
abbrev pub RefusesOptions : OptionFault → LineFault → Type 0
RefusesOptions fault (Words error) = kind_of_fault fault ≡ Some (kind_of error)
RefusesOptions fault NoMemory = kind_of_fault fault ≢ None
RefusesOptions (Outside option) (Configuration refused) = refused ≡ option
RefusesOptions fault line = ⊥

-- what is said of words that `clap` refuses with this kind of fault: that, or that memory was refused
abbrev pub IsSaidOfRefusal : ErrorKind → LineFault → Type 0
IsSaidOfRefusal kind (Words error) = (kind ≢ OutOfMemory) × (kind_of error ≡ kind)
IsSaidOfRefusal kind NoMemory = Unit {0}
IsSaidOfRefusal kind line = ⊥

-- the option is given with a number that is held so
abbrev pub HoldsNumber : List Row → Text → ℕ → Type 0
HoldsNumber rows name held = IsSomeAnd (one_of name rows) (λ text. IsNumber text × IsHeld (number_in_digits text) held)

-- the word with this number, counted from 0, if there is one
abbrev pub IsArgument : Option (List Text) → ℕ → Option Text → Type 0
IsArgument None index found = Unit {0}
IsArgument (Some words) index found = slice_get words index ≡ found

-- the words before this number were read, but for the program's own name
abbrev pub AreRead : Option (List Text) → ℕ → List Text → Type 0
AreRead None index words = Unit {0}
AreRead (Some known) index words = words ≡ codes "metroheap" ∷ drop 1 (take index known)
