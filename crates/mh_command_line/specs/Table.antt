-- What the table of options says: what `clap` is given, which values it lets pass, and which options go together.
use Rattle.std.specs.Prelude.{◌≡◌, ◌⊎◌, true, List, [], ◌∷◌, ◌++◌, Option, Some, fold, map, codes, IfSome, IsSomeAnd}
use Rattle.clap.specs.Words.{App, IsUnsignedIn, Row, Text, new_app, new_rule, one_of, with_subcommand, Rule as ClapRule}
use Rattle.clap.specs.declared.builder.action.ArgAction.TheVariants.{SetTrue}
use Rattle.clap.specs.declared.builder.value_parser.ValueParser.{ValueParser}
use Rattle.mh_command_line.specs.declared.table.{Kind.Kind, Kind.TheVariants.{Flag, Number, Needed}, Rule.Rule}
use Rattle.mh_command_line.specs.declared.table.TheConstants.{FIRST_SUBCOMMANDS, LAST_SUBCOMMANDS}

-- Rows -------------------------------------------------------------------------------------------

-- an option: its name, and what is given with it
abbrev pub Choice : Type 0
Choice = Text × Kind

-- a rule of two options, each with its kind, and of a third, which has the kind of the second
abbrev pub OptionRule : Type 0
OptionRule = Rule × Kind × Text × Kind × Text × Text

-- a subcommand: its name, its options, and their rules
abbrev pub Subcommand : Type 0
Subcommand = Text × List Choice × List OptionRule

-- the table, of its two parts
abbrev pub first_subcommands : List Subcommand
first_subcommands = map (λ row. (row.0.now, map (λ choice. (choice.0.now, choice.2)) row.4.now, map (λ rule. (rule.0, rule.1, rule.2.now, rule.3, rule.4.now, rule.5.now)) row.5.now)) FIRST_SUBCOMMANDS.now

abbrev pub last_subcommands : List Subcommand
last_subcommands = map (λ row. (row.0.now, map (λ choice. (choice.0.now, choice.2)) row.4.now, map (λ rule. (rule.0, rule.1, rule.2.now, rule.3, rule.4.now, rule.5.now)) row.5.now)) LAST_SUBCOMMANDS.now

abbrev pub table : List Subcommand
table = first_subcommands ++ last_subcommands

-- The command of `clap` --------------------------------------------------------------------------

-- an option that is called by its name
abbrev pub named_rule : Text → ClapRule
named_rule name = record (new_rule name) { long = Some name }

-- one with a value that passes a parser
abbrev pub parsed_rule : Text → ValueParser → ClapRule
parsed_rule name parser = record (named_rule name) { value_names = 1; parser = Some parser }

-- an option without a value
abbrev pub flag_rule : Text → ClapRule
flag_rule name = record (named_rule name) { action = Some SetTrue }

-- that of a row
abbrev pub clap_rule : Text → Kind → ClapRule
clap_rule name Flag = flag_rule name
clap_rule name Kind.Text = parsed_rule name ValueParser.String
clap_rule name (Number least most) = parsed_rule name (ValueParser.Unsigned least most)
clap_rule name (Needed least most) = record (parsed_rule name (ValueParser.Unsigned least most)) { required = true }

abbrev pub choice_rule : Choice → ClapRule
choice_rule choice = clap_rule choice.0 choice.1

-- a subcommand with its options
abbrev pub app_with : Text → List Choice → App
app_with name choices = let app : App = new_app name in record app { top = record app.top { rules = map choice_rule choices } }

abbrev pub with_its_app : App → Subcommand → App
with_its_app app subcommand = with_subcommand app (app_with subcommand.0 subcommand.1).top

-- a program that has a version and whose words name a subcommand; `help` is none
abbrev pub finished_app : App → App
finished_app app = record app { top = record app.top { has_version = true; subcommand_required = true; disable_help_subcommand = true } }

abbrev pub metroheap : App
metroheap = finished_app (fold with_its_app (fold with_its_app (new_app (codes "metroheap")) first_subcommands) last_subcommands)

-- Values -----------------------------------------------------------------------------------------

-- a flag's value, if it has one, is `true` or `false`
abbrev pub IsFlagText : Text → Type 0
IsFlagText text = (text ≡ codes "true") ⊎ (text ≡ codes "false")

-- an option's value is as its kind has it
abbrev pub Passes : Kind → Option Text → Type 0
Passes Flag found = IfSome found IsFlagText
Passes Kind.Text found = Unit {0}
Passes (Number least most) found = IfSome found (IsUnsignedIn least most)
Passes (Needed least most) found = IsSomeAnd found (IsUnsignedIn least most)

-- so are those of all options
abbrev pub AllPass : List Row → List Choice → Type 0
AllPass rows [] = Unit {0}
AllPass rows (choice ∷ choices) = Passes choice.1 (one_of choice.0 rows) × AllPass rows choices
