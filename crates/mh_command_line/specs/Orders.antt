-- The order that the matches of a command line give, and why other words give none.
use Rattle.std.specs.Prelude.{◌≡◌, ◌≢◌, ◌⊎◌, ◌<◌, ◌≤◌, ◌/◌, ℕ, zero, suc, true, false, not, if◌then◌else◌, List, [], Option, Some, None, Result, Ok, Err, codes, find, IsSomeAnd, MatchOption}
use Rattle.std.specs.{Option.option_map_or, Str.bytes_eq}
use Rattle.clap.specs.declared.error.kind.ErrorKind.{ErrorKind}
use Rattle.clap.specs.declared.error.kind.ErrorKind.TheVariants.{ArgumentConflict, DisplayVersion, MissingRequiredArgument, ValueValidation}
use Rattle.clap.specs.Words.{Row, Text, one_of, subcommand_of, fault_of, kind_of, IsAmong}
use Rattle.mh_orders.specs.{declared.range.RangeOptions.RangeOptions, declared.generate_options.Controls.Controls}
use Rattle.mh_orders.specs.declared.generate_options.Controls.TheVariants.{ByChance, Each, Never}
use Rattle.mh_orders.specs.{declared.generate_options.Options.Options, declared.profile.Profile.Profile}
use Rattle.mh_orders.specs.{declared.profile.Profile.TheVariants.Mixed, Profiles.profile_name}
use Rattle.mh_orders.specs.declared.order.Order.{Order}
use Rattle.mh_orders.specs.declared.order.Order.TheVariants.{Run, Steps, Show, Live, Race, Check, CheckSessions, CheckLog, Audit, Migrate, Generate, Version, Chrome, Cycles, Curve, CurveHistory, CurvePauses, SizeScript, SizeRoom, SizeTarget}
use Rattle.mh_orders.specs.{declared.order.RunForm.RunForm, declared.order.RunForm.TheVariants.{Replies, History}}
use Rattle.mh_orders.specs.{declared.order.LiveHeap.LiveHeap, declared.order.LiveHeap.TheVariants.{Machine, World}}
use Rattle.mh_orders.specs.{declared.order.LiveOptions.LiveOptions, declared.order.RunOptions.RunOptions}
use Rattle.mh_orders.specs.{declared.order.LogOptions.LogOptions, declared.order.SessionsOptions.SessionsOptions}
use Rattle.mh_orders.specs.{declared.order.StepsOptions.StepsOptions, declared.order.ConfigOption.ConfigOption}
use Rattle.mh_orders.specs.declared.order.ConfigOption.TheVariants.{Pages, Quantum, Trigger, Every}
use Rattle.mh_orders.specs.declared.steps.StepsForm.{StepsForm}
use Rattle.mh_model.specs.{Configs.{configured, configured_under}, declared.config.Config.Config}
use Rattle.mh_model.specs.{declared.config.Rules.Rules, declared.config.Rules.TheVariants.{First, Second}}
use Rattle.mh_model.specs.Limits.{least_quantum}
use Rattle.mh_command_line.specs.declared.fault.LineFault.{LineFault}
use Rattle.mh_command_line.specs.declared.fault.LineFault.TheVariants.{Words, NotText, Configuration, NoMemory}
use Rattle.mh_command_line.specs.{declared.table.Rule.Rule, Arguments.HasNoText, Curves.AreCurveOptions}
use Rattle.mh_command_line.specs.Sizes.{AreRoomOptions, AreScriptOptions, AreTargetOptions}
use Rattle.mh_command_line.specs.Table.{AllPass, OptionRule, metroheap, table}
use Rattle.mh_command_line.specs.Values.{HasNumber, IsConfigOption, LacksNumber, breaks, is_flagged, number_or, optional_number, rules_chosen, rules_given, workers_of}
use Rattle.mh_orders.specs.declared.steps.StepsForm.TheVariants as form

-- Orders -----------------------------------------------------------------------------------------

-- the numbers of a configuration, in the limits or not
pub record ConfigNumbers : Type 0 where
  pub pages : ℕ
  pub quantum : ℕ
  pub trigger : ℕ
  pub every : ℕ

-- each stands in the matches under the name of its option
pub record HasNumbers (rows : List Row) (numbers : ConfigNumbers) : Type 0 where
  pub pages : HasNumber rows (codes "pages") numbers.pages
  pub quantum : HasNumber rows (codes "quantum") numbers.quantum
  pub trigger : HasNumber rows (codes "trigger") numbers.trigger
  pub every : HasNumber rows (codes "every") numbers.every

-- the configuration of these numbers under these rules, none outside the limits
abbrev pub config_under : Rules → ConfigNumbers → Option Config
config_under rules numbers = configured_under rules numbers.pages numbers.quantum numbers.trigger numbers.every

-- the numbers in the matches make this configuration under these rules
pub record MakesConfig (rules : Rules) (rows : List Row) (config : Config) : Type 0 where
  pub numbers : ConfigNumbers
  pub has : HasNumbers rows numbers
  pub makes : config_under rules numbers ≡ Some config

-- no option of a configuration is given
pub record HasNoConfig (rows : List Row) : Type 0 where
  pub pages : one_of (codes "pages") rows ≡ None
  pub quantum : one_of (codes "quantum") rows ≡ None
  pub trigger : one_of (codes "trigger") rows ≡ None
  pub every : one_of (codes "every") rows ≡ None

-- what a run writes: its replies, or its history if the flag is given
abbrev pub form_of_run : List Row → RunForm
form_of_run rows = if is_flagged (codes "history") rows then History else Replies

-- the options of a run: under the second rules if the matches don't say
pub record AreRunOptions (rows : List Row) (options : RunOptions) : Type 0 where
  pub workers : options.workers ≡ workers_of rows
  pub rules : options.rules ≡ rules_chosen Second rows
  pub form : options.form ≡ form_of_run rows

-- what answers lines: a machine, or a world if the flag is given
abbrev pub heap_of_live : List Row → LiveHeap
heap_of_live rows = if is_flagged (codes "world") rows then World else Machine

-- the options of answers to lines
pub record AreLiveOptions (rows : List Row) (options : LiveOptions) : Type 0 where
  pub workers : options.workers ≡ workers_of rows
  pub heap : options.heap ≡ heap_of_live rows

-- how steps are written: in words, or as JSON if the flag is given
abbrev pub steps_form_of : List Row → StepsForm
steps_form_of rows = if is_flagged (codes "json") rows then form.Json else form.Text

-- the options of steps: those of all events if the matches don't say, under the second rules
pub record AreStepsOptions (rows : List Row) (options : StepsOptions) : Type 0 where
  pub form : options.steps.form ≡ steps_form_of rows
  pub from : options.steps.from ≡ number_or 1 (codes "from") rows
  pub to : options.steps.to ≡ number_or 4294967295 (codes "to") rows
  pub rules : options.rules ≡ rules_chosen Second rows

-- the options of a run of which some events are written, as Chrome trace events or on a page: all if the matches don't say, under the second rules
pub record AreRangeOptions (rows : List Row) (options : RangeOptions) : Type 0 where
  pub from : options.from ≡ number_or 1 (codes "from") rows
  pub to : options.to ≡ number_or 4294967295 (codes "to") rows
  pub rules : options.rules ≡ rules_chosen Second rows

-- the configuration of a random script: what the matches don't say is by default, of the trigger half of the pages
abbrev pub generated_config : List Row → Option Config
generated_config rows =
    let pages : ℕ = number_or 64 (codes "pages") rows in configured pages (number_or 250 (codes "quantum") rows) (number_or (pages / 2) (codes "trigger") rows) (number_or 25 (codes "every") rows)

-- the controls of one: those of its mix if the matches don't say, and none if they say 0
abbrev pub controls_of : List Row → Controls
controls_of rows = asked (optional_number (codes "controls") rows) where
  asked : Option ℕ → Controls
  asked None = ByChance
  asked (Some zero) = Never
  asked (Some (suc more)) = Each (suc more)

-- the profile that the matches ask for by its name, which is mixed if they don't say
abbrev pub AsksProfile : List Row → Profile → Type 0
AsksProfile rows profile = MatchOption (one_of (codes "profile") rows) (profile ≡ Mixed) (λ text. text ≡ profile_name profile)

-- the options of a random script
pub record AreGenerateOptions (rows : List Row) (options : Options) : Type 0 where
  pub seed : HasNumber rows (codes "seed") options.seed
  pub events : HasNumber rows (codes "events") options.events
  pub sessions : options.sessions ≡ number_or 4 (codes "sessions") rows
  pub config : generated_config rows ≡ Some options.config
  pub rules : options.rules ≡ rules_chosen Second rows
  pub profile : AsksProfile rows options.profile
  pub controls : options.controls ≡ controls_of rows

-- the options of a history that is judged by what its sessions see
pub record AreSessionsOptions (rows : List Row) (options : SessionsOptions) : Type 0 where
  pub rules : options.rules ≡ rules_given rows
  pub may_be_full : options.may_be_full ≡ not (is_flagged (codes "no-full") rows)

-- the options of a log of threads that is judged
pub record AreLogOptions (rows : List Row) (options : LogOptions) : Type 0 where
  pub rules : options.rules ≡ rules_chosen Second rows
  pub may_be_full : options.may_be_full ≡ not (is_flagged (codes "no-full") rows)

-- the order of a subcommand with its matches
abbrev pub IsOrder : Text → List Row → Order → Type 0
IsOrder name rows (Run options) = (name ≡ codes "run") × AreRunOptions rows options
IsOrder name rows (Steps options) = (name ≡ codes "steps") × (is_flagged (codes "chrome") rows ≡ false) × AreStepsOptions rows options
IsOrder name rows (Chrome options) = (name ≡ codes "steps") × (is_flagged (codes "chrome") rows ≡ true) × AreRangeOptions rows options
IsOrder name rows (Cycles rules) = (name ≡ codes "cycles") × (rules ≡ rules_chosen Second rows)
IsOrder name rows (Show options) = (name ≡ codes "show") × AreRangeOptions rows options
IsOrder name rows (Live options) = (name ≡ codes "live") × AreLiveOptions rows options
IsOrder name rows (Race workers) = (name ≡ codes "race") × (workers ≡ workers_of rows)
IsOrder name rows (Check config) = (name ≡ codes "check") × (is_flagged (codes "sessions") rows ≡ false) × (is_flagged (codes "no-full") rows ≡ false) × (is_flagged (codes "log") rows ≡ false) × MakesConfig (rules_chosen First rows) rows config
IsOrder name rows (CheckSessions options) = (name ≡ codes "check") × (is_flagged (codes "sessions") rows ≡ true) × (is_flagged (codes "log") rows ≡ false) × HasNoConfig rows × AreSessionsOptions rows options
IsOrder name rows (CheckLog options) = (name ≡ codes "check") × (is_flagged (codes "log") rows ≡ true) × (is_flagged (codes "sessions") rows ≡ false) × HasNoConfig rows × AreLogOptions rows options
IsOrder name rows Audit = name ≡ codes "audit"
IsOrder name rows (Migrate config) = (name ≡ codes "migrate") × MakesConfig First rows config
IsOrder name rows (Curve rules options) = (name ≡ codes "curve") × (is_flagged (codes "history") rows ≡ false) × (is_flagged (codes "pauses") rows ≡ false) × (rules ≡ rules_chosen Second rows) × AreCurveOptions rows options
IsOrder name rows (CurveHistory options) = (name ≡ codes "curve") × (is_flagged (codes "history") rows ≡ true) × (is_flagged (codes "pauses") rows ≡ false) × AreCurveOptions rows options
IsOrder name rows (CurvePauses options) = (name ≡ codes "curve") × (is_flagged (codes "history") rows ≡ false) × (is_flagged (codes "pauses") rows ≡ true) × AreCurveOptions rows options
IsOrder name rows (Generate options) = (name ≡ codes "generate") × AreGenerateOptions rows options
IsOrder name rows (SizeScript options) = (name ≡ codes "size") × AreScriptOptions rows options
IsOrder name rows (SizeRoom options) = (name ≡ codes "size") × AreRoomOptions rows options
IsOrder name rows (SizeTarget options) = (name ≡ codes "size") × AreTargetOptions rows options
IsOrder name rows Version = ⊥

-- from 1 to 64 workers, if the order has workers
abbrev pub HasFewWorkers : Order → Type 0
HasFewWorkers (Run options) = (0 < options.workers) × (options.workers ≤ 64)
HasFewWorkers (Live options) = (0 < options.workers) × (options.workers ≤ 64)
HasFewWorkers (Race workers) = (0 < workers) × (workers ≤ 64)
HasFewWorkers order = Unit {0}

-- the first rules, if the order is to migrate
abbrev pub HasFirstRules : Order → Type 0
HasFirstRules (Migrate config) = config.rules ≡ First
HasFirstRules order = Unit {0}

-- The table --------------------------------------------------------------------------------------

-- the name is that of a subcommand, and each value is as the table has it
abbrev pub Takes : Text → List Row → Type 0
Takes name rows = IsSomeAnd (find (λ row. bytes_eq row.0 name) table) (λ row. AllPass rows row.1)

-- the first of the rules of a subcommand that the options break
abbrev pub broken_rule : Text → List Row → Option OptionRule
broken_rule name rows = option_map_or (λ row. find (breaks rows) row.2) (find (λ row. bytes_eq row.0 name) table) None

-- Faults -----------------------------------------------------------------------------------------

-- the subcommand wants a configuration: `migrate` does, and `check` without `--sessions` and `--log`
abbrev pub WantsConfig : Text → List Row → Type 0
WantsConfig name rows = ((name ≡ codes "check") × (is_flagged (codes "sessions") rows ≡ false) × (is_flagged (codes "log") rows ≡ false)) ⊎ (name ≡ codes "migrate")

-- an option of a configuration is outside its limits: that of the trigger if it is above that of the pages
abbrev pub IsOutsideBy : ConfigOption → ConfigNumbers → Type 0
IsOutsideBy Pages numbers = (numbers.pages < 1) ⊎ (4096 < numbers.pages)
IsOutsideBy Quantum numbers = (numbers.quantum < least_quantum) ⊎ (1000000 < numbers.quantum)
IsOutsideBy Trigger numbers = numbers.pages < numbers.trigger
IsOutsideBy Every numbers = 1000000 < numbers.every

-- the numbers in the matches make no configuration under any rules, and that of this option is outside its limits
pub record AreOutside (rows : List Row) (option : ConfigOption) : Type 0 where
  pub numbers : ConfigNumbers
  pub has : HasNumbers rows numbers
  pub none : (rules : Rules) → config_under rules numbers ≡ None
  pub outside : IsOutsideBy option numbers

-- the trigger of a random script is above its pages
abbrev pub IsAbovePages : List Row → ConfigOption → Type 0
IsAbovePages rows option = (option ≡ Trigger) × (generated_config rows ≡ None)

-- the subcommand wants a configuration, and this one of its numbers is outside its limits
abbrev pub IsOutside : Text → List Row → ConfigOption → Type 0
IsOutside name rows option = (WantsConfig name rows × AreOutside rows option) ⊎ ((name ≡ codes "generate") × IsAbovePages rows option)

-- the kind by which `clap` refuses options that break a rule
abbrev pub rule_kind : Rule → ErrorKind
rule_kind Rule.Wants = MissingRequiredArgument
rule_kind Rule.WantsWith = MissingRequiredArgument
rule_kind Rule.WantsUnless = MissingRequiredArgument
rule_kind Rule.Beside = ArgumentConflict
rule_kind Rule.BesideWith = ArgumentConflict
rule_kind Rule.Share = ValueValidation
rule_kind Rule.Rates = ValueValidation
rule_kind Rule.Profile = ValueValidation

-- `clap` takes the options of a subcommand, and they are amiss: the kind of fault that this is
pub data AreAmiss (name : Text) (rows : List Row) : ErrorKind → Type 0 where
  BreakRule : (row : OptionRule) → broken_rule name rows ≡ Some row → AreAmiss name rows (rule_kind row.0)
  IsNoNumber : WantsConfig name rows → (option : Text) → IsConfigOption option → LacksNumber rows option → AreAmiss name rows ValueValidation
  IsMissing : WantsConfig name rows → (option : Text) → IsConfigOption option → one_of option rows ≡ None → AreAmiss name rows MissingRequiredArgument

-- Words ------------------------------------------------------------------------------------------

-- what a subcommand gives: each value is as the table has it, no rule is broken, and the order is what the options ask for
pub record Gives (name : Text) (rows : List Row) (given : Order) : Type 0 where
  pub takes : Takes name rows
  pub meets : broken_rule name rows ≡ None
  pub order : IsOrder name rows given

-- what words mean: `clap` takes them, and their subcommand gives the order; or `clap` finds that they ask for the version
pub data Mean (words : List Text) (order : Order) : Type 0 where
  Named : fault_of metroheap words ≡ [] → IsSomeAnd (subcommand_of metroheap words) (λ subcommand. Gives subcommand.0 subcommand.1 order) → Mean words order
  AsksVersion : order ≡ Version → IsAmong DisplayVersion (fault_of metroheap words) → Mean words order

-- words give an order
pub record GivesOrder (words : List Text) (order : Order) : Type 0 where
  pub meant : Mean words order
  pub few : HasFewWorkers order
  pub rules : HasFirstRules order

-- `clap` takes the words, and this is so of the options of their subcommand
pub record AskAmiss (words : List Text) (P : Text → List Row → Type 0) : Type 0 where
  pub taken : fault_of metroheap words ≡ []
  pub named : IsSomeAnd (subcommand_of metroheap words) (λ subcommand. P subcommand.0 subcommand.1)

-- why words give no order, of which `clap` says what is wrong: it doesn't take them, or their options are amiss
pub data AreRefused (words : List Text) (kind : ErrorKind) : Type 0 where
  NotTaken : IsAmong kind (fault_of metroheap words) → AreRefused words kind
  NotMet : AskAmiss words (λ name rows. AreAmiss name rows kind) → AreRefused words kind

-- words are refused only if `clap` doesn't take them, with one of the kinds of fault that it finds first; if their options
-- are amiss, with the kind of that; or if their configuration is outside the limits. Words that ask for the version are
-- never refused for that
abbrev pub IsFault : List Text → LineFault → Type 0
IsFault words (Words error) = (kind_of error ≢ DisplayVersion) × AreRefused words (kind_of error)
IsFault words NotText = ⊥
IsFault words (Configuration option) = AskAmiss words (λ name rows. IsOutside name rows option)
IsFault words NoMemory = Unit {0}

-- what may be wrong with words that can't be read, by those that are known: one isn't text, or memory was refused
abbrev pub IsUnread : Option (List Text) → LineFault → Type 0
IsUnread known NotText = HasNoText known
IsUnread known NoMemory = Unit {0}
IsUnread known fault = ⊥

-- what words give: an order, or a fault
abbrev pub OrdersBy : List Text → Result Order LineFault → Type 0
OrdersBy words (Ok order) = GivesOrder words order
OrdersBy words (Err fault) = IsFault words fault
