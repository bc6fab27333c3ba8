-- What the words give, by what `clap` matched.
use Rattle.std.proofs.Common.{◌≡◌, ◌∙◌, Bool, true, false, List, [], Option, Some, None, refl, sym, ap, subst, inl, inr}
use Rattle.std.proofs.lemmas.Bool.{false≢true}
use Rattle.std.specs.{Prelude.{◌≢◌, Box, IsSomeAnd, option_map}, Box.box_value}
use Rattle.clap.specs.{Faults.{fault_of, is_simple_and_free}, Kinds.{HasKind, IsAmong}, Values.kind_of}
use Rattle.clap.specs.Simple.{App, HasMatchesOf, is_simple, subcommand_of, subcommand_rows, subcommand_rows_of}
use Rattle.clap.specs.{Matches.found_of, Walk.{Row, Text, rows_of}, declared.error.Error.Error}
use Rattle.clap.specs.{declared.error.kind.ErrorKind.ErrorKind, declared.parser.matches.ArgMatches.ArgMatches}
use Rattle.clap.specs.declared.parser.matches.ArgMatches.TheViews.{out-SubCommand}
use Rattle.clap.specs.declared.parser.matches.SubCommand.{SubCommand}
use Rattle.mh_orders.specs.declared.order.{Order.Order, Order.TheVariants.Version, ConfigOption.ConfigOption}
use Rattle.mh_command_line.specs.declared.fault.LineFault.{LineFault}
use Rattle.mh_command_line.specs.declared.fault.LineFault.TheVariants.{Words, NotText, Configuration, NoMemory}
use Rattle.mh_command_line.specs.declared.options.OptionFault.{OptionFault}
use Rattle.mh_command_line.specs.declared.options.OptionFault.TheVariants.{Breaks, NoNumber, Missing, Outside}
use Rattle.mh_command_line.specs.{declared.table.Rule.Rule, Table.metroheap}
use Rattle.mh_command_line.specs.Auxiliary.{rule_of_row, HasOptionFault, IsSaidOfRefusal, NamesOne, RefusesOptions, kind_of_fault}
use Rattle.mh_command_line.specs.Orders.{AreAmiss, AskAmiss, AsksVersion, BreakRule, Gives, GivesOrder, HasFewWorkers, HasFirstRules, IsFault, IsMissing, IsNoNumber, IsOutside, Named, NotMet, NotTaken, Takes, rule_kind}
use Rattle.mh_command_line.proofs.SoundLemmas.{names_one}

abbrev is_version : ErrorKind → Bool
is_version ErrorKind.DisplayVersion = true
is_version _ = false

same_some : {A : Type 0} {x y : A} → Some x ≡ Some y → x ≡ y
same_some e = cc

none_some : {A : Type 0} {x : A} → None ≡ Some x → ⊥
none_some e = cc

rule_not_version : (it : Rule) → is_version (rule_kind it) ≡ false
rule_not_version Rule.Wants = refl
rule_not_version Rule.WantsWith = refl
rule_not_version Rule.WantsUnless = refl
rule_not_version Rule.Beside = refl
rule_not_version Rule.BesideWith = refl
rule_not_version Rule.Share = refl
rule_not_version Rule.Rates = refl
rule_not_version Rule.Profile = refl

-- the subcommand that `clap` found is one of the table
pub takes_named : {Z : Type 0} (sub : Option (Box SubCommand Z)) (name : Text) (rows : List Row) → Some name ≡ option_map (λ b. (out-SubCommand (box_value b)).name.now) sub → Some rows ≡ option_map (λ found. found.1) (subcommand_rows sub) → NamesOne (subcommand_rows sub) → Takes name rows
takes_named None name rows is are one = absurd one
takes_named (Some b) name rows is are one =
    let P : Text → Type 0 = λ it. Takes it (rows_of (found_of (out-SubCommand (box_value b)).matches)) in
    let Q : List Row → Type 0 = λ it. Takes name it in
    subst Q (sym (same_some are)) (subst P (sym (same_some is)) one)

-- a fault of options asks for no version
not_version : (fault : OptionFault) (k : ErrorKind) → kind_of_fault fault ≡ Some k → is_version k ≡ false
not_version (Breaks row text) k kinds = sym (ap is_version (same_some kinds)) ∙ rule_not_version row.0
not_version (NoNumber name text) k kinds = sym (ap is_version (same_some kinds))
not_version (Missing name) k kinds = sym (ap is_version (same_some kinds))
not_version (Outside option) k kinds = absurd (none_some kinds)

other_kind : (k : ErrorKind) → is_version k ≡ false → k ≢ ErrorKind.DisplayVersion
other_kind k other e = false≢true (sym other ∙ ap is_version e)

amiss_by : (name : Text) (rows : List Row) (fault : OptionFault) (k : ErrorKind) → HasOptionFault name rows fault → kind_of_fault fault ≡ Some k → AreAmiss name rows k
amiss_by name rows (Breaks row text) k is kinds = subst (AreAmiss name rows) (same_some kinds) (BreakRule (rule_of_row row) is)
amiss_by name rows (NoNumber option text) k is kinds = subst (AreAmiss name rows) (same_some kinds) (IsNoNumber is.0 option.now is.1.0 is.1.1)
amiss_by name rows (Missing option) k is kinds = subst (AreAmiss name rows) (same_some kinds) (IsMissing is.0 option.now is.1.0 is.1.1)
amiss_by name rows (Outside option) k is kinds = absurd (none_some kinds)

has_amiss : (fault : OptionFault) (k : ErrorKind) (matched : Option (Text × List Row)) → IsSomeAnd matched (λ subcommand. HasOptionFault subcommand.0 subcommand.1 fault) → kind_of_fault fault ≡ Some k → IsSomeAnd matched (λ subcommand. AreAmiss subcommand.0 subcommand.1 k)
has_amiss fault k None has kinds = absurd has
has_amiss fault k (Some subcommand) has kinds = amiss_by subcommand.0 subcommand.1 fault k has kinds

-- what `clap` matched, of a command that is the program's
module _ (a : App) (words : List Text) (m : ArgMatches) (is : a ≡ metroheap) (matches : HasMatchesOf a words m) (taken : is_simple_and_free a ≡ true → fault_of a words ≡ []) where
  no_fault : fault_of metroheap words ≡ []
  no_fault = subst (λ a. fault_of a words ≡ []) is (taken (ap is_simple_and_free is))

  rows_are : subcommand_of metroheap words ≡ subcommand_rows_of m
  rows_are = sym ((matches (ap is_simple is)).1 ∙ ap (λ a. subcommand_of a words) is)

  pub matched_one : NamesOne (subcommand_rows_of m)
  matched_one = subst NamesOne rows_are (names_one words no_fault)

  asked : (P : Text → List Row → Type 0) → IsSomeAnd (subcommand_rows_of m) (λ subcommand. P subcommand.0 subcommand.1) → IsSomeAnd (subcommand_of metroheap words) (λ subcommand. P subcommand.0 subcommand.1)
  asked P named =
      let Q : Option (Text × List Row) → Type 0 = λ matched. IsSomeAnd matched (λ subcommand. P subcommand.0 subcommand.1) in
      subst Q (sym rows_are) named

  pub gives_order : (order : Order) → IsSomeAnd (subcommand_rows_of m) (λ subcommand. Gives subcommand.0 subcommand.1 order) → HasFewWorkers order → HasFirstRules order → GivesOrder words order
  gives_order order named few rules = record { meant = Named no_fault (asked (λ name rows. Gives name rows order) named); few = few; rules = rules }

  -- options with a fault are refused so
  pub options_refused : (fault : OptionFault) (line : LineFault) → IsSomeAnd (subcommand_rows_of m) (λ subcommand. HasOptionFault subcommand.0 subcommand.1 fault) → RefusesOptions fault line → IsFault words line
  options_refused fault (Words error) has told = (
    other_kind (kind_of error) (not_version fault (kind_of error) told),
    NotMet (record { taken = no_fault; named = asked (λ name rows. AreAmiss name rows (kind_of error)) (has_amiss fault (kind_of error) (subcommand_rows_of m) has told) }),
  )
  options_refused fault NoMemory has told = tt
  options_refused (Outside option) (Configuration refused) has told =
      let P : ConfigOption → Type 0 = λ option. AskAmiss words (λ name rows. IsOutside name rows option) in
      subst P (sym told) (record { taken = no_fault; named = asked (λ name rows. IsOutside name rows option) has })
  options_refused (Breaks row text) (Configuration option) has told = absurd told
  options_refused (NoNumber name text) (Configuration option) has told = absurd told
  options_refused (Missing name) (Configuration option) has told = absurd told
  options_refused (Breaks row text) NotText has told = absurd told
  options_refused (NoNumber name text) NotText has told = absurd told
  options_refused (Missing name) NotText has told = absurd told
  options_refused (Outside option) NotText has told = absurd told

-- a fault of such a command, but refused memory, is one of the faults of the words
refuses : (a : App) (words : List Text) (e : Error) → a ≡ metroheap → (is_simple_and_free a ≡ true → HasKind (fault_of a words) e) → (kind_of e ≡ ErrorKind.OutOfMemory → ⊥) → IsAmong (kind_of e) (fault_of metroheap words)
refuses a words e is has other = go (subst (λ a. HasKind (fault_of a words) e) is (has (ap is_simple_and_free is))) where
  go : HasKind (fault_of metroheap words) e → IsAmong (kind_of e) (fault_of metroheap words)
  go (inl memory) = absurd (other memory)
  go (inr among) = among

-- words that `clap` doesn't take are refused so
pub words_refused : (a : App) (words : List Text) (e : Error) (line : LineFault) → a ≡ metroheap → (is_simple_and_free a ≡ true → HasKind (fault_of a words) e) → kind_of e ≢ ErrorKind.DisplayVersion → IsSaidOfRefusal (kind_of e) line → IsFault words line
words_refused a words e (Words told) is has asks refused =
    let P : ErrorKind → Type 0 = λ k. IsAmong k (fault_of metroheap words) in
    ((λ version. asks (sym refused.1 ∙ version)), NotTaken (subst P (sym refused.1) (refuses a words e is has refused.0)))
words_refused a words e NoMemory is has asks refused = tt
words_refused a words e NotText is has asks refused = absurd refused
words_refused a words e (Configuration option) is has asks refused = absurd refused

-- words of which `clap` finds that they ask for the version give that order
pub version_asked : (a : App) (words : List Text) (e : Error) → a ≡ metroheap → (is_simple_and_free a ≡ true → HasKind (fault_of a words) e) → kind_of e ≡ ErrorKind.DisplayVersion → GivesOrder words Version
version_asked a words e is has version =
    let P : ErrorKind → Type 0 = λ k. IsAmong k (fault_of metroheap words) in
    let other : kind_of e ≡ ErrorKind.OutOfMemory → ⊥ = λ memory. other_kind (kind_of e) (ap is_version memory) version in
    record { meant = AsksVersion refl (subst P version (refuses a words e is has other)); few = tt; rules = tt }
