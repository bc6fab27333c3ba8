-- What `clap` finds in words that it takes for the program's: a subcommand of the table, with values as the table has them.
use Rattle.std.proofs.Common.{◌≡◌, ◌∙◌, ◌⊎◌, ◌||◌, Bool, true, false, not, if◌then◌else◌, ◌&&◌, List, [], ◌∷◌, ◌++◌, map, Option, Some, None, is_some, option_map, refl, sym, ap, subst, inl, inr, codes}
use Rattle.std.proofs.{lemmas.Bool.false≢true, lemmas.Slice.Eq.bytes_eq-Decides}
use Rattle.std.specs.{Prelude.{IfSome, IsSomeAnd, find}, Option.option_map_or, List.list_any, Str.bytes_eq}
use Rattle.clap.specs.Facts.{explicit_source}
use Rattle.clap.specs.Faults.{check_fault, defaults_fault, entered_fault, fault_of, level_fault, settle_fault, walk_fault}
use Rattle.clap.specs.{Kinds.{Kinds, check_kinds}, Values.{Accepts, reading_of}}
use Rattle.clap.specs.declared.builder.value_parser.ValueParser.{ValueParser}
use Rattle.clap.specs.declared.builder.value_parser.Reading.TheVariants.{AsWritten}
use Rattle.clap.specs.Simple.{App, Shape, argument_words, built, built_leaf, entered, filled, filled_from, help_rule, label_of, names_of, rows_at, subcommand_of, with_index}
use Rattle.clap.specs.Takes.{is_given}
use Rattle.clap.specs.Walk.{Row, Rule, Text, Walk, answers_to, finished, nothing_held, one_of, rows_after, settled, walk_from}
use Rattle.mh_command_line.specs.{declared.table.Kind.Kind, declared.table.Kind.TheVariants.{Flag, Number, Needed}}
use Rattle.mh_command_line.specs.Table.{AllPass, Choice, IsFlagText, Subcommand, app_with, choice_rule, metroheap, table}
use Rattle.mh_command_line.specs.{Auxiliary.NamesOne, Orders.Takes}
use Rattle.mh_command_line.proofs.OptionLemmas.{AreRead, AreSafe, IsSafe, level-read, never, none-missing, none_first, none_next, safe-flag, safe-given, safe-help, value-given, value-may, value_rule}
use Rattle.clap.specs.Walk as walk

-- Parsers ----------------------------------------------------------------------------------------

-- the parser of an option's values, by its kind and by its name
abbrev parser_of : Kind → ValueParser
parser_of Flag = ValueParser.Bool
parser_of Kind.Text = ValueParser.String
parser_of (Number least most) = ValueParser.Unsigned least most
parser_of (Needed least most) = ValueParser.Unsigned least most

abbrev parser_in : List Choice → Text → ValueParser
parser_in [] name = ValueParser.String
parser_in (choice ∷ choices) name = if bytes_eq choice.0 name then parser_of choice.1 else parser_in choices name

kind_plain : (k : Kind) → reading_of (parser_of k) ≡ AsWritten
kind_plain Flag = refl
kind_plain Kind.Text = refl
kind_plain (Number least most) = refl
kind_plain (Needed least most) = refl

plain : (choices : List Choice) (name : Text) → reading_of (parser_in choices name) ≡ AsWritten
plain [] name = refl
plain (choice ∷ choices) name = go (bytes_eq choice.0 name) (plain choices name) where
  go : (b : Bool) → reading_of (parser_in choices name) ≡ AsWritten → reading_of (if b then parser_of choice.1 else parser_in choices name) ≡ AsWritten
  go true rest = kind_plain choice.1
  go false rest = rest

-- no two options have one name
abbrev are_distinct : List Choice → Bool
are_distinct [] = true
are_distinct (choice ∷ choices) = not (list_any (λ it. bytes_eq choice.0 it.0) choices) && are_distinct choices

-- by its name each has the parser of its kind
abbrev AreAs : (Text → ValueParser) → List Choice → Type 0
AreAs p [] = Unit {0}
AreAs p (choice ∷ choices) = (p choice.0 ≡ parser_of choice.1) × AreAs p choices

both : (a b : Bool) → (a && b) ≡ true → (a ≡ true) × (b ≡ true)
both true true is = (refl, refl)
both true false is = absurd (false≢true is)
both false b is = absurd (false≢true is)

neither : (a b : Bool) → (a || b) ≡ false → (a ≡ false) × (b ≡ false)
neither false false is = (refl, refl)
neither false true is = absurd (false≢true (sym is))
neither true b is = absurd (false≢true (sym is))

unlike : (b : Bool) → not b ≡ true → b ≡ false
unlike false is = refl
unlike true is = absurd (false≢true is)

are_later : (first : Choice) (all choices : List Choice) → list_any (λ it. bytes_eq first.0 it.0) choices ≡ false → AreAs (parser_in all) choices → AreAs (parser_in (first ∷ all)) choices
are_later first all [] other are = tt
are_later first all (choice ∷ choices) other are =
    let parts = neither (bytes_eq first.0 choice.0) (list_any (λ it. bytes_eq first.0 it.0) choices) other in
    (ap (λ b. if b then parser_of first.1 else parser_in all choice.0) parts.0 ∙ are.0, are_later first all choices parts.1 are.1)

same_bytes : (text : Text) → bytes_eq text text ≡ true
same_bytes text = (bytes_eq-Decides text text).1 refl

are_as : (choices : List Choice) → are_distinct choices ≡ true → AreAs (parser_in choices) choices
are_as [] distinct = tt
are_as (choice ∷ choices) distinct =
    let parts = both (not (list_any (λ it. bytes_eq choice.0 it.0) choices)) (are_distinct choices) distinct in
    (ap (λ b. if b then parser_of choice.1 else parser_in choices choice.0) (same_bytes choice.0), are_later choice choices choices (unlike _ parts.0) (are_as choices parts.1))

-- Options ----------------------------------------------------------------------------------------

module _ (p : Text → ValueParser) (is_plain : (name : Text) → reading_of (p name) ≡ AsWritten) where
  abbrev Safe : Rule → Type 0
  Safe = IsSafe p is_plain

  given : (required : Bool) (name : Text) (parser : ValueParser) → p name ≡ parser → Safe (with_index 1 (filled (record (value_rule parser name) { required = required })))
  given required name parser is = subst (λ parser. Safe (with_index 1 (filled (record (value_rule parser name) { required = required })))) is (safe-given p is_plain required name 1)

  are_safe : (choices : List Choice) → AreAs p choices → AreSafe p is_plain (filled_from 1 (map choice_rule choices ++ help_rule ∷ []))
  are_safe [] are = (safe-help p is_plain 1, tt)
  are_safe ((name, Flag) ∷ choices) are = (safe-flag p is_plain name 1 are.0, are_safe choices are.1)
  are_safe ((name, Kind.Text) ∷ choices) are = (given false name ValueParser.String are.0, are_safe choices are.1)
  are_safe ((name, Number least most) ∷ choices) are = (given false name (ValueParser.Unsigned least most) are.0, are_safe choices are.1)
  are_safe ((name, Needed least most) ∷ choices) are = (given true name (ValueParser.Unsigned least most) are.0, are_safe choices are.1)

  flag_text : (found : Option Text) → IfSome found (Accepts false ValueParser.Bool) → IfSome found IsFlagText
  flag_text None is = tt
  flag_text (Some text) is = go (bytes_eq text (codes "true")) (bytes_eq text (codes "false")) refl refl is where
    go : (a b : Bool) → bytes_eq text (codes "true") ≡ a → bytes_eq text (codes "false") ≡ b → (a || b) ≡ true → (text ≡ codes "true") ⊎ (text ≡ codes "false")
    go true b first second is = inl ((bytes_eq-Decides text (codes "true")).0 first)
    go false true first second is = inr ((bytes_eq-Decides text (codes "false")).0 second)
    go false false first second is = absurd (false≢true is)

  -- an option that has to be given and isn't
  abbrev is_missing : List Row → Rule → Bool
  is_missing rows option = option.required && not (is_given option.id rows)

  not_missing : (b : Bool) → not b ≡ false → b ≡ true
  not_missing true is = refl
  not_missing false is = absurd (false≢true (sym is))

  all_pass : (rows : List Row) (choices : List Choice) → AreAs p choices → AreRead p is_plain rows → list_any (is_missing rows) (filled_from 1 (map choice_rule choices ++ help_rule ∷ [])) ≡ false → AllPass rows choices
  all_pass rows [] are read none = tt
  all_pass rows ((name, Flag) ∷ choices) are read none =
      (flag_text (one_of name rows) (subst (λ parser. IfSome (one_of name rows) (Accepts false parser)) are.0 (value-may p is_plain name rows read)), all_pass rows choices are.1 read none)
  all_pass rows ((name, Kind.Text) ∷ choices) are read none = (tt, all_pass rows choices are.1 read none)
  all_pass rows ((name, Number least most) ∷ choices) are read none =
      (subst (λ parser. IfSome (one_of name rows) (Accepts false parser)) are.0 (value-may p is_plain name rows read), all_pass rows choices are.1 read none)
  all_pass rows ((name, Needed least most) ∷ choices) are read none =
      let parts = neither (not (is_given name rows)) (list_any (is_missing rows) (filled_from 1 (map choice_rule choices ++ help_rule ∷ []))) none in
      (subst (λ parser. IsSomeAnd (one_of name rows) (Accepts false parser)) are.0 (value-given p is_plain name rows read (not_missing _ parts.0)), all_pass rows choices are.1 read parts.1)

-- Subcommands ------------------------------------------------------------------------------------

abbrev shape_of : Subcommand → Shape
shape_of row = built_leaf (app_with row.0 row.1).top

passed : (row : Subcommand) (words : List Text) → are_distinct row.1 ≡ true → level_fault (shape_of row) [] nothing_held words false [] ≡ [] → AllPass (rows_after (shape_of row).rules [] words) row.1
passed row words distinct e =
    let p : Text → ValueParser = parser_in row.1 in
    let are : AreAs p row.1 = are_as row.1 distinct in
    let rows : List Row = rows_after (shape_of row).rules [] words in
    all_pass p (plain row.1) rows row.1 are (level-read p (plain row.1) (shape_of row) words (are_safe p (plain row.1) row.1 are) e) (none-missing (shape_of row) words e)

-- in words that the subcommand takes, its values are as the table has them
abbrev IsSound : Shape → Type 0
IsSound s = (words : List Text) → level_fault s [] nothing_held words false [] ≡ [] → Takes s.name (rows_after s.rules [] words)

abbrev AreSound : List Shape → Type 0
AreSound [] = Unit {0}
AreSound (s ∷ shapes) = IsSound s × AreSound shapes

-- a row is found by its name
abbrev AreFound : List Subcommand → Type 0
AreFound [] = Unit {0}
AreFound (row ∷ rows) = (find (λ (it : Subcommand). bytes_eq it.0 row.0) table ≡ Some row) × AreFound rows

abbrev all_distinct : List Subcommand → Bool
all_distinct [] = true
all_distinct (row ∷ rows) = are_distinct row.1 && all_distinct rows

are_sound : (rows : List Subcommand) → AreFound rows → all_distinct rows ≡ true → AreSound (map shape_of rows)
are_sound [] found distinct = tt
are_sound (row ∷ rows) found distinct =
    let parts = both (are_distinct row.1) (all_distinct rows) distinct in (
      (λ words e.
          let found_rows : List Row = rows_after (shape_of row).rules [] words in
          let P : Option Subcommand → Type 0 = λ it. IsSomeAnd it (λ row. AllPass found_rows row.1) in
          subst P (sym found.0) (passed row words parts.0 e)),
      are_sound rows found.1 parts.1,
    )

sound-metroheap : AreSound (built metroheap).subs
sound-metroheap = are_sound table (refl, (refl, (refl, (refl, (refl, (refl, (refl, (refl, (refl, (refl, (refl, (refl, tt)))))))))))) refl

AreSound-find : (test : Shape → Bool) (shapes : List Shape) → AreSound shapes → IfSome (find test shapes) IsSound
AreSound-find test [] sound = tt
AreSound-find test (s ∷ shapes) sound = go (test s) (AreSound-find test shapes sound.1) where
  go : (b : Bool) → IfSome (find test shapes) IsSound → IfSome (if b then Some s else find test shapes) IsSound
  go true rest = sound.0
  go false rest = rest

-- The program ------------------------------------------------------------------------------------

-- what is said of a subcommand, if one is named, and of one that is
abbrev IfAsked : Option (Text × List Row) → Type 0
IfAsked matched = IfSome matched (λ subcommand. Takes subcommand.0 subcommand.1)

module _ (a : App) (sound : AreSound a.subs) where
  shape-asked : (s : Option Shape) (words : List Text) → IfSome s IsSound → option_map_or (λ s. level_fault s [] nothing_held words false []) s [] ≡ [] → IfAsked (option_map (λ s. rows_at s words) s)
  shape-asked None words is e = tt
  shape-asked (Some s) words is e = is words e

  entered-asked : (stop : Option (Text × List Text)) → entered_fault a stop ≡ [] → IfAsked (entered a stop)
  entered-asked None e = tt
  entered-asked (Some p) e = shape-asked (find (λ s. answers_to p.0 (label_of s)) a.subs) p.1 (AreSound-find (λ s. answers_to p.0 (label_of s)) a.subs sound) e

no_subcommand : (wants_help wants_subcommand wants_argument : Bool) → wants_subcommand ≡ true → check_kinds wants_help wants_subcommand wants_argument ≡ [] → ⊥
no_subcommand true wants_subcommand wants_argument is e = never _ _ e
no_subcommand false true wants_argument is e = never _ _ e
no_subcommand false false wants_argument is e = false≢true is

-- if no fault is found and a subcommand is wanted, there is one
some_asked : (s : Shape) (rows : List Row) (matched : Option (Text × List Row)) → s.subcommand_required ≡ true → check_fault s rows (is_some matched) ≡ [] → IfAsked matched → NamesOne matched
some_asked s rows None wanted e is =
    absurd (no_subcommand (s.arg_required_else_help && not (list_any (λ r. explicit_source r.source) rows)) s.subcommand_required
    (not (s.subcommand_negates_reqs && false) && list_any (λ a. a.required && not (is_given a.id rows)) s.rules) wanted e)
some_asked s rows (Some subcommand) wanted e is = is

pub names_one : (words : List Text) → fault_of metroheap words ≡ [] → NamesOne (subcommand_of metroheap words)
names_one words e =
    let rest : List Text = argument_words metroheap words in
    let top : Shape = (built metroheap).top in
    let end : Walk = walk.walk top.rules (names_of (built metroheap)) nothing_held rest in
    let below : Kinds = entered_fault (built metroheap) end.stopped in
    let settles : Kinds = settle_fault top.rules top.args_override_self end.held in
    let defaults : Kinds = defaults_fault (settled top.rules end.held).rows top.rules in
    let after = none_next (walk_fault top (names_of (built metroheap)) (walk_from nothing_held) rest) _ e in
    some_asked top (finished top.rules end.held) (entered (built metroheap) end.stopped) refl (none_next defaults _ (none_next settles _ (none_next below _ after)))
    (entered-asked (built metroheap) sound-metroheap end.stopped (none_first below _ after))
