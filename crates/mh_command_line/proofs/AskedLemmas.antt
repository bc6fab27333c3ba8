-- What the table says of the options of a subcommand, each by its name.
use Rattle.std.proofs.Common.{◌≡◌, ◌∙◌, ◌⊎◌, ℕ, Bool, true, false, not, if◌then◌else◌, ◌&&◌, ◌||◌, List, [], ◌∷◌, ◌++◌, map, Option, Some, None, is_some, option_map, refl, sym, ap, subst, inl, inr, codes}
use Rattle.std.proofs.{lemmas.Bool.true≢false, lemmas.Slice.Eq.bytes_eq-Decides}
use Rattle.std.specs.{Prelude.{IfSome, IsSome, IsSomeAnd, find}, Borrow.Bor, Option.option_map_or, Str.bytes_eq}
use Rattle.clap.proofs.WalkLemmas.{find-map}
use Rattle.clap.specs.Words.{IsUnsignedIn, Row, Text, one_of}
use Rattle.mh_command_line.specs.{declared.table.Kind.Kind, declared.table.Kind.TheVariants.{Needed, Number}}
use Rattle.mh_command_line.specs.Table.{AllPass, Choice, OptionRule, Passes, Subcommand, first_subcommands, last_subcommands, table}
use Rattle.mh_command_line.specs.Auxiliary.{RuleRow, SubcommandRow, rule_of_row, subcommand_of_row}
use Rattle.mh_command_line.specs.Values.{breaks, is_flagged, lacks_profile, lacks_rates, lacks_share}
use Rattle.mh_command_line.specs.{Orders.{HasNoConfig, Takes, broken_rule}, Sizes.{HasNoCounts, has_heap}}

same_some : {A : Type 0} {x y : A} → Some x ≡ Some y → x ≡ y
same_some e = cc

some_none : {A : Type 0} {x : A} → Some x ≡ None → ⊥
some_none e = cc

-- Kinds ------------------------------------------------------------------------------------------

abbrev kind_in : List Choice → Text → Option Kind
kind_in [] name = None
kind_in (choice ∷ choices) name = if bytes_eq choice.0 name then Some choice.1 else kind_in choices name

abbrev kind_of : Text → Text → Option Kind
kind_of subcommand name = option_map_or (λ row. kind_in row.1 name) (find (λ row. bytes_eq row.0 subcommand) table) None

passes_in : (rows : List Row) (choices : List Choice) (name : Text) (kind : Kind) → kind_in choices name ≡ Some kind → AllPass rows choices → Passes kind (one_of name rows)
passes_in rows [] name kind is all = absurd (some_none (sym is))
passes_in rows (choice ∷ choices) name kind is all = go (bytes_eq choice.0 name) refl is (λ later. passes_in rows choices name kind later all.1) where
  go : (b : Bool) → bytes_eq choice.0 name ≡ b → (if b then Some choice.1 else kind_in choices name) ≡ Some kind → (kind_in choices name ≡ Some kind → Passes kind (one_of name rows)) → Passes kind (one_of name rows)
  go true same is rest =
      let P : Kind → Type 0 = λ kind. Passes kind (one_of name rows) in
      let Q : Text → Type 0 = λ it. Passes choice.1 (one_of it rows) in
      subst P (same_some is) (subst Q ((bytes_eq-Decides choice.0 name).0 same) all.0)
  go false same is rest = rest is

-- a number that is given is within what its row says
pub number_passes : (subcommand name : Text) (least most : ℕ) (rows : List Row) → kind_of subcommand name ≡ Some (Number least most) → Takes subcommand rows → IfSome (one_of name rows) (IsUnsignedIn least most)
number_passes subcommand name least most rows is takes = go (find (λ (row : Subcommand). bytes_eq row.0 subcommand) table) is takes where
  go : (found : Option Subcommand) → option_map_or (λ row. kind_in row.1 name) found None ≡ Some (Number least most) → IsSomeAnd found (λ row. AllPass rows row.1) → IfSome (one_of name rows) (IsUnsignedIn least most)
  go None is takes = absurd takes
  go (Some row) is takes = passes_in rows row.1 name (Number least most) is takes

-- and one that has to be given is given
pub needed_passes : (subcommand name : Text) (least most : ℕ) (rows : List Row) → kind_of subcommand name ≡ Some (Needed least most) → Takes subcommand rows → IsSomeAnd (one_of name rows) (IsUnsignedIn least most)
needed_passes subcommand name least most rows is takes = go (find (λ (row : Subcommand). bytes_eq row.0 subcommand) table) is takes where
  go : (found : Option Subcommand) → option_map_or (λ row. kind_in row.1 name) found None ≡ Some (Needed least most) → IsSomeAnd found (λ row. AllPass rows row.1) → IsSomeAnd (one_of name rows) (IsUnsignedIn least most)
  go None is takes = absurd takes
  go (Some row) is takes = passes_in rows row.1 name (Needed least most) is takes

pub given_passes : (subcommand name : Text) (least most : ℕ) (rows : List Row) → kind_of subcommand name ≡ Some (Number least most) → Takes subcommand rows → IsSome (one_of name rows) → IsSomeAnd (one_of name rows) (IsUnsignedIn least most)
given_passes subcommand name least most rows is takes given = go (one_of name rows) (number_passes subcommand name least most rows is takes) given where
  go : (found : Option Text) → IfSome found (IsUnsignedIn least most) → IsSome found → IsSomeAnd found (IsUnsignedIn least most)
  go None may given = absurd (true≢false (sym given))
  go (Some text) may given = may

-- Subcommands ------------------------------------------------------------------------------------

abbrev IsNamed : Text → List Subcommand → Type 0
IsNamed name [] = ⊥
IsNamed name (row ∷ rows) = (row.0 ≡ name) ⊎ IsNamed name rows

is_named : (name : Text) (P : Subcommand → Type 0) (rows : List Subcommand) → IsSomeAnd (find (λ row. bytes_eq row.0 name) rows) P → IsNamed name rows
is_named name P [] is = absurd is
is_named name P (row ∷ rows) is = go (bytes_eq row.0 name) refl is (is_named name P rows) where
  go : (b : Bool) → bytes_eq row.0 name ≡ b → IsSomeAnd (if b then Some row else find (λ row. bytes_eq row.0 name) rows) P → (IsSomeAnd (find (λ row. bytes_eq row.0 name) rows) P → IsNamed name rows) → IsNamed name (row ∷ rows)
  go true same is rest = inl ((bytes_eq-Decides row.0 name).0 same)
  go false same is rest = inr (rest is)

-- there are no others
pub no_other : (name : Text) (rows : List Row) → Takes name rows → (name ≡ codes "run" → ⊥) → (name ≡ codes "steps" → ⊥) → (name ≡ codes "cycles" → ⊥) → (name ≡ codes "show" → ⊥) → (name ≡ codes "live" → ⊥) → (name ≡ codes "race" → ⊥) → (name ≡ codes "check" → ⊥) → (name ≡ codes "audit" → ⊥) → (name ≡ codes "migrate" → ⊥) → (name ≡ codes "generate" → ⊥) → (name ≡ codes "curve" → ⊥) → (name ≡ codes "size" → ⊥) → ⊥
no_other name rows takes run steps cycles show live race check audit migrate generate curve size = go (is_named name (λ row. AllPass rows row.1) table takes) where
  go : IsNamed name table → ⊥
  go (inl e) = run (sym e)
  go (inr (inl e)) = steps (sym e)
  go (inr (inr (inl e))) = cycles (sym e)
  go (inr (inr (inr (inl e)))) = show (sym e)
  go (inr (inr (inr (inr (inl e))))) = live (sym e)
  go (inr (inr (inr (inr (inr (inl e)))))) = race (sym e)
  go (inr (inr (inr (inr (inr (inr (inl e))))))) = check (sym e)
  go (inr (inr (inr (inr (inr (inr (inr (inl e)))))))) = audit (sym e)
  go (inr (inr (inr (inr (inr (inr (inr (inr (inl e))))))))) = migrate (sym e)
  go (inr (inr (inr (inr (inr (inr (inr (inr (inr (inl e)))))))))) = generate (sym e)
  go (inr (inr (inr (inr (inr (inr (inr (inr (inr (inr (inl e))))))))))) = curve (sym e)
  go (inr (inr (inr (inr (inr (inr (inr (inr (inr (inr (inr (inl e)))))))))))) = size (sym e)
  go (inr (inr (inr (inr (inr (inr (inr (inr (inr (inr (inr (inr none)))))))))))) = absurd none

-- Rules ------------------------------------------------------------------------------------------

-- none of the rules is broken
abbrev AllKept : {X : Type 0} → (X → Bool) → List X → Type 0
AllKept f [] = Unit {0}
AllKept f (x ∷ xs) = (f x ≡ false) × AllKept f xs

all_kept : {X : Type 0} (f : X → Bool) (xs : List X) → find f xs ≡ None → AllKept f xs
all_kept f [] none = tt
all_kept f (x ∷ xs) none = go (f x) refl none (all_kept f xs) where
  go : (b : Bool) → f x ≡ b → (if b then Some x else find f xs) ≡ None → (find f xs ≡ None → AllKept f xs) → AllKept f (x ∷ xs)
  go true is none rest = absurd (some_none none)
  go false is none rest = (is, rest none)

abbrev rules_of : Text → List OptionRule
rules_of name = option_map_or (λ (row : Subcommand). row.2) (find (λ (row : Subcommand). bytes_eq row.0 name) table) []

kept : (name : Text) (rows : List Row) → broken_rule name rows ≡ None → AllKept (breaks rows) (rules_of name)
kept name rows none = go (find (λ (row : Subcommand). bytes_eq row.0 name) table) none where
  go : (found : Option Subcommand) → option_map_or (λ (row : Subcommand). find (breaks rows) row.2) found None ≡ None → AllKept (breaks rows) (option_map_or (λ (row : Subcommand). row.2) found [])
  go None none = tt
  go (Some row) none = all_kept (breaks rows) row.2 none

-- Each of these says of one or two rules what they mean, wherever in the table they stand.
beside : (a b : Bool) → (a && b) ≡ false → b ≡ true → a ≡ false
beside true b is both = sym both ∙ is
beside false b is both = refl

wants : (a b : Bool) → (a && not b) ≡ false → b ≡ false → a ≡ false
wants true true is lacks = lacks
wants true false is lacks = absurd (true≢false is)
wants false b is lacks = refl

wanted : (a b : Bool) → (a && not b) ≡ false → a ≡ true → b ≡ true
wanted true true is given = refl
wanted true false is given = absurd (true≢false is)
wanted false b is given = absurd (true≢false (sym given))

pub not_some : (found : Option Text) → is_some found ≡ false → found ≡ None
not_some None is = refl
not_some (Some text) is = absurd (true≢false is)

alike : (a b : Bool) → (a && not b) ≡ false → (b && not a) ≡ false → a ≡ b
alike true true first second = refl
alike false false first second = refl
alike true false first second = absurd (true≢false first)
alike false true first second = absurd (true≢false second)

module _ (rows : List Row) where
  abbrev has : Text → Bool
  has name = is_some (one_of name rows)

  not_beside : (name : Text) (b : Bool) → (has name && b) ≡ false → b ≡ true → one_of name rows ≡ None
  not_beside name b is given = not_some (one_of name rows) (beside (has name) b is given)

  -- `check` ------------------------------------------------------------------------------------------

  module _ (meets : broken_rule (codes "check") rows ≡ None) where
    pub no_config_of_log : is_flagged (codes "log") rows ≡ true → HasNoConfig rows
    no_config_of_log log = let all = kept (codes "check") rows meets in record {
      pages = not_beside (codes "pages") (is_flagged (codes "log") rows) (assumption all) log;
      quantum = not_beside (codes "quantum") (is_flagged (codes "log") rows) (assumption all) log;
      trigger = not_beside (codes "trigger") (is_flagged (codes "log") rows) (assumption all) log;
      every = not_beside (codes "every") (is_flagged (codes "log") rows) (assumption all) log;
    }

    pub no_config_of_sessions : is_flagged (codes "sessions") rows ≡ true → HasNoConfig rows
    no_config_of_sessions sessions = let all = kept (codes "check") rows meets in record {
      pages = not_beside (codes "pages") (is_flagged (codes "sessions") rows) (assumption all) sessions;
      quantum = not_beside (codes "quantum") (is_flagged (codes "sessions") rows) (assumption all) sessions;
      trigger = not_beside (codes "trigger") (is_flagged (codes "sessions") rows) (assumption all) sessions;
      every = not_beside (codes "every") (is_flagged (codes "sessions") rows) (assumption all) sessions;
    }

    pub no_sessions_of_log : is_flagged (codes "log") rows ≡ true → is_flagged (codes "sessions") rows ≡ false
    no_sessions_of_log log = let all = kept (codes "check") rows meets in beside (is_flagged (codes "sessions") rows) (is_flagged (codes "log") rows) (assumption all) log

    pub no_full_alone : is_flagged (codes "sessions") rows ≡ false → is_flagged (codes "log") rows ≡ false → is_flagged (codes "no-full") rows ≡ false
    no_full_alone sessions log =
        let all = kept (codes "check") rows meets in
        wants (is_flagged (codes "no-full") rows) (is_flagged (codes "sessions") rows) (wants (is_flagged (codes "no-full") rows && not (is_flagged (codes "sessions") rows)) (is_flagged (codes "log") rows) (assumption all) log) sessions

  -- `generate` ---------------------------------------------------------------------------------------

  pub profile_kept : broken_rule (codes "generate") rows ≡ None → lacks_profile (codes "profile") rows ≡ false
  profile_kept meets = let all = kept (codes "generate") rows meets in assumption all

  -- `curve` ------------------------------------------------------------------------------------------

  module _ (meets : broken_rule (codes "curve") rows ≡ None) where
    pub both_of_round : has (codes "every") ≡ has (codes "quantum")
    both_of_round = let all = kept (codes "curve") rows meets in alike (has (codes "every")) (has (codes "quantum")) (assumption all) (assumption all)

    pub share_kept : lacks_share (codes "keeps") rows ≡ false
    share_kept = let all = kept (codes "curve") rows meets in assumption all

    pub no_pauses : is_flagged (codes "history") rows ≡ true → is_flagged (codes "pauses") rows ≡ false
    no_pauses history = let all = kept (codes "curve") rows meets in beside (is_flagged (codes "pauses") rows) (is_flagged (codes "history") rows) (assumption all) history

  -- `size` -------------------------------------------------------------------------------------------

  module _ (meets : broken_rule (codes "size") rows ≡ None) where
    all_of_size : AllKept (breaks rows) (rules_of (codes "size"))
    all_of_size = kept (codes "size") rows meets

    -- of a share
    module _ (target : IsSome (one_of (codes "target") rows)) where
      beside_target : (name : Text) → (has name && has (codes "target")) ≡ false → one_of name rows ≡ None
      beside_target name is = not_beside name (has (codes "target")) is target

      pub counts_of_target : HasNoCounts rows
      counts_of_target = record {
        used = beside_target (codes "used") (assumption all_of_size);
        rate = beside_target (codes "rate") (assumption all_of_size);
        parts = beside_target (codes "parts") (assumption all_of_size);
        quanta = beside_target (codes "quanta") (assumption all_of_size);
      }

      pub rules_of_target : one_of (codes "rules") rows ≡ None
      rules_of_target = beside_target (codes "rules") (assumption all_of_size)

      pub window_of_target : IsSome (one_of (codes "window") rows)
      window_of_target = wanted (has (codes "target")) (has (codes "window")) (assumption all_of_size) target

      pub one_of_target : (has (codes "every") && has (codes "quantum")) ≡ false
      one_of_target = beside (has (codes "every") && has (codes "quantum")) (has (codes "target")) (assumption all_of_size) target

    -- of a heap
    module _ (used : IsSome (one_of (codes "used") rows)) where
      pub rules_of_heap : one_of (codes "rules") rows ≡ None
      rules_of_heap = not_beside (codes "rules") (has (codes "used")) (assumption all_of_size) used

      pub window_of_heap : one_of (codes "target") rows ≡ None → one_of (codes "window") rows ≡ None
      window_of_heap target =
          not_some (one_of (codes "window") rows) (wants (has (codes "window")) (has (codes "target")) (beside (has (codes "window") && not (has (codes "target"))) (has (codes "used")) (assumption all_of_size) used) (ap is_some target))

      pub every_of_heap : IsSome (one_of (codes "every") rows)
      every_of_heap = wanted (has (codes "used")) (has (codes "every")) (assumption all_of_size) used

      pub rate_of_heap : IsSome (one_of (codes "rate") rows)
      rate_of_heap = wanted (has (codes "used")) (has (codes "rate")) (assumption all_of_size) used

      pub rates_kept : lacks_rates (codes "rate") rows ≡ false
      rates_kept = assumption all_of_size

      pub quantum_of_heap : one_of (codes "quanta") rows ≡ None → IsSome (one_of (codes "quantum") rows)
      quantum_of_heap quanta = wanted (has (codes "used") && not (has (codes "quanta"))) (has (codes "quantum")) (assumption all_of_size) (ap (λ b. b && not (has (codes "quanta"))) used ∙ ap (λ b. not (is_some b)) quanta)

      pub no_quantum_of_heap : IsSome (one_of (codes "quanta") rows) → one_of (codes "quantum") rows ≡ None
      no_quantum_of_heap quanta = not_some (one_of (codes "quantum") rows) (beside (has (codes "quantum")) (has (codes "quanta")) (other_way (has (codes "quanta")) (has (codes "quantum")) (assumption all_of_size)) quanta) where
        other_way : (a b : Bool) → (a && b) ≡ false → (b && a) ≡ false
        other_way true true is = is
        other_way true false is = refl
        other_way false true is = refl
        other_way false false is = refl

    -- of a script
    pub no_heap : one_of (codes "target") rows ≡ None → one_of (codes "used") rows ≡ None → has_heap rows ≡ false
    no_heap target used =
        let u : has (codes "used") ≡ false = ap is_some used in
        let t : has (codes "target") ≡ false = ap is_some target in
        none_of_six u (wants (has (codes "rate")) (has (codes "used")) (assumption all_of_size) u) (wants (has (codes "parts")) (has (codes "used")) (assumption all_of_size) u)
        (wants (has (codes "quanta")) (has (codes "used")) (assumption all_of_size) u)
        (wants (has (codes "every")) (has (codes "used")) (wants (has (codes "every") && not (has (codes "used"))) (has (codes "target")) (assumption all_of_size) t) u)
        (wants (has (codes "quantum")) (has (codes "used")) (wants (has (codes "quantum") && not (has (codes "used"))) (has (codes "target")) (assumption all_of_size) t) u)
      where
        none_of_six : {a b c d e f : Bool} → a ≡ false → b ≡ false → c ≡ false → d ≡ false → e ≡ false → f ≡ false → (a || (b || (c || (d || (e || f))))) ≡ false
        none_of_six a b c d e f = rw a (rw b (rw c (rw d (rw e f))))

-- Rows -------------------------------------------------------------------------------------------

pub row_shown : (row : Option (Bor SubcommandRow)) → option_map (λ (row : Bor SubcommandRow). subcommand_of_row row.now) row ≡ option_map subcommand_of_row (option_map (λ (row : Bor SubcommandRow). row.now) row)
row_shown None = refl
row_shown (Some row) = refl

find_first : {X : Type 0} (f : X → Bool) (xs ys : List X) (x : X) → Some x ≡ find f xs → Some x ≡ find f (xs ++ ys)
find_first f [] ys x found = absurd (some_none found)
find_first f (z ∷ xs) ys x found = go (f z) found (find_first f xs ys x) where
  go : (b : Bool) → Some x ≡ (if b then Some z else find f xs) → (Some x ≡ find f xs → Some x ≡ find f (xs ++ ys)) → Some x ≡ (if b then Some z else find f (xs ++ ys))
  go true found rest = found
  go false found rest = rest found

find_last : {X : Type 0} (f : X → Bool) (xs ys : List X) → None ≡ find f xs → find f ys ≡ find f (xs ++ ys)
find_last f [] ys none = refl
find_last f (z ∷ xs) ys none = go (f z) none (find_last f xs ys) where
  go : (b : Bool) → None ≡ (if b then Some z else find f xs) → (None ≡ find f xs → find f ys ≡ find f (xs ++ ys)) → find f ys ≡ (if b then Some z else find f (xs ++ ys))
  go true none rest = absurd (some_none (sym none))
  go false none rest = rest none

-- the row of a subcommand in the parts of the table
pub row_first : (name : Text) (rows : List Subcommand) (row : Subcommand) → rows ≡ first_subcommands → Some row ≡ find (λ it. bytes_eq it.0 name) rows → Some row ≡ find (λ it. bytes_eq it.0 name) table
row_first name rows row is found = find_first (λ it. bytes_eq it.0 name) first_subcommands last_subcommands row (found ∙ ap (λ (rows : List Subcommand). find (λ it. bytes_eq it.0 name) rows) is)

pub row_last : (name : Text) (first last : List Subcommand) (found : Option Subcommand) → first ≡ first_subcommands → None ≡ find (λ it. bytes_eq it.0 name) first → last ≡ last_subcommands → found ≡ find (λ it. bytes_eq it.0 name) last → found ≡ find (λ it. bytes_eq it.0 name) table
row_last name first last found is none are later =
    later ∙ ap (λ (rows : List Subcommand). find (λ it. bytes_eq it.0 name) rows) are
    ∙ find_last (λ it. bytes_eq it.0 name) first_subcommands last_subcommands (none ∙ ap (λ (rows : List Subcommand). find (λ it. bytes_eq it.0 name) rows) is)

-- the row of a subcommand, and the first of its rules that is broken
pub row_found : (name : Text) (rows : List SubcommandRow) (found : Option SubcommandRow) → found ≡ find (λ row. bytes_eq row.0.now name) rows → option_map subcommand_of_row found ≡ find (λ row. bytes_eq row.0 name) (map subcommand_of_row rows)
row_found name rows found is = ap (option_map subcommand_of_row) is ∙ find-map (λ (row : Subcommand). bytes_eq row.0 name) subcommand_of_row rows

pub rule_found : (rows : List Row) (name : Text) (row : SubcommandRow) (broken : Option RuleRow) → Some (subcommand_of_row row) ≡ find (λ it. bytes_eq it.0 name) table → broken ≡ find (λ r. breaks rows (rule_of_row r)) row.5.now → option_map rule_of_row broken ≡ broken_rule name rows
rule_found rows name row broken here is =
    ap (option_map rule_of_row) is ∙ find-map (breaks rows) rule_of_row row.5.now ∙ ap (λ (found : Option Subcommand). option_map_or (λ row. find (breaks rows) row.2) found None) here

pub no_rule : (rows : List Row) (name : Text) → None ≡ find (λ it. bytes_eq it.0 name) table → None ≡ broken_rule name rows
no_rule rows name none = ap (λ (found : Option Subcommand). option_map_or (λ row. find (breaks rows) row.2) found None) none
