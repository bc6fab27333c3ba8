-- What `clap` found for a subcommand in whose words it found no fault: each value has passed its parser.
use Rattle.std.proofs.Common.{◌≡◌, ◌<◌, ℕ, Bool, true, false, not, if◌then◌else◌, ◌&&◌, ◌++◌, List, [], ◌∷◌, length, length-append, drop, suc, zero, Option, Some, None, is_some, option_map, refl, sym, ap, subst, arith, codes}
use Rattle.std.proofs.{lemmas.Bool.false≢true, lemmas.Slice.Eq.bytes_eq-Decides}
use Rattle.std.specs.Prelude.{IfSome, IsSomeAnd, encode_utf8, fold, find, option_and_then, slice_get}
use Rattle.std.specs.{Option.option_map_or, Str.{bytes_eq, chars}, List.list_any}
use Rattle.clap.specs.{Lexer.{long_of, short_of}, Values.{Accepts, read_as, reading_of, refused_kind}}
use Rattle.clap.specs.{ValueTests.accepts, Facts.explicit_source, Takes.is_given}
use Rattle.clap.specs.Kinds.{Kinds, check_kinds, or_else, range_kinds, value_kinds, values_kinds}
use Rattle.clap.specs.Walk.{Held, Names, Outcome, Row, Rule, Step, Text, Waiting, Walk, after_flag, after_step, arg_by_id, arg_by_index, arg_by_long, arg_by_short, at_row, attached_value, bundle_met, bundle_step, flag_met, has_row, is_pending, long_met, long_or_other, more_values, nothing_held, one_of, option_met, option_word, plain_word, reacted, row_text, rows_after, settled, settled_rows, short_met, short_or_plain, subcommand_met, subcommand_or_other, takes_several, takes_values, to_positional, used, used_by_id, values_or_missing, walk_from, walked, with_default, with_values, without, word_met}
use Rattle.clap.specs.Simple.{Shape, filled, help_rule, new_rule, with_index}
use Rattle.clap.specs.Faults.{bundle_fault, bundle_step_fault, defaults_fault, flag_word_fault, flags_fault, level_fault, long_fault, option_fault, other_fault, positional_fault, react_fault, repeat_fault, settle_fault, short_fault, step_fault, stray_fault, turn_fault, use_fault, walk_fault, word_fault}
use Rattle.clap.specs.declared.builder.value_parser.ValueParser.{ValueParser}
use Rattle.clap.specs.declared.builder.value_parser.Reading.{Reading}
use Rattle.clap.specs.declared.builder.value_parser.Reading.TheVariants.{AsWritten}
use Rattle.clap.specs.{declared.error.kind.ErrorKind.ErrorKind, declared.parser.matches.ValueSource.ValueSource}
use Rattle.mh_command_line.specs.Table.{flag_rule}
use Rattle.clap.proofs.ValueTestLemmas.{accepts-Accepts}
use Rattle.clap.specs.Walk as walk

-- Faults -----------------------------------------------------------------------------------------

pub never : (k : ErrorKind) (ks : Kinds) → k ∷ ks ≡ [] → ⊥
never k ks e = let bad : suc (length ks) ≡ 0 = ap length e in omega arith

pub none_first : (a b : Kinds) → or_else a b ≡ [] → a ≡ []
none_first [] b e = refl
none_first (k ∷ ks) b e = e

pub none_next : (a b : Kinds) → or_else a b ≡ [] → b ≡ []
none_next [] b e = e
none_next (k ∷ ks) b e = absurd (never k ks e)

none_if : (b : Bool) (k : ErrorKind) → (if b then [] else k ∷ []) ≡ [] → b ≡ true
none_if true k e = refl
none_if false k e = absurd (never k [] e)

-- an option with one value
abbrev pub value_rule : ValueParser → Text → Rule
value_rule p name = record (new_rule name) { long = Some name; value_names = 1; parser = Some p }

-- a use of a flag has a value, which it needn't be given
flag_value : (option : Rule) (texts : List Text) → 0 < length option.missing → 0 < length (values_or_missing option texts)
flag_value option [] some = some
flag_value option (text ∷ texts) some = omega arith

-- a use with one value has one
some_value : (option : Rule) (texts : List Text) → range_kinds 1 1 (length texts) ≡ [] → 0 < length (values_or_missing option texts)
some_value option [] e = absurd (never _ _ e)
some_value option (text ∷ texts) e = omega arith

IfSome-from : {X : Type 0} (P : X → Type 0) (o : Option X) → IsSomeAnd o P → IfSome o P
IfSome-from P None is = tt
IfSome-from P (Some x) is = is

-- Values -----------------------------------------------------------------------------------------

-- what is found for options, each of whose values passes the parser of its name, and is read as it was written
module _ (p : Text → ValueParser) (plain : (id : Text) → reading_of (p id) ≡ AsWritten) where
  abbrev pub PassEach : Text → List Text → Type 0
  PassEach id [] = Unit {0}
  PassEach id (text ∷ texts) = (accepts false (p id) text ≡ true) × PassEach id texts

  abbrev pub IsRead : Row → Type 0
  IsRead row = PassEach row.id row.values × (row.reading ≡ AsWritten) × (0 < length row.values)

  abbrev pub AreRead : List Row → Type 0
  AreRead [] = Unit {0}
  AreRead (row ∷ rows) = IsRead row × AreRead rows

  PassEach-taken : (id : Text) (texts : List Text) → values_kinds false (p id) texts ≡ [] → PassEach id texts
  PassEach-taken id [] e = tt
  PassEach-taken id (text ∷ texts) e = (
    none_if (accepts false (p id) text) (refused_kind (p id)) (none_first (value_kinds false (p id) text) (values_kinds false (p id) texts) e),
    PassEach-taken id texts (none_next (value_kinds false (p id) text) (values_kinds false (p id) texts) e),
  )

  PassEach-append : (id : Text) (xs ys : List Text) → PassEach id xs → PassEach id ys → PassEach id (xs ++ ys)
  PassEach-append id [] ys a b = b
  PassEach-append id (x ∷ xs) ys a b = (a.0, PassEach-append id xs ys a.1 b)

  AreRead-append : (xs ys : List Row) → AreRead xs → AreRead ys → AreRead (xs ++ ys)
  AreRead-append [] ys a b = b
  AreRead-append (x ∷ xs) ys a b = (a.0, AreRead-append xs ys a.1 b)

  AreRead-at_row : (id : Text) (change : Row → List Row) (missing rows : List Row) → ((row : Row) → row.id ≡ id → IsRead row → AreRead (change row)) → AreRead missing → AreRead rows → AreRead (at_row id change missing rows)
  AreRead-at_row id change missing [] changed new all = new
  AreRead-at_row id change missing (row ∷ rows) changed new all = go (bytes_eq row.id id) refl (AreRead-at_row id change missing rows changed new all.1) where
    go : (b : Bool) → bytes_eq row.id id ≡ b → AreRead (at_row id change missing rows) → AreRead (if b then change row ++ rows else row ∷ at_row id change missing rows)
    go true same rest = AreRead-append (change row) rows (changed row ((bytes_eq-Decides row.id id).0 same) all.0) all.1
    go false same rest = (all.0, rest)

  AreRead-without : (id : Text) (rows : List Row) → AreRead rows → AreRead (without id rows)
  AreRead-without id rows all = AreRead-at_row id (λ _. []) [] rows (λ row same h. tt) tt all

  AreRead-with_values : (id : Text) (how : Reading) (source : ValueSource) (texts : List Text) (rows : List Row) → how ≡ AsWritten → 0 < length texts → PassEach id texts → AreRead rows → AreRead (with_values id how source texts rows)
  AreRead-with_values id how source texts rows is some passed all =
      AreRead-at_row id (more_values source texts) _ rows
      (λ row same h. ((PassEach-append row.id row.values texts h.0 (subst (λ name. PassEach name texts) (sym same) passed), h.1, omega (arith, length-append row.values texts, some)), tt))
      ((passed, is, some), tt) all

  -- Options ----------------------------------------------------------------------------------------

  -- a use of the option with no fault, and its default, leave such values alone
  pub record IsSafe (option : Rule) : Type 0 where
    pub uses : (again : Bool) (texts : List Text) (rows : List Row) → use_fault again option texts rows ≡ [] → AreRead rows → AreRead (used option texts rows)
    pub defaults : (rows : List Row) → AreRead rows → AreRead (with_default rows option)

  abbrev pub AreSafe : List Rule → Type 0
  AreSafe [] = Unit {0}
  AreSafe (option ∷ options) = IsSafe option × AreSafe options

  either : (b : Bool) (rows others : List Row) → AreRead rows → AreRead others → AreRead (if b then rows else others)
  either true rows others all more = all
  either false rows others all more = more

  same_either : (b : Bool) (rows : List Row) → AreRead rows → AreRead (if b then rows else rows)
  same_either true rows all = all
  same_either false rows all = all

  -- an option with one value, of the parser of its name, that has to be given or not
  pub safe-given : (required : Bool) (name : Text) (i : ℕ) → IsSafe (with_index i (filled (record (value_rule (p name) name) { required = required })))
  safe-given required name i = record {
    uses = λ again texts rows e all.
        let option : Rule = with_index i (filled (record (value_rule (p name) name) { required = required })) in
        let one : range_kinds 1 1 (length texts) ≡ [] = none_first (range_kinds 1 1 (length texts)) _ e in
        let passed : PassEach name (values_or_missing option texts) =
        PassEach-taken name (values_or_missing option texts) (none_next (repeat_fault again option.id rows) (values_kinds false (p name) (values_or_missing option texts)) (none_next (range_kinds 1 1 (length texts)) _ e)) in
        AreRead-with_values _ _ _ _ _ (plain name) (some_value option texts one) passed (AreRead-without _ rows all);
    defaults = λ rows all. same_either (has_row name rows) rows all;
  }

  -- a flag, which has one value if it is left out too
  pub safe-flag : (name : Text) (i : ℕ) → p name ≡ ValueParser.Bool → IsSafe (with_index i (filled (flag_rule name)))
  safe-flag name i is = record {
    uses = λ again texts rows e all.
        let option : Rule = with_index i (filled (flag_rule name)) in
        let kinds : values_kinds false ValueParser.Bool (values_or_missing option texts) ≡ [] = none_next (repeat_fault again option.id rows) (values_kinds false ValueParser.Bool (values_or_missing option texts)) (none_next (range_kinds 0 0 (length texts)) _ e) in
        let passed : PassEach name (values_or_missing option texts) = PassEach-taken name (values_or_missing option texts) (subst (λ parser. values_kinds false parser (values_or_missing option texts) ≡ []) (sym is) kinds) in
        AreRead-with_values name AsWritten _ (values_or_missing option texts) _ refl (flag_value option texts (omega arith)) passed (AreRead-without name rows all);
    defaults = λ rows all.
        let off : PassEach name (codes "false" ∷ []) = (subst (λ parser. accepts false parser (codes "false") ≡ true) (sym is) refl, tt) in
        either (has_row name rows) rows _ all (AreRead-with_values name AsWritten _ (codes "false" ∷ []) rows refl (omega arith) off all);
  }

  pub safe-help : (i : ℕ) → IsSafe (with_index i (filled help_rule))
  safe-help i = record {
    uses = λ again texts rows e all. all;
    defaults = λ rows all. same_either (has_row (codes "help") rows) rows all;
  }

  IsSafe-find : (test : Rule → Bool) (options : List Rule) → AreSafe options → IfSome (find test options) IsSafe
  IsSafe-find test [] safe = tt
  IsSafe-find test (option ∷ options) safe = go (test option) (IsSafe-find test options safe.1) where
    go : (b : Bool) → IfSome (find test options) IsSafe → IfSome (if b then Some option else find test options) IsSafe
    go true rest = safe.0
    go false rest = rest

  -- Steps ------------------------------------------------------------------------------------------

  module _ (c : List Rule) (safe : AreSafe c) (again : Bool) where
    used-read : (option : Option Rule) (texts : List Text) (rows : List Row) → IfSome option IsSafe → option_map_or (λ a. use_fault again a texts rows) option [] ≡ [] → AreRead rows → AreRead (used_by_id option texts rows)
    used-read None texts rows is e all = all
    used-read (Some a) texts rows is e all = is.uses again texts rows e all

    settled-pending : (pending : Option (Text × List Text)) (rows : List Row) → option_map_or (λ p. option_map_or (λ a. use_fault again a p.1 rows) (arg_by_id c p.0) []) pending [] ≡ [] → AreRead rows → AreRead (settled_rows c pending rows)
    settled-pending None rows e all = all
    settled-pending (Some p) rows e all = used-read (arg_by_id c p.0) p.1 rows (IsSafe-find _ c safe) e all

    settled-read : (h : Held) → settle_fault c again h ≡ [] → AreRead h.rows → AreRead (settled c h).rows
    settled-read h e all = settled-pending h.pending h.rows e all

    reacted-read : (a : Rule) (texts : List Text) (h : Held) → IsSafe a → react_fault c again a texts h ≡ [] → AreRead h.rows → AreRead (reacted c a texts h).rows
    reacted-read a texts h is e all =
        is.uses again texts (settled c h).rows (none_next (settle_fault c again h) _ e) (settled-read h (none_first (settle_fault c again h) _ e) all)

    option-read : (a : Rule) (value : Option Text) (h : Held) → IsSafe a → option_fault c again a value h ≡ [] → AreRead h.rows → AreRead (option_met c a value h).0.rows
    option-read a None h is e all = settled-read h e all
    option-read a (Some v) h is e all = reacted-read a (v ∷ []) h is e all

    long-read : (option : Option Rule) (value : Option Text) (h : Held) → IfSome option IsSafe → long_fault c again option value h ≡ [] → AreRead h.rows → AreRead (long_met c option value h).0.rows
    long-read None value h is e all = all
    long-read (Some a) value h is e all = go (takes_values a) value e where
      go : (b : Bool) (v : Option Text) → (if b then option_fault c again a v h else (if is_some v then ErrorKind.TooManyValues ∷ [] else react_fault c again a [] h)) ≡ [] → AreRead (if b then option_met c a v h else flag_met c a v h).0.rows
      go true v e = option-read a v h is e all
      go false None e = reacted-read a [] h is e all
      go false (Some v) e = all

    -- the flags of a bundle after one that was read
    abbrev Bundles : ℕ → Type 0
    Bundles k = (flags : Text) (skip : ℕ) (so_far : Outcome) (h : Held) → flags_fault c again k flags skip h ≡ [] → AreRead h.rows → AreRead (bundle_met c k flags skip so_far h).0.rows

    short-read : (k : ℕ) (option : Option Rule) (rest : Text) (h : Held) → Bundles k → IfSome option IsSafe → short_fault c again option rest h (flags_fault c again k rest 0) ≡ [] → AreRead h.rows
        → AreRead (short_met c option rest h (bundle_met c k rest 0 walk.done)).0.rows
    short-read k None rest h next is e all = all
    short-read k (Some a) rest h next is e all = go (takes_values a) e where
      go : (b : Bool) → (if b then option_fault c again a (attached_value rest) h else or_else (react_fault c again a [] h) (flags_fault c again k rest 0 (reacted c a [] h))) ≡ []
          → AreRead (if b then option_met c a (attached_value rest) h else bundle_met c k rest 0 walk.done (reacted c a [] h)).0.rows
      go true e = option-read a (attached_value rest) h is e all
      go false e = next rest 0 walk.done (reacted c a [] h) (none_next (react_fault c again a [] h) _ e) (reacted-read a [] h is (none_first (react_fault c again a [] h) _ e) all)

    bundle_step-read : (k : ℕ) (x : Option ℕ) (flags : Text) (skip : ℕ) (so_far : Outcome) (h : Held) → Bundles k → bundle_step_fault c again x flags skip h (flags_fault c again k) ≡ [] → AreRead h.rows
        → AreRead (bundle_step c x flags skip so_far h (bundle_met c k)).0.rows
    bundle_step-read k None flags skip so_far h next e all = all
    bundle_step-read k (Some x) flags zero so_far h next e all = short-read k (arg_by_short c x) (drop (length (encode_utf8 x)) flags) h next (IsSafe-find _ c safe) e all
    bundle_step-read k (Some x) flags (suc less) so_far h next e all = next (drop (length (encode_utf8 x)) flags) less so_far h e all

    bundle-read : (k : ℕ) → Bundles k
    unfolding flags_fault bundle_met
    bundle-read zero flags skip so_far h e all = all
    bundle-read (suc k) flags skip so_far h e all = bundle_step-read k (slice_get (chars flags) 0) flags skip so_far h (bundle-read k) e all

    option_word-read : (option : Option Rule) (id word : Text) (h : Held) → AreRead h.rows → AreRead (option_word option id word h).0.rows
    option_word-read None id word h all = all
    option_word-read (Some a) id word h all = all

    plain-read : (waiting : Waiting) (word : Text) (h : Held) → AreRead h.rows → AreRead (plain_word c waiting word h).0.rows
    plain-read walk.idle word h all = all
    plain-read (walk.option id) word h all = option_word-read (arg_by_id c id) id word h all
    plain-read walk.positional word h all = all

    after_flag-read : (waiting : Waiting) (word : Text) (h : Held) (outcome : Outcome) → AreRead h.rows → AreRead (after_flag c waiting word h outcome).0.rows
    after_flag-read waiting word h walk.done all = all
    after_flag-read waiting word h (walk.waits id) all = all
    after_flag-read waiting word h walk.plain all = plain-read waiting word h all
    after_flag-read waiting word h walk.refused all = plain-read waiting word h all

    short_word-read : (waiting : Waiting) (word : Text) (flags : Option Text) (h : Held) → option_map_or (λ flags. bundle_fault c again flags h) flags [] ≡ [] → AreRead h.rows → AreRead (short_or_plain c waiting word flags h).0.rows
    short_word-read waiting word None h e all = plain-read waiting word h all
    short_word-read waiting word (Some flags) h e all =
        after_flag-read waiting word _ _ (bundle-read (length flags) flags h.skip walk.plain (record h { skip = 0 }) e all)

    flag_word-read : (waiting : Waiting) (word : Text) (found : Option (Text × Option Text)) (h : Held) → flag_word_fault c again found word h ≡ [] → AreRead h.rows → AreRead (long_or_other c waiting word found h).0.rows
    flag_word-read waiting word (Some p) h e all = after_flag-read waiting word _ _ (long-read (arg_by_long c p.0) p.1 h (IsSafe-find _ c safe) e all)
    flag_word-read waiting word None h e all = short_word-read waiting word (short_of word) h e all

  -- Words ------------------------------------------------------------------------------------------

  module _ (s : Shape) (safe : AreSafe s.rules) (names : Names) where
    other-read : (name : Option Text) (waiting : Waiting) (position : ℕ) (word : Text) (h : Held) → other_fault s name word h ≡ [] → AreRead h.rows → AreRead (subcommand_or_other s.rules name waiting position word h).0.rows
    other-read (Some name) waiting position word h e all = all
    other-read None waiting position word h e all = go (bytes_eq word (45 ∷ 45 ∷ [])) e where
      go : (b : Bool) → (if b then [] else flag_word_fault s.rules s.args_override_self (long_of word) word h) ≡ [] → AreRead (if b then (h, walk.trailing position) else long_or_other s.rules waiting word (long_of word) h).0.rows
      go true e = all
      go false e = flag_word-read s.rules safe s.args_override_self waiting word (long_of word) h e all

    word-read : (is_trailing : Bool) (waiting : Waiting) (position : ℕ) (word : Text) (h : Held) → word_fault s names is_trailing waiting word h ≡ [] → AreRead h.rows → AreRead (word_met s.rules names is_trailing waiting position word h).0.rows
    word-read true waiting position word h e all = all
    word-read false waiting position word h e all = other-read (subcommand_met names waiting word) waiting position word h e all

    positional-read : (option : Option Rule) (word : Text) (w : Walk) (h : Held) → option_map_or (λ a. positional_fault s.rules s.args_override_self a h) option (stray_fault s) ≡ [] → AreRead h.rows → AreRead (to_positional s.rules option word w h).held.rows
    positional-read None word w h e all = all
    positional-read (Some a) word w h e all = go (is_pending a h.pending && takes_several a) e where
      go : (b : Bool) → (if b then [] else settle_fault s.rules s.args_override_self h) ≡ [] → AreRead (if b then h else settled s.rules h).rows
      go true e = all
      go false e = settled-read s.rules safe s.args_override_self h e all

    step-read : (word : Text) (w : Walk) (h : Held) (step : Step) → step_fault s w.position h step ≡ [] → AreRead h.rows → AreRead (after_step s.rules word w h step).held.rows
    step-read word w h (walk.next waiting) e all = all
    step-read word w h (walk.trailing position) e all = all
    step-read word w h (walk.subcommand name) e all = all
    step-read word w h walk.value e all = positional-read (arg_by_index s.rules w.position) word w h e all

    walked-read : (w : Walk) (word : Text) → turn_fault s names w word ≡ [] → AreRead w.held.rows → AreRead (walked s.rules names w word).held.rows
    unfolding walked
    walked-read w word e all = go w.stopped e where
      met : Held × Step
      met = word_met s.rules names w.is_trailing w.waiting w.position word w.held

      go : (stopped : Option (Text × List Text)) → (if is_some stopped then [] else or_else (word_fault s names w.is_trailing w.waiting word w.held) (step_fault s w.position met.0 met.1)) ≡ []
          → AreRead (walk.walked_from s.rules names stopped w word).held.rows
      go (Some p) e = all
      go None e =
          let fault : Kinds = word_fault s names w.is_trailing w.waiting word w.held in
          step-read word w met.0 met.1 (none_next fault _ e) (word-read w.is_trailing w.waiting w.position word w.held (none_first fault _ e) all)

    walk-read : (w : Walk) (words : List Text) → walk_fault s names w words ≡ [] → AreRead w.held.rows → AreRead (fold (walked s.rules names) w words).held.rows
    unfolding walk_fault
    walk-read w [] e all = all
    walk-read w (word ∷ words) e all =
        walk-read (walked s.rules names w word) words (none_next (turn_fault s names w word) _ e) (walked-read w word (none_first (turn_fault s names w word) _ e) all)

  defaults-read : (options : List Rule) (rows : List Row) → AreSafe options → AreRead rows → AreRead (fold with_default rows options)
  defaults-read [] rows safe all = all
  defaults-read (option ∷ options) rows safe all = defaults-read options (with_default rows option) safe.1 (safe.0.defaults rows all)

  pub level-read : (s : Shape) (words : List Text) → AreSafe s.rules → level_fault s [] nothing_held words false [] ≡ [] → AreRead (rows_after s.rules [] words)
  level-read s words safe e =
      let fault : Kinds = walk_fault s [] (walk_from nothing_held) words in
      let end : Held = (walk.walk s.rules [] nothing_held words).held in
      let settles : Kinds = settle_fault s.rules s.args_override_self end in
      defaults-read s.rules (settled s.rules end).rows safe
      (settled-read s.rules safe s.args_override_self end (none_first settles _ (none_next fault _ e)) (walk-read s safe [] (walk_from nothing_held) words (none_first fault _ e) tt))

  -- What is found ----------------------------------------------------------------------------------

  abbrev FoundRead : (Row → Bool) → Row → Type 0
  FoundRead test row = (test row ≡ true) × IsRead row

  IsRead-find : (test : Row → Bool) (rows : List Row) → AreRead rows → IfSome (find test rows) (FoundRead test)
  IsRead-find test [] all = tt
  IsRead-find test (row ∷ rows) all = go (test row) refl (IsRead-find test rows all.1) where
    go : (b : Bool) → test row ≡ b → IfSome (find test rows) (FoundRead test) → IfSome (if b then Some row else find test rows) (FoundRead test)
    go true same rest = (same, all.0)
    go false same rest = rest

  first-read : (id : Text) (texts : List Text) (how : Reading) → how ≡ AsWritten → 0 < length texts → PassEach id texts → IsSomeAnd (option_map (read_as how) (slice_get texts 0)) (Accepts false (p id))
  first-read id [] how is some all = absurd (omega (arith, some))
  first-read id (text ∷ texts) how is some all =
      let P : Reading → Type 0 = λ r. Accepts false (p id) (read_as r text) in
      subst P (sym is) (accepts-Accepts false (p id) text all.0)

  row-may : (id : Text) (row : Option Row) → IfSome row (FoundRead (λ row. bytes_eq row.id id)) → IfSome (option_and_then row_text row) (Accepts false (p id))
  row-may id None is = tt
  row-may id (Some row) is =
      let same : row.id ≡ id = (bytes_eq-Decides row.id id).0 is.0 in
      IfSome-from _ (option_map (read_as row.reading) (slice_get row.values 0)) (first-read id row.values row.reading is.1.1 is.1.2 (subst (λ name. PassEach name row.values) same is.1.0))

  -- a value that is found has passed
  pub value-may : (id : Text) (rows : List Row) → AreRead rows → IfSome (one_of id rows) (Accepts false (p id))
  value-may id rows all = row-may id (find (λ row. bytes_eq row.id id) rows) (IsRead-find (λ row. bytes_eq row.id id) rows all)

  row-given : (id : Text) (row : Option Row) → IfSome row (FoundRead (λ row. bytes_eq row.id id)) → option_map_or (λ row. explicit_source row.source) row false ≡ true → IsSomeAnd (option_and_then row_text row) (Accepts false (p id))
  row-given id None is given = absurd (false≢true given)
  row-given id (Some row) is given =
      let same : row.id ≡ id = (bytes_eq-Decides row.id id).0 is.0 in
      first-read id row.values row.reading is.1.1 is.1.2 (subst (λ name. PassEach name row.values) same is.1.0)

  -- and an option that is given has one
  pub value-given : (id : Text) (rows : List Row) → AreRead rows → is_given id rows ≡ true → IsSomeAnd (one_of id rows) (Accepts false (p id))
  value-given id rows all given = row-given id (find (λ row. bytes_eq row.id id) rows) (IsRead-find (λ row. bytes_eq row.id id) rows all) given

-- Options that have to be given --------------------------------------------------------------------

no_argument : (wants_help wants_subcommand wants_argument : Bool) → check_kinds wants_help wants_subcommand wants_argument ≡ [] → wants_argument ≡ false
no_argument true wants_subcommand wants_argument e = absurd (never _ _ e)
no_argument false true wants_argument e = absurd (never _ _ e)
no_argument false false true e = absurd (never _ _ e)
no_argument false false false e = refl

-- no option that has to be given is missing in words that a subcommand takes
pub none-missing : (s : Shape) (words : List Text) → level_fault s [] nothing_held words false [] ≡ []
    → (not (s.subcommand_negates_reqs && false) && list_any (λ option. option.required && not (is_given option.id (rows_after s.rules [] words))) s.rules) ≡ false
none-missing s words e =
    let fault : Kinds = walk_fault s [] (walk_from nothing_held) words in
    let end : Held = (walk.walk s.rules [] nothing_held words).held in
    let settles : Kinds = settle_fault s.rules s.args_override_self end in
    let defaults : Kinds = defaults_fault (settled s.rules end).rows s.rules in
    no_argument _ _ _ (none_next defaults _ (none_next settles _ (none_next fault _ e)))
