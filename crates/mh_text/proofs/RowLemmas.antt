-- Tables of forms: their words, and their rows by how many numbers they have.
use Rattle.std.proofs.Common.{◌≡◌, ℕ, suc, ◌<◌, ◌==◌, nat_lt, ◌&&◌, Bool, true, false, Option, Some, None, option_and_then, List, [], ◌∷◌, length, map, ap, sym, refl, arith}
use Rattle.std.proofs.{lemmas.Bool.Decides.nat_tests, Math.Bool.and-false, lemmas.Bool.and_parts}
use Rattle.std.specs.Prelude.{if◌then◌else◌}
use Rattle.mh_model.proofs.TextLemmas.{text_is}
use Rattle.mh_model.specs.Bytes.{Text, is_text, numbers}
use Rattle.mh_model.specs.Forms.{Form, within, form_of, formed, are_below, Row, row_form}
use Rattle.mh_text.specs.Auxiliary.{said, rows_with_count}

-- Words ------------------------------------------------------------------------------------------

none_always : {X Y : Type 0} (o : Option X) (all : Option Y) → all ≡ None → option_and_then (λ (x : X). all) o ≡ None
none_always None all is = refl
none_always (Some x) all is = is

formed_by : {X : Type 0} (is : Bool) (r : Row X) (rs : List (Row X)) (verb : Text) (words : List Text) → formed (map row_form rs) (verb ∷ words) ≡ option_and_then (said rs verb) (numbers words)
    → option_and_then (λ (form : Form X). form.meaning words) (if is then Some (row_form r) else form_of verb (map row_form rs))
    ≡ option_and_then (λ (ns : List ℕ). if is then within (are_below r.bounds ns) (r.made ns) else said rs verb ns) (numbers words)
formed_by true r rs verb words rest = refl
formed_by false r rs verb words rest = rest

-- words are read by a table of rows: their numbers first
pub formed_said : {X : Type 0} (rows : List (Row X)) (verb : Text) (words : List Text) → formed (map row_form rows) (verb ∷ words) ≡ option_and_then (said rows verb) (numbers words)
formed_said {X} [] verb words = sym (none_always (numbers words) (said {X = X} [] verb []) refl)
formed_said (r ∷ rs) verb words = formed_by (is_text verb r.verb) r rs verb words (formed_said rs verb words)

-- Counts -----------------------------------------------------------------------------------------

-- no row has this word
abbrev pub is_absent : {X : Type 0} → Text → List (Row X) → Bool
is_absent verb [] = true
is_absent verb (r ∷ rs) = if is_text verb r.verb then false else is_absent verb rs

abbrev pub are_distinct : {X : Type 0} → List (Row X) → Bool
are_distinct [] = true
are_distinct (r ∷ rs) = is_absent r.verb rs && are_distinct rs

absent_by : {X : Type 0} (is : Bool) (r : Row X) (rest : Option X) (ns : List ℕ) (none : Bool) → (if is then false else none) ≡ true → (none ≡ true → rest ≡ None)
    → (if is then within (are_below r.bounds ns) (r.made ns) else rest) ≡ None
absent_by true r rest ns none is more = cc
absent_by false r rest ns none is more = more is

said-absent : {X : Type 0} (rows : List (Row X)) (verb : Text) (ns : List ℕ) → is_absent verb rows ≡ true → said rows verb ns ≡ None
said-absent [] verb ns is = refl
said-absent (r ∷ rs) verb ns is = absent_by (is_text verb r.verb) r (said rs verb ns) ns (is_absent verb rs) is (said-absent rs verb ns)

counted_by : {X : Type 0} (fits is : Bool) (r : Row X) (rs counted : List (Row X)) (verb : Text) → is_text verb r.verb ≡ is → (if is then false else is_absent verb rs) ≡ true
    → (is_absent verb rs ≡ true → is_absent verb counted ≡ true) → is_absent verb (if fits then r ∷ counted else counted) ≡ true
counted_by true true r rs counted verb same none more = cc
counted_by true false r rs counted verb same none more = rw same (more none)
counted_by false true r rs counted verb same none more = cc
counted_by false false r rs counted verb same none more = more none

counted-absent : {X : Type 0} (rows : List (Row X)) (count : ℕ) (verb : Text) → is_absent verb rows ≡ true → is_absent verb (rows_with_count count rows) ≡ true
counted-absent [] count verb none = refl
counted-absent (r ∷ rs) count verb none =
    counted_by (length r.bounds == count) (is_text verb r.verb) r rs (rows_with_count count rs) verb refl none (counted-absent rs count verb)

-- so many numbers are not below so many other bounds
pub below_other : (bounds ns : List ℕ) → (length bounds ≡ length ns → ⊥) → are_below bounds ns ≡ false
below_other [] [] other = absurd (other refl)
below_other [] (n ∷ ns) other = refl
below_other (bound ∷ bounds) [] other = refl
below_other (bound ∷ bounds) (n ∷ ns) other = rw (below_other bounds ns (λ same. other (ap (λ (k : ℕ). suc k) same))) (and-false (nat_lt n bound))

said_by : {X : Type 0} (fits is : Bool) (r : Row X) (rs : List (Row X)) (verb : Text) (ns : List ℕ) → (length r.bounds == length ns) ≡ fits → is_text verb r.verb ≡ is → is_absent r.verb rs ≡ true
    → said rs verb ns ≡ said (rows_with_count (length ns) rs) verb ns
    → (if is then within (are_below r.bounds ns) (r.made ns) else said rs verb ns) ≡ said (if fits then r ∷ rows_with_count (length ns) rs else rows_with_count (length ns) rs) verb ns
said_by true true r rs verb ns count same none rest = rw same refl
said_by true false r rs verb ns count same none rest = rw same rest
said_by false false r rs verb ns count same none rest = rest
said_by false true r rs verb ns count same none rest =
    let word : r.verb ≡ verb = sym (text_is verb r.verb same) in
    grind (arith, nat_tests, below_other, said-absent, counted-absent)

-- numbers are read by the rows with as many
pub said_counted : {X : Type 0} (rows : List (Row X)) (verb : Text) (ns : List ℕ) → are_distinct rows ≡ true → said rows verb ns ≡ said (rows_with_count (length ns) rows) verb ns
said_counted [] verb ns distinct = refl
said_counted (r ∷ rs) verb ns distinct =
    said_by (length r.bounds == length ns) (is_text verb r.verb) r rs verb ns refl refl (and_parts (is_absent r.verb rs) (are_distinct rs) distinct).0
    (said_counted rs verb ns (and_parts (is_absent r.verb rs) (are_distinct rs) distinct).1)

-- Many numbers -----------------------------------------------------------------------------------

-- each row has fewer numbers than four
abbrev pub are_short : {X : Type 0} → List (Row X) → Bool
are_short [] = true
are_short (r ∷ rs) = nat_lt (length r.bounds) 4 && are_short rs

long_by : {X : Type 0} (is : Bool) (r : Row X) (rest : Option X) (ns : List ℕ) → nat_lt (length r.bounds) 4 ≡ true → 3 < length ns → rest ≡ None
    → (if is then within (are_below r.bounds ns) (r.made ns) else rest) ≡ None
long_by true r rest ns short long none = rw (below_other r.bounds ns (λ same. grind (arith, nat_tests))) refl
long_by false r rest ns short long none = none

pub said_long : {X : Type 0} (rows : List (Row X)) (verb : Text) (ns : List ℕ) → are_short rows ≡ true → 3 < length ns → said rows verb ns ≡ None
said_long [] verb ns short long = refl
said_long (r ∷ rs) verb ns short long =
    long_by (is_text verb r.verb) r (said rs verb ns) ns (and_parts (nat_lt (length r.bounds) 4) (are_short rs) short).0 long
    (said_long rs verb ns (and_parts (nat_lt (length r.bounds) 4) (are_short rs) short).1 long)
