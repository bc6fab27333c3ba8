-- Commands and controls by their first word and their numbers.
use Rattle.std.proofs.Common.{◌≡◌, ℕ, ◌^◌, ◌<◌, nat_lt, Bool, true, false, Some, None, List, [], ◌∷◌, length, get_or, refl, ◌∙◌, arith}
use Rattle.std.proofs.lemmas.Bool.Decides.{nat_tests}
use Rattle.std.specs.Prelude.{codes}
use Rattle.mh_model.specs.{declared.command.Command.Command, declared.command.Control.Control, Bytes.{Text, is_text}}
use Rattle.mh_model.specs.Forms.{within, u32, u64, command_rows, command_of, control_rows, control_of}
use Rattle.mh_model.specs.{declared.history.Version.Version, declared.history.Version.TheVariants.{One, Two}}
use Rattle.mh_text.specs.Words.{few_numbers}
use Rattle.mh_text.specs.Auxiliary.{said, rows_with_count, three_rows, two_rows, one_rows, no_rows, plain_rows}
use Rattle.mh_text.proofs.WordLemmas.{few_same, none_of}
use Rattle.mh_text.proofs.RowLemmas.{are_distinct, are_short, formed_said, said_counted, said_long}
use Rattle.mh_model.proofs.TextLemmas.{text_is}

-- Numbers of 32 bits -----------------------------------------------------------------------------

same_within : (is : Bool) (number found : ℕ) → within is number ≡ Some found → found ≡ number
same_within true number found is = cc
same_within false number found is = cc

pub small_same : (number found : ℕ) → within (nat_lt number u32) number ≡ Some found → found ≡ number
small_same number found is = same_within (nat_lt number u32) number found is

-- Commands ---------------------------------------------------------------------------------------

pub command_said : (line : List Text) (verb : Text) (words : List Text) (ns : List ℕ) → line ≡ verb ∷ words → few_numbers words ≡ Some ns → command_of line ≡ said command_rows verb ns
command_said line verb words ns is few = rw is (formed_said command_rows verb words ∙ rw (few_same words ns few) refl)

pub command_none : (line : List Text) (verb : Text) (words : List Text) → line ≡ verb ∷ words → few_numbers words ≡ None → command_of line ≡ None
command_none line verb words is few = rw is (formed_said command_rows verb words ∙ none_of (said command_rows verb) (λ found many. said_long command_rows verb found refl (omega arith)) words few)

pub no_said : (verb : Text) (ns : List ℕ) → length ns ≡ 0 → said command_rows verb ns ≡ said no_rows verb []
no_said verb [] none = said_counted command_rows verb [] refl
no_said verb (n ∷ ns) none = absurd (omega arith)

pub end_said : (verb : Text) (ns : List ℕ) → length ns ≡ 0 → is_text verb (codes "end") ≡ true → said command_rows verb ns ≡ Some Command.End
end_said verb ns none is = no_said verb ns none ∙ rw is refl

pub one_counted : (verb : Text) (a : ℕ) → said command_rows verb (a ∷ []) ≡ said one_rows verb (a ∷ [])
one_counted verb a = said_counted command_rows verb (a ∷ []) refl

pub two_counted : (verb : Text) (a b : ℕ) → said command_rows verb (a ∷ b ∷ []) ≡ said two_rows verb (a ∷ b ∷ [])
two_counted verb a b = said_counted command_rows verb (a ∷ b ∷ []) refl

pub three_counted : (verb : Text) (a b c : ℕ) → said command_rows verb (a ∷ b ∷ c ∷ []) ≡ said three_rows verb (a ∷ b ∷ c ∷ [])
three_counted verb a b c = said_counted command_rows verb (a ∷ b ∷ c ∷ []) refl

-- Controls ---------------------------------------------------------------------------------------

control_distinct : (version : Version) → are_distinct (control_rows version) ≡ true
control_distinct One = refl
control_distinct Two = refl

control_short : (version : Version) → are_short (control_rows version) ≡ true
control_short One = refl
control_short Two = refl

pub control_said : (version : Version) (line : List Text) (verb : Text) (words : List Text) (ns : List ℕ) → line ≡ verb ∷ words → few_numbers words ≡ Some ns → control_of version line ≡ said (control_rows version) verb ns
control_said version line verb words ns is few = rw is (formed_said (control_rows version) verb words ∙ rw (few_same words ns few) refl)

pub control_none : (version : Version) (line : List Text) (verb : Text) (words : List Text) → line ≡ verb ∷ words → few_numbers words ≡ None → control_of version line ≡ None
control_none version line verb words is few = grind (arith, formed_said, none_of, said_long, control_short)

pub plain_said : (version : Version) (verb : Text) (ns : List ℕ) → length ns ≡ 0 → said (control_rows version) verb ns ≡ said (plain_rows version) verb []
plain_said version verb [] none = said_counted (control_rows version) verb [] (control_distinct version)
plain_said version verb (n ∷ ns) none = absurd (omega arith)

-- the first version has no `left`, and this word is none of the others
pub left_unknown : (version : Version) (verb : Text) → (version ≡ Two → ⊥) → is_text verb (codes "left") ≡ true → said (plain_rows version) verb [] ≡ None
left_unknown One verb other is = rw (text_is verb (codes "left") is) refl
left_unknown Two verb other is = absurd (other refl)

report_by : (version : Version) (verb : Text) (n : ℕ) → nat_lt n u64 ≡ true → is_text verb (codes "report") ≡ true → said (rows_with_count 1 (control_rows version)) verb (n ∷ []) ≡ Some (Control.Report n)
report_by One verb n below is = rw (is, below) refl
report_by Two verb n below is = rw (is, below) refl

pub report_said : (version : Version) (verb : Text) (ns : List ℕ) → length ns ≡ 1 → get_or ns 0 0 < 2 ^ 64 → is_text verb (codes "report") ≡ true → said (control_rows version) verb ns ≡ Some (Control.Report (get_or ns 0 0))
report_said version verb [] one small is = absurd (omega arith)
report_said version verb (n ∷ []) one small is =
    let below : nat_lt n u64 ≡ true = grind (arith, nat_tests) in
    said_counted (control_rows version) verb (n ∷ []) (control_distinct version) ∙ report_by version verb n below is
report_said version verb (n ∷ m ∷ ns) one small is = absurd (omega arith)
