-- What holds of the value in an option, and places that are free for it.
use Rattle.std.proofs.Common.{arith, ◌≡◌, ℕ, List, Option, Some, None, IfSome, refl, sym, ◌∙◌, subst}
use Rattle.std.proofs.lemmas.Option.{same_Some}
use Rattle.mh_model.specs.{Pages.{Table, IsFreeFor}, Table.Block}
use Rattle.mh_table_laws.proofs.PageMapLemmas.{free_below}
use Rattle.mh_blocks.specs.Auxiliary.{block_table}

pub if_some : {A : Type 0} (content : Option A) (P : A → Type 0) → ((x : A) → content ≡ Some x → P x) → IfSome content P
if_some None P each = tt
if_some (Some x) P each = each x refl

pub at_some : {A : Type 0} (content : Option A) (P : A → Type 0) (x : A) → content ≡ Some x → P x → IfSome content P
at_some content P x is here = if_some content P (λ y other. subst P (same_Some x y (sym is ∙ other)) here)

pub of_some : {A : Type 0} (content : Option A) (P : A → Type 0) (x : A) → content ≡ Some x → IfSome content P → P x
of_some {A = A} content P x is all = let Q = λ (c : Option A). IfSome c P in subst Q is all

-- a place that is free above for the class, if there is one, is free for it below
pub free_for_class : (table : Table (List ℕ)) (above : Table Block) (class : Option ℕ) (size place : ℕ) → block_table table ≡ above → IfSome class (λ s. IsFreeFor above s place) → class ≡ Some size → IsFreeFor table size place
free_for_class table above class size place view free is = grind (arith, free_below, of_some)
