-- A command with a row of the table more.
use Rattle.std.proofs.Common.{◌≡◌, ◌∙◌, ◌<◌, ◌+◌, ℕ, List, [], ◌∷◌, ◌++◌, length, map, fold, take, get_or, suc, refl, sym, ap, arith}
use Rattle.std.proofs.{lemmas.List.Sums.fold_more, lemmas.List.Folds.fold-map, Math.Seq.take-suc}
use Rattle.clap.specs.Words.{App, Rule, Text, with_rule, with_subcommand}
use Rattle.mh_command_line.specs.Auxiliary.{OptionRow, SubcommandRow, choice_of, subcommand_of_row}
use Rattle.mh_command_line.specs.Table.{app_with, choice_rule, clap_rule, with_its_app}

map-more : {A B : Type 0} (f : A → B) (xs : List A) (y : A) → map f (xs ++ y ∷ []) ≡ map f xs ++ f y ∷ []
map-more f [] y = refl
map-more f (x ∷ xs) y = ap (λ ys. f x ∷ ys) (map-more f xs y)

one-more : (i : ℕ) → i + 1 ≡ suc i
one-more i = omega arith

pub option-more : (name : Text) (old new : App) (rule : Rule) (rows : List OptionRow) (i : ℕ) (d : OptionRow) → i < length rows → old ≡ app_with name (map choice_of (take i rows))
    → rule ≡ clap_rule (get_or rows i d).0.now (get_or rows i d).2 → new ≡ with_rule old rule → new ≡ app_with name (map choice_of (take (i + 1) rows))
option-more name old new rule rows i d below before is more =
    more ∙ ap (λ (rule : Rule). with_rule old rule) is ∙ ap (λ (old : App). with_rule old (choice_rule (choice_of (get_or rows i d)))) before
    ∙ sym (ap (λ n. app_with name (map choice_of (take n rows))) (one-more i) ∙ ap (λ taken. app_with name (map choice_of taken)) (take-suc rows i d below) ∙ ap (λ taken. app_with name taken) (map-more choice_of (take i rows) (get_or rows i d)) ∙ app-more name (map choice_of (take i rows)) _)
  where
    app-more : (name : Text) (choices : _) (choice : _) → app_with name (choices ++ choice ∷ []) ≡ with_rule (app_with name choices) (choice_rule choice)
    app-more name choices choice = ap (λ rules. record (app_with name choices) { top = record (app_with name choices).top { rules = rules } }) (map-more choice_rule choices choice)

row-more : {A B C : Type 0} (f : C → B → C) (h : A → B) (base : C) (xs : List A) (i : ℕ) (d : A) (old : C) → i < length xs → old ≡ fold f base (map h (take i xs)) → f old (h (get_or xs i d)) ≡ fold f base (map h (take (i + 1) xs))
row-more f h base xs i d old below before =
    ap (λ c. f c (h (get_or xs i d))) (before ∙ fold-map f h base (take i xs))
    ∙ sym (fold-map f h base (take (i + 1) xs) ∙ fold_more (λ c x. f c (h x)) base xs i d below)

pub subcommand-more : (base old new made : App) (rows : List SubcommandRow) (i : ℕ) (d : SubcommandRow) → i < length rows → old ≡ fold with_its_app base (map subcommand_of_row (take i rows))
    → made ≡ app_with (get_or rows i d).0.now (map choice_of (get_or rows i d).4.now) → new ≡ with_subcommand old made.top → new ≡ fold with_its_app base (map subcommand_of_row (take (i + 1) rows))
subcommand-more base old new made rows i d below before is more = more ∙ ap (λ (made : App). with_subcommand old made.top) is ∙ row-more with_its_app subcommand_of_row base rows i d old below before
