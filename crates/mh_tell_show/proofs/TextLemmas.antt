-- Texts that are written piece by piece.
use Rattle.std.proofs.Common.{◌≡◌, ◌∙◌, ℕ, ◌+◌, Option, Some, None, List, ◌∷◌, ◌++◌, ap, sym, append_assoc, codes, decimal, drop, flat_map, replicate, slice_get}
use Rattle.std.proofs.{lemmas.List.drop_more, lemmas.Option.{get_or_from_slice_get, slice_get_within}}
use Rattle.mh_model.specs.{Bytes.Text, Limits.root_slots, Machine.Machine, Pages.Table, Table.Block}
use Rattle.mh_tell_show.specs.{Before.{before_row, before_text, table_rows}, Rows.{listed, root_rows, row_text}}

-- three, six and eight pieces, each after those before
pub three : (o a b c x y z : Text) → x ≡ o ++ a → y ≡ x ++ b → z ≡ y ++ c → z ≡ o ++ (a ++ (b ++ c))
three o a b c x y z first second third = third ∙ (ap (λ (t : Text). t ++ c) (second ∙ ap (λ (t : Text). t ++ b) first) ∙ joined) where
  joined : ((o ++ a) ++ b) ++ c ≡ o ++ (a ++ (b ++ c))
  joined = simp append_assoc

pub six : (o a b c d e f u v w x y z : Text) → u ≡ o ++ a → v ≡ u ++ b → w ≡ v ++ c → x ≡ w ++ d → y ≡ x ++ e → z ≡ y ++ f → z ≡ o ++ (a ++ (b ++ (c ++ (d ++ (e ++ f)))))
six o a b c d e f u v w x y z first second third fourth fifth sixth = three w d e f x y z fourth fifth sixth ∙ (ap (λ (t : Text). t ++ (d ++ (e ++ f))) (three o a b c u v w first second third) ∙ joined) where
  joined : (o ++ (a ++ (b ++ c))) ++ (d ++ (e ++ f)) ≡ o ++ (a ++ (b ++ (c ++ (d ++ (e ++ f)))))
  joined = simp append_assoc

pub eight : (o a b c d e f g h s t u v w x y z : Text) → s ≡ o ++ a → t ≡ s ++ b → u ≡ t ++ c → v ≡ u ++ d → w ≡ v ++ e → x ≡ w ++ f → y ≡ x ++ g → z ≡ y ++ h
    → z ≡ o ++ (a ++ (b ++ (c ++ (d ++ (e ++ (f ++ (g ++ h)))))))
eight o a b c d e f g h s t u v w x y z first second third fourth fifth sixth seventh eighth =
    eighth ∙ (ap (λ (r : Text). r ++ h) (seventh ∙ ap (λ (r : Text). r ++ g) (six o a b c d e f s t u v w x first second third fourth fifth sixth)) ∙ joined)
  where
    joined : ((o ++ (a ++ (b ++ (c ++ (d ++ (e ++ f)))))) ++ g) ++ h ≡ o ++ (a ++ (b ++ (c ++ (d ++ (e ++ (f ++ (g ++ h)))))))
    joined = simp append_assoc

-- a place of a list more
abbrev pub place_item : ℕ → Text
place_item place = decimal place ++ codes ","

pub places_more : (old x y z : Text) (places : List ℕ) (i place : ℕ) → slice_get places i ≡ Some place → x ++ flat_map place_item (drop i places) ≡ old → y ≡ x ++ decimal place → z ≡ y ++ codes ","
    → z ++ flat_map place_item (drop (i + 1) places) ≡ old
places_more old x y z places i place at is first second =
    let rest : Text = flat_map place_item (drop (i + 1) places) in
    let cut : drop i places ≡ place ∷ drop (i + 1) places = drop_more places i 0 (slice_get_within places i place at) ∙ ap (λ p. p ∷ drop (i + 1) places) (get_or_from_slice_get places i place 0 at) in
    ap (λ (t : Text). t ++ rest) (second ∙ ap (λ (t : Text). t ++ codes ",") first) ∙ (joined x (decimal place) (codes ",") rest ∙ (sym (ap (λ ps. x ++ flat_map place_item ps) cut) ∙ is))
  where
    joined : (a b c d : Text) → ((a ++ b) ++ c) ++ d ≡ a ++ ((b ++ c) ++ d)
    joined a b c d = simp append_assoc

-- what was there before the first event of a page
pub before_written : (number : ℕ) (machine : Machine) (table : Table Block) (grey : List ℕ) (slots : List (Option ℕ)) (o s t u v w x y z : Text) → table ≡ machine.heap.collector.table → grey ≡ machine.heap.collector.grey
    → slots ≡ machine.heap.collector.slots → s ≡ o ++ codes ",\"before\":" → t ≡ s ++ row_text (before_row number machine) → u ≡ t ++ codes ",\"heap\":" → v ≡ u ++ listed row_text (table_rows 0 table)
    → w ≡ v ++ codes ",\"grey\":" → x ≡ w ++ listed decimal grey → y ≡ x ++ codes ",\"roots\":" → z ≡ y ++ listed row_text (root_rows 0 (replicate root_slots None) slots) → z ≡ o ++ before_text number machine
before_written number machine table grey slots o s t u v w x y z table_is grey_is slots_is first second third fourth fifth sixth seventh eighth =
    eight o _ _ _ _ _ _ _ _ s t u v w x y z first second third (fourth ∙ ap (λ table. u ++ listed row_text (table_rows 0 table)) table_is) fifth (sixth ∙ ap (λ places. w ++ listed decimal places) grey_is) seventh
    (eighth ∙ ap (λ slots. y ++ listed row_text (root_rows 0 (replicate root_slots None) slots)) slots_is)
