-- The deed of a reference that is marked through.
use Rattle.std.proofs.Common.{◌≡◌, ℕ, ◌+◌, ◌<◌, List, ◌∷◌, length, drop, slice_get, Option, Some, [], sym, ap, ◌∙◌, subst, arith}
use Rattle.std.proofs.{lemmas.List.drop_more, lemmas.Option.same_Some}
use Rattle.mh_model.specs.{declared.deed.Deed.Deed, Pages.Table, Table.{Block, references_at, reference_at}}
use Rattle.mh_model.specs.{Collector.{Marking, mark_reference}, Deeds.{name_at, edge_of, reference_deeds, mark_deeds}}
use Rattle.mh_grey.specs.Shading.{marking}
use Rattle.mh_mark.proofs.{KeptLemmas.marked-as, MarkLemmas.{IsMarkingOn, marking-goes}}
use Rattle.mh_deeds.specs.{Logs.Told, Auxiliary.Leads}
use Rattle.mh_deeds.proofs.ToldLemmas.{told-then, leads-goes}

-- the deed of the next reference, and those of the references after it
references-next : (start : Marking) (place : ℕ) (m : Marking) (index : ℕ) → IsMarkingOn start place m index → index < length (references_at start.table place)
    → reference_deeds m place index (drop index (references_at start.table place))
    ≡ Deed.Reference index (edge_of m.table (reference_at m.table place index) m.grey (mark_reference m place index (reference_at m.table place index)).grey)
    ∷ reference_deeds (mark_reference m place index (reference_at m.table place index)) place (index + 1) (drop (index + 1) (references_at start.table place))
references-next start place m index on below = grind (arith, drop_more)

-- a reference told, as it was marked through
pub leads-reference : {Log : Type 0} (has : List Deed → Log → Type 0) (start : Marking) (place : ℕ) (m : Marking) (index : ℕ) → IsMarkingOn start place m index → index < length (references_at start.table place)
    → (old now new : Log) (all : List Deed) (table : Table Block) (grey : List ℕ) → Leads has old all now (reference_deeds m place index (drop index (references_at start.table place)))
    → table ≡ (mark_reference m place index (reference_at m.table place index)).table → grey ≡ (mark_reference m place index (reference_at m.table place index)).grey
    → Told has now (Deed.Reference index (edge_of m.table (reference_at m.table place index) m.grey grey) ∷ []) new → Leads has old all new (reference_deeds (marking table grey start.cycle) place (index + 1) (drop (index + 1) (references_at start.table place)))
leads-reference has start place m index on below old now new all table grey leads a b adds =
    let after : Marking = mark_reference m place index (reference_at m.table place index) in
    let rest : List (Option ℕ) = drop (index + 1) (references_at start.table place) in
    let next : marking table grey start.cycle ≡ after = marked-as after table grey start.cycle a b (sym (marking-goes start place m index on below).cycle) in
    subst (λ x. Leads has old all new (reference_deeds x place (index + 1) rest)) (sym next)
    (leads-goes has old now new all (Deed.Reference index (edge_of m.table (reference_at m.table place index) m.grey grey) ∷ []) (reference_deeds after place (index + 1) rest)
    (subst (Leads has old all now) (references-next start place m index on below ∙ ap (λ places. Deed.Reference index (edge_of m.table (reference_at m.table place index) m.grey places) ∷ reference_deeds after place (index + 1) rest) (sym b)) leads) adds)

-- a grey block told, and then its references
pub mark-told : {Log : Type 0} (has : List Deed → Log → Type 0) (m : Marking) (place at : ℕ) (rest : List ℕ) (old now new : Log) → m.grey ≡ place ∷ rest → slice_get m.grey 0 ≡ Some at
    → Told has old (Deed.Mark place (name_at m.table place) ∷ []) now → Told has now (reference_deeds (record m { grey = rest }) at 0 (references_at m.table at)) new → Told has old (mark_deeds m m.grey) new
mark-told has m place at rest old now new places first mark references =
    let same : at ≡ place = sym (same_Some place at (ap (λ grey. slice_get grey 0) (sym places) ∙ first)) in
    subst (λ grey. Told has old (mark_deeds m grey) new) (sym places)
    (told-then has old now new (Deed.Mark place (name_at m.table place) ∷ []) (reference_deeds (record m { grey = rest }) place 0 (references_at m.table place)) mark
    (subst (λ p. Told has now (reference_deeds (record m { grey = rest }) p 0 (references_at m.table p)) new) same references))
