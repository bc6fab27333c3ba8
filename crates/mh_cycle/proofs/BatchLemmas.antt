-- A batch of marking is one stride.
use Rattle.std.proofs.Common.{◌≡◌, ℕ, ◌+◌, ◌<◌, ◌≤◌, ◌==◌, ◌⊎◌, inl, inr, Bool, if◌then◌else◌, List, [], ◌∷◌, ◌++◌, length, drop, refl, sym, ap, ◌∙◌, subst, arith}
use Rattle.std.proofs.{Math.Seq.drop-append_seam, lemmas.List.Sums.sum_by-cons}
use Rattle.mh_model.specs.{declared.config.Config.Config, declared.cycle.Phase.Phase}
use Rattle.mh_model.specs.{declared.cycle.Phase.TheVariants.{Mark, Sweep}, Pages.Table, Table.Block}
use Rattle.mh_model.specs.Collector.{Collector, Marking, mark_cost, first_mark_cost, marking_of, with_marking, with_phase, step_cost}
use Rattle.mh_model.specs.Batches.{NoneTwice, batch_cost, batch_marked, after_batch, longest_front}
use Rattle.mh_laws.specs.Batches.{AnyCutIntoBatchesIsTheSame}
use Rattle.mh_grey.specs.Queue.{Queue}
use Rattle.mh_mark.specs.Batched.{front_of, front_marked}
use Rattle.mh_cycle.specs.Auxiliary.{IsFramed, IsStride, IsStretch}
use Rattle.mh_cycle.proofs.{StepLemmas.{cost-is, after-mark}, StrideLemmas.{stride-none, over}}

some_batch : (table : Table Block) (batch : List ℕ) → 0 < batch_cost table batch → 0 < length batch
some_batch table [] some = absurd (omega arith)
some_batch table (place ∷ batch) some = omega arith

no_batch : (table : Table Block) (batch : List ℕ) → batch_cost table batch ≡ 0 → batch ≡ []
no_batch table [] none = refl
no_batch table (place ∷ batch) none = absurd (omega (arith, sum_by-cons (mark_cost table) place batch))

-- the grey list after the front that is taken
abbrev rest_of : ℕ → Collector → List ℕ
rest_of left c = drop (length (front_of left (marking_of c))) c.grey

batch-goes : AnyCutIntoBatchesIsTheSame → (left : ℕ) (c : Collector) → c.phase ≡ Mark → NoneTwice c.grey → 0 < batch_cost c.table (front_of left (marking_of c)) → (moved : Bool)
    → IsStride (batch_cost c.table (front_of left (marking_of c))) moved c moved (after_batch c (front_of left (marking_of c)) (rest_of left c))
batch-goes law left c phase once some moved more fits = grind (arith, drop-append_seam, some_batch)

batch-stops : AnyCutIntoBatchesIsTheSame → (left : ℕ) (c : Collector) → c.phase ≡ Mark → 0 < length c.grey → batch_cost c.table (front_of left (marking_of c)) ≡ 0 → (moved : Bool) → left < step_cost c moved
batch-stops law left c phase some none moved =
    let batch : List ℕ = longest_front 1024 c.table left c.grey in
    let is = law.longest 1024 c.table left c.grey in
    let empty : batch ≡ [] = no_batch c.table batch none in
    let grey : c.grey ≡ is.rest = is.is_front ∙ ap (λ b. b ++ is.rest) empty in
    let cost : step_cost c moved ≡ first_mark_cost c.table is.rest = cost-is c Mark moved phase ∙ ap (first_mark_cost c.table) grey in
    ended is.rest grey cost empty is.ended
  where
    ended : (rest : List ℕ) → c.grey ≡ rest → step_cost c moved ≡ first_mark_cost c.table rest → longest_front 1024 c.table left c.grey ≡ []
        → (length (longest_front 1024 c.table left c.grey) ≡ 1024) ⊎ ((rest ≡ []) ⊎ (left < batch_cost c.table (longest_front 1024 c.table left c.grey) + first_mark_cost c.table rest)) → left < step_cost c moved
    ended rest grey cost empty (inl full) = absurd (omega (arith, ap length empty))
    ended rest grey cost empty (inr (inl nothing)) = absurd (omega (arith, ap length grey, ap length nothing))
    ended rest grey cost empty (inr (inr dear)) = omega arith

-- a batch that costs nothing is empty
pub none-marked : (left cost : ℕ) (m : Marking) → cost ≡ batch_cost m.table (front_of left m) → cost ≡ 0 → front_marked left m ≡ m
none-marked left cost m price none = ap (λ b. batch_marked m b (drop (length b) m.grey)) (no_batch m.table (front_of left m) (sym price ∙ none))

-- the marking of a batch and the phase after it
batch-after : (left : ℕ) (c : Collector) (phase : Phase) → phase ≡ (if length (front_marked left (marking_of c)).grey == 0 then Sweep else Mark)
    → after_batch c (front_of left (marking_of c)) (rest_of left c) ≡ with_phase (with_marking c (front_marked left (marking_of c))) phase 0
batch-after left c phase next = after-mark (with_marking c (front_marked left (marking_of c))) phase (front_marked left (marking_of c)).grey next

-- the grey list of a marking, for so many pages
abbrev pub queue_of : ℕ → Marking → Queue
queue_of pages m = record { places = m.grey; pages = pages }

-- the same table and grey list keep the frame
pub framed-as : (config : Config) (table other : Table Block) (phase : Phase) (cursor : ℕ) (grey same : Queue) → IsFramed config table phase cursor grey → other ≡ table → same ≡ grey → IsFramed config other phase cursor same
framed-as config table other phase cursor grey same frame a b = rw (a, b) frame

-- no block fits
pub run-none : AnyCutIntoBatchesIsTheSame → (left cost : ℕ) (c : Collector) → c.phase ≡ Mark → 0 < length c.grey → cost ≡ batch_cost c.table (front_of left (marking_of c)) → cost ≡ 0 → IsStretch left c 0 (with_marking c (front_marked left (marking_of c)))
run-none law left cost c phase some price none =
    let same : with_marking c (front_marked left (marking_of c)) ≡ c = ap (with_marking c) (none-marked left cost (marking_of c) price none) in
    grind (arith, stride-none, over, batch-stops)

-- some blocks fit
pub run-some : AnyCutIntoBatchesIsTheSame → (left : ℕ) (c : Collector) (cost : ℕ) (phase : Phase) → c.phase ≡ Mark → NoneTwice c.grey → cost ≡ batch_cost c.table (front_of left (marking_of c)) → cost ≤ left → (cost ≡ 0 → ⊥)
    → phase ≡ (if length (front_marked left (marking_of c)).grey == 0 then Sweep else Mark) → IsStretch left c cost (with_phase (with_marking c (front_marked left (marking_of c))) phase 0)
run-some law left c cost phase in_mark once price fits some next = record {
  fits = fits;
  goes = λ moved. subst (IsStride cost moved c moved) (batch-after left c phase next) (subst (λ u. IsStride u moved c moved (after_batch c (front_of left (marking_of c)) (rest_of left c))) (sym price) (batch-goes law left c in_mark once (omega arith) moved));
  dear = λ e. absurd (some e);
}
