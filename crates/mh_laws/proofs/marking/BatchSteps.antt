-- The steps of a quantum begin with a batch that fits, and end with it if the next block doesn't fit.
use Rattle.std.proofs.Common.{◌≡◌, ◌≢◌, ◌⊎◌, nat_le, if◌then◌else◌, inr, ℕ, zero, suc, ◌+◌, ◌-◌, ◌<◌, ◌≤◌, ◌==◌, ◌||◌, Bool, true, false, List, [], ◌∷◌, ◌++◌, length, map, Option, refl, sym, ap, ◌∙◌, subst, arith}
use Rattle.std.proofs.{lemmas.Bool.{leb-true, leb-false, false≢true, eq-eqb, le-ltb}, lemmas.List.append-nil}
use Rattle.std.proofs.lemmas.List.Sums.{sum_by-cons}
use Rattle.std.specs.List.{AllByRecursion, IsDistinct}
use Rattle.mh_model.specs.{declared.cycle.Phase.TheVariants.Mark, Pages.Table}
use Rattle.mh_model.specs.Table.{Block, references_at, target_of, found_in}
use Rattle.mh_model.specs.Collector.{Collector, Marking, Spending, mark_cost, first_mark_cost, marking_of, with_marking, with_phase, after_mark, is_moving, step_cost, collector_step, with_units, steps}
use Rattle.mh_model.specs.Batches.{longest_front, written_back, batch_written, batch_marked, after_batch, batch_cost, NoneTwice}
use Rattle.mh_table_laws.specs.Marking.{mark_steps}
use Rattle.mh_laws.specs.Batches.{IsLongestFront, AnyCutIntoBatchesIsTheSame}
use Rattle.mh_laws.proofs.costs.Quanta.{steps-go, steps-enough}
use Rattle.mh_table_laws.proofs.marking.GreyList.{cycle-written_back}
use Rattle.mh_table_laws.proofs.marking.BatchMarking.{none_twice-front, KeepsOthers, written_back-keeps, with_front, first_marked, mark_step-front, written_back-front, batch_written-first, front-marked}

-- Lists with none twice --------------------------------------------------------------------------

all-middle : (P : ℕ → Type 0) (front : List ℕ) (x : ℕ) (rest : List ℕ) → AllByRecursion P (front ++ x ∷ rest) → P x
all-middle P [] x rest all = all.0
all-middle P (y ∷ front) x rest (here, after) = all-middle P front x rest after

-- a place after a front is none of it
apart-front : (front : List ℕ) (x : ℕ) (rest : List ℕ) → NoneTwice (front ++ x ∷ rest) → AllByRecursion (λ y. x ≢ y) front
unfolding IsDistinct
apart-front [] x rest once = tt
apart-front (y ∷ front) x rest (here, after) = (λ e. false≢true (sym (all-middle (λ z. (y == z) ≡ false) front x rest here) ∙ eq-eqb y x (sym e)), apart-front front x rest after)

-- Batches ----------------------------------------------------------------------------------------

batch_written-front : (batch : List ℕ) (all : List (List (Option ℕ))) (front : List ℕ) (marking : Marking) → batch_written (with_front front marking) batch all ≡ with_front front (batch_written marking batch all)
batch_written-front (place ∷ batch) (found ∷ all) front marking =
    ap (λ m. batch_written m batch all) (written_back-front found front marking place 0) ∙ batch_written-front batch all front (written_back marking place 0 found)
batch_written-front batch all front marking = refl

-- a batch leaves the references of a block that isn't in it
batch_written-other : (batch : List ℕ) (all : List (List (Option ℕ))) (marking : Marking) (other : ℕ) → AllByRecursion (λ y. other ≢ y) batch → references_at (batch_written marking batch all).table other ≡ references_at marking.table other
batch_written-other (place ∷ batch) (found ∷ all) marking other (here, after) =
    batch_written-other batch all (written_back marking place 0 found) other after ∙ (written_back-keeps found marking place 0).references other here
batch_written-other batch all marking other apart = refl

-- a marking whose grey list has this front
as_front : (marking : Marking) (batch rest : List ℕ) → marking.grey ≡ batch ++ rest → marking ≡ with_front batch (record marking { grey = rest })
as_front marking batch rest e = ap (λ grey. record marking { grey = grey }) e

pub batch-same : (marking : Marking) (batch rest : List ℕ) → marking.grey ≡ batch ++ rest → NoneTwice marking.grey → mark_steps (length batch) marking ≡ batch_marked marking batch rest
batch-same marking batch rest e once =
    ap (mark_steps (length batch)) (as_front marking batch rest e) ∙ front-marked batch (record marking { grey = rest }) (none_twice-front batch rest (subst NoneTwice e once))

-- Steps ------------------------------------------------------------------------------------------

-- a mark step of a collector whose grey list has this front
collector_step-front : (collector : Collector) (place : ℕ) (front : List ℕ) (marking : Marking) → collector.phase ≡ Mark → marking.cycle ≡ collector.cycle
    → collector_step (with_marking collector (with_front (place ∷ front) marking)) ≡ after_mark (with_marking collector (with_front front (first_marked marking place))) (front ++ (first_marked marking place).grey)
unfolding collector_step
collector_step-front collector place front marking phase cycle = grind (arith, with_front, mark_step-front)

cost-front : (collector : Collector) (place : ℕ) (front : List ℕ) (marking : Marking) (has_moved : Bool) → collector.phase ≡ Mark → step_cost (with_marking collector (with_front (place ∷ front) marking)) has_moved ≡ mark_cost marking.table place
unfolding step_cost
cost-front collector place front marking has_moved phase = grind arith

moving-front : (collector : Collector) (marking : Marking) (has_moved : Bool) → collector.phase ≡ Mark → (has_moved || is_moving (with_marking collector marking)) ≡ has_moved
moving-front collector marking has_moved phase = grind arith

pub with_units-twice : (one two : ℕ) (spending : Spending) → with_units one (with_units two spending) ≡ with_units (one + two) spending
with_units-twice one two spending = grind arith

after_mark-phase : (collector : Collector) (marking : Marking) (grey : List ℕ) → after_mark (with_marking (with_phase collector Mark 0) marking) grey ≡ after_mark (with_marking collector marking) grey
after_mark-phase collector marking grey = refl

-- the collector after a batch of a front
abbrev front_after : Collector → List ℕ → Marking → Collector
front_after collector batch marking = let marked = batch_written marking batch (found_in marking.table batch) in after_mark (with_marking collector marked) marked.grey

-- the first step of a quantum, if its block fits
first_step : (collector : Collector) (place : ℕ) (front : List ℕ) (marking : Marking) (left : ℕ) (has_moved : Bool) → collector.phase ≡ Mark → mark_cost marking.table place ≤ left
    → let old = with_marking collector (with_front (place ∷ front) marking) in
    let cost = mark_cost marking.table place in
    steps left left has_moved old ≡ with_units cost (steps (left - cost) (left - cost) has_moved (collector_step old))
first_step collector place front marking zero has_moved phase fits = absurd (omega arith)
first_step collector place front marking (suc more) has_moved phase fits = grind (arith, with_front, cost-front, le-ltb, steps-go, moving-front, steps-enough)

batch_cost-same : (batch : List ℕ) (old new : Table Block) → AllByRecursion (λ other. references_at new other ≡ references_at old other) batch → batch_cost new batch ≡ batch_cost old batch
batch_cost-same [] old new same = refl
batch_cost-same (place ∷ batch) old new (here, after) =
    omega (arith, sum_by-cons (mark_cost new) place batch, sum_by-cons (mark_cost old) place batch, ap (λ (r : List (Option ℕ)). 1 + length r) here, batch_cost-same batch old new after)

apart-references : (batch : List ℕ) (place : ℕ) (old new : Table Block) → KeepsOthers place old new → AllByRecursion (λ other. (place == other) ≡ false) batch → AllByRecursion (λ other. references_at new other ≡ references_at old other) batch
apart-references [] place old new keeps apart = tt
apart-references (other ∷ batch) place old new keeps (here, after) = grind (arith, apart-references batch place old new keeps after)

-- the steps of a quantum begin with a front that fits
front-begins : (batch : List ℕ) (collector : Collector) (marking : Marking) (left : ℕ) (has_moved : Bool) → collector.phase ≡ Mark → marking.cycle ≡ collector.cycle → NoneTwice batch → 0 < length batch → batch_cost marking.table batch ≤ left
    → let cost = batch_cost marking.table batch in
    steps left left has_moved (with_marking collector (with_front batch marking)) ≡ with_units cost (steps (left - cost) (left - cost) has_moved (front_after collector batch marking))
unfolding IsDistinct
front-begins [] collector marking left has_moved phase cycle once some fits = absurd (omega arith)
front-begins (place ∷ []) collector marking left has_moved phase cycle once some fits =
    let cost : ℕ = mark_cost marking.table place in
    let all : batch_cost marking.table (place ∷ []) ≡ cost = omega (arith, sum_by-cons (mark_cost marking.table) place []) in
    let small : cost ≤ left = omega arith in
    grind (arith, first_step collector place [] marking left has_moved phase small, collector_step-front collector place [] marking phase cycle)
front-begins (place ∷ next ∷ batch) collector marking left has_moved phase cycle (apart, once) some fits =
    let cost : ℕ = mark_cost marking.table place in
    let first : Marking = first_marked marking place in
    let keeps : KeepsOthers place marking.table first.table = written_back-keeps (map (target_of marking.table) (references_at marking.table place)) marking place 0 in
    let rest_cost : batch_cost first.table (next ∷ batch) ≡ batch_cost marking.table (next ∷ batch) = batch_cost-same (next ∷ batch) marking.table first.table (apart-references (next ∷ batch) place marking.table first.table keeps apart) in
    let all : batch_cost marking.table (place ∷ next ∷ batch) ≡ cost + batch_cost marking.table (next ∷ batch) = sum_by-cons (mark_cost marking.table) place (next ∷ batch) in
    let rest : ℕ = batch_cost first.table (next ∷ batch) in
    let inner = front-begins (next ∷ batch) (with_phase collector Mark 0) first (left - cost) has_moved refl (cycle-written_back (map (target_of marking.table) (references_at marking.table place)) marking place 0 ∙ cycle) once (omega arith) (omega arith) in
    let marked : Marking = batch_written first (next ∷ batch) (found_in first.table (next ∷ batch)) in
    let after : front_after (with_phase collector Mark 0) (next ∷ batch) first ≡ front_after collector (place ∷ next ∷ batch) marking =
    after_mark-phase collector marked marked.grey ∙ ap (λ m. after_mark (with_marking collector m) m.grey) (batch_written-first place (next ∷ batch) marking apart) in
    let total : cost + rest ≡ batch_cost marking.table (place ∷ next ∷ batch) = omega arith in
    let left_same : left - cost - rest ≡ left - batch_cost marking.table (place ∷ next ∷ batch) = omega arith in
    first_step collector place (next ∷ batch) marking left has_moved phase (omega arith)
    ∙ ap (λ c. with_units cost (steps (left - cost) (left - cost) has_moved c)) (collector_step-front collector place (next ∷ batch) marking phase cycle)
    ∙ ap (with_units cost) inner
    ∙ with_units-twice cost rest (steps (left - cost - rest) (left - cost - rest) has_moved (front_after (with_phase collector Mark 0) (next ∷ batch) first))
    ∙ ap (λ n. with_units n (steps (left - cost - rest) (left - cost - rest) has_moved (front_after (with_phase collector Mark 0) (next ∷ batch) first))) total
    ∙ ap (λ n. with_units (batch_cost marking.table (place ∷ next ∷ batch)) (steps n n has_moved (front_after (with_phase collector Mark 0) (next ∷ batch) first))) left_same
    ∙ ap (λ c. with_units (batch_cost marking.table (place ∷ next ∷ batch)) (steps (left - batch_cost marking.table (place ∷ next ∷ batch)) (left - batch_cost marking.table (place ∷ next ∷ batch)) has_moved c)) after

batch-begins : (collector : Collector) (batch rest : List ℕ) (left : ℕ) (has_moved : Bool) → collector.phase ≡ Mark → collector.grey ≡ batch ++ rest → NoneTwice collector.grey → 0 < length batch → batch_cost collector.table batch ≤ left
    → let left_after = left - batch_cost collector.table batch in
    steps left left has_moved collector ≡ with_units (batch_cost collector.table batch) (steps left_after left_after has_moved (after_batch collector batch rest))
batch-begins collector batch rest left has_moved phase e once some fits =
    ap (λ grey. steps left left has_moved (record collector { grey = grey })) e
    ∙ front-begins batch collector (record (marking_of collector) { grey = rest }) left has_moved phase refl (none_twice-front batch rest (subst NoneTwice e once)) some fits

-- steps stop at a block that doesn't fit
stops-short : (collector : Collector) (left : ℕ) (has_moved : Bool) → left < step_cost collector has_moved → steps left left has_moved collector ≡ record { units = 0; collector = collector }
unfolding steps
stops-short collector left has_moved short = grind arith

batch-ends : (collector : Collector) (batch rest : List ℕ) (left : ℕ) (has_moved : Bool) → collector.phase ≡ Mark → collector.grey ≡ batch ++ rest → NoneTwice collector.grey → 0 < length batch → 0 < length rest
    → left < batch_cost collector.table batch + first_mark_cost collector.table rest → let left_after = left - batch_cost collector.table batch in
    steps left_after left_after has_moved (after_batch collector batch rest) ≡ record { units = 0; collector = after_batch collector batch rest }
batch-ends collector batch [] left has_moved phase e once some more short = absurd (omega arith)
batch-ends collector batch (place ∷ rest) left has_moved phase e once some more short =
    let start : Marking = record (marking_of collector) { grey = [] } in
    let all : List (List (Option ℕ)) = found_in collector.table batch in
    let marked : Marking = batch_written start batch all in
    let is : batch_marked (marking_of collector) batch (place ∷ rest) ≡ with_front (place ∷ rest) marked =
    ap (λ grey. batch_written (record (marking_of collector) { grey = grey }) batch all) (sym (append-nil (place ∷ rest))) ∙ batch_written-front batch all (place ∷ rest) start in
    let cost : step_cost (with_marking (with_phase collector Mark 0) (with_front (place ∷ rest) marked)) has_moved ≡ mark_cost marked.table place = cost-front (with_phase collector Mark 0) place rest marked has_moved refl in
    grind (arith, batch_written-other, apart-front, stops-short, with_front)

mark-stops : (collector : Collector) (left : ℕ) (has_moved : Bool) → collector.phase ≡ Mark → left < first_mark_cost collector.table collector.grey → steps left left has_moved collector ≡ record { units = 0; collector = collector }
unfolding step_cost
mark-stops collector left has_moved phase short = grind (arith, stops-short)

-- The longest front ------------------------------------------------------------------------------

module _ (table : Table Block) where
  no_front : (most left : ℕ) (grey : List ℕ) → ((other after : List ℕ) → grey ≡ other ++ after → length other ≤ most → batch_cost table other ≤ left → length other ≤ 0) → (0 ≡ most) ⊎ ((grey ≡ []) ⊎ (left < first_mark_cost table grey)) → IsLongestFront most table left grey []
  no_front most left grey longest end = grind arith

  nothing_in : (other after : List ℕ) → [] ≡ other ++ after → length other ≤ 0
  nothing_in [] after e = omega arith
  nothing_in (x ∷ other) after e = cc

  too_dear : (place left : ℕ) (grey other after : List ℕ) → left < mark_cost table place → place ∷ grey ≡ other ++ after → batch_cost table other ≤ left → length other ≤ 0
  too_dear place left grey [] after dear e fits = omega arith
  too_dear place left grey (x ∷ other) after dear e fits = grind (arith, sum_by-cons (mark_cost table) x other)

  one_more : (most place left : ℕ) (grey batch : List ℕ) → mark_cost table place ≤ left → IsLongestFront most table (left - mark_cost table place) grey batch → IsLongestFront (suc most) table left (place ∷ grey) (place ∷ batch)
  one_more most place left grey batch small after = grind (arith, cost, longest, by_end)
    where
      cost : batch_cost table (place ∷ batch) ≡ mark_cost table place + batch_cost table batch
      cost = sum_by-cons (mark_cost table) place batch

      longest : (other rest : List ℕ) → place ∷ grey ≡ other ++ rest → length other ≤ suc most → batch_cost table other ≤ left → length other ≤ suc (length batch)
      longest [] rest e few fits = omega arith
      longest (x ∷ other) rest e few fits = grind (arith, sum_by-cons (mark_cost table) x other)

      by_end : (length batch ≡ most) ⊎ ((after.rest ≡ []) ⊎ (left - mark_cost table place < batch_cost table batch + first_mark_cost table after.rest))
          → (suc (length batch) ≡ suc most) ⊎ ((after.rest ≡ []) ⊎ (left < batch_cost table (place ∷ batch) + first_mark_cost table after.rest))
      by_end is = grind (arith, cost)

  longest_front-is : (most left : ℕ) (grey : List ℕ) → IsLongestFront most table left grey (longest_front most table left grey)
  unfolding longest_front
  longest_front-is (suc most) left (place ∷ grey) = go (nat_le (mark_cost table place) left) refl (longest_front-is most (left - mark_cost table place) grey)
    where
      go : (small : Bool) → nat_le (mark_cost table place) left ≡ small → IsLongestFront most table (left - mark_cost table place) grey (longest_front most table (left - mark_cost table place) grey)
          → IsLongestFront (suc most) table left (place ∷ grey) (if small then place ∷ longest_front most table (left - mark_cost table place) grey else [])
      go true e after = one_more most place left grey (longest_front most table (left - mark_cost table place) grey) (leb-true (mark_cost table place) left e) after
      go false e after = grind (arith, leb-false, no_front, too_dear, inr)
  longest_front-is most left grey = grind (arith, no_front, nothing_in)

-- Any cut into batches gives the machine of one block at a time
pub any_cut : AnyCutIntoBatchesIsTheSame
any_cut = record { same = batch-same; begins = batch-begins; ends = batch-ends; stops = mark-stops; longest = λ most table left grey. longest_front-is table most left grey }
