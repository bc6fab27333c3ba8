-- One reference written and shaded, and what that keeps.
use Rattle.std.proofs.Common.{◌≡◌, ◌≢◌, ℕ, zero, suc, ◌+◌, ◌<◌, ◌==◌, ◌⊎◌, Bool, true, false, not, inl, inr, List, [], ◌∷◌, length, get_or, set, drop, Option, Some, None, option_map, unwrap_or, is_some, IsSome, refl, sym, ap, ◌∙◌, subst, arith, eq-eqb}
use Rattle.std.proofs.lemmas.Bool.{cases_eq, false≢true, and_parts, eqb-true}
use Rattle.std.proofs.lemmas.List.{get_or-set_other, get_or-set_same, length-set, drop_more, get_or-map}
use Rattle.std.specs.List.{list_all}
use Rattle.mh_model.specs.Pages.{Table, block_at}
use Rattle.mh_model.specs.Table.{Block, references_at, reference_at, with_reference_at, target_of, stamp_at, forward_at, LeadsHome}
use Rattle.mh_model.specs.Collector.{Marking, shade_block, shade_place, shade, mark_reference, mark_references}
use Rattle.mh_table_laws.proofs.{placing.Places.block_at-with_block_other, marking.GreyList.cycle-mark_references}
use Rattle.mh_table_laws.proofs.marking.BatchMarking.{leads_of}
use Rattle.mh_grey.specs.{Queue.is_in, Shading.{marking, AreMarked}}
use Rattle.mh_grey.proofs.{QueueLemmas.in-push, ShadeLemmas.{shade-marked, shade-new}}
use Rattle.mh_grey.proofs.StampLemmas.{change-view, IsLike, like-trans, like-reference, home-like, IsShaded, shaded, place-stamped}
use Rattle.mh_scan.specs.Scanning.{IsScannable, is_reached, is_settled, settled_in}
use Rattle.mh_mark.specs.Auxiliary.{IsMarkable, blocks_marked, IsResolved}
use Rattle.mh_mark.specs.Kept.{IsReached, HasSettledReferences, KeepsMarking}
use Rattle.mh_mark.proofs.MarkLemmas.{IsMarkingOn}
use Rattle.mh_mark.proofs.ReferenceLemmas.{home-leads, at_home-leads, target-at_home, references_written, class-with_block, class-shaded, marked-written, write, write-home, marked-null, marked-straight}

pub kept-refl : (m : Marking) → KeepsMarking m m
kept-refl m = record { there = λ q. refl; forwards = λ q. refl; classes = λ page. refl; long = refl; counts = λ q. refl; lead = λ q home. home; cycle = refl; marked = λ marked. marked; settled = λ q settled. settled; grey = λ q is. inl is }

pub kept-trans : (a b c : Marking) → KeepsMarking a b → KeepsMarking b c → KeepsMarking a c
kept-trans a b c ab bc = record {
  there = λ q. bc.there q ∙ ab.there q;
  forwards = λ q. bc.forwards q ∙ ab.forwards q;
  classes = λ page. bc.classes page ∙ ab.classes page;
  long = bc.long ∙ ab.long;
  counts = λ q. bc.counts q ∙ ab.counts q;
  lead = λ q home. bc.lead q (ab.lead q home);
  cycle = bc.cycle ∙ ab.cycle;
  marked = λ marked. bc.marked (ab.marked marked);
  settled = λ q settled. bc.settled q (ab.settled q settled);
  grey = λ q is. elim (bc.grey q is) [
    | inl before ↦ elim (ab.grey q before) [ inl old ↦ inl old | inr new ↦ inr (bc.there q ∙ new.0, bc.forwards q ∙ new.1) ]
    | inr new ↦ inr new
  ];
}

-- what is newly grey is no forwarder
shade-grey : (m : Marking) (target : Option ℕ) (q : ℕ) → LeadsHome m.table target → is_in q (shade m target).grey ≡ true → (is_in q m.grey ≡ true) ⊎ (IsSome (block_at m.table q) × (forward_at m.table q ≡ None))
shade-grey m None q home is = inl is
shade-grey m (Some r) q home is = grind (arith, cases_eq, inl, shade-marked, inr, in-push, shade-new)

-- what holds of each reference of a block does so after a reference was written and a place shaded, if each is kept so and the one that is written is so
each-written : (P Q : Option ℕ → Type 0) → ((reference : Option ℕ) → P reference → Q reference) → (table : Table Block) (place index : ℕ) (target : Option ℕ) (new : Table Block) → ((q : ℕ) → references_at new q ≡ references_at (with_reference_at table place index target) q) → Q target
    → (q : ℕ) → length (references_at new q) ≡ length (references_at table q) → ((i : ℕ) → i < length (references_at table q) → P (reference_at table q i)) → (i : ℕ) → i < length (references_at new q) → Q (reference_at new q i)
each-written P Q keeps table place index target new same fits q long each i below = elim (cases_eq q place) [
  | inr apart ↦ subst (λ rs. Q (get_or rs i None)) (sym (same q ∙ other apart)) (keeps (reference_at table q i) (each i (omega arith)))
  | inl here ↦ by_block (is_some (block_at table q)) refl here
]
  where
    other : q ≢ place → references_at (with_reference_at table place index target) q ≡ references_at table q
    other apart = ap (λ (o : Option Block). unwrap_or (option_map (λ b. b.references) o) []) (block_at-with_block_other table place q _ apart)

    none : (o : Option Block) → is_some o ≡ false → length (unwrap_or (option_map (λ (b : Block). b.references) o) []) ≡ 0
    none None e = refl
    none (Some b) e = absurd (false≢true (sym e))

    by_index : (rs : List (Option ℕ)) → references_at table q ≡ rs → i < length rs → Q (get_or (set rs index target) i None)
    by_index rs is inside = grind (arith, cases_eq, inl, get_or-set_same, inr, get_or-set_other)

    by_block : (there : Bool) → is_some (block_at table q) ≡ there → q ≡ place → Q (get_or (references_at new q) i None)
    by_block true at here =
        let written : references_at (with_reference_at table place index target) q ≡ set (references_at table q) index target = rw here (references_written table place index target (rw here at at)) in
        subst (λ rs. Q (get_or rs i None)) (sym (same q ∙ written)) (by_index (references_at table q) refl (omega arith))
    by_block false at here = absurd (omega (arith, none (block_at table q) at))

-- a reference that is null or leads straight to a marked block does so when another was written and shaded
reached-kept : (m new : Marking) → IsLike m.table new.table → new.cycle ≡ m.cycle → ((q : ℕ) → stamp_at m.table q ≡ m.cycle → stamp_at new.table q ≡ m.cycle) → (reference : Option ℕ) → IsReached m reference → IsReached new reference
reached-kept m new like cycle stamps None reached = tt
reached-kept m new like cycle stamps (Some p) reached = (like.forwards p ∙ reached.0, stamps p reached.1 ∙ sym cycle)

-- and so does the one that is written
reached-written : (m : Marking) (place index : ℕ) (target : Option ℕ) → IsResolved m.table target → IsLike m.table (write m place index target).table → (write m place index target).cycle ≡ m.cycle → IsReached (write m place index target) target
reached-written m place index None home like cycle = tt
reached-written m place index (Some p) home like cycle =
    let between : Marking = record m { table = with_reference_at m.table place index (Some p) } in
    let stamped : stamp_at (shade_place between p).table p ≡ m.cycle = place-stamped between p ((like-reference m.table place index (Some p)).there p ∙ home.0) in
    (like.forwards p ∙ home.1, ap (λ (x : Marking). stamp_at x.table p) (write-home m place index p home.1) ∙ stamped ∙ sym cycle)

pub write-kept : (m : Marking) (place index : ℕ) (target : Option ℕ) → IsResolved m.table target → KeepsMarking m (write m place index target)
write-kept m place index target at_home =
    let home : LeadsHome m.table target = at_home-leads m.table target at_home in
    let written = with_reference_at m.table place index target in
    let between : Marking = record m { table = written } in
    let new : Marking = shade between target in
    let like : IsLike m.table written = like-reference m.table place index target in
    let there : LeadsHome written target = home-like m.table written target like home in
    let after : IsShaded between new = shaded between target (home-leads written target there) in
    let whole : IsLike m.table new.table = like-trans m.table written new.table like after.like in
    let counts : ((q : ℕ) → length (references_at new.table q) ≡ length (references_at m.table q)) =
    λ q. ap length (after.references q) ∙ change-view (λ (o : Option Block). length (unwrap_or (option_map (λ b. b.references) o) [])) (λ (b : Block). record b { references = set b.references index target }) (λ b. length-set b.references index target) m.table place q in
    let stamps : ((q : ℕ) → stamp_at m.table q ≡ m.cycle → stamp_at new.table q ≡ m.cycle) =
    λ q is. after.stamps q (change-view (λ (o : Option Block). unwrap_or (option_map (λ b. b.stamp) o) 0) (λ (b : Block). record b { references = set b.references index target }) (λ b. refl) m.table place q ∙ is) in
    record {
      there = whole.there;
      forwards = whole.forwards;
      classes = λ page. class-shaded between target page (home-leads written target there) ∙ class-with_block m.table place page (option_map (λ (b : Block). record b { references = set b.references index target }) (block_at m.table place));
      long = whole.long;
      counts = counts;
      lead = λ q lead. each-written (LeadsHome m.table) (LeadsHome new.table) (λ r h. home-like m.table new.table r whole h) m.table place index target new.table after.references (home-like m.table new.table target whole home) q (counts q) lead;
      cycle = after.cycle;
      marked = λ marked. subst (λ n. AreMarked new.table n new.grey) (sym after.cycle) (after.marked (marked-written m.table place index target m.cycle m.grey marked));
      settled = λ q settled. each-written (IsReached m) (IsReached new) (reached-kept m new whole after.cycle stamps) m.table place index target new.table after.references (reached-written m place index target at_home whole after.cycle) q (counts q) settled;
      grey = λ q is. elim (shade-grey between target q there is) [ inl old ↦ inl old | inr new ↦ inr (after.like.there q ∙ new.0, after.like.forwards q ∙ new.1) ];
    }

-- the cycle's number written out
pub kept-as : (old new : Marking) (cycle : ℕ) → new.cycle ≡ cycle → KeepsMarking old new → KeepsMarking old (marking new.table new.grey cycle)
kept-as old new cycle same kept = subst (λ n. KeepsMarking old (marking new.table new.grey n)) same kept

pub marked-kept : (start : Marking) (place : ℕ) (m : Marking) (index : ℕ) → IsMarkingOn start place m index → index < length (references_at start.table place) → KeepsMarking start m
    → KeepsMarking start (marking (mark_reference m place index (reference_at m.table place index)).table (mark_reference m place index (reference_at m.table place index)).grey start.cycle)
marked-kept start place m index on below kept =
    let target = target_of m.table (reference_at m.table place index) in
    let all : KeepsMarking start (write m place index target) = kept-trans start m (write m place index target) kept (write-kept m place index target (target-at_home m.table (reference_at m.table place index) (on.lead index (omega arith) below))) in
    kept-as start (write m place index target) start.cycle all.cycle all

-- a marking by its parts
pub marked-as : (m : Marking) (table : Table Block) (grey : List ℕ) (cycle : ℕ) → table ≡ m.table → grey ≡ m.grey → cycle ≡ m.cycle → marking table grey cycle ≡ m
marked-as m table grey cycle a b d = rw (a, b, d) refl

-- Settled blocks -------------------------------------------------------------------------------------

-- marking through a reference that is null or leads straight to a marked block changes nothing
reached-same : (m : Marking) (place index : ℕ) (reference : Option ℕ) → reference_at m.table place index ≡ reference → IsReached m reference → mark_reference m place index reference ≡ m
reached-same m place index None is reached = ap (mark_reference m place index) (sym is) ∙ sym (marked-null m place index (reference_at m.table place index) refl is)
reached-same m place index (Some p) is reached =
    ap (mark_reference m place index) (sym is)
    ∙ sym (marked-straight m place index p (reference_at m.table place index) (is_some (forward_at m.table p)) refl is refl (ap is_some reached.0))
    ∙ marked (block_at m.table p) reached.1
  where
    marked : (content : Option Block) → unwrap_or (option_map (λ (b : Block). b.stamp) content) 0 ≡ m.cycle → shade_block m p content ≡ m
    marked None e = refl
    marked (Some block) e = rw (eq-eqb block.stamp m.cycle e) refl

-- and so does marking through a settled block
pub settled-same : (m : Marking) (place : ℕ) → HasSettledReferences m place → mark_references m place 0 (references_at m.table place) ≡ m
settled-same m place settled = over (references_at m.table place) 0 (λ k below. let same : k ≡ k + 0 = omega arith in ap (reference_at m.table place) same) settled
  where
    over : (rs : List (Option ℕ)) (index : ℕ) → ((k : ℕ) → k < length rs → get_or rs k None ≡ reference_at m.table place (k + index)) → ((k : ℕ) → k < length rs → IsReached m (get_or rs k None)) → mark_references m place index rs ≡ m
    over [] index at each = refl
    over (r ∷ rs) index at each =
        let here : index ≡ 0 + index = omega arith in
        let first : reference_at m.table place index ≡ r = ap (reference_at m.table place) here ∙ sym (at 0 (omega arith)) in
        ap (λ x. mark_references x place (suc index) rs) (reached-same m place index r first (each 0 (omega arith)))
        ∙ over rs (suc index) (λ k below. let next : suc k + index ≡ k + suc index = omega arith in at (suc k) (omega arith) ∙ ap (reference_at m.table place) next) (λ k below. each (suc k) (omega arith))

-- what the test of a block says
pub settled-from : (table : Table Block) (grey : List ℕ) (cycle place : ℕ) → is_settled table cycle place ≡ true → HasSettledReferences (marking table grey cycle) place
settled-from table grey cycle place is = each (references_at table place) is
  where
    reached : (r : Option ℕ) → is_reached table cycle r ≡ true → IsReached (marking table grey cycle) r
    reached None e = tt
    reached (Some p) e =
        let parts = and_parts (not (is_some (forward_at table p))) (stamp_at table p == cycle) e in
        (none (forward_at table p) parts.0, eqb-true (stamp_at table p) cycle parts.1)
      where
        none : (o : Option ℕ) → not (is_some o) ≡ true → o ≡ None
        none None e = refl
        none (Some x) e = absurd (false≢true e)

    each : (rs : List (Option ℕ)) → list_all (is_reached table cycle) rs ≡ true → (i : ℕ) → i < length rs → IsReached (marking table grey cycle) (get_or rs i None)
    each [] e i below = absurd (omega arith)
    each (r ∷ rs) e zero below = reached r (and_parts (is_reached table cycle r) (list_all (is_reached table cycle) rs) e).0
    each (r ∷ rs) e (suc i) below = each rs (and_parts (is_reached table cycle r) (list_all (is_reached table cycle) rs) e).1 i (omega arith)

-- and the answer for a block of a batch
pub settled-at : (table : Table Block) (grey : List ℕ) (cycle : ℕ) (batch : List ℕ) (settled : List Bool) (index : ℕ) → settled ≡ settled_in table cycle batch → index < length batch → get_or settled index false ≡ true → HasSettledReferences (marking table grey cycle) (get_or batch index 0)
settled-at table grey cycle batch settled index is below answer =
    settled-from table grey cycle (get_or batch index 0) (sym (get_or-map (is_settled table cycle) batch index 0 false below) ∙ sym (ap (λ l. get_or l index false) is) ∙ answer)

-- Batches --------------------------------------------------------------------------------------------

pub markable-scannable : (table : Table Block) (place : ℕ) → IsMarkable table place → IsScannable table place
markable-scannable table place home = record { there = home.there; lead = λ i below. leads_of table (reference_at table place i) (home-leads table (reference_at table place i) (home.lead i below)) }

pub record IsBlocksOn (start : Marking) (batch : List ℕ) (m : Marking) (index : ℕ) : Type 0 where
  pub same : blocks_marked m (drop index batch) ≡ blocks_marked start batch
  pub kept : KeepsMarking start m

pub blocks-goes : (start : Marking) (batch : List ℕ) (m : Marking) (table : Table Block) (grey : List ℕ) (index : ℕ) → IsBlocksOn start batch m index → index < length batch
    → table ≡ (mark_references m (get_or batch index 0) 0 (references_at m.table (get_or batch index 0))).table → grey ≡ (mark_references m (get_or batch index 0) 0 (references_at m.table (get_or batch index 0))).grey
    → KeepsMarking m (marking table grey m.cycle) → IsBlocksOn start batch (marking table grey m.cycle) (index + 1)
blocks-goes start batch m table grey index on below a b kept =
    let place = get_or batch index 0 in
    let is : marking table grey m.cycle ≡ mark_references m place 0 (references_at m.table place) = marked-as (mark_references m place 0 (references_at m.table place)) table grey m.cycle a b (sym (cycle-mark_references m place 0 (references_at m.table place))) in
    record {
      same = ap (λ x. blocks_marked x (drop (index + 1) batch)) is ∙ sym (ap (blocks_marked m) (drop_more batch index 0 below)) ∙ on.same;
      kept = kept-trans start m (marking table grey m.cycle) on.kept kept;
    }

-- a settled block is skipped
pub blocks-skips : (start : Marking) (batch : List ℕ) (m : Marking) (index : ℕ) → IsBlocksOn start batch m index → index < length batch → HasSettledReferences start (get_or batch index 0) → IsBlocksOn start batch m (index + 1)
blocks-skips start batch m index on below settled =
    let place = get_or batch index 0 in
    record {
      same = ap (λ x. blocks_marked x (drop (index + 1) batch)) (sym (settled-same m place (on.kept.settled place settled))) ∙ sym (ap (blocks_marked m) (drop_more batch index 0 below)) ∙ on.same;
      kept = on.kept;
    }
