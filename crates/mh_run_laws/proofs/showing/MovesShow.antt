-- Steps of defragmentation change nothing of what the heap shows.
use Rattle.std.proofs.Common.{◌≡◌, ℕ, zero, suc, List, [], ◌∷◌, get_or, map, Option, Some, None, option_map, refl, sym, ap, ◌∙◌, subst}
use Rattle.std.proofs.lemmas.Bool.{false≢true}
use Rattle.mh_model.specs.{declared.cycle.Phase.TheVariants.Defrag, World.World, Pages.{Table, block_at}}
use Rattle.mh_model.specs.Table.{Block, resolve}
use Rattle.mh_model.specs.Collector.{Collector, Move, flagged_page, next_move, moved_table, forwarded_slots, with_phase, with_move, defrag_step, next_place}
use Rattle.mh_model.specs.{Mutator.HeapState, View.{in_sweep, birth_named, heap_view}, Invariant.{IsSound, HeapKeeps}}
use Rattle.mh_laws.proofs.marking.BlockChanges.{resolve-live, live_plain}
use Rattle.mh_laws.proofs.moving.MoveSteps.{IsMove, move-is, follows, live_from, live_forth, snapshot-defrag_step}
use Rattle.mh_laws.proofs.showing.SamePlainBlocks.{plain-shown}
use Rattle.mh_run_laws.proofs.showing.MarkingShows.{same-view}

-- roots that are forwarded to where they lead, with references that lead to the same blocks
forwarded-same : (table table' : Table Block) (slots : List (Option ℕ)) → ((i r : ℕ) → get_or slots i None ≡ Some r → block_at table' (resolve table' (resolve table' r)) ≡ block_at table (resolve table r)) → map (birth_named table') (forwarded_slots table' slots) ≡ map (birth_named table) slots
forwarded-same table table' [] same = refl
forwarded-same table table' (None ∷ slots) same = ap (λ xs. None ∷ xs) (forwarded-same table table' slots (λ i. same (suc i)))
forwarded-same table table' (Some r ∷ slots) same =
    ap (λ x. x ∷ map (birth_named table') (forwarded_slots table' slots)) (ap (option_map (λ (z : Block). z.birth)) (same zero r refl)) ∙ ap (λ xs. birth_named table (Some r) ∷ xs) (forwarded-same table table' slots (λ i. same (suc i)))

-- A step of defragmentation shows the same
pub view-defrag_step : (snapshot : World) (heap : HeapState) → heap.collector.phase ≡ Defrag → HeapKeeps snapshot heap → heap_view (record heap { collector = defrag_step heap.collector }) ≡ heap_view heap
view-defrag_step snapshot heap defrags h = go (next_move c.table c.cursor) refl (snapshot-defrag_step snapshot heap.next_birth c defrags h).sound
  where
    c : Collector
    c = heap.collector

    cursor' : ℕ
    cursor' = next_place c.cursor (flagged_page c.table c.cursor)

    go : (move : Option Move) → next_move c.table c.cursor ≡ move → IsSound heap.next_birth (with_phase (with_move c (next_move c.table c.cursor)) Defrag cursor') → heap_view (record heap { collector = with_phase (with_move c move) Defrag cursor' }) ≡ heap_view heap
    go None e k =
        same-view
        heap
        (with_phase c Defrag cursor')
        (plain-shown
        heap.next_birth
        c
        (with_phase c Defrag cursor')
        h.sound
        (subst (λ m. IsSound heap.next_birth (with_phase (with_move c m) Defrag cursor')) e k)
        (λ p x plain i r f y plain'. plain'.there)
        (λ p x plain. (p, record { there = plain.there; original = plain.original; surviving = λ s. absurd (false≢true s) }))
        (λ p x plain. (p, live_plain c (ap in_sweep defrags) p x plain.there plain.original)))
        refl
    go (Some move) e k =
        let is : IsMove c.table c.cursor move = move-is c.table c.cursor h.sound.narrow move e in
        let d : Collector = with_phase (with_move c (Some move)) Defrag cursor' in
        same-view
        heap
        d
        (plain-shown
        heap.next_birth
        c
        d
        h.sound
        (subst (λ m. IsSound heap.next_birth (with_phase (with_move c m) Defrag cursor')) e k)
        (λ p x plain i r f y plain'. follows snapshot heap.next_birth c defrags h move is cursor' r y plain'.there plain'.original)
        (λ p x plain. let (q, there) = live_forth snapshot heap.next_birth c defrags h move is cursor' p x plain.there plain.original in (q, record { there = there; original = plain.original; surviving = λ s. absurd (false≢true s) }))
        (λ p x plain. let (q, there, from) = live_from snapshot heap.next_birth c defrags h move is cursor' p x plain.there plain.original in (q, live_plain c (ap in_sweep defrags) q x there plain.original)))
        (forwarded-same c.table (moved_table c.table c.cursor move) c.slots (λ i r f.
        let (x, plain, first) = h.sound.slots i r f in
        let at : block_at c.table (resolve c.table r) ≡ Some x = ap (block_at c.table) (resolve-live c.table r x plain.there plain.original) ∙ plain.there in
        let there = follows snapshot heap.next_birth c defrags h move is cursor' r x at plain.original in
        ap (block_at (moved_table c.table c.cursor move)) (resolve-live (moved_table c.table c.cursor move) (resolve (moved_table c.table c.cursor move) r) x there plain.original) ∙ there ∙ sym at))
