-- The next move, and what it leaves.
use Rattle.std.proofs.Common.{arith, ◌≡◌, ◌⊎◌, ℕ, inl, inr, Bool, true, false, if◌then◌else◌, Option, Some, None, option_map, option_and_then, is_some, IsSome, refl, sym, ap, ◌∙◌, subst}
use Rattle.std.proofs.{lemmas.Bool.cases_eq, lemmas.Option.{none-some, same_Some}}
use Rattle.std.specs.Prelude.{IfSome}
use Rattle.mh_model.specs.Pages.{Page, Table, page_number, slot_number, page_at, block_in, block_at, class_at, least_dense_place, IsFreeFor}
use Rattle.mh_model.specs.{Table.{Block, is_forwarder}, Collector.{Move, if_flagged, move_of, next_move, moved_table}}
use Rattle.mh_table_laws.proofs.placing.Places.{block_at-with_block_there, block_at-with_block_other, block_at-with_taken_there}
use Rattle.mh_defrag.specs.Moves.{IsTarget, moved}

-- the move in a slot of a page
abbrev move_in : Table Block → ℕ → Option (Page Block) → Option Move
move_in table slot page = option_and_then (λ p. option_and_then (move_of table p) (block_in slot p)) (option_and_then if_flagged page)

-- the place that a move leads to
abbrev place_of : Option Move → Option ℕ
place_of move = option_map (λ m. m.target) move

-- A move that there is ----------------------------------------------------------------------------

-- a move is that of the block at a place, to a target
record IsMove (table : Table Block) (place target : ℕ) (move : Move) : Type 0 where
  pub next : next_move table place ≡ Some move
  pub there : block_at table place ≡ Some move.block
  pub class : class_at table (page_number place) ≡ Some move.class_size
  pub target_is : target ≡ move.target

-- a move is that of the block in a slot of a page
record IsIn (slot : ℕ) (page : Option (Page Block)) (move : Move) : Type 0 where
  pub there : option_and_then (block_in slot) page ≡ Some move.block
  pub class : option_map (λ p. p.class_size) page ≡ Some move.class_size

move_in-is : (table : Table Block) (slot : ℕ) (page : Option (Page Block)) (move : Move) → move_in table slot page ≡ Some move → IsIn slot page move
move_in-is table slot None move is = absurd (none-some move is)
move_in-is table slot (Some page) move is = by_flag page.is_flagged is
  where
    by_place : (block : Block) (found : Option ℕ) → option_map (λ target. record { block = block; class_size = page.class_size; target = target }) found ≡ Some move → (block ≡ move.block) × (page.class_size ≡ move.class_size)
    by_place block None e = absurd (none-some move e)
    by_place block (Some place) e = let same = same_Some (record { block = block; class_size = page.class_size; target = place }) move e in (ap (λ m. m.block) same, ap (λ m. m.class_size) same)

    by_forward : (block : Block) (forwarder : Bool) → (if forwarder then None else option_map (λ target. record { block = block; class_size = page.class_size; target = target }) (least_dense_place table page.class_size)) ≡ Some move → (block ≡ move.block) × (page.class_size ≡ move.class_size)
    by_forward block true e = absurd (none-some move e)
    by_forward block false e = by_place block (least_dense_place table page.class_size) e

    by_block : (content : Option Block) → block_in slot page ≡ content → option_and_then (move_of table page) content ≡ Some move → IsIn slot (Some page) move
    by_block None at e = absurd (none-some move e)
    by_block (Some block) at e = let same = by_forward block (is_forwarder block) e in record { there = at ∙ ap Some same.0; class = ap Some same.1 }

    by_flag : (flag : Bool) → option_and_then (λ p. option_and_then (move_of table p) (block_in slot p)) (if flag then Some page else None) ≡ Some move → IsIn slot (Some page) move
    by_flag false e = absurd (none-some move e)
    by_flag true e = by_block (block_in slot page) refl e

move-is : (table : Table Block) (place target : ℕ) → IsTarget table place (Some target) → (move : Move) × IsMove table place target move
move-is table place target of = go (next_move table place) refl of.is
  where
    go : (next : Option Move) → next_move table place ≡ next → Some target ≡ place_of next → (move : Move) × IsMove table place target move
    go None at e = absurd (none-some target (sym e))
    go (Some move) at e =
        let found = move_in-is table (slot_number place) (page_at table (page_number place)) move at in
        (move, record { next = at; there = found.there; class = found.class; target_is = same_Some target move.target e })

-- no move, where there is no target
pub none-moves : (table : Table Block) (place : ℕ) → IsTarget table place None → next_move table place ≡ None
none-moves table place of = go (next_move table place) of.is
  where
    go : (next : Option Move) → None ≡ place_of next → next ≡ None
    go None e = refl
    go (Some move) e = absurd (none-some move.target e)

-- What it leaves ----------------------------------------------------------------------------------

-- the move that leads to a target, and that the target is free for it
target-free : (table : Table Block) (place target : ℕ) → IsTarget table place (Some target) → (move : Move) × IsMove table place target move × IsFreeFor table move.class_size move.target
target-free table place target of =
    let (move, m) = move-is table place target of in
    let free : IsFreeFor table move.class_size target = subst (λ class. IfSome class (λ size. IsFreeFor table size target)) m.class of.free in
    (move, m, subst (IsFreeFor table move.class_size) m.target_is free)

-- a block at another place stays
elsewhere : (table : Table Block) (place : ℕ) (move : Move) (q : ℕ) → IsFreeFor table move.class_size move.target → IsSome (block_at table q) → (q ≡ place → ⊥) → block_at (moved_table table place move) q ≡ block_at table q
elsewhere table place move q free there apart = grind (arith, block_at-with_block_other, block_at-with_taken_there, there)

pub stays-elsewhere : (table : Table Block) (place : ℕ) (target : Option ℕ) (q : ℕ) → IsTarget table place target → IsSome (block_at table q) → (q ≡ place → ⊥) → block_at (moved table place (next_move table place)) q ≡ block_at table q
stays-elsewhere table place None q of there apart = ap (λ next. block_at (moved table place next) q) (none-moves table place of)
stays-elsewhere table place (Some target) q of there apart =
    let (move, m, free) = target-free table place target of in
    ap (λ next. block_at (moved table place next) q) m.next ∙ elsewhere table place move q free there apart

-- where a block was, one is
pub still-there : (table : Table Block) (place : ℕ) (target : Option ℕ) (q : ℕ) → IsTarget table place target → IsSome (block_at table q) → IsSome (block_at (moved table place (next_move table place)) q)
still-there table place None q of there = subst (λ next. IsSome (block_at (moved table place next) q)) (sym (none-moves table place of)) there
still-there table place (Some target) q of there =
    let (move, m, free) = target-free table place target of in
    subst (λ next. IsSome (block_at (moved table place next) q)) (sym m.next) (by_place move m free (cases_eq q place))
  where
    by_place : (move : Move) → IsMove table place target move → IsFreeFor table move.class_size move.target → (q ≡ place) ⊎ (q ≡ place → ⊥) → IsSome (block_at (moved_table table place move) q)
    by_place move m free (inl same) = grind (arith, block_at-with_taken_there, block_at-with_block_there)
    by_place move m free (inr apart) = ap is_some (elsewhere table place move q free there apart) ∙ there
