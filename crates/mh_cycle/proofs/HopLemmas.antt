-- Slots that are forwarded once after the last move lead where they would if they were forwarded at each.
use Rattle.std.proofs.Common.{◌≡◌, ℕ, zero, suc, Bool, true, false, List, [], ◌∷◌, get_or, map, Option, Some, None, is_some, IsSome, option_and_then, unwrap_or, refl, sym, ap, ◌∙◌, subst}
use Rattle.std.proofs.{lemmas.Bool.false≢true, lemmas.Option.none-some}
use Rattle.mh_model.specs.declared.cycle.Phase.TheVariants.{Defrag}
use Rattle.mh_model.specs.Pages.{Table, page_number, slot_number, page_at, block_in, block_at, Leads}
use Rattle.mh_model.specs.Table.{Block, forward_at, resolve, target_of}
use Rattle.mh_model.specs.Collector.{Collector, Move, next_move, next_place, flagged_page, forwarded_slots, is_past, collector_step}
use Rattle.mh_model.specs.Invariant.{IsPlainAt, IsUnflagged, in_defrag, IsSound, IsSteady}
use Rattle.mh_laws.proofs.moving.NextMove.{IsNextMove, next_move-is}
use Rattle.mh_roots.specs.Roots.{SlotsLead}
use Rattle.mh_defrag.specs.Moves.{IsTarget, moved}
use Rattle.mh_defrag.proofs.MoveLemmas.{stays-elsewhere, still-there}
use Rattle.mh_cycle.specs.Auxiliary.{with_slots, with_forwarded, step_beside_slots}
use Rattle.mh_cycle.proofs.StepLemmas.{slots_moved, defrag-is, defrag-parts, defrag_next, shifted}

-- Slots one by one ---------------------------------------------------------------------------------

-- slots that are the same one by one are the same
map-alike : (f g : Option ℕ → Option ℕ) (slots : List (Option ℕ)) → f None ≡ g None → ((slot place : ℕ) → get_or slots slot None ≡ Some place → f (Some place) ≡ g (Some place)) → map f slots ≡ map g slots
map-alike f g [] none each = refl
map-alike f g (None ∷ slots) none each = ap (λ x. x ∷ map f slots) none ∙ ap (λ xs. g None ∷ xs) (map-alike f g slots none (λ slot place is. each (suc slot) place is))
map-alike f g (Some place ∷ slots) none each = ap (λ x. x ∷ map f slots) (each 0 place refl) ∙ ap (λ xs. g (Some place) ∷ xs) (map-alike f g slots none (λ slot other is. each (suc slot) other is))

map-twice : (f g : Option ℕ → Option ℕ) (slots : List (Option ℕ)) → map f (map g slots) ≡ map (λ slot. f (g slot)) slots
map-twice f g [] = refl
map-twice f g (slot ∷ slots) = ap (λ xs. f (g slot) ∷ xs) (map-twice f g slots)

map-nothing : (slots : List (Option ℕ)) → map (λ slot. slot) slots ≡ slots
map-nothing [] = refl
map-nothing (slot ∷ slots) = ap (λ xs. slot ∷ xs) (map-nothing slots)

-- a slot forwarded
slot-forwarded : (table : Table Block) (slots : List (Option ℕ)) (slot place : ℕ) → get_or slots slot None ≡ Some place → get_or (forwarded_slots table slots) slot None ≡ Some (resolve table place)
slot-forwarded table [] slot place is = absurd (none-some place is)
slot-forwarded table (first ∷ slots) zero place is = ap (target_of table) is
slot-forwarded table (first ∷ slots) (suc slot) place is = slot-forwarded table slots slot place is

-- a place with no forwarder leads to itself, and one with a forwarder where that leads
resolve-plain : (table : Table Block) (place : ℕ) → forward_at table place ≡ None → resolve table place ≡ place
resolve-plain table place is = ap (λ forward. unwrap_or forward place) is

resolve-on : (table : Table Block) (place target : ℕ) → forward_at table place ≡ Some target → resolve table place ≡ target
resolve-on table place target is = ap (λ forward. unwrap_or forward place) is

-- Before the first move ----------------------------------------------------------------------------

-- the slots of a steady collector hold objects, so they are forwarded already
pub steady-forwarded : (c : Collector) → IsSteady c → forwarded_slots c.table c.slots ≡ c.slots
steady-forwarded c (snapshot, n, h) = map-alike (target_of c.table) (λ slot. slot) c.slots refl (λ slot place is. plain place (h.sound.slots slot place is)) ∙ map-nothing c.slots
  where
    plain : (place : ℕ) → (block : Block) × IsPlainAt c place block × (block.part ≡ 0) → target_of c.table (Some place) ≡ Some place
    plain place (block, at, first) = ap Some (resolve-plain c.table place (ap (option_and_then (λ (b : Block). b.forward)) at.there ∙ at.original))

pub steady-lead : (c : Collector) → IsSteady c → SlotsLead c.table c.slots
steady-lead c (snapshot, n, h) slot = go (get_or c.slots slot None) refl
  where
    there : (place : ℕ) → (block : Block) × IsPlainAt c place block × (block.part ≡ 0) → IsSome (block_at c.table place)
    there place (block, at, first) = ap is_some at.there

    go : (content : Option ℕ) → get_or c.slots slot None ≡ content → Leads c.table content
    go None is = tt
    go (Some place) is = there place (h.sound.slots slot place is)

-- slots still lead to blocks after a move
pub lead-on : (table : Table Block) (place : ℕ) (target : Option ℕ) (slots : List (Option ℕ)) → IsTarget table place target → SlotsLead table slots → SlotsLead (moved table place (next_move table place)) slots
lead-on table place target slots of lead slot = go (get_or slots slot None) (lead slot)
  where
    go : (content : Option ℕ) → Leads table content → Leads (moved table place (next_move table place)) content
    go None leads = tt
    go (Some q) leads = still-there table place target q of leads

-- One hop ------------------------------------------------------------------------------------------

-- a forwarder's target is in an unflagged page, and a block that moves in a flagged one: so a forwarder and its target stay as they are, and one hop still leads to the target
module _ (c : Collector) (target : Option ℕ) (phase : c.phase ≡ Defrag) (of : IsTarget c.table c.cursor target) (n : ℕ) (sound : IsSound n (with_forwarded c)) (move : Move) (next : next_move c.table c.cursor ≡ Some move) where
  abbrev after : Table Block
  after = moved c.table c.cursor (next_move c.table c.cursor)

  is : IsNextMove c.table c.cursor move
  is = next_move-is c.table c.cursor move next

  -- the block that moves is no forwarder
  leaves : forward_at c.table c.cursor ≡ None
  leaves = ap (option_and_then (λ (b : Block). b.forward)) (ap (option_and_then (block_in (slot_number c.cursor))) is.in_use ∙ is.there) ∙ is.live

  stays : (place : ℕ) → IsSome (block_at c.table place) → (place ≡ c.cursor → ⊥) → forward_at after place ≡ forward_at c.table place
  stays place there apart = ap (option_and_then (λ (b : Block). b.forward)) (stays-elsewhere c.table c.cursor target place of there apart)

  hop : (slot place : ℕ) → get_or c.slots slot None ≡ Some place → target_of after (target_of c.table (Some place)) ≡ target_of after (Some place)
  hop slot place holds = go (forward_at c.table place) refl
    where
      home : (block : Block) × IsPlainAt (with_forwarded c) (resolve c.table place) block × (block.part ≡ 0)
      home = sound.slots slot (resolve c.table place) (slot-forwarded c.table c.slots slot place holds)

      block-there : (content : Option Block) (to : ℕ) → block_at c.table place ≡ content → option_and_then (λ (b : Block). b.forward) content ≡ Some to → (block : Block) × (block_at c.table place ≡ Some block) × (block.forward ≡ Some to)
      block-there None to at e = absurd (none-some to e)
      block-there (Some block) to at e = (block, at, e)

      go : (forward : Option ℕ) → forward_at c.table place ≡ forward → target_of after (target_of c.table (Some place)) ≡ target_of after (Some place)
      go None e = ap (λ q. target_of after (Some q)) (resolve-plain c.table place e)
      go (Some to) e = ap (λ q. target_of after (Some q)) leads ∙ ap Some (at_target ∙ sym at_forwarder)
        where
          leads : resolve c.table place ≡ to
          leads = resolve-on c.table place to e

          forwarder : (block : Block) × (block_at c.table place ≡ Some block) × (block.forward ≡ Some to)
          forwarder = block-there (block_at c.table place) to refl e

          unflagged : IsUnflagged c.table to
          unflagged = let (block, at, forwards) = forwarder in sound.dense (ap in_defrag phase) place to block at forwards

          plain : (block : Block) × (block_at c.table to ≡ Some block) × (block.forward ≡ None)
          plain = let (block, at, first) = home in (block, ap (block_at c.table) (sym leads) ∙ at.there, at.original)

          apart : to ≡ c.cursor → ⊥
          apart same = false≢true (sym (unflagged is.page (ap (λ p. page_at c.table (page_number p)) same ∙ is.in_use)) ∙ is.flagged)

          other : place ≡ c.cursor → ⊥
          other same = none-some to (sym leaves ∙ ap (forward_at c.table) (sym same) ∙ e)

          at_target : resolve after to ≡ to
          at_target = let (block, at, original) = plain in resolve-plain after to (stays to (ap is_some at) apart ∙ ap (option_and_then (λ (b : Block). b.forward)) at ∙ original)

          at_forwarder : resolve after place ≡ to
          at_forwarder = let (block, at, forwards) = forwarder in resolve-on after place to (stays place (ap is_some at) other ∙ e)

  -- forwarded after this move alone, slots lead where they lead if they were forwarded before it too
  pub once : forwarded_slots after (forwarded_slots c.table c.slots) ≡ forwarded_slots after c.slots
  once = map-twice (target_of after) (target_of c.table) c.slots ∙ map-alike (λ slot. target_of after (target_of c.table slot)) (target_of after) c.slots refl hop

-- Steps --------------------------------------------------------------------------------------------

-- the slots after a step
slots-once : (c : Collector) (target : Option ℕ) → c.phase ≡ Defrag → IsTarget c.table c.cursor target → IsSteady (with_forwarded c)
    → slots_moved c.table c.cursor (forwarded_slots c.table c.slots) (next_move c.table c.cursor) ≡ forwarded_slots (moved c.table c.cursor (next_move c.table c.cursor)) c.slots
slots-once c target phase of (snapshot, n, h) = go (next_move c.table c.cursor) refl
  where
    go : (next : Option Move) → next_move c.table c.cursor ≡ next → slots_moved c.table c.cursor (forwarded_slots c.table c.slots) next ≡ forwarded_slots (moved c.table c.cursor next) c.slots
    go None e = refl
    go (Some move) e = subst (λ next. forwarded_slots (moved c.table c.cursor next) (forwarded_slots c.table c.slots) ≡ forwarded_slots (moved c.table c.cursor next) c.slots) e (once c target phase of n h.sound move e)

-- the table after a step
pub table-after : (c : Collector) → c.phase ≡ Defrag → (step_beside_slots c).table ≡ moved c.table c.cursor (next_move c.table c.cursor)
table-after c phase = ap (λ (r : Collector). r.table) (defrag-is c phase ∙ ap (λ r. defrag_next r (is_past r.table r.cursor)) (defrag-parts c phase)) ∙ same (is_past (moved c.table c.cursor (next_move c.table c.cursor)) (next_place c.cursor (flagged_page c.table c.cursor)))
  where
    same : (past : Bool) → (defrag_next (shifted c (moved c.table c.cursor (next_move c.table c.cursor)) (slots_moved c.table c.cursor c.slots (next_move c.table c.cursor)) (next_place c.cursor (flagged_page c.table c.cursor))) past).table ≡ moved c.table c.cursor (next_move c.table c.cursor)
    same true = refl
    same false = refl

-- the table and the place of the next step
abbrev table_next : Collector → Table Block
table_next c = moved c.table c.cursor (next_move c.table c.cursor)

abbrev place_next : Collector → ℕ
place_next c = next_place c.cursor (flagged_page c.table c.cursor)

by-parts : (c : Collector) → c.phase ≡ Defrag → collector_step c ≡ defrag_next (shifted c (table_next c) (slots_moved c.table c.cursor c.slots (next_move c.table c.cursor)) (place_next c)) (is_past (table_next c) (place_next c))
by-parts c phase = defrag-is c phase ∙ ap (λ r. defrag_next r (is_past r.table r.cursor)) (defrag-parts c phase)

-- a step that leaves the slots, which are forwarded then, is the step of the collector with its slots forwarded
pub step-once : (c : Collector) (target : Option ℕ) → c.phase ≡ Defrag → IsTarget c.table c.cursor target → IsSteady (with_forwarded c) → with_forwarded (step_beside_slots c) ≡ collector_step (with_forwarded c)
step-once c target phase of steady =
    ap (λ r. with_forwarded (with_slots r c.slots)) (by-parts c phase)
    ∙ same (is_past (table_next c) (place_next c))
    ∙ ap (λ slots. defrag_next (shifted c (table_next c) slots (place_next c)) (is_past (table_next c) (place_next c))) (sym (slots-once c target phase of steady))
    ∙ sym (by-parts (with_forwarded c) phase)
  where
    same : (past : Bool) → with_forwarded (with_slots (defrag_next (shifted c (table_next c) (slots_moved c.table c.cursor c.slots (next_move c.table c.cursor)) (place_next c)) past) c.slots) ≡ defrag_next (shifted c (table_next c) (forwarded_slots (table_next c) c.slots) (place_next c)) past
    same true = refl
    same false = refl
