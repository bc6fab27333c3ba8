-- What each deed adds to a count of a table and takes from it: carried through steps, quanta and commands, for any such count.
use Rattle.std.proofs.Common.{◌≡◌, ℕ, zero, suc, ◌+◌, ◌-◌, ◌*◌, ◌==◌, nat_le, nat_lt, ◌⊎◌, inl, inr, Bool, true, false, not, ◌&&◌, ◌||◌, if◌then◌else◌, Option, Some, None, is_some, option_map, option_and_then, List, [], ◌∷◌, ◌++◌, length, map, drop, get_or, set, refl, sym, ap, ◌∙◌, subst, arith}
use Rattle.std.proofs.{lemmas.Bool.{cases_Bool, eqb-true}, lemmas.List.{set-get_or, set-set, get_or-set_same}}
use Rattle.std.proofs.{lemmas.List.Sums.{sum_by-cons, sum_by-append}, lemmas.Option.{none-some, same_Some}}
use Rattle.std.specs.List.{AllByRecursion, sum_by}
use Rattle.mh_model.specs.{declared.command.Command.Command, declared.config.Config.Config, declared.cycle.Phase.Phase}
use Rattle.mh_model.specs.{declared.cycle.Phase.TheVariants.{Idle, Roots, Mark, Sweep, Defrag}, declared.deed.Deed.Deed}
use Rattle.mh_model.specs.{declared.reply.Refusal.Refusal, declared.reply.Reply.Reply}
use Rattle.mh_model.specs.World.{Answer, own_slot, refusal, unless_refused, done, says}
use Rattle.mh_model.specs.Classes.{Part, part_words, parts}
use Rattle.mh_model.specs.Pages.{Page, Table, page_number, slot_number, page_at, block_in, block_at, live_in, has_denser, page_with, with_block, with_taken, with_flag, flagged_as, HaveTheirSlots, IsFreeFor}
use Rattle.mh_model.specs.Table.{Block, Made, MadeParts, references_at, new_block, made_in_class, made_part, made_parts, with_block_change, linked_block, linked_parts, group_of, made_group}
use Rattle.mh_model.specs.Collector.{Collector, Marking, Move, Spending, is_marked, is_last_slot, survivor, judged_page, swept_page, swept_table, flagged_page, move_of, next_move, moved_table, mark_reference, marking_of, with_move, step_in, phase_after, collector_step, step_cost, is_moving, is_idle, is_start_due, quantum_start, steps, quantum}
use Rattle.mh_model.specs.Mutator.{HeapState, new_group, with_root, with_born, heap_sight, heap_effect, mutator_step}
use Rattle.mh_model.specs.Deeds.{name_of, root_deed, reference_deeds, mark_deeds, block_fate, slot_fate, flag_deeds, page_deeds, sweep_deeds, forward_deeds, slot_deeds, defrag_deeds, deeds_in, enter_deeds, step_deeds, deeds_of_steps, start_deeds, quantum_deeds, made_deed, make_deeds, new_deeds, barrier_deeds, command_deeds, deed_units}
use Rattle.mh_model.specs.declared.deed.Fate.{Fate}
use Rattle.mh_table_laws.proofs.{Lists.below_length, placing.Places.{shaped-slots, least_place-free, with_block-self}}
use Rattle.mh_table_laws.proofs.tables.PageSlots.{slots_in-class_size, class_of-class_size}
use Rattle.mh_laws.proofs.commands.CommandAnswers.{new-done}
use Rattle.mh_laws.proofs.commands.EachCommand.{IsKeptByWrites, shade-each, mark_first-each, over_tables, with_root-each, heap_effect-each, mutator_step-each}
use Rattle.mh_laws.proofs.commands.LeftUnchanged.{table-phase_after, table-quantum_start, collector_step-keeps}
use Rattle.mh_laws.proofs.{costs.Quanta.{steps-stop, steps-go}, moving.NextMove.{IsNextMove, next_move-is}}
use Rattle.mh_laws.proofs.rooms.KeptRoom.{makes_none, makes_none-new}
use Rattle.mh_laws.proofs.{rooms.FirstParts.{IsFirst, first-made, taken-slots}, rooms.Moves.move-free}

-- a deed changes neither blocks nor which pages are free
abbrev pub is_silent : Deed → Bool
is_silent (Deed.Sweep place Fate.Empty) = true
is_silent (Deed.Sweep place (Fate.Kept name)) = true
is_silent (Deed.Sweep place fate) = false
is_silent (Deed.FreePage page) = false
is_silent (Deed.Move place to name class_size) = false
is_silent (Deed.Make place name class_size fields tier) = false
is_silent _ = true

-- a deed says that another phase follows, and costs nothing
pub record IsTurn (d : Deed) : Type 0 where
  pub silent : is_silent d ≡ true
  pub units : deed_units d ≡ 0

turn-enter : (phase : Phase) → IsTurn (Deed.Enter phase)
turn-enter phase = record { silent = refl; units = refl }

turn-end : IsTurn Deed.End
turn-end = record { silent = refl; units = refl }

-- what is entered after a step
pub turns-enter : (before after : Phase) → AllByRecursion IsTurn (enter_deeds before after)
turns-enter Idle after = tt
turns-enter Roots Mark = (turn-enter Mark, tt)
turns-enter Roots Sweep = (turn-enter Sweep, tt)
turns-enter Roots other = tt
turns-enter Mark Sweep = (turn-enter Sweep, tt)
turns-enter Mark other = tt
turns-enter Sweep Defrag = (turn-enter Defrag, tt)
turns-enter Sweep other = tt
turns-enter Defrag Idle = (turn-end, tt)
turns-enter Defrag other = tt

-- A count of a table, and what each deed adds to it and takes from it
pub record IsCount (count : Table Block → ℕ) (adds takes : Deed → ℕ) : Type 0 where
  pub silent : (d : Deed) → is_silent d ≡ true → (adds d ≡ 0) × (takes d ≡ 0)
  pub changed : (table : Table Block) (place : ℕ) (change : Block → Block) → ((block : Block) → (change block).forward ≡ block.forward) → count (with_block_change table place change) ≡ count table
  pub flagged : (table : Table Block) (number : ℕ) (is_flagged : Bool) → count (with_flag table number is_flagged) ≡ count table
  pub emptied : (table : Table Block) (place cycle : ℕ) (block : Block) → block_at table place ≡ Some block → is_silent (Deed.Sweep place (block_fate cycle block block.forward)) ≡ false
      → count (with_block table place None) + takes (Deed.Sweep place (block_fate cycle block block.forward)) ≡ count table + adds (Deed.Sweep place (block_fate cycle block block.forward))
  pub freed : (table : Table Block) (number : ℕ) (page : Page Block) → page_at table number ≡ Some page → live_in page ≡ 0 → count (set table number None) + takes (Deed.FreePage number) ≡ count table + adds (Deed.FreePage number)
  pub moved : (table : Table Block) (place : ℕ) (move : Move) → HaveTheirSlots table → IsNextMove table place move → IsFreeFor table move.class_size move.target
      → count (moved_table table place move) + takes (Deed.Move place move.target (name_of (move.block)) move.class_size) ≡ count table + adds (Deed.Move place move.target (name_of (move.block)) move.class_size)
  pub made : (table : Table Block) (size place birth stamp index : ℕ) (part : Part) → IsFreeFor table size place
      → count (with_taken table size place (new_block birth stamp index part)) + takes (made_deed table birth index part place) ≡ count table + adds (made_deed table birth index part place)

-- steps stop, or one is taken
pub deeds-stop : (more left : ℕ) (has_moved : Bool) (collector : Collector) → (is_idle collector.phase || nat_lt left (step_cost collector has_moved)) ≡ true → deeds_of_steps (suc more) left has_moved collector ≡ []
unfolding deeds_of_steps
deeds-stop more left has_moved collector stops = rw (stops, deeds_of_steps)

pub deeds-go : (more left : ℕ) (has_moved : Bool) (collector : Collector) → (is_idle collector.phase || nat_lt left (step_cost collector has_moved)) ≡ false
    → deeds_of_steps (suc more) left has_moved collector ≡ step_deeds collector has_moved ++ deeds_of_steps more (left - step_cost collector has_moved) (has_moved || is_moving collector) (collector_step collector)
unfolding deeds_of_steps
deeds-go more left has_moved collector goes = rw (goes, deeds_of_steps)

make_deeds-more : (table : Table Block) (birth stamp index : ℕ) (part : Part) (list : List Part) (made : Made) → made_part table birth stamp index part ≡ Some made
    → make_deeds table birth stamp index (part ∷ list) ≡ made_deed table birth index part made.place ∷ make_deeds made.table birth stamp (suc index) list
make_deeds-more table birth stamp index part list made e = rw (e, make_deeds) refl

step-is : (heap : HeapState) (who : ℕ) (c : Command) (answer : Option Refusal) → refusal (heap_sight heap) who c ≡ answer → mutator_step heap who c ≡ unless_refused answer heap (heap_effect heap who c)
unfolding mutator_step
step-is heap who c answer e = ap (λ o. unless_refused o heap (heap_effect heap who c)) e

module _ (count : Table Block → ℕ) (adds takes : Deed → ℕ) (is : IsCount count adds takes) where
  -- what deeds add and take is what the count grew by
  abbrev pub Balances : Table Block → Table Block → List Deed → Type 0
  Balances old new deeds = count new + sum_by takes deeds ≡ count old + sum_by adds deeds

  pub balances-append : (first second third : Table Block) (xs ys : List Deed) → Balances first second xs → Balances second third ys → Balances first third (xs ++ ys)
  balances-append first second third xs ys one two = omega (arith, one, two, sum_by-append takes xs ys, sum_by-append adds xs ys)

  balances-cons : (first second third : Table Block) (d : Deed) (ys : List Deed) → count second + takes d ≡ count first + adds d → Balances second third ys → Balances first third (d ∷ ys)
  balances-cons first second third d ys one two = omega (arith, one, two, sum_by-cons takes d ys, sum_by-cons adds d ys)

  -- Silent deeds ---------------------------------------------------------------------------------

  abbrev AreSilent : List Deed → Type 0
  AreSilent [] = Unit {0}
  AreSilent (d ∷ deeds) = (is_silent d ≡ true) × AreSilent deeds

  silent-balances : (deeds : List Deed) (old new : Table Block) → AreSilent deeds → count new ≡ count old → Balances old new deeds
  silent-balances [] old new silent same = omega (arith, same)
  silent-balances (d ∷ deeds) old new (here, after) same =
      let (none, nothing) = is.silent d here in
      balances-cons old old new d deeds (omega (arith, none, nothing)) (silent-balances deeds old new after same)

  silent-turns : (deeds : List Deed) → AllByRecursion IsTurn deeds → AreSilent deeds
  silent-turns [] turns = tt
  silent-turns (d ∷ deeds) (turn, turns) = (turn.silent, silent-turns deeds turns)

  silent-references : (m : Marking) (place index : ℕ) (references : List (Option ℕ)) → AreSilent (reference_deeds m place index references)
  silent-references m place index [] = tt
  silent-references m place index (reference ∷ references) = (refl, silent-references (mark_reference m place index reference) place (suc index) references)

  silent-mark : (m : Marking) (grey : List ℕ) → AreSilent (mark_deeds m grey)
  silent-mark m [] = tt
  silent-mark m (place ∷ grey) = (refl, silent-references (record m { grey = grey }) place 0 (references_at m.table place))

  silent-flags : (page : ℕ) (was is : Bool) → AreSilent (flag_deeds page was is)
  silent-flags page false false = tt
  silent-flags page false true = (refl, tt)
  silent-flags page true false = (refl, tt)
  silent-flags page true true = tt

  silent-shades : (places : List ℕ) → AreSilent (map (λ place. Deed.Shade place) places)
  silent-shades [] = tt
  silent-shades (place ∷ places) = (refl, silent-shades places)

  silent-start : (config : Config) (collector : Collector) → AreSilent (start_deeds config collector)
  silent-start config collector = go (is_start_due config collector)
    where
      go : (due : Bool) → AreSilent (if due then Deed.Start (collector.cycle + 1) ∷ Deed.Enter Roots ∷ [] else [])
      go true = (refl, (refl, tt))
      go false = tt

  -- Writes ---------------------------------------------------------------------------------------

  abbrev HasAsMany : Table Block → Table Block → Type 0
  HasAsMany old new = count new ≡ count old

  stamped-same : (table : Table Block) (place : ℕ) (block : Block) (stamp : ℕ) → block_at table place ≡ Some block → HasAsMany table (with_block table place (Some (record block { stamp = stamp })))
  stamped-same table place block stamp at = ap (λ content. count (with_block table place (option_map (λ (b : Block). record b { stamp = stamp }) content))) (sym at) ∙ is.changed table place (λ (b : Block). record b { stamp = stamp }) (λ b. refl)

  as_many : IsKeptByWrites HasAsMany
  as_many = record {
    same = λ table. refl;
    joined = λ first second third one two. two ∙ one;
    stamped = stamped-same;
    referred = λ table place index reference. is.changed table place (λ (b : Block). record b { references = set b.references index reference }) (λ b. refl);
    numbered = λ table place index number. is.changed table place (λ (b : Block). record b { numbers = set b.numbers index number }) (λ b. refl);
  }

  -- Sweep ----------------------------------------------------------------------------------------

  -- what is left of a page in use after its last slot, with its deeds
  judged-balances : (table : Table Block) (number : ℕ) (was : Bool) (swept : Page Block) → page_at table number ≡ Some swept → (content : Option (Page Block)) → ((content ≡ None) × (live_in swept ≡ 0)) ⊎ ((flag : Bool) × (content ≡ Some (flagged_as flag swept)))
      → Balances table (set table number content) (page_deeds number was content)
  judged-balances table number was swept at content (inl (none, empty)) =
      subst (λ c. Balances table (set table number c) (page_deeds number was c)) (sym none) (omega (arith, is.freed table number swept at empty, sum_by-cons takes (Deed.FreePage number) [], sum_by-cons adds (Deed.FreePage number) []))
  judged-balances table number was swept at content (inr (flag, some)) =
      let same : set table number (Some (flagged_as flag swept)) ≡ with_flag table number flag = ap (λ c. set table number (option_map (flagged_as flag) c)) (sym at) in
      subst (λ c. Balances table (set table number c) (page_deeds number was c)) (sym some)
      (silent-balances (flag_deeds number was flag) table (set table number (Some (flagged_as flag swept))) (silent-flags number was flag) (ap count same ∙ is.flagged table number flag))

  judged-case : (cycle : ℕ) (table : Table Block) (number : ℕ) (swept : Page Block) (last : Bool) → let content = if last then judged_page table number swept else Some swept in ((content ≡ None) × (live_in swept ≡ 0)) ⊎ ((flag : Bool) × (content ≡ Some (flagged_as flag swept)))
  judged-case cycle table number swept false = inr (swept.is_flagged, refl)
  judged-case cycle table number swept true = go (live_in swept == 0) refl
    where
      flag : Bool
      flag = nat_le (4 * live_in swept) (length swept.slots) && has_denser table number swept.class_size

      go : (none : Bool) → (live_in swept == 0) ≡ none → let content = if none then None else Some (record swept { is_flagged = flag }) in ((content ≡ None) × (live_in swept ≡ 0)) ⊎ ((f : Bool) × (content ≡ Some (flagged_as f swept)))
      go true empty = inl (refl, eqb-true (live_in swept) 0 empty)
      go false empty = inr (flag, refl)

  -- a slot with its deed
  slot-balances : (cycle : ℕ) (table : Table Block) (place : ℕ) (content : Option Block) → block_at table place ≡ content
      → count (with_block table place (option_and_then (survivor cycle) content)) + takes (Deed.Sweep place (slot_fate cycle content)) ≡ count table + adds (Deed.Sweep place (slot_fate cycle content))
  slot-balances cycle table place None at =
      let (none, nothing) = is.silent (Deed.Sweep place Fate.Empty) refl in
      omega (arith, none, nothing, ap count (ap (with_block table place) (sym at) ∙ with_block-self table place))
  slot-balances cycle table place (Some block) at = go block.forward refl (is_marked cycle block) refl
    where
      swept : Deed
      swept = Deed.Sweep place (block_fate cycle block block.forward)

      kept : is_silent swept ≡ true → survivor cycle block ≡ Some block → count (with_block table place (survivor cycle block)) + takes swept ≡ count table + adds swept
      kept silent stays =
          let (none, nothing) = is.silent swept silent in
          omega (arith, none, nothing, ap (λ c. count (with_block table place c)) stays, ap count (ap (with_block table place) (sym at) ∙ with_block-self table place))

      gone : is_silent swept ≡ false → survivor cycle block ≡ None → count (with_block table place (survivor cycle block)) + takes swept ≡ count table + adds swept
      gone loud goes = omega (arith, ap (λ c. count (with_block table place c)) goes, is.emptied table place cycle block at loud)

      fate_is : (forward : Option ℕ) → block.forward ≡ forward → is_silent swept ≡ is_silent (Deed.Sweep place (block_fate cycle block forward))
      fate_is forward e = ap (λ f. is_silent (Deed.Sweep place (block_fate cycle block f))) e

      survivor_is : (forward : Option ℕ) → block.forward ≡ forward → (marked : Bool) → is_marked cycle block ≡ marked → survivor cycle block ≡ (if is_some forward || not marked then None else Some block)
      survivor_is forward e marked m = ap (λ f. if is_some f || not (is_marked cycle block) then None else Some block) e ∙ ap (λ b. if is_some forward || not b then None else Some block) m

      go : (forward : Option ℕ) → block.forward ≡ forward → (marked : Bool) → is_marked cycle block ≡ marked → count (with_block table place (survivor cycle block)) + takes swept ≡ count table + adds swept
      go (Some target) e marked m = gone (fate_is (Some target) e) (survivor_is (Some target) e marked m)
      go None e true m = kept (fate_is None e ∙ ap (λ b. is_silent (Deed.Sweep place (if b then Fate.Kept (name_of block) else Fate.Freed (name_of block)))) m) (survivor_is None e true m)
      go None e false m = gone (fate_is None e ∙ ap (λ b. is_silent (Deed.Sweep place (if b then Fate.Kept (name_of block) else Fate.Freed (name_of block)))) m) (survivor_is None e false m)

  sweep-balances : (cycle : ℕ) (table : Table Block) (place : ℕ) → Balances table (swept_table cycle table place) (sweep_deeds cycle table place (page_at table (page_number place)))
  sweep-balances cycle table place = go (page_at table (page_number place)) refl
    where
      number : ℕ
      number = page_number place

      go : (content : Option (Page Block)) → page_at table number ≡ content → Balances table (set table number (option_and_then (swept_page cycle table place) content)) (sweep_deeds cycle table place content)
      go None at = silent-balances (Deed.Pass number ∷ []) table (set table number None) (refl, tt) (ap count (ap (set table number) (sym at) ∙ set-get_or table number None))
      go (Some page) at =
          let slot : Option Block = block_in (slot_number place) page in
          let there : block_at table place ≡ slot = ap (option_and_then (block_in (slot_number place))) at in
          let swept : Page Block = page_with (slot_number place) (option_and_then (survivor cycle) slot) page in
          let between : Table Block = set table number (Some swept) in
          let written : with_block table place (option_and_then (survivor cycle) slot) ≡ between = ap (λ c. set table number (option_map (page_with (slot_number place) (option_and_then (survivor cycle) slot)) c)) at in
          let after : Option (Page Block) = swept_page cycle table place page in
          let at_between : page_at between number ≡ Some swept = get_or-set_same table number (Some swept) None (below_length table number page at) in
          let first : count between + takes (Deed.Sweep place (slot_fate cycle slot)) ≡ count table + adds (Deed.Sweep place (slot_fate cycle slot)) =
          subst (λ t. count t + takes (Deed.Sweep place (slot_fate cycle slot)) ≡ count table + adds (Deed.Sweep place (slot_fate cycle slot))) written (slot-balances cycle table place slot there) in
          let rest : Balances between (set between number after) (page_deeds number page.is_flagged after) =
          judged-balances between number page.is_flagged swept at_between after (judged-case cycle table number swept (is_last_slot place page)) in
          balances-cons table between (set table number after) (Deed.Sweep place (slot_fate cycle slot)) (page_deeds number page.is_flagged after) first
          (subst (λ t. Balances between t (page_deeds number page.is_flagged after)) (set-set table number (Some swept) after) rest)

  -- Steps ----------------------------------------------------------------------------------------

  forward-silent : (has_moved : Bool) → AreSilent (forward_deeds has_moved)
  forward-silent true = tt
  forward-silent false = (refl, tt)

  defrag-balances : (collector : Collector) (has_moved : Bool) → HaveTheirSlots collector.table → Balances collector.table (step_in Defrag collector).table (deeds_in Defrag collector has_moved)
  defrag-balances collector has_moved slots = by_page (flagged_page collector.table collector.cursor) refl
    where
      table : Table Block
      table = collector.table

      place : ℕ
      place = collector.cursor

      by_move : (move : Option Move) → next_move table place ≡ move → Balances table (with_move collector move).table (slot_deeds has_moved place move)
      by_move None none = silent-balances (Deed.Stay place ∷ []) table table (refl, tt) refl
      by_move (Some move) some =
          balances-cons table (moved_table table place move) (moved_table table place move) (Deed.Move place move.target (name_of (move.block)) move.class_size) (forward_deeds has_moved)
          (is.moved table place move slots (next_move-is table place move some) (move-free table place move slots some))
          (silent-balances (forward_deeds has_moved) (moved_table table place move) (moved_table table place move) (forward-silent has_moved) refl)

      by_page : (page : Option (Page Block)) → flagged_page table place ≡ page → Balances table (with_move collector (next_move table place)).table (defrag_deeds has_moved table place page)
      by_page None none =
          let stays : next_move table place ≡ None = ap (option_and_then (λ p. option_and_then (move_of table p) (block_in (slot_number place) p))) none in
          subst (λ move. Balances table (with_move collector move).table (Deed.Pass (page_number place) ∷ [])) (sym stays) (silent-balances (Deed.Pass (page_number place) ∷ []) table table (refl, tt) refl)
      by_page (Some page) some = by_move (next_move table place) refl

  step_in-balances : (phase : Phase) (collector : Collector) (has_moved : Bool) → HaveTheirSlots collector.table → Balances collector.table (step_in phase collector).table (deeds_in phase collector has_moved)
  step_in-balances Idle collector has_moved slots = silent-balances [] collector.table collector.table tt refl
  step_in-balances Roots collector has_moved slots = silent-balances (root_deed collector ∷ []) collector.table (step_in Roots collector).table (refl, tt) (shade-each HasAsMany as_many (marking_of collector) (get_or collector.slots collector.cursor None))
  step_in-balances Mark collector has_moved slots = silent-balances (mark_deeds (marking_of collector) collector.grey) collector.table (step_in Mark collector).table (silent-mark (marking_of collector) collector.grey) (mark_first-each HasAsMany as_many (marking_of collector) collector.grey)
  step_in-balances Sweep collector has_moved slots = sweep-balances collector.cycle collector.table collector.cursor
  step_in-balances Defrag collector has_moved slots = defrag-balances collector has_moved slots

  step-balances : (collector : Collector) (has_moved : Bool) → HaveTheirSlots collector.table → Balances collector.table (collector_step collector).table (step_deeds collector has_moved)
  unfolding collector_step step_deeds
  step-balances collector has_moved slots =
      let phase : Phase = collector.phase in
      let after : Collector = step_in phase collector in
      balances-append collector.table after.table (phase_after phase after).table (deeds_in phase collector has_moved) (enter_deeds phase (phase_after phase after).phase) (step_in-balances phase collector has_moved slots)
      (silent-balances (enter_deeds phase (phase_after phase after).phase) after.table (phase_after phase after).table (silent-turns (enter_deeds phase (phase_after phase after).phase) (turns-enter phase (phase_after phase after).phase)) (ap count (table-phase_after phase after)))

  -- Quanta ---------------------------------------------------------------------------------------

  steps-balances : (more left : ℕ) (has_moved : Bool) (collector : Collector) → HaveTheirSlots collector.table → Balances collector.table (steps more left has_moved collector).collector.table (deeds_of_steps more left has_moved collector)
  unfolding steps deeds_of_steps
  steps-balances zero left has_moved collector slots = refl
  steps-balances (suc more) left has_moved collector slots = elim (cases_Bool (is_idle collector.phase || nat_lt left (step_cost collector has_moved))) [
    | inl stops ↦
        subst (λ (s : Spending). Balances collector.table s.collector.table (deeds_of_steps (suc more) left has_moved collector)) (sym (steps-stop more left has_moved collector stops))
        (subst (Balances collector.table collector.table) (sym (deeds-stop more left has_moved collector stops)) refl)
    | inr goes ↦
        let after : Collector = collector_step collector in
        let left_after : ℕ = left - step_cost collector has_moved in
        let moved_after : Bool = has_moved || is_moving collector in
        let rest = steps-balances more left_after moved_after after ((collector_step-keeps 0 collector).slots slots) in
        subst (λ (s : Spending). Balances collector.table s.collector.table (deeds_of_steps (suc more) left has_moved collector)) (sym (steps-go more left has_moved collector goes))
        (subst (Balances collector.table (steps more left_after moved_after after).collector.table) (sym (deeds-go more left has_moved collector goes))
        (balances-append collector.table after.table (steps more left_after moved_after after).collector.table (step_deeds collector has_moved) (deeds_of_steps more left_after moved_after after) (step-balances collector has_moved slots) rest))
  ]

  -- The deeds of a quantum
  pub quantum-balances : (config : Config) (collector : Collector) → HaveTheirSlots collector.table → Balances collector.table (quantum config collector).collector.table (quantum_deeds config collector)
  unfolding quantum quantum_deeds
  quantum-balances config collector slots =
      let begun : Collector = quantum_start config collector in
      let same : begun.table ≡ collector.table = table-quantum_start config collector in
      balances-append collector.table begun.table (steps config.quantum config.quantum false begun).collector.table (start_deeds config collector) (deeds_of_steps config.quantum config.quantum false begun)
      (silent-balances (start_deeds config collector) collector.table begun.table (silent-start config collector) (ap count same))
      (steps-balances config.quantum config.quantum false begun (subst HaveTheirSlots (sym same) slots))

  -- Commands -------------------------------------------------------------------------------------

  linked-same : (places : List ℕ) (list : List Part) (all : List ℕ) (table : Table Block) → count (linked_parts all table places list) ≡ count table
  linked-same [] list all table = refl
  linked-same (place ∷ places) [] all table = refl
  linked-same (place ∷ places) (part ∷ list) all table = linked-same places list all (with_block_change table place (linked_block all part)) ∙ is.changed table place (linked_block all part) (λ b. refl)

  -- the deeds of parts that are made in order
  parts-balances : (list : List Part) (table : Table Block) (birth stamp index : ℕ) (made : MadeParts) → HaveTheirSlots table → made_parts table birth stamp index list ≡ Some made → Balances table made.table (make_deeds table birth stamp index list)
  parts-balances [] table birth stamp index made slots e = omega (arith, ap (λ (m : MadeParts). count m.table) (same_Some (record { places = []; table = table }) made e))
  parts-balances (part ∷ list) table birth stamp index made slots e =
      let first : IsFirst table birth stamp index part list made = first-made table birth stamp index part list made e in
      let class = class_of-class_size (part_words part) first.size first.class in
      let put : Table Block = with_taken table first.size first.place (new_block birth stamp index part) in
      let free : IsFreeFor table first.size first.place = least_place-free table first.size (shaped-slots table slots) (slots_in-class_size first.size class).0 first.place first.least in
      let is_made : made_part table birth stamp index part ≡ Some (record { place = first.place; table = put }) =
      ap (option_and_then (made_in_class table (new_block birth stamp index part))) first.class ∙ ap (option_map (λ place. record { place = place; table = with_taken table first.size place (new_block birth stamp index part) })) first.least in
      subst (Balances table made.table) (sym (make_deeds-more table birth stamp index part list (record { place = first.place; table = put }) is_made))
      (balances-cons table put made.table (made_deed table birth index part first.place) (make_deeds put birth stamp (suc index) list) (is.made table first.size first.place birth stamp index part free)
      (subst (λ t. Balances put t (make_deeds put birth stamp (suc index) list)) first.table_is (parts-balances list put birth stamp (suc index) first.rest (taken-slots table first.size first.place (new_block birth stamp index part) class slots) first.rest_is)))

  group-balances : (list : List Part) (table : Table Block) (birth stamp : ℕ) (made : Made) → HaveTheirSlots table → made_group table birth stamp list ≡ Some made → Balances table made.table (make_deeds table birth stamp 0 list)
  group-balances list table birth stamp made slots e = by_parts (made_parts table birth stamp 0 list) refl e
    where
      by_places : (all : MadeParts) (places : List ℕ) → group_of all.table places list ≡ Some made → count made.table ≡ count all.table
      by_places all [] h = absurd (none-some made h)
      by_places all (place ∷ places) h =
          sym (ap (λ (m : Made). count m.table) (same_Some (record { place = place; table = linked_parts (place ∷ places) all.table (place ∷ places) list }) made h)) ∙ linked-same (place ∷ places) list (place ∷ places) all.table

      by_parts : (all : Option MadeParts) → made_parts table birth stamp 0 list ≡ all → option_and_then (λ (m : MadeParts). group_of m.table m.places list) all ≡ Some made → Balances table made.table (make_deeds table birth stamp 0 list)
      by_parts None is_all h = absurd (none-some made h)
      by_parts (Some all) is_all h = omega (arith, parts-balances list table birth stamp 0 all slots is_all, by_places all all.places h)

  -- the deeds by which an answer came about
  abbrev IsTold : HeapState → Command → Answer HeapState → Type 0
  IsTold heap c answer = Balances heap.collector.table answer.state.collector.table (new_deeds heap c answer.reply ++ barrier_deeds heap.collector.grey answer.state.collector.grey)

  told-alike : (heap : HeapState) (c : Command) (answer : Answer HeapState) → new_deeds heap c answer.reply ≡ [] → count answer.state.collector.table ≡ count heap.collector.table → IsTold heap c answer
  told-alike heap c answer none same =
      let shaded : List ℕ = drop (length heap.collector.grey) answer.state.collector.grey in
      subst (λ deeds. Balances heap.collector.table answer.state.collector.table (deeds ++ barrier_deeds heap.collector.grey answer.state.collector.grey)) (sym none)
      (silent-balances (barrier_deeds heap.collector.grey answer.state.collector.grey) heap.collector.table answer.state.collector.table (silent-shades shaded) same)

  -- a new object that was born
  born-told : (heap : HeapState) (slot references numbers : ℕ) (made : Made) → HaveTheirSlots heap.collector.table → new_group heap references numbers ≡ Some made → IsTold heap (Command.New slot references numbers) (done (with_born heap slot made))
  born-told heap slot references numbers made slots e =
      let placed : Collector = record (heap.collector) { table = made.table } in
      let after : Collector = with_root placed slot (Some made.place) in
      balances-append heap.collector.table made.table after.table (make_deeds heap.collector.table heap.next_birth heap.collector.cycle 0 (parts references numbers)) (barrier_deeds heap.collector.grey after.grey)
      (group-balances (parts references numbers) heap.collector.table heap.next_birth heap.collector.cycle made slots e)
      (silent-balances (barrier_deeds heap.collector.grey after.grey) made.table after.table (silent-shades (drop (length heap.collector.grey) after.grey)) (with_root-each (λ (old new : Collector). HasAsMany old.table new.table) (over_tables HasAsMany as_many) placed slot (Some made.place)))

  new-told : (heap : HeapState) (who slot references numbers : ℕ) → HaveTheirSlots heap.collector.table → (mutator_step heap who (Command.New slot references numbers)).reply ≡ Reply.Done
      → IsTold heap (Command.New slot references numbers) (mutator_step heap who (Command.New slot references numbers))
  new-told heap who slot references numbers slots is_done =
      let born = new-done heap who slot references numbers is_done in
      subst (λ (r : Reply). IsTold heap (Command.New slot references numbers) (says r (mutator_step heap who (Command.New slot references numbers)).state)) (sym is_done)
      (subst (λ (h : HeapState). IsTold heap (Command.New slot references numbers) (done h)) (sym born.state) (born-told heap (own_slot who slot) references numbers born.made slots born.group))

  any-told : (heap : HeapState) (who : ℕ) (c : Command) → makes_none c ≡ true → new_deeds heap c (mutator_step heap who c).reply ≡ [] → IsTold heap c (mutator_step heap who c)
  any-told heap who c none nothing =
      told-alike heap c (mutator_step heap who c) nothing
      (mutator_step-each (λ (old new : Collector). HasAsMany old.table new.table) (over_tables HasAsMany as_many) heap who c
      (λ allowed. heap_effect-each (λ (old new : Collector). HasAsMany old.table new.table) (over_tables HasAsMany as_many) heap who c (λ slot references numbers e. absurd (makes_none-new c slot references numbers none e))))

  -- The deeds of a command
  pub command-balances : (heap : HeapState) (who : ℕ) (c : Command) → HaveTheirSlots heap.collector.table → Balances heap.collector.table (mutator_step heap who c).state.collector.table (command_deeds heap who c)
  unfolding command_deeds heap_effect
  command-balances heap who (Command.New slot references numbers) slots = go (refusal (heap_sight heap) who c) refl
    where
      c : Command
      c = Command.New slot references numbers

      go : (answer : Option Refusal) → refusal (heap_sight heap) who c ≡ answer → IsTold heap c (mutator_step heap who c)
      go None e = new-told heap who slot references numbers slots (ap (λ (a : Answer HeapState). a.reply) (step-is heap who c None e))
      go (Some refused) e = subst (IsTold heap c) (sym (step-is heap who c (Some refused) e)) (told-alike heap c (says (Reply.Refused refused) heap) refl refl)
  command-balances heap who (Command.Get slot source field) slots = any-told heap who (Command.Get slot source field) refl refl
  command-balances heap who (Command.Put slot field value) slots = any-told heap who (Command.Put slot field value) refl refl
  command-balances heap who (Command.Copy slot source) slots = any-told heap who (Command.Copy slot source) refl refl
  command-balances heap who (Command.Clear slot) slots = any-told heap who (Command.Clear slot) refl refl
  command-balances heap who (Command.Read slot index) slots = any-told heap who (Command.Read slot index) refl refl
  command-balances heap who (Command.Write slot index number) slots = any-told heap who (Command.Write slot index number) refl refl
  command-balances heap who (Command.Same left right) slots = any-told heap who (Command.Same left right) refl refl
  command-balances heap who (Command.Shape slot) slots = any-told heap who (Command.Shape slot) refl refl
  command-balances heap who (Command.Post board slot) slots = any-told heap who (Command.Post board slot) refl refl
  command-balances heap who (Command.Take slot board) slots = any-told heap who (Command.Take slot board) refl refl
  command-balances heap who Command.End slots = any-told heap who Command.End refl refl
