-- The steps of a new object and of a session's end, from what their tests let through. `search` finds those of the other commands.
use Rattle.std.proofs.Common.{◌≡◌, ℕ, ◌+◌, ◌*◌, Bool, true, false, Some, List, [], ◌∷◌, Ok, get_or, set, nat_le, nat_lt, refl, sym, ap, ◌∙◌, subst, arith}
use Rattle.std.proofs.lemmas.Grind.{common_steps}
use Rattle.mh_model.specs.{declared.config.Config.Config, declared.reply.Refusal.Refusal}
use Rattle.mh_model.specs.declared.reply.Refusal.TheVariants.{BadSlot, Ended, TooLarge, TooManySessions}
use Rattle.mh_model.specs.{World.{done, is_bad, most_fields, own_slot}, Classes.{Part, parts}, Table.{Made, made_group}}
use Rattle.mh_model.specs.Mutator.{HeapState, new_group, with_root, with_roots_cleared}
use Rattle.mh_model.specs.{declared.command.Command.Command, declared.reply.Reply.Reply}
use Rattle.mh_laws.specs.Commands.{CommandsAreAnswered}
use Rattle.mh_cycle.specs.State.{CycleState, state_with_collector}
use Rattle.mh_heap.specs.Checks.{tested}
use Rattle.mh_paged.specs.{Kept.Steps, Auxiliary.heap_of}

-- a value that passed its one test
pub record IsPassed {T : Type 0} (test : Bool) (value result : T) : Type 0 where
  pub passed : test ≡ false
  pub same : result ≡ value

is-passed : {T : Type 0} (test : Bool) (refusal : Refusal) (value result : T) → Ok result ≡ tested ((test, refusal) ∷ []) value → IsPassed test value result
is-passed test refusal value result in_test = record { passed = grind (arith, common_steps); same = grind (arith, common_steps) }

module _ (cycle : CycleState) (birth : ℕ) (ended : List Bool) where
  -- the parts of an object that isn't too large are made as a group
  pub made-group : (config : Config) (references numbers : ℕ) (all : List Part) (made : Made) → Ok all ≡ tested ((nat_lt (most_fields config) (references + numbers), TooLarge) ∷ []) (parts references numbers)
      → made_group cycle.collector.table birth cycle.collector.cycle all ≡ Some made → new_group (heap_of cycle birth ended) references numbers ≡ Some made
  made-group config references numbers all made in_all is = subst (λ l. made_group cycle.collector.table birth cycle.collector.cycle l ≡ Some made) (is-passed _ _ _ _ in_all).same is

  module _ (law : CommandsAreAnswered) (who session : ℕ) (in_session : Ok session ≡ tested ((nat_le 8 who, TooManySessions) ∷ (get_or ended who false, Ended) ∷ []) who) where
    same : session ≡ who
    same = grind (arith, common_steps)

    few : nat_le 8 who ≡ false
    few = grind (arith, common_steps)

    runs : get_or ended who false ≡ false
    runs = grind (arith, common_steps)

    pub born-steps : (config : Config) (slot references numbers root place : ℕ) (all : List Part) (made new : CycleState) → config ≡ cycle.config → Ok root ≡ tested ((is_bad slot, BadSlot) ∷ []) (own_slot session slot)
        → Ok all ≡ tested ((nat_lt (most_fields config) (references + numbers), TooLarge) ∷ []) (parts references numbers)
        → made_group cycle.collector.table birth cycle.collector.cycle all ≡ Some (record { place = place; table = made.collector.table })
        → made ≡ state_with_collector cycle (record (cycle.collector) { table = made.collector.table }) → new ≡ state_with_collector made (with_root made.collector root (Some place))
        → Steps (heap_of cycle birth ended) who (Command.New slot references numbers) Reply.Done (heap_of new (birth + 1) ended)
    born-steps config slot references numbers root place all made new config_is in_slot in_all is table written =
        let to = is-passed _ _ _ _ in_slot in
        let small = rw config_is at (is-passed _ _ _ _ in_all).passed in
        rw (written, table, to.same, same) (law.born (heap_of cycle birth ended) who slot references numbers (record { place = place; table = made.collector.table }) (rw (few, runs, to.passed, small) refl) (made-group config references numbers all _ in_all is))

    abbrev ended_at : ℕ → ℕ → HeapState
    ended_at first session = record (heap_of cycle birth ended) { collector = with_roots_cleared cycle.collector first 16; ended = set ended session true }

    pub end-steps : (new : CycleState) → new ≡ state_with_collector cycle (with_roots_cleared cycle.collector (session * 16) 16) → Steps (heap_of cycle birth ended) who Command.End Reply.Done (heap_of new birth (set ended session true))
    end-steps new cleared =
        let first : own_slot who 0 ≡ session * 16 = omega (arith, same) in
        rw cleared (law.ended (heap_of cycle birth ended) who (rw (few, runs) refl) ∙ ap (λ n. done (ended_at n who)) first ∙ ap (λ n. done (ended_at (session * 16) n)) (sym same))
