-- A heap that may be full, beside the ever-growing world: its replies but a full heap are the world's, and it goes on agreeing with the world that wasn't given what was answered so.
use Rattle.std.proofs.Common.{◌≡◌, ℕ, Bool, true, false, not, ◌&&◌, if◌then◌else◌, ◌⊎◌, List, [], ◌∷◌, Option, Some, get_or, nat_le, sym, ap, ◌∙◌, arith}
use Rattle.std.proofs.{lemmas.Bool.{and_parts, not-true}, lemmas.Option.none-some}
use Rattle.std.specs.List.{list_all}
use Rattle.mh_model.specs.{declared.command.Command.Command, declared.command.Event.Event, declared.shape.Shape.Shape}
use Rattle.mh_model.specs.declared.reply.Refusal.{Refusal}
use Rattle.mh_model.specs.declared.reply.Refusal.TheVariants.{HeapFull, Ended, TooManySessions}
use Rattle.mh_model.specs.declared.reply.Reply.{Reply}
use Rattle.mh_model.specs.World.{World, first_refusal, tests, yes_or_no, shape_reply, effect, says, sight_of, heap_step, never_full, world_step}
use Rattle.mh_model.specs.{Paths.Agrees, Snapshot.{is_heap_full, world_beside_event}}
use Rattle.mh_run_laws.proofs.worlds.Agreement.{heap_step-agrees, heap_step-reply}

heap_step-full : (is_full : ℕ → ℕ → Bool) (world : World) (who : ℕ) (command : Command)
    → (heap_step is_full world who command ≡ says (Reply.Refused HeapFull) world) ⊎ (heap_step is_full world who command ≡ world_step world who command)
unfolding heap_step
heap_step-full is_full world who command = grind arith

-- The world is never full ------------------------------------------------------------------------

abbrev is_fullness : Refusal → Bool
is_fullness HeapFull = true
is_fullness _ = false

-- no test that holds refuses with a full heap
abbrev are_others : List (Bool × Refusal) → Bool
are_others = list_all (λ test. not (is_fullness test.1 && test.0))

first_refusal-others : (all : List (Bool × Refusal)) → are_others all ≡ true → (refused : Refusal) → first_refusal all ≡ Some refused → is_fullness refused ≡ false
first_refusal-others [] others refused e = absurd (none-some refused e)
first_refusal-others (test ∷ all) others refused e =
    let (here, after) = and_parts (not (is_fullness test.1 && test.0)) (are_others all) others in
    go test.0 (not-true (is_fullness test.1 && test.0) here) e (λ h. first_refusal-others all after refused h)
  where
    go : (b : Bool) → (is_fullness test.1 && b) ≡ false → (if b then Some test.1 else first_refusal all) ≡ Some refused → (first_refusal all ≡ Some refused → is_fullness refused ≡ false) → is_fullness refused ≡ false
    go b other h ih = grind arith

tests-others : (world : World) (who : ℕ) (command : Command) → are_others ((nat_le 8 who, TooManySessions) ∷ (get_or world.ended who false, Ended) ∷ tests (sight_of never_full world) who command) ≡ true
tests-others world who asked = grind arith

pub yes_or_no-other : (answer : Bool) → is_heap_full (yes_or_no answer) ≡ false
yes_or_no-other answer = grind arith

pub shape_reply-other : (shape : Option Shape) → is_heap_full (shape_reply shape) ≡ false
shape_reply-other shape = grind arith

effect-other : (world : World) (who : ℕ) (command : Command) → is_heap_full (effect world who command).reply ≡ false
effect-other world who asked = grind arith

refused-other : (refused : Refusal) → is_fullness refused ≡ false → is_heap_full (Reply.Refused refused) ≡ false
refused-other other e = grind arith

-- The ever-growing world never answers that the heap is full
pub world_step-never_full : (world : World) (who : ℕ) (command : Command) → is_heap_full (world_step world who command).reply ≡ false
unfolding heap_step
world_step-never_full world who command = search (arith, effect-other, refused-other, first_refusal-others, nat_le, tests-others)

-- One command ------------------------------------------------------------------------------------

-- A command on a view that agrees with the world keeps agreement with the world that isn't given what a full heap refuses
pub heap_step-beside : (is_full : ℕ → ℕ → Bool) (view world : World) → Agrees view world → (who : ℕ) (command : Command)
    → Agrees (heap_step is_full view who command).state (world_beside_event world (Event.Session who command) (heap_step is_full view who command).reply)
heap_step-beside is_full view world agrees who command =
    let same : (heap_step is_full view who command).reply ≡ (heap_step is_full world who command).reply = heap_step-reply view world agrees is_full who command in
    let kept = heap_step-agrees view world agrees is_full who command in
    rw same (go (heap_step-full is_full world who command) kept)
  where
    go : (heap_step is_full world who command ≡ says (Reply.Refused HeapFull) world) ⊎ (heap_step is_full world who command ≡ world_step world who command)
        → Agrees (heap_step is_full view who command).state (heap_step is_full world who command).state
        → Agrees (heap_step is_full view who command).state (world_beside_event world (Event.Session who command) (heap_step is_full world who command).reply)
    go is kept = grind (arith, world_step-never_full)

-- and what it answers is what the world does, unless the heap is full
pub heap_step-answers : (is_full : ℕ → ℕ → Bool) (view world : World) → Agrees view world → (who : ℕ) (command : Command)
    → is_heap_full (heap_step is_full view who command).reply ≡ false → (heap_step is_full view who command).reply ≡ (world_step world who command).reply
heap_step-answers is_full view world agrees who command other =
    let same : (heap_step is_full view who command).reply ≡ (heap_step is_full world who command).reply = heap_step-reply view world agrees is_full who command in
    same ∙ go (heap_step-full is_full world who command) (ap is_heap_full (sym same) ∙ other)
  where
    go : (heap_step is_full world who command ≡ says (Reply.Refused HeapFull) world) ⊎ (heap_step is_full world who command ≡ world_step world who command)
        → is_heap_full (heap_step is_full world who command).reply ≡ false → (heap_step is_full world who command).reply ≡ (world_step world who command).reply
    go is no_place = grind arith
