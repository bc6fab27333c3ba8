-- A full heap answers no command but a new object, and none that another test refuses.
use Rattle.std.proofs.Common.{◌≡◌, ℕ, if◌then◌else◌, Bool, false, Option, Some, None, List, [], ◌∷◌, get_or, nat_le, sym, ap, ◌∙◌, arith}
use Rattle.std.proofs.lemmas.Bool.{false≢true}
use Rattle.mh_model.specs.{declared.command.Command.Command, declared.reply.Refusal.Refusal}
use Rattle.mh_model.specs.declared.reply.Refusal.TheVariants.{Ended, HeapFull, TooManySessions}
use Rattle.mh_model.specs.declared.reply.Reply.{Reply}
use Rattle.mh_model.specs.World.{Answer, IsNew, first_refusal, never_full, tests, refusal, unless_refused}
use Rattle.mh_model.specs.{Mutator.{HeapState, heap_sight, heap_effect, mutator_step}, Snapshot.is_heap_full}
use Rattle.mh_run_laws.proofs.worlds.FullHeaps.{yes_or_no-other, shape_reply-other}

-- no test is that of a full heap
abbrev NoneIsFull : List (Bool × Refusal) → Type 0
NoneIsFull [] = Unit {0}
NoneIsFull (test ∷ tests) = (is_heap_full (Reply.Refused test.1) ≡ false) × NoneIsFull tests

first-other : (holds : Bool) (first : Refusal) (after : Option Refusal) → is_heap_full (Reply.Refused first) ≡ false → ¬ (after ≡ Some HeapFull) → ¬ ((if holds then Some first else after) ≡ Some HeapFull)
first-other holds first after plain other e = grind arith

none-full : (tests : List (Bool × Refusal)) → NoneIsFull tests → ¬ (first_refusal tests ≡ Some HeapFull)
none-full [] none e = cc
none-full (test ∷ tests) none e = first-other test.0 test.1 (first_refusal tests) none.0 (none-full tests none.1) e

other-answer : (refused : Option Refusal) (heap : HeapState) (answer : Answer HeapState) → ¬ (refused ≡ Some HeapFull) → is_heap_full answer.reply ≡ false → ¬ ((unless_refused refused heap answer).reply ≡ Reply.Refused HeapFull)
other-answer refused heap answer other plain e = grind arith

module _ (heap : HeapState) (who : ℕ) where
  -- all tests of a command, in order
  abbrev tests_of : Command → List (Bool × Refusal)
  tests_of asked = (nat_le 8 who, TooManySessions) ∷ (get_or (heap_sight heap).ended who false, Ended) ∷ tests (heap_sight heap) who asked

  -- a command whose tests and whose effect tell of no full heap
  other-command : (asked : Command) → NoneIsFull (tests_of asked) → is_heap_full (heap_effect heap who asked).reply ≡ false → (mutator_step heap who asked).reply ≡ Reply.Refused HeapFull → IsNew asked
  unfolding mutator_step
  other-command asked others plain e = search (arith, other-answer, none-full)

  -- what a full heap answers is a new object
  pub new-alone : (asked : Command) → (mutator_step heap who asked).reply ≡ Reply.Refused HeapFull → IsNew asked
  unfolding heap_effect
  new-alone asked e = grind (arith, other-command, yes_or_no-other, shape_reply-other)

-- The tests of a new object ----------------------------------------------------------------------

refused-other : (refused : Refusal) (heap : HeapState) (answer : Answer HeapState) → is_heap_full (Reply.Refused refused) ≡ false → ¬ ((unless_refused (Some refused) heap answer).reply ≡ Reply.Refused HeapFull)
refused-other refused heap answer plain e = false≢true (sym plain ∙ ap is_heap_full e)

-- what a full heap refuses, no other test refuses
pub full-alone : (heap : HeapState) (who slot references numbers : ℕ) → (mutator_step heap who (Command.New slot references numbers)).reply ≡ Reply.Refused HeapFull
    → refusal (record (heap_sight heap) { is_full = never_full }) who (Command.New slot references numbers) ≡ None
unfolding mutator_step
full-alone heap who slot references numbers e = grind arith
