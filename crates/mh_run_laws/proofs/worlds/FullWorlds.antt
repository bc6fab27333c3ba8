-- What a full heap refuses, and no other test does, the ever-growing world makes.
use Rattle.std.proofs.Common.{◌≡◌, ◌∙◌, ℕ, None, refl, arith}
use Rattle.mh_model.specs.{declared.command.Command.Command, declared.reply.Reply.Reply}
use Rattle.mh_model.specs.World.{Sight, World, heap_step, most_fields, never_full, refusal, sight_of, world_step}
use Rattle.mh_model.specs.{Mutator.{HeapState, heap_sight}, Paths.Agrees, View.heap_view}

-- the tests of a new object look at no slot
refused-alike : (sight other : Sight) (who slot references numbers : ℕ) → sight.most ≡ other.most → sight.is_full ≡ other.is_full → sight.ended ≡ other.ended
    → refusal sight who (Command.New slot references numbers) ≡ refusal other who (Command.New slot references numbers)
refused-alike sight other who slot references numbers most full ended = rw (most, full, ended) refl

most-shown : (heap : HeapState) → (heap_sight heap).most ≡ most_fields (heap_view heap).config
unfolding heap_view
most-shown heap = refl

ended-shown : (heap : HeapState) → (heap_sight heap).ended ≡ (heap_view heap).ended
unfolding heap_view
ended-shown heap = refl

made-unrefused : (world : World) (who slot references numbers : ℕ) → refusal (sight_of never_full world) who (Command.New slot references numbers) ≡ None → (world_step world who (Command.New slot references numbers)).reply ≡ Reply.Done
unfolding heap_step
made-unrefused world who slot references numbers none = grind arith

-- the world refuses a new object by the same tests as the heap, but for that of its fullness
pub tested_by_the_world : (heap : HeapState) (world : World) → Agrees (heap_view heap) world → (who slot references numbers : ℕ)
    → refusal (sight_of never_full world) who (Command.New slot references numbers) ≡ refusal (record (heap_sight heap) { is_full = never_full }) who (Command.New slot references numbers)
tested_by_the_world heap world agrees who slot references numbers = grind (arith, refused-alike, most-shown, ended-shown)

-- a new object that no test of the heap refuses but that of its fullness, the world doesn't refuse
pub unrefused_by_the_world : (heap : HeapState) (world : World) → Agrees (heap_view heap) world → (who slot references numbers : ℕ) → refusal (record (heap_sight heap) { is_full = never_full }) who (Command.New slot references numbers) ≡ None
    → refusal (sight_of never_full world) who (Command.New slot references numbers) ≡ None
unrefused_by_the_world heap world agrees who slot references numbers none = tested_by_the_world heap world agrees who slot references numbers ∙ none

-- so the world makes it
pub made_by_the_world : (heap : HeapState) (world : World) → Agrees (heap_view heap) world → (who slot references numbers : ℕ) → refusal (record (heap_sight heap) { is_full = never_full }) who (Command.New slot references numbers) ≡ None
    → (world_step world who (Command.New slot references numbers)).reply ≡ Reply.Done
made_by_the_world heap world agrees who slot references numbers none = grind (arith, made-unrefused, unrefused_by_the_world)
