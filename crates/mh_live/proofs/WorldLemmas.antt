-- Which new objects a world makes.
use Rattle.std.proofs.Common.{◌≡◌, ◌↔◌, ℕ, Bool, true, false, IsTrue, Option, Some, None, is_some, not, sym, refl, subst}
use Rattle.std.proofs.lemmas.Bool.{false≢true}
use Rattle.mh_model.specs.declared.reply.Refusal.{Refusal}
use Rattle.mh_model.specs.World.{IsNew, World, effect, heap_step, never_full, refusal, sight_of, unless_refused, world_step}
use Rattle.mh_model.specs.{declared.command.Command.Command, declared.reply.Reply.Reply}

-- those that it refuses for no reason
pub makes_unrefused : (refused : Option Refusal) (makes : Bool) (world : World) (who slot references numbers : ℕ) → is_some refused ≡ not makes → refused ≡ refusal (sight_of never_full world) who (Command.New slot references numbers)
    → IsTrue makes ↔ IsNew (Command.New slot references numbers) × ((world_step world who (Command.New slot references numbers)).reply ≡ Reply.Done)
unfolding heap_step
makes_unrefused refused makes world who slot references numbers unless is =
    subst (λ (found : Option Refusal). IsTrue makes ↔ Unit {0} × ((unless_refused found world (effect world who (Command.New slot references numbers))).reply ≡ Reply.Done)) is (by refused makes unless)
  where
    by : (found : Option Refusal) (makes : Bool) → is_some found ≡ not makes
        → IsTrue makes ↔ Unit {0} × ((unless_refused found world (effect world who (Command.New slot references numbers))).reply ≡ Reply.Done)
    by None true unless = (λ _. (tt, refl), λ _. refl)
    by None false unless = absurd (false≢true unless)
    by (Some other) true unless = absurd (false≢true (sym unless))
    by (Some other) false unless = (λ made. absurd (false≢true made), λ done. let never = done.1 in cc)
