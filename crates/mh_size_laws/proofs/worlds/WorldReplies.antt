-- A run that is never full is answered as the ever-growing world answers all its commands.
use Rattle.std.proofs.Common.{◌≡◌, false, if◌then◌else◌, List, [], ◌∷◌, ◌++◌, refl, subst, arith}
use Rattle.std.specs.List.{AllByRecursion}
use Rattle.mh_model.specs.{declared.command.Event.Event, declared.config.Config.Config, World.world_step}
use Rattle.mh_model.specs.Machine.{event_step, machine_replies}
use Rattle.mh_model.specs.Snapshot.{Moment, first_moment, is_heap_full, half_moment, next_moment, moment_after}
use Rattle.mh_model.specs.Intervals.{AnswerAsTheWorld}
use Rattle.mh_run_laws.proofs.{following.AllCommands.commands-follow, runs.FaithfulMoments.replies-worlds}
use Rattle.mh_size_laws.specs.Worlds.{NeverFullIsTheWorld}

moment_after-more : (before : List Event) (event : Event) (moment : Moment) → moment_after moment (before ++ event ∷ []) ≡ next_moment (moment_after moment before) event
unfolding moment_after
moment_after-more [] event moment = refl
moment_after-more (first ∷ before) event moment = moment_after-more before event (next_moment moment first)

module _ (config : Config) where
  -- the events from a moment on are answered as by its world
  abbrev AnswersAs : List Event → Moment → Type 0
  AnswersAs events moment = AllByRecursion (λ answer. is_heap_full answer ≡ false) (machine_replies moment.machine events) → AnswerAsTheWorld moment.world events (machine_replies moment.machine events)

  answers : (events before : List Event) → AnswersAs events (moment_after (first_moment config) before)
  unfolding machine_replies next_moment half_moment
  answers [] before never = tt
  answers (Event.Session who command ∷ events) before never =
      let moment : Moment = moment_after (first_moment config) before in
      let same = replies-worlds commands-follow config before who command never.0 in
      let next = subst (AnswersAs events) (moment_after-more before (Event.Session who command) (first_moment config)) (answers events (before ++ Event.Session who command ∷ [])) in
      (same, subst (λ full. AnswerAsTheWorld (if full then moment.world else (world_step moment.world who command).state) events (machine_replies (event_step moment.machine (Event.Session who command)).state events)) never.0 (next never.1))
  answers (Event.Control control ∷ events) before never = grind (arith, moment_after-more, answers events (before ++ Event.Control control ∷ []))

-- A run that is never full is the world's
pub never-full-world : NeverFullIsTheWorld
unfolding moment_after
never-full-world config events never = answers config events [] never.replies
