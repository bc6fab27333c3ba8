-- Auxiliary definitions: what loops, private functions and the insides of types keep. No public contract depends on them.
use Rattle.std.specs.Prelude.{ℕ, Bool, List, [], ◌∷◌, ◌≡◌}
use Rattle.mh_model.specs.{declared.config.Config.Config, declared.cycle.Phase.Phase, declared.deed.Deed.Deed}
use Rattle.mh_model.specs.{declared.command.Command.Command, Collector.{Collector, collector_step, quantum}}
use Rattle.mh_model.specs.{Mutator.{HeapState, mutator_step}, Deeds.{step_deeds, quantum_deeds, command_deeds}}
use Rattle.mh_model.specs.Invariant.{IsKeeping, IsSteady}
use Rattle.mh_tell_laws.specs.{Cycles.phase_after_deed, Picture.{picture_of, drawn_all}}

abbrev pub phase_after_deeds : Phase → List Deed → Phase
phase_after_deeds phase [] = phase
phase_after_deeds phase (deed ∷ deeds) = phase_after_deeds (phase_after_deed phase deed) deeds

-- The deeds of a step of a steady collector draw the picture after it, whether the quantum has moved a block or not
abbrev pub StepsTellThePicture : Type 0
StepsTellThePicture = (collector : Collector) (has_moved : Bool) → IsSteady collector → picture_of (collector_step collector) ≡ drawn_all (picture_of collector) (step_deeds collector has_moved)

-- The deeds of a quantum of a steady collector draw the picture after it, in whatever phase it is entered
abbrev pub QuantaTellThePicture : Type 0
QuantaTellThePicture = (config : Config) (collector : Collector) → IsSteady collector → picture_of (quantum config collector).collector ≡ drawn_all (picture_of collector) (quantum_deeds config collector)

-- The deeds of a command of a session on a kept heap draw the picture after it, also if it is refused
abbrev pub CommandsTellThePicture : Type 0
CommandsTellThePicture = (heap : HeapState) (who : ℕ) (command : Command) → IsKeeping heap → picture_of (mutator_step heap who command).state.collector ≡ drawn_all (picture_of heap.collector) (command_deeds heap who command)
