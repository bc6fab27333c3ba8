-- The deeds of a quantum draw the picture after it.
use Rattle.std.proofs.Common.{◌≡◌, ℕ, zero, suc, ◌-◌, nat_lt, Bool, true, false, ◌||◌, inl, inr, List, [], ◌++◌, refl, sym, ap, ◌∙◌, arith}
use Rattle.std.proofs.lemmas.Bool.{cases_Bool}
use Rattle.mh_model.specs.{declared.config.Config.Config, declared.deed.Deed.Deed}
use Rattle.mh_model.specs.Collector.{Collector, Spending, collector_step, step_cost, is_moving, is_idle, quantum_start, steps, quantum}
use Rattle.mh_model.specs.{Deeds.{step_deeds, deeds_of_steps, start_deeds, quantum_deeds}, Invariant.IsSteady}
use Rattle.mh_laws.proofs.{costs.Quanta.{steps-stop, steps-go}, costs.QuantumStarts.begins}
use Rattle.mh_laws.proofs.snapshots.SteadyStates.{collectors-steady}
use Rattle.mh_tell_laws.specs.{Picture.{picture_of, drawn_all}, Auxiliary.QuantaTellThePicture}
use Rattle.mh_tell_laws.proofs.picture.{ShadingLemmas.drawn_all-append, StepLemmas.steps-tell}

-- steps stop, or one is taken
deeds-stop : (more left : ℕ) (has_moved : Bool) (collector : Collector) → (is_idle collector.phase || nat_lt left (step_cost collector has_moved)) ≡ true → deeds_of_steps (suc more) left has_moved collector ≡ []
unfolding deeds_of_steps
deeds-stop more left has_moved collector stops = rw (stops, deeds_of_steps)

deeds-go : (more left : ℕ) (has_moved : Bool) (collector : Collector) → (is_idle collector.phase || nat_lt left (step_cost collector has_moved)) ≡ false
    → deeds_of_steps (suc more) left has_moved collector ≡ step_deeds collector has_moved ++ deeds_of_steps more (left - step_cost collector has_moved) (has_moved || is_moving collector) (collector_step collector)
unfolding deeds_of_steps
deeds-go more left has_moved collector goes = rw (goes, deeds_of_steps)

steps-drawn : (more left : ℕ) (has_moved : Bool) (collector : Collector) → IsSteady collector → picture_of (steps more left has_moved collector).collector ≡ drawn_all (picture_of collector) (deeds_of_steps more left has_moved collector)
unfolding steps deeds_of_steps
steps-drawn zero left has_moved collector steady = refl
steps-drawn (suc more) left has_moved collector steady = elim (cases_Bool (is_idle collector.phase || nat_lt left (step_cost collector has_moved))) [
  | inl stops ↦ ap (λ (s : Spending). picture_of s.collector) (steps-stop more left has_moved collector stops) ∙ ap (drawn_all (picture_of collector)) (sym (deeds-stop more left has_moved collector stops))
  | inr goes ↦
      let after : Collector = collector_step collector in
      let left_after : ℕ = left - step_cost collector has_moved in
      let moved_after : Bool = has_moved || is_moving collector in
      let rest : List Deed = deeds_of_steps more left_after moved_after after in
      grind (arith, steps-go, steps-tell, drawn_all-append, deeds-go, steps-drawn more left_after moved_after after (collectors-steady.steps collector steady))
]

-- a cycle that starts, or none
start-drawn : (config : Config) (collector : Collector) → IsSteady collector → picture_of (quantum_start config collector) ≡ drawn_all (picture_of collector) (start_deeds config collector)
start-drawn config collector is = grind (arith, begins)

-- The deeds of a quantum
pub quanta-tell : QuantaTellThePicture
unfolding quantum quantum_deeds
quanta-tell config collector steady =
    steps-drawn config.quantum config.quantum false (quantum_start config collector) (collectors-steady.starts config collector steady)
    ∙ ap (λ picture. drawn_all picture (deeds_of_steps config.quantum config.quantum false (quantum_start config collector))) (start-drawn config collector steady)
    ∙ sym (drawn_all-append (start_deeds config collector) (deeds_of_steps config.quantum config.quantum false (quantum_start config collector)) (picture_of collector))
