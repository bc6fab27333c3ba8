-- How a race that read its script may end, and that of a text that is too long the same is written whatever comes after.
use Rattle.std.proofs.Common.{◌≡◌, ◌∙◌, ◌<◌, [], ◌++◌, length, length-append, refl, sym, subst, inr, append-nil, arith}
use Rattle.std.specs.Prelude.{Result, Ok, Err, IsErrAnd}
use Rattle.mh_model.specs.{Bytes.Text, Script.{Meaning, BadLine, Means, reading}}
use Rattle.mh_model.proofs.ScriptLemmas.{reading_long}
use Rattle.mh_machine.specs.declared.machine.Stop.{Stop}
use Rattle.mh_text.specs.Devices.{Device, Takes}
use Rattle.mh_script.specs.{declared.end.End.End, declared.end.End.TheVariants.{Done, Refused}}
use Rattle.mh_script.specs.declared.fault.ScriptFault.{ScriptFault}
use Rattle.mh_script.specs.declared.fault.ScriptFault.TheVariants.{Read, Write, NoMemory, HistoryFull}
use Rattle.mh_script.specs.{declared.fault.WriteError.WriteError, Tasks.IsPerformed}
use Rattle.mh_script.specs.Texts.{IsStopFault, IsWriteFault, IsWriting}
use Rattle.mh_judge.proofs.PerformedLemmas.{performed-part}
use Rattle.mh_script.proofs.RunLemmas.{reason-long, runs_short}
use Rattle.mh_race_text.specs.Raced.{IsBegunRace, IsRaceOf, IsRaceOutput}

module _ (text : Text) {script : Meaning} (is : reading text ≡ Means script) {out : Text} (begun : IsBegunRace (Means script) out) where
  begun_of : IsBegunRace (reading text) out
  begun_of = subst (λ r. IsBegunRace r out) (sym is) begun

  -- a fault of the sink, or refused memory
  pub race_fails : (error : WriteError) {sink sink' : Device} (r : Result End ScriptFault) → IsErrAnd r (IsWriteFault error) → IsWriting {X = Unit {0}} sink sink' out (Err error) → IsPerformed IsRaceOutput sink sink' r text
  race_fails error r told wrote = performed-part {error = error} out r told wrote (λ _. begun_of) (λ _. (inr (script, is), begun_of))

  -- some seat was stopped, and what was done is written
  pub race_stops : (stop : Stop) {fault : ScriptFault} {sink sink' : Device} → IsStopFault stop fault → (stop ≡ Stop.HistoryFull → IsRaceOutput text (Err HistoryFull) out) → Takes sink sink' out → IsPerformed IsRaceOutput sink sink' (Err fault) text
  race_stops Stop.HistoryFull told full wrote = rw told (record { written = out; does = full refl; wrote = wrote })
  race_stops Stop.NoMemory told full wrote = rw told (record { written = out; does = (inr (script, is), begun_of); wrote = record { bytes = (out, [], append-nil out, wrote.bytes); works = wrote.works } })

module _ (text rest : Text) (long : 67108864 < length text) where
  bad : reading text ≡ BadLine 0
  bad = reading_long text long

  bad' : reading (text ++ rest) ≡ BadLine 0
  bad' = reading_long (text ++ rest) (omega (arith, long, length-append text rest))

  no_race : {Holds : Meaning → Type 0} → IsRaceOf text Holds → ⊥
  no_race (script, is, holds) = let other : BadLine 0 ≡ Means script = sym bad ∙ is in cc

  begun_long : (out : Text) → IsBegunRace (reading text) out → IsBegunRace (reading (text ++ rest)) out
  begun_long out = subst (λ r. IsBegunRace r out) (bad ∙ sym bad')

  pub race_long : (ended : Result End ScriptFault) (out : Text) → IsRaceOutput text ended out → IsRaceOutput (text ++ rest) ended out
  race_long (Ok Done) out h = absurd (no_race h)
  race_long (Ok (Refused refusal)) out (is, reason, out_is) =
      let same : BadLine 0 ≡ BadLine refusal.line = sym bad ∙ is in
      let none : refusal.line ≡ 0 = cc in
      (bad' ∙ same, reason-long text rest refusal.line refusal.reason none long reason, out_is)
  race_long (Err HistoryFull) out h = absurd (no_race h)
  race_long (Err NoMemory) out (takes, begun) = absurd (omega (arith, long, runs_short text takes))
  race_long (Err Write) out h = begun_long out h
  race_long (Err Read) out h = absurd h
