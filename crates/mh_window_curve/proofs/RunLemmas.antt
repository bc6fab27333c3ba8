-- The machine after events, one by one, whose trace is short.
use Rattle.std.proofs.Common.{◌≡◌, ◌∙◌, ℕ, ◌+◌, ◌*◌, ◌<◌, ◌≤◌, List, [], length, take, get_or, inl, inr, refl, ap, sym, subst, arith}
use Rattle.std.proofs.{Math.Nat.mul-le-mul, lemmas.List.{take_all, take_more}}
use Rattle.std.specs.Prelude.{Option, Some, None, IsErrAnd, Result, Ok, Err}
use Rattle.mh_model.specs.{declared.birth.TheConstants.LIFE, declared.command.Event.Event}
use Rattle.mh_model.specs.{declared.config.Config.Config, declared.config.Rules.Rules, Bytes.Text, Configs.with_rules}
use Rattle.mh_model.specs.{Limits.most_entries, Script.Meaning}
use Rattle.mh_model.specs.Machine.{Machine, event_step, first_machine, machine_after}
use Rattle.mh_orders.specs.declared.curve.CurveOptions.{CurveOptions}
use Rattle.mh_text.specs.{Devices.Device, declared.stream.ReadError.ReadError}
use Rattle.mh_script.specs.{declared.end.End.End, declared.fault.ScriptFault.ScriptFault}
use Rattle.mh_script.specs.declared.fault.ScriptFault.TheVariants.{Read, Write, NoMemory, HistoryFull}
use Rattle.mh_script.specs.{Run.IsTranscript, Tasks.{IsDone, IsWritten}, Texts.IsReadFault}
use Rattle.mh_window_curve.specs.{declared.end.CurveEnd.CurveEnd, declared.promises.PromiseJudgement.PromiseJudgement}
use Rattle.mh_window_curve.specs.Runs.{IsCurveOutput, IsDrawingRun, IsFoundOfRun, curve_run}
use Rattle.mh_window_curve.specs.Auxiliary.{IsEndOf, IsFoundIf}
use Rattle.mh_run_laws.proofs.runs.RunsByEvents.{after_more}
use Rattle.mh_run_laws.specs.Bounds.{RunsStayWithinTheirEvents, most_letters}

pub after_none : (first : Machine) → first ≡ machine_after first []
unfolding machine_after
after_none first = refl

pub after_one : (first : Machine) (events : List Event) (i : ℕ) (default : Event) (machine machine' : Machine) → i < length events → machine ≡ machine_after first (take i events) → machine' ≡ (event_step machine (get_or events i default)).state
    → machine' ≡ machine_after first (take (i + 1) events)
after_one first events i default machine machine' there is steps =
    let event : Event = get_or events i default in
    steps ∙ (ap (λ (m : Machine). (event_step m event).state) is ∙ (sym (after_more.event first (take i events) event) ∙ ap (machine_after first) (sym (take_more events i default there))))

pub after_all : (first : Machine) (events : List Event) (i : ℕ) (machine : Machine) → length events ≤ i → machine ≡ machine_after first (take i events) → machine ≡ machine_after first events
after_all first events i machine end is = is ∙ ap (machine_after first) (take_all i events end)

-- the trace of a run of a history is short
pub short_run : RunsStayWithinTheirEvents → (config : Config) (events : List Event) → length events ≤ most_entries → length (machine_after (first_machine config) events).trace.letters < LIFE
unfolding most_entries
short_run law config events few =
    let machine : Machine = machine_after (first_machine config) events in
    let within = law.after_events config events in
    let letters : length events * most_letters machine.heap.config ≤ 1000000 * 1003661 = mul-le-mul few (law.few machine.heap.config) in
    omega (arith, within.letters, letters)

-- Curves -----------------------------------------------------------------------------------------

module _ (options : CurveOptions) (rules : Rules) where
  -- a run that was written as its curve, if this was found
  abbrev IsFound : Option PromiseJudgement → Text → Result End ScriptFault → Text → Type 0
  IsFound found = IsTranscript (λ _. curve_run options.form) rules (λ config events. IsFoundOfRun options.promises config events found)

  ends_so : (found : Option PromiseJudgement) (ended : Result End ScriptFault) (ended' : Result CurveEnd ScriptFault) → IsEndOf ended found ended' → (text out : Text) → IsFound found text ended out → IsCurveOutput options rules text ended' out
  ends_so (Some judgement) (Ok End.Done) ended' is text out wrote = subst (λ e. IsCurveOutput options rules text e out) (sym is) (wrote.output.0, (wrote.output.1, wrote.leaves))
  ends_so (Some judgement) (Err HistoryFull) ended' is text out wrote = subst (λ e. IsCurveOutput options rules text e out) (sym is) (wrote.output.0, (wrote.output.1, wrote.leaves))
  ends_so None (Ok End.Done) ended' is text out wrote = absurd is
  ends_so None (Err HistoryFull) ended' is text out wrote = absurd is
  ends_so found (Ok (End.Refused refusal)) ended' is text out wrote = subst (λ e. IsCurveOutput options rules text e out) (sym is) (wrote.output.0, wrote.output.1)
  ends_so found (Err Read) ended' is text out wrote = subst (λ e. IsCurveOutput options rules text e out) (sym is) (wrote.output.0, wrote.output.1)
  ends_so found (Err Write) ended' is text out wrote = subst (λ e. IsCurveOutput options rules text e out) (sym is) (wrote.output.0, wrote.output.1)
  ends_so found (Err NoMemory) ended' is text out wrote = subst (λ e. IsCurveOutput options rules text e out) (sym is) (wrote.output.0, wrote.output.1)

  -- a source that isn't read is no full history
  read_some : (error : ReadError) → IsReadFault error HistoryFull → ⊥
  read_some ReadError.Device is = absurd cc
  read_some ReadError.NoMemory is = absurd cc

  unread_so : (found : Option PromiseJudgement) (ended : Result End ScriptFault) (ended' : Result CurveEnd ScriptFault) → IsEndOf ended found ended' → (error : ReadError) → IsErrAnd ended (IsReadFault error) → IsErrAnd ended' (IsReadFault error)
  unread_so found (Ok end) ended' is error fault = absurd fault
  unread_so found (Err HistoryFull) ended' is error fault = absurd (read_some error fault)
  unread_so found (Err Read) ended' is error fault = subst (λ e. IsErrAnd e (IsReadFault error)) (sym is) fault
  unread_so found (Err Write) ended' is error fault = subst (λ e. IsErrAnd e (IsReadFault error)) (sym is) fault
  unread_so found (Err NoMemory) ended' is error fault = subst (λ e. IsErrAnd e (IsReadFault error)) (sym is) fault

  module _ (sink sink' : Device) where
    written_so : (found : Option PromiseJudgement) (ended : Result End ScriptFault) (ended' : Result CurveEnd ScriptFault) → IsEndOf ended found ended' → (written : Text) → IsWritten sink sink' written ended → IsWritten sink sink' written ended'
    written_so (Some judgement) (Ok End.Done) ended' is written wrote = subst (IsWritten sink sink' written) (sym is) wrote
    written_so (Some judgement) (Err HistoryFull) ended' is written wrote = subst (IsWritten sink sink' written) (sym is) wrote
    written_so None (Ok End.Done) ended' is written wrote = absurd is
    written_so None (Err HistoryFull) ended' is written wrote = absurd is
    written_so found (Ok (End.Refused refusal)) ended' is written wrote = subst (IsWritten sink sink' written) (sym is) wrote
    written_so found (Err Read) ended' is written wrote = subst (IsWritten sink sink' written) (sym is) wrote
    written_so found (Err Write) ended' is written wrote = subst (IsWritten sink sink' written) (sym is) wrote
    written_so found (Err NoMemory) ended' is written wrote = subst (IsWritten sink sink' written) (sym is) wrote

  module _ {source source' sink sink' : Device} where
    -- something was found of a run whose curve was written
    pub found_so : (found : Option PromiseJudgement) (ended : Result End ScriptFault) → IsDone (IsFound found) 67108864 source source' sink sink' ended → IsFoundIf ended found
    found_so (Some judgement) (Ok End.Done) is = refl
    found_so (Some judgement) (Err HistoryFull) is = refl
    found_so None (Ok End.Done) (inl unread) = absurd unread.is
    found_so None (Ok End.Done) (inr done) = absurd done.performed.does.leaves.2
    found_so None (Err HistoryFull) (inl unread) = absurd (read_some unread.error unread.is)
    found_so None (Err HistoryFull) (inr done) = absurd done.performed.does.leaves.2
    found_so found (Ok (End.Refused refusal)) is = tt
    found_so found (Err Read) is = tt
    found_so found (Err Write) is = tt
    found_so found (Err NoMemory) is = tt

    -- a curve ends as its run
    pub drawn_so : (found : Option PromiseJudgement) (ended : Result End ScriptFault) (ended' : Result CurveEnd ScriptFault) → IsEndOf ended found ended' → IsDone (IsFound found) 67108864 source source' sink sink' ended → IsDrawingRun options rules source source' sink sink' ended'
    drawn_so found ended ended' is (inl unread) = inl (record { error = unread.error; why = unread.why; is = unread_so found ended ended' is unread.error unread.is; unwritten = unread.unwritten })
    drawn_so found ended ended' is (inr done) = inr (record {
      text = done.text;
      is_text = done.is_text;
      performed = record { written = done.performed.written; does = ends_so found ended ended' is done.text done.performed.written done.performed.does; wrote = written_so sink sink' found ended ended' is done.performed.written done.performed.wrote };
      read = done.read;
      gives = done.gives;
    })
