-- Texts that are run: which events are answered, how a run ends, and that of a text that is too long the same is written whatever comes after.
use Rattle.std.proofs.Common.{◌≡◌, ◌∙◌, ℕ, ◌<◌, ◌≤◌, min, Bool, true, false, if◌then◌else◌, nat_lt, List, [], ◌∷◌, ◌++◌, length, take, refl, sym, ap, inl, inr, append-nil, length-append, arith}
use Rattle.std.proofs.{lemmas.Bool.cases_lt, lemmas.Bool.Decides.nat_tests, lemmas.List.{take_all, length-take}}
use Rattle.std.specs.Prelude.{Result, Ok, Err}
use Rattle.mh_model.specs.{declared.command.Event.Event, declared.config.Config.Config, declared.config.Rules.Rules}
use Rattle.mh_model.specs.{Bytes.{Text, line_text}, Limits.most_entries}
use Rattle.mh_model.specs.Machine.{Machine, event_step, first_machine, machine_replies}
use Rattle.mh_model.specs.{Output.{Ending, ending, ending_of, output_of}, Replies.{replies_text, reply_text}}
use Rattle.mh_model.specs.RunHistories.{output_under, under_rules}
use Rattle.mh_model.specs.Script.{BadLine, Meaning, Means, Reading, reading, reading_map}
use Rattle.mh_model.proofs.ScriptLemmas.{reading_long}
use Rattle.mh_text.specs.Devices.{Device}
use Rattle.mh_reasons.specs.{Reasons.IsReason, declared.reason.ScriptReason.ScriptReason}
use Rattle.mh_script.specs.{declared.end.End.End, declared.end.End.TheVariants.{Done, Refused}}
use Rattle.mh_script.specs.declared.fault.ScriptFault.{ScriptFault}
use Rattle.mh_script.specs.declared.fault.ScriptFault.TheVariants.{Read, Write, NoMemory, HistoryFull}
use Rattle.mh_script.specs.Lines.{lines_from, text_by_lines}
use Rattle.mh_script.specs.Run.{IsTranscript, LeavesForm, MayEndSo, TakesToRun, replies_run, replies_told, transcript, transcript_of}
use Rattle.mh_script.specs.Tasks.{IsPerformed, IsWritten}
use Rattle.mh_model.specs.Output as model

-- Events -----------------------------------------------------------------------------------------

-- a front of at most so many elements
pub take_min : {X : Type 0} (xs : List X) (n : ℕ) → take (min (length xs) n) xs ≡ take n xs
take_min xs n = elim (cases_lt n (length xs)) [
  | inl long ↦ let cut : min (length xs) n ≡ n = omega arith in rw cut refl
  | inr short ↦ let all : min (length xs) n ≡ length xs = omega arith in rw all (take_all (length xs) xs (omega arith) ∙ sym (take_all n xs short))
]

pub front_is_few : {X : Type 0} (xs : List X) (n : ℕ) → length (take n xs) ≤ n
front_is_few xs n = omega (arith, length-take n xs)

-- as many events as a history has room for, and more
pub few_entries : (events shown : List Event) → shown ≡ events → length shown ≤ 1000000 → length events ≤ most_entries
unfolding most_entries
few_entries events shown same few = omega (arith, ap length same, few)

pub many_entries : (events shown : List Event) → shown ≡ events → 1000000 < length shown → most_entries < length events
unfolding most_entries
many_entries events shown same many = omega (arith, ap length same)

-- Endings ----------------------------------------------------------------------------------------

pub ends-as : (text : Text) {r : Reading Meaning} → reading text ≡ r → ending text ≡ ending_of r
unfolding ending
ends-as text is = ap ending_of is

pub ends-few : (text : Text) (script : Meaning) → reading text ≡ Means script → length script.events ≤ most_entries → ending text ≡ model.Done
ends-few text script is few =
    let test : nat_lt most_entries (length script.events) ≡ false = grind (arith, nat_tests) in
    ends-as text is ∙ ap (λ (b : Bool). if b then model.HistoryFull else model.Done) test

pub ends-many : (text : Text) (script : Meaning) → reading text ≡ Means script → most_entries < length script.events → ending text ≡ model.HistoryFull
ends-many text script is many =
    let test : nat_lt most_entries (length script.events) ≡ true = grind (arith, nat_tests) in
    ends-as text is ∙ ap (λ (b : Bool). if b then model.HistoryFull else model.Done) test

-- a text for which a run takes memory is not too long
pub runs_short : (text : Text) → TakesToRun text → length text ≤ 67108864
runs_short text (inl begins) = begins.short
runs_short text (inr (script, is)) = elim (cases_lt 67108864 (length text)) [
  | inl long ↦ let other : BadLine 0 ≡ Means script = sym (reading_long text long) ∙ is in absurd cc
  | inr short ↦ short
]

-- a text that is too long is refused with line 0, and so with no other reason
pub reason-long : (text rest : Text) (n : ℕ) (reason : ScriptReason) → n ≡ 0 → 67108864 < length text → IsReason text n reason → IsReason (text ++ rest) n reason
reason-long text rest n ScriptReason.TooLong none long is = (none, omega (arith, long, length-append text rest))
reason-long text rest n ScriptReason.NoConfiguration none long is = absurd (omega (arith, none, is.0))
reason-long text rest n ScriptReason.NoNewline none long is = absurd (omega (arith, none, is.0))
reason-long text rest n (ScriptReason.Line reason) none long is = absurd (omega (arith, none, is.2.numbered))

-- a text that is too long
module _ (text rest : Text) (long : 67108864 < length text) where
  bad : reading text ≡ BadLine 0
  bad = reading_long text long

  bad' : reading (text ++ rest) ≡ BadLine 0
  bad' = reading_long (text ++ rest) (omega (arith, long, length-append text rest))

  ends-bad : {e : Ending} → ending text ≡ e → model.Refused 0 ≡ e
  ends-bad is = sym (ends-as text bad) ∙ is

  pub may-long : (ended : Result End ScriptFault) → MayEndSo text ended → MayEndSo (text ++ rest) ended
  may-long (Ok Done) is = let other = ends-bad is in absurd cc
  may-long (Ok (Refused refusal)) (is, reason) =
      let line = ends-bad is in
      let none : refusal.line ≡ 0 = cc in
      (ends-as (text ++ rest) bad' ∙ line, reason-long text rest refusal.line refusal.reason none long reason)
  may-long (Err HistoryFull) is = let other = ends-bad is in absurd cc
  may-long (Err NoMemory) takes = absurd (omega (arith, long, runs_short text takes))
  may-long (Err Read) is = tt
  may-long (Err Write) is = tt

-- Transcripts ------------------------------------------------------------------------------------

module _ (text_of : Text → Config → List Event → Text) (rules : Rules) (Leaves : Config → List Event → Type 0) where
  -- what was written of the reading of a text
  pub transcribed : {sink sink' : Device} {ended : Result End ScriptFault} (text : Text) (r : Reading Meaning) → reading text ≡ r → IsWritten sink sink' (transcript_of (text_of text) rules r) ended → MayEndSo text ended → LeavesForm Leaves rules text ended
      → IsPerformed (IsTranscript text_of rules Leaves) sink sink' ended text
  transcribed text r is wrote ends leaves = record { written = transcript_of (text_of text) rules r; does = record { output = (ap (transcript_of (text_of text) rules) (sym is), ends); leaves = leaves }; wrote = wrote }

  leaves-long : (text rest : Text) → reading text ≡ BadLine 0 → (ended : Result End ScriptFault) → LeavesForm Leaves rules text ended → LeavesForm Leaves rules (text ++ rest) ended
  leaves-long text rest bad (Ok Done) (script, is, leaves) = let other : BadLine 0 ≡ Means script = sym bad ∙ is in absurd cc
  leaves-long text rest bad (Ok (Refused refusal)) is = tt
  leaves-long text rest bad (Err HistoryFull) (script, is, leaves) = let other : BadLine 0 ≡ Means script = sym bad ∙ is in absurd cc
  leaves-long text rest bad (Err NoMemory) is = tt
  leaves-long text rest bad (Err Read) is = tt
  leaves-long text rest bad (Err Write) is = tt

  pub transcript-long : (text rest : Text) (ended : Result End ScriptFault) (out : Text) → 67108864 < length text → IsTranscript text_of rules Leaves text ended out → IsTranscript text_of rules Leaves (text ++ rest) ended out
  transcript-long text rest ended out long is =
      let bad = bad text rest long in
      let same : transcript text_of rules text ≡ transcript text_of rules (text ++ rest) = ap (transcript_of (text_of text) rules) bad ∙ sym (ap (transcript_of (text_of (text ++ rest)) rules) (bad' text rest long)) in
      record { output = (is.output.0 ∙ same, may-long text rest long ended is.output.1); leaves = leaves-long text rest bad ended is.leaves }

-- Replies ----------------------------------------------------------------------------------------

replies_lines : (machine : Machine) (events : List Event) → lines_from replies_told machine events ≡ replies_text (machine_replies machine events)
unfolding machine_replies
replies_lines machine [] = refl
replies_lines machine (event ∷ events) =
    let answer = event_step machine event in
    ap (λ (text : Text). text ++ lines_from replies_told answer.state events) (append-nil (line_text (reply_text answer.reply))) ∙ ap (λ (text : Text). line_text (reply_text answer.reply) ++ text) (replies_lines answer.state events)

pub replies_by_lines : (config : Config) (events : List Event) → text_by_lines replies_told [] (first_machine config) events ≡ replies_run config events
replies_by_lines config events = append-nil _ ∙ replies_lines (first_machine config) events

replies_reading : (rules : Rules) (r : Reading Meaning) → transcript_of replies_run rules r ≡ output_of (reading_map (under_rules rules) r)
replies_reading rules (BadLine line) = refl
replies_reading rules (Means script) = refl

-- the transcript of replies is the output
pub replies_are : (rules : Rules) (text : Text) → transcript (λ _. replies_run) rules text ≡ output_under rules text
unfolding output_under
replies_are rules text = replies_reading rules (reading text)
