-- What is drawn of a text that is too long is drawn of it whatever comes after.
use Rattle.std.proofs.Common.{◌≡◌, ◌∙◌, ℕ, ◌<◌, ◌≤◌, ◌++◌, Bool, true, false, nat_lt, if◌then◌else◌, List, [], ◌∷◌, length, inl, inr, refl, ap, sym, subst, length-append, arith}
use Rattle.std.proofs.lemmas.Bool.Decides.{nat_tests}
use Rattle.std.specs.Prelude.{Result, Ok, Err}
use Rattle.mh_model.specs.{declared.history.Version.TheVariants.Two, Bytes.Text}
use Rattle.mh_model.specs.{HistoryTexts.{Recorded, recorded_reading}, Script.{Reading, BadLine, Means}, Trace.Letter}
use Rattle.mh_history.proofs.HistoryLemmas.{record_long}
use Rattle.mh_reasons.specs.{declared.history_reason.HistoryReason.HistoryReason, HistoryReasons.IsHistoryReason}
use Rattle.mh_script.specs.declared.fault.ScriptFault.{ScriptFault, TheVariants.{Read, Write, NoMemory, HistoryFull}}
use Rattle.mh_window_curve.specs.declared.end.CurveEnd.{CurveEnd}
use Rattle.mh_window_curve.specs.declared.end.CurveEnd.TheVariants.{Drawn, ScriptRefused, HistoryRefused, HistoryTooLong, LogRefused}
use Rattle.mh_window_curve.specs.{declared.kind.TextKind.TextKind, declared.kind.TextKind.TheVariants.{History, Pauses}}
use Rattle.mh_window_curve.specs.{Drawings.{HasLetters, IsOfText, TakesToDraw}, Auxiliary.IsBadLine}
use Rattle.mh_window_curve.specs.{Histories.{recorded_curve, short_reading}, PauseTexts.IsOfLog}
use Rattle.mh_window_curve.specs.Runs.{EndsSo, IsTextOutput}
use Rattle.mh_orders.specs.declared.curve.CurveOptions.{CurveOptions}
use Rattle.mh_window_pauses.specs.declared.reason.PauseReason.{PauseReason}
use Rattle.mh_window_pauses.specs.{Logs.{bounded, line_as_pause, pause_reading}, Reasons.IsPauseReason}
use Rattle.mh_history.specs.Beginnings.{entries_left}
use Rattle.mh_text.specs.Pieces.{lines_from}

-- a reason of a text that is too long is that of a longer one
reason-long : (text whole : Text) (reason : HistoryReason) → length text ≤ length whole → 2147483648 < length text → IsHistoryReason Two text 0 reason → IsHistoryReason Two whole 0 reason
reason-long text whole (HistoryReason.TooLong of) longer long is = (is.0, refl, omega (arith, is.2, longer))
reason-long text whole HistoryReason.Empty longer long is = absurd (omega (arith, is.0))
reason-long text whole HistoryReason.NoNewline longer long is = absurd (omega (arith, is.0))
reason-long text whole (HistoryReason.Line r) longer long (line, inl first) = absurd (omega (arith, first.0.0))
reason-long text whole (HistoryReason.Line r) longer long (line, inr later) = absurd (omega (arith, later.0.4))

same_line : (read : Reading Recorded) (m n : ℕ) → read ≡ BadLine m → read ≡ BadLine n → m ≡ n
same_line read m n one other = cc

same_pause_line : (read : Reading (List Letter)) (m n : ℕ) → read ≡ BadLine m → read ≡ BadLine n → m ≡ n
same_pause_line read m n one other = cc

-- the same of a log of pauses
pauses-reason-long : (text whole : Text) (reason : PauseReason) → length text ≤ length whole → 2147483648 < length text → IsPauseReason text 0 reason → IsPauseReason whole 0 reason
pauses-reason-long text whole PauseReason.TooLong longer long is = (refl, omega (arith, long, longer))
pauses-reason-long text whole PauseReason.TooManyUnits longer long is = absurd (omega (arith, long, is.1.short))
pauses-reason-long text whole PauseReason.Empty longer long is = absurd (omega (arith, is.0))
pauses-reason-long text whole PauseReason.NoNewline longer long is = absurd (omega (arith, is.0))
pauses-reason-long text whole other longer long is = absurd (omega (arith, is.2.numbered))

-- Kinds ------------------------------------------------------------------------------------------

-- another text reads like one
abbrev Same : TextKind → Text → Text → Type 0
Same History text other = recorded_reading other ≡ recorded_reading text
Same Pauses text other = pause_reading other ≡ pause_reading text

pauses-too_long : (text : Text) → 2147483648 < length text → pause_reading text ≡ BadLine 0
pauses-too_long [] long = absurd (omega (arith, long))
pauses-too_long (byte ∷ text) long =
    let is : nat_lt 2147483648 (length (byte ∷ text)) ≡ true = grind (arith, nat_tests) in
    ap (λ (b : Bool). if b then BadLine 0 else bounded (entries_left line_as_pause (lines_from 1 (byte ∷ text)))) is

-- both are refused with line 0
bad_long : (kind : TextKind) (text : Text) → 2147483648 < length text → IsBadLine kind text 0
bad_long History text long = record_long text long
bad_long Pauses text long = pauses-too_long text long

same_long : (kind : TextKind) (text other : Text) → 2147483648 < length text → 2147483648 < length other → Same kind text other
same_long History text other long longer = bad_long History other longer ∙ sym (bad_long History text long)
same_long Pauses text other long longer = bad_long Pauses other longer ∙ sym (bad_long Pauses text long)

-- a text that reads the same has the same units, and is written and ends so too
letters_same : (kind : TextKind) (text other : Text) (letters : List Letter) → Same kind text other → HasLetters kind text letters → HasLetters kind other letters
letters_same History text other letters same has = (has.0, ap short_reading same ∙ has.1, has.2)
letters_same Pauses text other letters same has = same ∙ has

written_same : (kind : TextKind) (options : CurveOptions) (text other written : Text) → Same kind text other → IsOfText kind options text written → IsOfText kind options other written
written_same History options text other written same is = is ∙ ap (λ (r : Reading Recorded). recorded_curve options.form (short_reading r)) (sym same)
written_same Pauses options text other written same is = subst (λ (r : Reading (List Letter)). IsOfLog options r written) (sym same) is

-- a text for whose curve memory is taken is not too long
short_text : (text : Text) {R : Type 0} (read : Text → R) (refused found : R) → ((text : Text) → 2147483648 < length text → read text ≡ refused) → (refused ≡ found → ⊥) → read text ≡ found → length text ≤ 2147483648
short_text text read refused found long other is = by (nat_lt 2147483648 (length text)) refl where
  by : (b : Bool) → nat_lt 2147483648 (length text) ≡ b → length text ≤ 2147483648
  by true test = absurd (other (sym (long text (grind (arith, nat_tests))) ∙ is))
  by false test = grind (arith, nat_tests)

takes_short : (kind : TextKind) (text : Text) → TakesToDraw kind text → length text ≤ 2147483648
takes_short History text (inl begins) = begins.short
takes_short History text (inr means) = short_text text recorded_reading (BadLine 0) (Means means.0) record_long (λ (e : BadLine 0 ≡ Means means.0). cc) means.1
takes_short Pauses text (inl begins) = begins.short
takes_short Pauses text (inr means) = short_text text pause_reading (BadLine 0) (Means means.0) pauses-too_long (λ (e : BadLine 0 ≡ Means means.0). cc) means.1

-- Texts that are too long ------------------------------------------------------------------------

module _ (options : CurveOptions) (text rest : Text) (long : 2147483648 < length text) where
  longer : length text ≤ length (text ++ rest)
  longer = omega (arith, length-append text rest)

  ends-long : (kind : TextKind) → Same kind text (text ++ rest) → (ended : CurveEnd) → EndsSo kind options.promises text ended → EndsSo kind options.promises (text ++ rest) ended
  ends-long kind same (Drawn judgement) ends = (ends.0, letters_same kind text (text ++ rest) ends.0 same ends.1, ends.2)
  ends-long kind same (CurveEnd.HistoryFull judgement) ends = absurd ends
  ends-long kind same (ScriptRefused refusal) ends = absurd ends
  ends-long History same (HistoryRefused line reason) (bad, is) =
      let zero : line ≡ 0 = same_line (recorded_reading text) line 0 bad (record_long text long) in
      (same ∙ bad, subst (λ n. IsHistoryReason Two (text ++ rest) n reason) (sym zero) (reason-long text (text ++ rest) reason longer long (subst (λ n. IsHistoryReason Two text n reason) zero is)))
  ends-long History same HistoryTooLong ends = (ends.0, same ∙ ends.1, ends.2)
  ends-long History same (LogRefused line reason) ends = absurd ends
  ends-long Pauses same (HistoryRefused line reason) ends = absurd ends
  ends-long Pauses same HistoryTooLong ends = absurd ends
  ends-long Pauses same (LogRefused line reason) (bad, is) =
      let zero : line ≡ 0 = same_pause_line (pause_reading text) line 0 bad (pauses-too_long text long) in
      (same ∙ bad, subst (λ n. IsPauseReason (text ++ rest) n reason) (sym zero) (pauses-reason-long text (text ++ rest) reason longer long (subst (λ n. IsPauseReason text n reason) zero is)))

pub output-long : (kind : TextKind) (options : CurveOptions) (text rest : Text) (ended : Result CurveEnd ScriptFault) (out : Text) → 2147483648 < length text → IsTextOutput kind options text ended out → IsTextOutput kind options (text ++ rest) ended out
output-long kind options text rest ended out long = by ended where
  same : Same kind text (text ++ rest)
  same = same_long kind text (text ++ rest) long (omega (arith, long, length-append text rest))

  by : (e : Result CurveEnd ScriptFault) → IsTextOutput kind options text e out → IsTextOutput kind options (text ++ rest) e out
  by (Ok ended) (is, ends) = (written_same kind options text (text ++ rest) out same is, ends-long options text rest long kind same ended ends)
  by (Err Write) is = written_same kind options text (text ++ rest) out same is
  by (Err NoMemory) (takes, none) = absurd (omega (arith, long, takes_short kind text takes))
  by (Err Read) none = absurd none
  by (Err HistoryFull) none = absurd none
