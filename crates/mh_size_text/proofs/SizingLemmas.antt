-- How the sizing of a script ends that reads so.
use Rattle.std.proofs.Common.{◌≡◌, ◌∙◌, ℕ, ◌<◌, ◌≤◌, ◌++◌, Bool, true, false, [], length, inr, ap, subst, sym, refl, length-append, arith}
use Rattle.std.specs.Prelude.{Result, Ok, Err, IsErrAnd}
use Rattle.mh_model.specs.{Bytes.{Text, line_text}, Limits.most_entries, Replies.bad_line_text}
use Rattle.mh_model.specs.Script.{BadLine, Meaning, Means, Reading, reading}
use Rattle.mh_orders.specs.declared.order.SizeOptions.{SizeOptions}
use Rattle.mh_model.proofs.ScriptLemmas.{reading_long}
use Rattle.mh_text.specs.Devices.{Device, Takes}
use Rattle.mh_reasons.specs.Reasons.{IsReason}
use Rattle.mh_script.specs.{declared.end.End.End, declared.end.LineRefusal.LineRefusal}
use Rattle.mh_script.specs.declared.fault.ScriptFault.{ScriptFault}
use Rattle.mh_script.specs.declared.fault.ScriptFault.TheVariants.{Read, Write, NoMemory, HistoryFull}
use Rattle.mh_script.specs.Tasks.{IsPerformed}
use Rattle.mh_script.proofs.{RunLemmas.{ends-as, ends-few, ends-many, may-long}, TakenLemmas.takes-none}
use Rattle.mh_size_text.specs.{declared.end.SizeEnd.SizeEnd, declared.end.SizeEnd.TheVariants.{Sized, NoSize, Refused}}
use Rattle.mh_size_text.specs.{Scripts.{IsSizeText, IsSized, MayEndSized}, Auxiliary.ended_with}

-- memory was refused before anything was written
pub starved : (options : SizeOptions) (text : Text) (script : Meaning) (sink : Device) (ended : Result SizeEnd ScriptFault) → reading text ≡ Means script → IsErrAnd ended (λ fault. fault ≡ NoMemory) → IsPerformed (IsSized options) sink sink ended text
starved options text script sink (Ok end) is refused = absurd refused
starved options text script sink (Err fault) is refused =
    subst (λ f. IsPerformed (IsSized options) sink sink (Err f) text) (sym refused) (record { written = []; does = (inr (script, is), refl); wrote = takes-none sink [] })

module _ (options : SizeOptions) (text : Text) (script : Meaning) (is : reading text ≡ Means script) (found : Bool) (out : Text) (sizes : IsSizeText options found (Means script) out) where
  sized : IsSizeText options found (reading text) out
  sized = subst (λ (r : Reading Meaning). IsSizeText options found r out) (sym is) sizes

  pub sized_many : {sink sink' : Device} → most_entries < length script.events → Takes sink sink' out → IsPerformed (IsSized options) sink sink' (Err HistoryFull) text
  sized_many many takes = record { written = out; does = (found, sized, ends-many text script is many); wrote = takes }

  -- a script that was sized, by whether some pages suffice
  pub sized_few : {sink sink' : Device} → length script.events ≤ most_entries → Takes sink sink' out → IsPerformed (IsSized options) sink sink' (Ok (ended_with found)) text
  sized_few {sink} {sink'} few takes = by found refl where
    by : (b : Bool) → found ≡ b → IsPerformed (IsSized options) sink sink' (Ok (ended_with b)) text
    by true same = record { written = out; does = (found, sized, (ends-few text script is few, same)); wrote = takes }
    by false same = record { written = out; does = (found, sized, (ends-few text script is few, same)); wrote = takes }

-- a script whose first bad line has its reason
pub bad_line : (options : SizeOptions) (text : Text) (line : ℕ) (refusal : LineRefusal) {sink sink' : Device} → reading text ≡ BadLine line → refusal.line ≡ line → IsReason text line refusal.reason → Takes sink sink' (line_text (bad_line_text line))
    → IsPerformed (IsSized options) sink sink' (Ok (Refused refusal)) text
bad_line options text line refusal is same reason takes = record {
  written = line_text (bad_line_text line);
  does = (false, subst (λ (r : Reading Meaning). IsSizeText options false r (line_text (bad_line_text line))) (sym is) refl, (ends-as text (is ∙ ap BadLine (sym same)), subst (λ n. IsReason text n refusal.reason) (sym same) reason));
  wrote = takes;
}

-- of a text that is too long the same is written whatever comes after
pub sized-long : (options : SizeOptions) (text rest : Text) (ended : Result SizeEnd ScriptFault) (out : Text) → 67108864 < length text → IsSized options text ended out → IsSized options (text ++ rest) ended out
sized-long options text rest ended out long = by ended where
  same : reading text ≡ reading (text ++ rest)
  same = reading_long text long ∙ sym (reading_long (text ++ rest) (omega (arith, long, length-append text rest)))

  sizes : (found : Bool) → IsSizeText options found (reading text) out → IsSizeText options found (reading (text ++ rest)) out
  sizes found is = subst (λ (r : Reading Meaning). IsSizeText options found r out) same is

  by : (e : Result SizeEnd ScriptFault) → IsSized options text e out → IsSized options (text ++ rest) e out
  by (Ok Sized) (found, is, (ends, some)) = (found, sizes found is, (may-long text rest long (Ok End.Done) ends, some))
  by (Ok NoSize) (found, is, (ends, none)) = (found, sizes found is, (may-long text rest long (Ok End.Done) ends, none))
  by (Ok (Refused refusal)) (found, is, ends) = (found, sizes found is, may-long text rest long (Ok (End.Refused refusal)) ends)
  by (Err NoMemory) (ends, none) = (may-long text rest long (Err NoMemory) ends, none)
  by (Err HistoryFull) (found, is, ends) = (found, sizes found is, may-long text rest long (Err HistoryFull) ends)
  by (Err Read) (found, is, ends) = (found, sizes found is, tt)
  by (Err Write) (found, is, ends) = (found, sizes found is, tt)
