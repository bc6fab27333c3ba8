-- What is said of the entries of a text is said of the text.
use Rattle.std.proofs.Common.{◌≡◌, ℕ, List, sym, subst}
use Rattle.mh_judge.specs.{declared.entry_fault.EntryFault.EntryFault, Faults.IsWrongAfter}
use Rattle.mh_judge.specs.{Histories.{History, IsFaultIn, under}, Auxiliary.IsJudgement}
use Rattle.mh_judge.specs.Judgements.{HistoryJudgement, IfLegal, IsExplained, IsRefusal, verdict_of}
use Rattle.mh_judge.specs.declared.judgement.Judgement.{Judgement}
use Rattle.mh_model.specs.{declared.command.Event.Event, declared.config.Config.Config}
use Rattle.mh_model.specs.{declared.history.Verdict.Verdict, declared.history.Verdict.TheVariants.{Legal, Refused}}
use Rattle.mh_model.specs.{declared.history.Version.Version, Bytes.Text, Machine.Machine}
use Rattle.mh_model.specs.Script.{Reading, BadLine, Means}
use Rattle.mh_reasons.specs.HistoryReasons.{IsHistoryReason}

-- what a judgement says of the entries that are left it says of the text, and what is wrong with one of them is wrong with the text
module _ {X : Type 0} (Lawful : Config → List X → Type 0) (event_of : X → Event) (Wrong : Machine → X → EntryFault → Type 0) (version : Version) (text : Text) (Fault : ℕ → EntryFault → Type 0) (r : Reading (History X)) (config : Config) where
  pub judged_explained : (left : Reading (List X)) (found : HistoryJudgement) → r ≡ under config left → ((number : ℕ) (fault : EntryFault) → IsFaultIn event_of Wrong r number fault → Fault number fault)
      → IsJudgement (IsRefusal version text) (Lawful config) (IsWrongAfter config event_of Wrong) left found → IsExplained (IsHistoryReason version text) Fault found
  judged_explained (BadLine line) (Judgement.Refused of reason) is faulty found = subst (λ n. IsHistoryReason version text n reason) (sym found.0) found.1
  judged_explained (BadLine line) (Judgement.Legal count) is faulty found = tt
  judged_explained (BadLine line) (Judgement.FirstBad number fault) is faulty found = absurd found
  judged_explained (Means entries) (Judgement.Refused of reason) is faulty found = absurd found
  judged_explained (Means entries) (Judgement.Legal count) is faulty found = tt
  judged_explained (Means entries) (Judgement.FirstBad number fault) is faulty found = faulty number fault (rw is found.1)

-- what holds of all legal ones holds of one if it is legal
pub if_legal : {R F : Type 0} (Judged : Verdict → Type 0) (Holds : ℕ → Type 0) → ((count : ℕ) → Judged (Legal count) → Holds count) → (found : Judgement R F) → Judged (verdict_of found) → IfLegal Holds found
if_legal Judged Holds goes (Judgement.Legal count) is = goes count is
if_legal Judged Holds goes (Judgement.Refused line reason) is = tt
if_legal Judged Holds goes (Judgement.FirstBad number fault) is = tt
