-- Of a text that is too long the same is found whatever comes after: it is refused with line 0.
use Rattle.mh_judge.specs.{Promised.IsPromisedUnder, declared.entry_fault.EntryFault.EntryFault}
use Rattle.mh_judge.specs.{declared.judgement.Judgement.Judgement, Histories.{History, IsVerdictIn}}
use Rattle.mh_judge.specs.Judgements.{HistoryJudgement, IfLegal, IsCheckedFault, IsExplained, verdict_of}
use Rattle.mh_judge.specs.Judged.{IsLegallyMigrated, IsMigration, IsToldAs, IsVerdictLine, TakesToMigrate}
use Rattle.std.proofs.Common.{◌≡◌, ◌∙◌, ℕ, ◌<◌, ◌≤◌, List, ◌++◌, length, length-append, refl, ap, sym, subst, arith, inl, inr}
use Rattle.std.specs.Prelude.{Result, Ok, Err}
use Rattle.mh_model.specs.{declared.config.Config.Config, declared.history.Verdict.Verdict}
use Rattle.mh_model.specs.{declared.history.Verdict.TheVariants.Refused, declared.history.Version.Version}
use Rattle.mh_model.specs.{declared.history.Version.TheVariants.One, Bytes.Text}
use Rattle.mh_model.specs.{HistoryTexts.{IsChecked, history_reading, migration_text}, Script.{Reading, BadLine, Means}}
use Rattle.mh_reasons.specs.declared.history_reason.HistoryReason.{HistoryReason}
use Rattle.mh_reasons.specs.HistoryReasons.{IsHistoryReason, most_bytes}
use Rattle.mh_history.proofs.HistoryLemmas.{history_long}
use Rattle.mh_script.specs.declared.fault.ScriptFault.{ScriptFault, TheVariants.{Read, Write, NoMemory, HistoryFull}}

pub longer : (most : ℕ) (text rest : Text) → most < length text → most < length (text ++ rest)
longer most text rest long = omega (arith, long, length-append text rest)

-- Judgements -------------------------------------------------------------------------------------

-- of what is stated only the reason of line 0 is left
module _ {R F : Type 0} where
  pub explained_long : (Bad Bad' : ℕ → R → Type 0) (Wrong Wrong' : ℕ → F → Type 0) → ((reason : R) → Bad 0 reason → Bad' 0 reason) → (found : Judgement R F) → verdict_of found ≡ Refused 0
      → IsExplained Bad Wrong found → IsExplained Bad' Wrong' found
  explained_long Bad Bad' Wrong Wrong' goes (Judgement.Legal count) is told = tt
  explained_long Bad Bad' Wrong Wrong' goes (Judgement.Refused line reason) is told =
      let none : line ≡ 0 = cc in
      subst (λ n. Bad' n reason) (sym none) (goes reason (subst (λ n. Bad n reason) none told))
  explained_long Bad Bad' Wrong Wrong' goes (Judgement.FirstBad number fault) is told = absurd cc

  pub legal_long : (Holds : ℕ → Type 0) (found : Judgement R F) → verdict_of found ≡ Refused 0 → IfLegal Holds found
  legal_long Holds (Judgement.Legal count) is = absurd cc
  legal_long Holds (Judgement.Refused line reason) is = tt
  legal_long Holds (Judgement.FirstBad number fault) is = tt

-- texts of which one is refused with line 0 alone, and the other is
module _ {J : Type 0} (verdict : J → Verdict) (Judged : Text → Verdict → Type 0) (Told : Text → J → Type 0) (Begins : Text → Type 0) (text other : Text) (never : Begins text → ⊥)
    (only : (found : Verdict) → Judged text found → found ≡ Refused 0) (refused : Judged other (Refused 0)) (told : (found : J) → verdict found ≡ Refused 0 → Told text found → Told other found) where
  pub line_long : (ended : Result J ScriptFault) (out : Text) → IsVerdictLine verdict Judged Told Begins text ended out → IsVerdictLine verdict Judged Told Begins other ended out
  line_long (Ok found) out (judged, told_is, is) =
      let line = only (verdict found) judged in
      (subst (Judged other) (sym line) refused, told found line told_is, is)
  line_long (Err Write) out (found, judged, is) = (found, subst (Judged other) (sym (only found judged)) refused, is)
  line_long (Err NoMemory) out (begins, is) = absurd (never begins)
  line_long (Err Read) out h = absurd h
  line_long (Err HistoryFull) out h = absurd h

-- Histories --------------------------------------------------------------------------------------

-- a reason of a text that is too long is that of a longer one
pub reason-long : (version : Version) (text rest : Text) (reason : HistoryReason) → most_bytes version < length text → IsHistoryReason version text 0 reason → IsHistoryReason version (text ++ rest) 0 reason
reason-long version text rest (HistoryReason.TooLong of) long is = (is.0, refl, omega (arith, is.2, length-append text rest))
reason-long version text rest HistoryReason.Empty long is = absurd (omega (arith, is.0))
reason-long version text rest HistoryReason.NoNewline long is = absurd (omega (arith, is.0))
reason-long version text rest (HistoryReason.Line r) long (line, inl first) = absurd (omega (arith, first.0.0))
reason-long version text rest (HistoryReason.Line r) long (line, inr later) = absurd (omega (arith, later.0.4))

told_long : (version : Version) (Fault : Text → ℕ → EntryFault → Type 0) (Promised : Text → ℕ → Type 0) (text rest : Text) → most_bytes version < length text → (found : HistoryJudgement) → verdict_of found ≡ Refused 0
    → IsToldAs version Fault Promised text found → IsToldAs version Fault Promised (text ++ rest) found
told_long version Fault Promised text rest long found is (explained, legal) = (
  explained_long (IsHistoryReason version text) (IsHistoryReason version (text ++ rest)) (Fault text) (Fault (text ++ rest)) (λ reason. reason-long version text rest reason long) found is explained,
  legal_long (Promised (text ++ rest)) found is,
)

-- how texts of a version are read and judged
module _ {X : Type 0} (version : Version) (Lawful : Config → List X → Type 0) (read : Text → Reading (History X)) (Judged : Text → Verdict → Type 0) (Fault : Text → ℕ → EntryFault → Type 0) (Promised : Text → ℕ → Type 0) (Begins : Text → Type 0)
    (too_long : (text : Text) → most_bytes version < length text → read text ≡ BadLine 0) (judges : (text : Text) (verdict : Verdict) → IsVerdictIn Lawful (read text) verdict → Judged text verdict)
    (is_judged : (text : Text) (verdict : Verdict) → Judged text verdict → IsVerdictIn Lawful (read text) verdict) (short : (text : Text) → Begins text → length text ≤ most_bytes version) where
  refused : (text : Text) → most_bytes version < length text → Judged text (Refused 0)
  refused text long = judges text (Refused 0) (subst (λ r. IsVerdictIn Lawful r (Refused 0)) (sym (too_long text long)) refl)

  pub judged_long : (text rest : Text) (ended : Result HistoryJudgement ScriptFault) (out : Text) → most_bytes version < length text → IsVerdictLine verdict_of Judged (IsToldAs version Fault Promised) Begins text ended out
      → IsVerdictLine verdict_of Judged (IsToldAs version Fault Promised) Begins (text ++ rest) ended out
  judged_long text rest ended out long =
      line_long verdict_of Judged (IsToldAs version Fault Promised) Begins text (text ++ rest) (λ begins. omega (arith, long, short text begins)) (λ found is. subst (λ r. IsVerdictIn Lawful r found) (too_long text long) (is_judged text found is))
      (refused (text ++ rest) (longer (most_bytes version) text rest long)) (told_long version Fault Promised text rest long) ended out

-- Migrated ---------------------------------------------------------------------------------------

module _ (config : Config) (text rest : Text) (long : 1073741824 < length text) where
  bad : history_reading text ≡ BadLine 0
  bad = history_long text long

  same : history_reading (text ++ rest) ≡ history_reading text
  same = history_long (text ++ rest) (longer 1073741824 text rest long) ∙ sym bad

  never : TakesToMigrate text → ⊥
  never (inl begins) = omega (arith, long, begins.short)
  never (inr (entries, means)) = let other : BadLine 0 ≡ Means entries = sym bad ∙ means in cc

  only : (found : Verdict) → IsChecked config text found → found ≡ Refused 0
  only found is = rw bad at is

  checked : (found : Verdict) → IsChecked config text found → IsChecked config (text ++ rest) found
  checked found is = rw same is

  pub migration_long : (ended : Result HistoryJudgement ScriptFault) (out : Text) → IsMigration config text ended out → IsMigration config (text ++ rest) ended out
  migration_long (Ok found) out h =
      let line = only (verdict_of found) h.checked in
      record { checked = checked (verdict_of found) h.checked; told = told_long One (IsCheckedFault config) (IsPromisedUnder config) text rest long found line h.told; out_is = h.out_is ∙ ap (migration_text config (verdict_of found)) (sym same); legal = legal_long (IsLegallyMigrated out) found line }
  migration_long (Err Write) out (found, is, out_is) = (found, checked found is, out_is ∙ ap (migration_text config found) (sym same))
  migration_long (Err NoMemory) out (takes, h) = absurd (never takes)
  migration_long (Err Read) out h = absurd h
  migration_long (Err HistoryFull) out h = absurd h
