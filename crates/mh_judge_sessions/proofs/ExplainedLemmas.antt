-- What is stated of a text of either version: of one that is refused, and of one that is too long.
use Rattle.std.proofs.Common.{◌≡◌, inl, inr, ℕ, ◌<◌, ◌≤◌, Bool, Option, ◌++◌, length, refl, sym, subst, arith}
use Rattle.std.specs.Prelude.{Result}
use Rattle.mh_judge.specs.{Judgements.{HistoryJudgement, IsRefusal}, Judged.IsVerdictLine}
use Rattle.mh_judge.specs.declared.judgement.Judgement.{Judgement}
use Rattle.mh_judge.proofs.LongLemmas.{explained_long, line_long, longer, reason-long}
use Rattle.mh_model.specs.{declared.config.Rules.Rules, declared.history.Verdict.Verdict}
use Rattle.mh_model.specs.{declared.history.Verdict.TheVariants.Refused, declared.history.Version.Version}
use Rattle.mh_model.specs.{declared.history.Version.TheVariants.{One, Two}, Bytes.Text}
use Rattle.mh_reasons.specs.HistoryReasons.{IsHistoryReason, most_bytes}
use Rattle.mh_script.specs.declared.fault.ScriptFault.{ScriptFault}
use Rattle.mh_judge_sessions.specs.declared.sessions_judgement.SessionsJudgement.{SessionsJudgement}
use Rattle.mh_judge_sessions.specs.Texts.{BeginsWithEither, IsReasonOf, IsSeenExplained, IsSeenFault, IsSeenThroughBy, IsSeenTold, found_verdict, version_of}
use Rattle.mh_judge_sessions.proofs.TextLemmas.{either_short, seen_long, text_bad}

-- a refusal is explained by the version of the first line
pub refusal_explained : (may_be_full : Bool) (asked : Option Rules) (text : Text) (line : ℕ) (found : HistoryJudgement) → IsRefusal (version_of text) text line found → IsSeenExplained may_be_full asked text found
refusal_explained may_be_full asked text line (Judgement.Legal count) is = tt
refusal_explained may_be_full asked text line (Judgement.Refused of reason) is = (version_of text, inr refl, subst (λ n. IsHistoryReason (version_of text) text n reason) (sym is.0) is.1)
refusal_explained may_be_full asked text line (Judgement.FirstBad number fault) is = absurd is

most_of : (version : Version) → most_bytes version ≤ 2147483648
most_of One = omega arith
most_of Two = omega arith

module _ (may_be_full : Bool) (asked : Option Rules) (text rest : Text) (ended : Result SessionsJudgement ScriptFault) (out : Text) (long : 2147483648 < length text) where
  only : (found : Verdict) → IsSeenThroughBy may_be_full asked text found → found ≡ Refused 0
  only found is = rw (text_bad text (seen_long text long)) at is

  told : (found : SessionsJudgement) → found_verdict found ≡ Refused 0 → IsSeenTold may_be_full asked text found → IsSeenTold may_be_full asked (text ++ rest) found
  told found is was =
      let more = longer 2147483648 text rest long in
      record {
        explained = explained_long (IsReasonOf text) (IsReasonOf (text ++ rest)) (IsSeenFault may_be_full asked text) (IsSeenFault may_be_full asked (text ++ rest)) (λ reason h. (h.0, inl refl, reason-long h.0 text rest reason (omega (arith, long, most_of h.0)) h.2)) found.judgement is was.explained;
        tally = rw (text_bad (text ++ rest) (seen_long (text ++ rest) more)) (rw (text_bad text (seen_long text long)) at was.tally);
      }

  -- of a text that is too long the same is found whatever comes after
  pub sessions_long : IsVerdictLine found_verdict (IsSeenThroughBy may_be_full asked) (IsSeenTold may_be_full asked) BeginsWithEither text ended out
      → IsVerdictLine found_verdict (IsSeenThroughBy may_be_full asked) (IsSeenTold may_be_full asked) BeginsWithEither (text ++ rest) ended out
  sessions_long = line_long found_verdict (IsSeenThroughBy may_be_full asked) (IsSeenTold may_be_full asked) BeginsWithEither text (text ++ rest) (λ begins. omega (arith, long, either_short text begins)) only (rw (text_bad (text ++ rest) (seen_long (text ++ rest) (longer 2147483648 text rest long))) refl) told ended out
