-- A text has a verdict also where no heap may be full.
use Rattle.std.proofs.Common.{◌≡◌, ◌↔◌, ◌∙◌, ◌⊎◌, inl, inr, ℕ, zero, suc, ◌-◌, ◌≤◌, Bool, true, false, count_by, Option, List, length, take, ap, sym, refl, subst, arith}
use Rattle.std.proofs.lemmas.List.{take_all}
use Rattle.mh_model.specs.{declared.config.Rules.Rules, declared.history.Entry.Entry, declared.history.Verdict.Verdict}
use Rattle.mh_model.specs.{declared.history.Verdict.TheVariants.{FirstBad, Legal, Refused}, Bytes.Text}
use Rattle.mh_model.specs.{History.IsFirstBadOf, HistoryTexts.IsJudged}
use Rattle.mh_model.specs.Sessions.{SeenText, Whole, CutOff, Bad, IsLegalForSessions, IsSeenAs, rules_or, seen_text}
use Rattle.mh_judge_sessions.specs.{Full.{is_full, lawful_by}, Laws.{FullHeapsAreJudged, TextsAreSeenThrough}}
use Rattle.mh_judge_sessions.specs.Texts.{IsSeenAsBy, IsSeenThroughBy}
use Rattle.mh_judge_sessions.proofs.FullLemmas.{IsFirstFull, front_front, full_is_bad, legal_front}

-- none of so many entries is full, or there is a first one
find_full : (entries : List Entry) (n : ℕ) → n ≤ length entries → (count_by is_full (take n entries) ≡ 0) ⊎ ((number : ℕ) × (number ≤ n) × IsFirstFull entries number)
find_full entries zero less = inl refl
find_full entries (suc n) less = elim (find_full entries n (omega (arith, less))) [
  | inl none ↦ by none (count_by is_full (take (suc n) entries)) refl
  | inr found ↦ inr (found.0, omega (arith, found.1), found.2)
] where
  by : count_by is_full (take n entries) ≡ 0 → (count : ℕ) → count_by is_full (take (suc n) entries) ≡ count → (count_by is_full (take (suc n) entries) ≡ 0) ⊎ ((number : ℕ) × (number ≤ suc n) × IsFirstFull entries number)
  by none zero is = inl is
  by none (suc count) is =
      let last : suc n - 1 ≡ n = omega arith in
      inr (
        suc n,
        omega arith,
        record {
          counted = omega arith;
          within = less;
          before = ap (λ m. count_by is_full (take m entries)) last ∙ none;
          here = omega (arith, is);
        },
      )

-- so legal entries have a verdict, and those with a bad one
strict_legal : (rules : Rules) (entries : List Entry) → IsLegalForSessions rules entries → lawful_by false rules entries ⊎ ((number : ℕ) × IsFirstBadOf (lawful_by false rules) entries number)
strict_legal rules entries legal = elim (find_full entries (length entries) (omega arith)) [
  | inl none ↦ inl (record { legal = legal; room = ap (count_by is_full) (sym (take_all (length entries) entries (omega arith))) ∙ none })
  | inr found ↦ inr (found.0, full_is_bad rules entries found.0 found.2 (legal_front rules (found.0 - 1) entries legal))
]

strict_bad : (rules : Rules) (entries : List Entry) (number : ℕ) → IsFirstBadOf (IsLegalForSessions rules) entries number → (first : ℕ) × IsFirstBadOf (lawful_by false rules) entries first
strict_bad rules entries number bad = elim (find_full entries (number - 1) (omega (arith, bad.within))) [
  | inl none ↦ (
    number,
    record {
      counted = bad.counted;
      within = bad.within;
      before = record { legal = bad.before; room = none };
      bad = λ with_room. bad.bad with_room.legal;
    },
  )
  | inr found ↦ (
    found.0,
    full_is_bad rules entries found.0 found.2
        (subst (IsLegalForSessions rules) (front_front (found.0 - 1) (number - 1) entries (omega (arith, found.1))) (legal_front rules (found.0 - 1) (take (number - 1) entries) bad.before)),
  )
]

strict_judged : (rules : Rules) (entries : List Entry) (verdict : Verdict) → IsJudged (IsLegalForSessions rules) entries verdict → (strict : Verdict) × IsJudged (lawful_by false rules) entries strict
strict_judged rules entries (Legal count) judged = elim (strict_legal rules entries judged.0) [ inl lawful ↦ (Legal count, (lawful, judged.1)) | inr bad ↦ (FirstBad bad.0, bad.1) ]
strict_judged rules entries (FirstBad number) judged = let bad = strict_bad rules entries number judged in (FirstBad bad.0, bad.1)
strict_judged rules entries (Refused line) judged = absurd judged

module _ (asked : Option Rules) where
  strict_as : (seen : SeenText) (verdict : Verdict) → IsSeenAs asked verdict seen → (strict : Verdict) × IsSeenAsBy false asked strict seen
  strict_as (Whole named entries) verdict is = strict_judged (rules_or asked named) entries verdict is
  strict_as (CutOff named line entries) (Legal count) is = absurd is
  strict_as (CutOff named line entries) (FirstBad number) is = let bad = strict_bad (rules_or asked named) entries number is in (FirstBad bad.0, bad.1)
  strict_as (CutOff named line entries) (Refused refused) is = elim (strict_legal (rules_or asked named) entries is.1) [ inl lawful ↦ (Refused refused, (is.0, lawful)) | inr bad ↦ (FirstBad bad.0, bad.1) ]
  strict_as (Bad line) verdict is = (verdict, is)

  allowed_as : (seen : SeenText) (verdict : Verdict) → IsSeenAsBy true asked verdict seen ↔ IsSeenAs asked verdict seen
  allowed_as (Whole named entries) verdict = (λ is. is, λ is. is)
  allowed_as (CutOff named line entries) (Legal count) = (λ is. is, λ is. is)
  allowed_as (CutOff named line entries) (FirstBad number) = (λ is. is, λ is. is)
  allowed_as (CutOff named line entries) (Refused refused) = (λ is. is, λ is. is)
  allowed_as (Bad line) verdict = (λ is. is, λ is. is)

pub full_judged : TextsAreSeenThrough → FullHeapsAreJudged
full_judged seen = record {
  verdict = by;
  allowed = λ asked text verdict. allowed_as asked (seen_text text) verdict;
} where
  by : (may_be_full : Bool) (asked : Option Rules) (text : Text) → (verdict : Verdict) × IsSeenThroughBy may_be_full asked text verdict
  by true asked text = let found = seen asked text in (found.0, (allowed_as asked (seen_text text) found.0).1 found.1)
  by false asked text = let found = seen asked text in strict_as asked (seen_text text) found.0 found.1
