-- A text has one verdict at most.
use Rattle.std.proofs.{Common.{◌≡◌, inl, inr, ℕ, ◌-◌, ◌<◌, List, take, ap, refl, subst, arith}, lemmas.Bool.cases_order}
use Rattle.std.proofs.lemmas.List.{take-take}
use Rattle.mh_model.specs.{declared.config.Config.Config, declared.history.Entry.Entry, History.IsFirstBadOf}
use Rattle.mh_model.specs.{Bytes.Text, Script.Reading, HistoryTexts.{IsJudged, history_reading, IsChecked}}
use Rattle.mh_model.specs.declared.history.Verdict.{Verdict}
use Rattle.mh_model.specs.declared.history.Verdict.TheVariants.{Refused, Legal, FirstBad}
use Rattle.mh_text_laws.proofs.verdicts.{StepRules.rule-begins, LegalHistories.{IsAnswered, after_entry, legal_rule}}

-- an entry before the first bad one is not the first bad one
no_earlier_entry : {X : Type 0} (Lawful : List X → Type 0) → ((n : ℕ) (xs : List X) → Lawful xs → Lawful (take n xs)) → (entries : List X) (i j : ℕ) → i < j
    → IsFirstBadOf Lawful entries i → IsFirstBadOf Lawful entries j → ⊥
no_earlier_entry Lawful begins entries i j below h k = h.bad (subst Lawful (take-take i (j - 1) entries (omega arith)) (begins i (take (j - 1) entries) k.before))

first_bad-once : {X : Type 0} (Lawful : List X → Type 0) → ((n : ℕ) (xs : List X) → Lawful xs → Lawful (take n xs)) → (entries : List X) (i j : ℕ)
    → IsFirstBadOf Lawful entries i → IsFirstBadOf Lawful entries j → i ≡ j
first_bad-once Lawful begins entries i j h k =
    elim (cases_order i j) as (λ _. i ≡ j) [
      | inl same ↦ same
      | inr other ↦ elim other as (λ _. i ≡ j) [
        | inl below ↦ absurd (no_earlier_entry Lawful begins entries i j below h k)
        | inr above ↦ absurd (no_earlier_entry Lawful begins entries j i above k h)
      ]
    ]

-- a list that is judged by a rule whose beginnings are lawful
judged-once : {X : Type 0} (Lawful : List X → Type 0) → ((n : ℕ) (xs : List X) → Lawful xs → Lawful (take n xs)) → (entries : List X) (v w : Verdict)
    → IsJudged Lawful entries v → IsJudged Lawful entries w → v ≡ w
judged-once Lawful begins entries (Refused line) w h k = absurd h
judged-once Lawful begins entries v (Refused line) h k = absurd k
judged-once Lawful begins entries (Legal a) w h k = grind arith
judged-once Lawful begins entries (FirstBad i) (Legal a) h k = absurd (h.bad (begins i entries k.0))
judged-once Lawful begins entries (FirstBad i) (FirstBad j) h k = ap FirstBad (first_bad-once Lawful begins entries i j h k)

-- Texts ------------------------------------------------------------------------------------------

checked_by : (config : Config) (text : Text) (found : Reading (List Entry)) (v w : Verdict) → history_reading text ≡ found → IsChecked config text v → IsChecked config text w
    → v ≡ w
checked_by config text found v w is h k = grind (arith, judged-once, rule-begins, IsAnswered, after_entry, legal_rule)

pub checked-once : (config : Config) (text : Text) (v w : Verdict) → IsChecked config text v → IsChecked config text w → v ≡ w
checked-once config text v w h k = checked_by config text (history_reading text) v w refl h k
