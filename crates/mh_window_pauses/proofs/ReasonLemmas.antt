-- The first bad line of a log of pauses, and the lines that are passed before it.
use Rattle.std.proofs.Common.{◌≡◌, ◌∙◌, ◌⊎◌, inl, inr, ℕ, suc, ◌≤◌, ◌==◌, nat_lt, Bool, true, false, not, ◌||◌, ◌&&◌, if◌then◌else◌, Option, Some, None, option_map, List, [], ◌∷◌, ◌++◌, length, ap, sym, refl, subst, append_assoc, arith}
use Rattle.std.proofs.{lemmas.Bool.Decides.nat_tests, lemmas.List.length-append, lemmas.List.Folds.list_all-append}
use Rattle.std.specs.{Prelude.codes, List.list_all}
use Rattle.mh_model.specs.{declared.birth.TheConstants.LIFE, Bytes.{Text, cut_after, is_text, number, words}}
use Rattle.mh_model.specs.{HistoryTexts.entries_from, Script.{Reading, BadLine, Means, is_blank}}
use Rattle.mh_history.specs.Beginnings.{entries_left, entry_before}
use Rattle.mh_history.proofs.LineLemmas.{entry_taken, line_bad, line_taken}
use Rattle.mh_reasons.specs.{Lines.{HasPair, IsPlain}, Reasons.StandsAtLine}
use Rattle.mh_reasons.proofs.ReadLemmas.{at_end_bad, map_bad}
use Rattle.mh_report.specs.declared.segment.Unit.TheVariants.{Mutator, Collector}
use Rattle.mh_text.specs.Pieces.{Lines, TakesLine, lines_from}
use Rattle.mh_window_pauses.specs.{declared.line.PauseLine.PauseLine, declared.line.PauseLine.TheVariants.{Blank, Run}}
use Rattle.mh_window_pauses.specs.Logs.{bounded, letters_of_lines, line_as_pause, pause_reading, run_of}
use Rattle.mh_window_pauses.specs.declared.reason.PauseReason.{PauseReason}
use Rattle.mh_window_pauses.specs.Reasons.{HasTooMany, IsCountReason, IsLineReason, IsPauseReason, IsWordsReason, is_unit}
use Rattle.mh_window_pauses.proofs.LogLemmas.{by_lines}

-- Bad lines --------------------------------------------------------------------------------------

-- a bad line is none before those that are read
not_before : (k n : ℕ) (lines : List Text) (rest : Text) → entries_from line_as_pause k lines rest ≡ BadLine n → k ≤ n
not_before k n [] rest bad = let end = at_end_bad {X = List PauseLine} [] k n rest bad in omega (arith, end.0)
not_before k n (line ∷ lines) rest bad = by (line_as_pause line) bad (λ later. not_before (suc k) n lines rest later) where
  by : (read : Option PauseLine) → ◌≡◌ {A = Reading (List PauseLine)} (elim read [ Some entry ↦ entry_before entry (entries_from line_as_pause (suc k) lines rest) | None ↦ BadLine k ]) (BadLine n)
      → (entries_from line_as_pause (suc k) lines rest ≡ BadLine n → suc k ≤ n) → k ≤ n
  by None bad more = let same : k ≡ n = cc in omega (arith, same)
  by (Some entry) bad more = omega (arith, more (map_bad _ _ n bad))

-- the next line is the bad one, or the bad one is after it
bad_next : (mid new : Lines) (number n : ℕ) (line : Text) → TakesLine mid new number line → entries_left line_as_pause mid ≡ BadLine n → ((line_as_pause line ≡ None) × (number ≡ n)) ⊎ (entries_left line_as_pause new ≡ BadLine n)
bad_next mid new number n line takes bad = by (line_as_pause line) refl where
  by : (read : Option PauseLine) → line_as_pause line ≡ read → ((line_as_pause line ≡ None) × (number ≡ n)) ⊎ (entries_left line_as_pause new ≡ BadLine n)
  by None is =
      let both : ◌≡◌ {A = Reading (List PauseLine)} (BadLine number) (BadLine n) = sym (line_bad line_as_pause mid new number line takes is) ∙ bad in
      let same : number ≡ n = cc in
      inl (is, same)
  by (Some entry) is = inr (map_bad _ _ n (sym (entry_taken line_as_pause mid new entry (line_taken line_as_pause mid new number line entry takes is)) ∙ bad))

-- A text was read up to here: which lines were read, whether one of them isn't blank, and that the bad one is still to come
pub record Reached (text : Text) (n : ℕ) (begun : Bool) (left : Lines) : Type 0 where
  pub before : List Text
  pub lines : (cut_after 10 text).pieces ≡ before ++ left.lines
  pub after : left.rest ≡ (cut_after 10 text).rest
  pub numbered : left.number ≡ suc (length before)
  pub blank : list_all is_blank before ≡ not begun
  pub coming : entries_left line_as_pause left ≡ BadLine n

-- one more line is passed
module _ (text : Text) (n number : ℕ) (mid new : Lines) (line : Text) (takes : TakesLine mid new number line) where
  all_blank : (before : List Text) (begun : Bool) → list_all is_blank before ≡ not begun → list_all is_blank (before ++ line ∷ []) ≡ not (begun || not (is_blank line))
  all_blank before begun is = list_all-append is_blank before (line ∷ []) ∙ ap (λ b. b && (is_blank line && true)) is ∙ by begun (is_blank line) where
    by : (begun blank : Bool) → (not begun && (blank && true)) ≡ not (begun || not blank)
    by true blank = refl
    by false true = refl
    by false false = refl

  reached_more : (begun : Bool) → Reached text n begun mid → (number ≡ n → ⊥) → Reached text n (begun || not (is_blank line)) new
  reached_more begun has other = record {
    before = has.before ++ line ∷ [];
    lines = has.lines ∙ ap (λ ls. has.before ++ ls) takes.taken ∙ sym (append_assoc has.before (line ∷ []) new.lines);
    after = takes.after ∙ has.after;
    numbered = omega (arith, takes.counted, has.numbered, length-append has.before (line ∷ []));
    blank = all_blank has.before begun has.blank;
    coming = elim (bad_next mid new number n line takes has.coming) [ inl here ↦ absurd (other here.1) | inr later ↦ later ];
  }

  pub reached_begun : (begun : Bool) → begun ≡ true → Reached text n begun mid → (number ≡ n → ⊥) → Reached text n begun new
  reached_begun true is has other = reached_more true has other
  reached_begun false is has other = cc

  pub reached_first : (begun blank : Bool) → begun ≡ false → blank ≡ is_blank line → Reached text n begun mid → (number ≡ n → ⊥) → Reached text n (not blank) new
  reached_first true blank is same has other = cc
  reached_first false blank is same has other = rw same (reached_more false has other)

  -- it is the bad one
  pub reached_bad : (begun : Bool) → Reached text n begun mid → number ≡ n → line_as_pause line ≡ None
  reached_bad begun has here = elim (bad_next mid new number n line takes has.coming) [
    | inl bad ↦ bad.0
    | inr later ↦ absurd (omega (arith, here, takes.numbered, takes.counted, not_before new.number n new.lines new.rest later))
  ]

  stands_there : (begun : Bool) → Reached text n begun mid → number ≡ n → StandsAtLine text n begun line
  stands_there begun has here = record {
    before = has.before;
    after = new.lines;
    lines = has.lines ∙ ap (λ ls. has.before ++ ls) takes.taken;
    numbered = omega (arith, here, takes.numbered, has.numbered);
    first = has.blank;
    full = full_line line (reached_bad begun has here);
  } where
    full_line : (line : Text) → line_as_pause line ≡ None → is_blank line ≡ false
    full_line [] none = cc
    full_line (byte ∷ bytes) none = by (byte == 35) none where
      by : (b : Bool) → (if b then Some Blank else run_of (words (byte ∷ bytes))) ≡ None → b ≡ false
      by true none = cc
      by false none = refl

  pub reached_line : (begun : Bool) (r : PauseReason) → Reached text n begun mid → number ≡ n → IsLineReason number begun line r → IsPauseReason text n r
  reached_line begun r has here is = by r (subst (λ m. IsLineReason m begun line r) here is) (stands_there begun has here) where
    by : (r : PauseReason) → IsLineReason n begun line r → StandsAtLine text n begun line → IsPauseReason text n r
    by PauseReason.TooLong is stands = absurd is.2.1
    by PauseReason.TooManyUnits is stands = absurd is.2.1
    by PauseReason.Empty is stands = absurd is.2.1
    by PauseReason.NoNewline is stands = absurd is.2.1
    by PauseReason.Comment is stands = (begun, line, stands, is)
    by (PauseReason.Bytes fault) is stands = (begun, line, stands, is)
    by (PauseReason.History version) is stands = (begun, line, stands, is)
    by PauseReason.Script is stands = (begun, line, stands, is)
    by (PauseReason.UnknownWord quoted) is stands = (begun, line, stands, is)
    by PauseReason.NotRun is stands = (begun, line, stands, is)
    by (PauseReason.Number fault) is stands = (begun, line, stands, is)

-- a text without a bad line
pub too_many : (text : Text) → pause_reading text ≡ BadLine 0 → length text ≤ 2147483648 → (length text ≡ 0 → ⊥) → HasTooMany text
too_many text bad short full = by (entries_left line_as_pause (lines_from 1 text)) refl (sym (by_lines text short full) ∙ bad) where
  by : (reading : Reading (List PauseLine)) → entries_left line_as_pause (lines_from 1 text) ≡ reading → bounded reading ≡ BadLine 0 → HasTooMany text
  by (BadLine m) is bad = let same : m ≡ 0 = cc in absurd (omega (arith, same, not_before 1 m (cut_after 10 text).pieces (cut_after 10 text).rest is))
  by (Means lines) is bad = long (nat_lt (length (letters_of_lines lines)) LIFE) refl bad where
    long : (b : Bool) → nat_lt (length (letters_of_lines lines)) LIFE ≡ b → (if b then Means (letters_of_lines lines) else BadLine 0) ≡ BadLine 0 → HasTooMany text
    long true test bad = cc
    long false test bad = let many : LIFE ≤ length (letters_of_lines lines) = grind (arith, nat_tests) in record { short = short; lines = lines; read = is; many = many }

-- Words ------------------------------------------------------------------------------------------

-- a line that is no run has no number after its unit
pub no_number : (line first : Text) (given : List Text) → line_as_pause line ≡ None → words line ≡ first ∷ given → is_unit first ≡ true → (count : Text) → given ≡ count ∷ [] → number count ≡ None
no_number [] first given none is unit count one = cc
no_number (byte ∷ bytes) first given none is unit count one = by (byte == 35) none where
  read : run_of (words (byte ∷ bytes)) ≡ run_of (first ∷ count ∷ [])
  read = ap run_of (is ∙ ap (λ ws. first ∷ ws) one)

  by : (b : Bool) → (if b then Some Blank else run_of (words (byte ∷ bytes))) ≡ None → number count ≡ None
  by true none = cc
  by false none = units (is_text first (codes "mutator")) (is_text first (codes "collector")) unit (number count) refl (sym read ∙ none) where
    units : (one other : Bool) → (one || other) ≡ true → (read : Option ℕ) → number count ≡ read
        → (if one then option_map (λ n. Run Mutator n) read else (if other then option_map (λ n. Run Collector n) read else None)) ≡ None → number count ≡ None
    units one other unit None is none = is
    units true other unit (Some n) is none = cc
    units false true unit (Some n) is none = cc
    units false false unit (Some n) is none = cc

-- a reason of the words after a unit is one of all words, and that is one of the line
pub of_count : (n : ℕ) (begun : Bool) (first : Text) (given : List Text) (r : PauseReason) → is_unit first ≡ true → IsCountReason given r → IsWordsReason n begun (first ∷ given) r
of_count n begun first given PauseReason.NotRun unit is = (unit, is)
of_count n begun first given (PauseReason.Number fault) unit is = (unit, is)
of_count n begun first given other unit is = absurd is

pub of_words : (n : ℕ) (begun : Bool) (line : Text) (r : PauseReason) → ¬ HasPair line 32 35 → IsPlain line → IsWordsReason n begun (words line) r → IsLineReason n begun line r
of_words n begun line PauseReason.Comment pair plain is = absurd is.1
of_words n begun line (PauseReason.Bytes fault) pair plain is = absurd is.1
of_words n begun line other pair plain is = (pair, plain, is)
