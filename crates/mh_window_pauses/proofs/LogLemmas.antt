-- The trace of the lines of a log, as they are read.
use Rattle.std.proofs.Common.{◌≡◌, ◌∙◌, ◌↔◌, ℕ, ◌+◌, ◌<◌, ◌≤◌, IsTrue, Bool, true, false, nat_lt, if◌then◌else◌, List, [], ◌∷◌, ◌++◌, length, replicate, ap, sym, refl, append-nil, append_assoc, arith}
use Rattle.std.proofs.{lemmas.Bool.false≢true, lemmas.Bool.Decides.nat_tests}
use Rattle.std.proofs.lemmas.List.{length-append, length-replicate}
use Rattle.mh_model.specs.{declared.birth.TheConstants.LIFE, Bytes.Text, Script.BadLine, Trace.TraceState}
use Rattle.mh_history.specs.Beginnings.{TakesEntry, entries_left}
use Rattle.mh_history.proofs.LineLemmas.{Walked, walked_more}
use Rattle.mh_report.specs.{declared.segment.Unit.Unit, Segments.letter_of}
use Rattle.mh_text.specs.Pieces.{Lines, lines_from}
use Rattle.mh_window_pauses.specs.{declared.line.PauseLine.PauseLine, declared.line.PauseLine.TheVariants.{Blank, Run}}
use Rattle.mh_window_pauses.specs.{declared.log.Traced.Traced, Auxiliary.{IsShort, IsTraceIf, IsTraceOf}}
use Rattle.mh_window_pauses.specs.Logs.{bounded, letters_of_line, letters_of_lines, line_as_pause, pause_reading}

letters_more : (lines : List PauseLine) (line : PauseLine) → letters_of_lines (lines ++ line ∷ []) ≡ letters_of_lines lines ++ letters_of_line line
letters_more [] line = append-nil (letters_of_line line)
letters_more (first ∷ lines) line = ap (λ ls. letters_of_line first ++ ls) (letters_more lines line) ∙ sym (append_assoc (letters_of_line first) (letters_of_lines lines) (letters_of_line line))

-- a line without a run adds nothing
pub blank_more : (is_short : Bool) (lines : List PauseLine) (trace : TraceState) → IsTraceIf is_short lines trace → IsTraceIf is_short (lines ++ Blank ∷ []) trace
blank_more true lines trace is = is ∙ sym (letters_more lines Blank ∙ append-nil (letters_of_lines lines))
blank_more false lines trace is = let same = ap length (letters_more lines Blank ∙ append-nil (letters_of_lines lines)) in omega (arith, same, is)

-- a run that is added
pub run_more : (lines : List PauseLine) (unit : Unit) (count : ℕ) (old new : TraceState) → new.letters ≡ old.letters ++ replicate count (letter_of unit) → IsTraceIf true lines old → IsTraceIf true (lines ++ Run unit count ∷ []) new
run_more lines unit count old new added is = added ∙ ap (λ ls. ls ++ replicate count (letter_of unit)) is ∙ sym (letters_more lines (Run unit count))

-- one that isn't any more
pub long_with : (lines : List PauseLine) (unit : Unit) (count : ℕ) (trace : TraceState) → IsTraceIf true lines trace → LIFE ≤ length trace.letters + count → LIFE ≤ length (letters_of_lines (lines ++ Run unit count ∷ []))
long_with lines unit count trace is long =
    omega (arith, long, ap length is, ap length (letters_more lines (Run unit count)), length-append (letters_of_lines lines) (replicate count (letter_of unit)), length-replicate count (letter_of unit))

pub long_more : (lines : List PauseLine) (line : PauseLine) → LIFE ≤ length (letters_of_lines lines) → LIFE ≤ length (letters_of_lines (lines ++ line ∷ []))
long_more lines line long = omega (arith, long, ap length (letters_more lines line), length-append (letters_of_lines lines) (letters_of_line line))

-- lines were read, and this is their trace
pub record HasTraced (old now : Lines) (kept : Traced) : Type 0 where
  pub seen : List PauseLine
  pub walked : Walked line_as_pause old now seen
  pub trace : IsTraceOf seen kept
  pub bounded : IsShort kept.trace.trace

pub traced_more : (old mid new : Lines) (before after : Traced) (line : PauseLine) → HasTraced old mid before → TakesEntry line_as_pause mid new line → ((lines : List PauseLine) → IsTraceOf lines before → IsTraceOf (lines ++ line ∷ []) after)
    → IsShort after.trace.trace → HasTraced old new after
traced_more old mid new before after line has took traces bounded = record {
  seen = has.seen ++ line ∷ [];
  walked = walked_more line_as_pause old mid new has.seen (has.seen ++ line ∷ []) line has.walked took refl;
  trace = traces has.seen has.trace;
  bounded = bounded;
}

-- Texts ------------------------------------------------------------------------------------------

-- a text that is neither is read by its lines
pub by_lines : (text : Text) → length text ≤ 2147483648 → (length text ≡ 0 → ⊥) → pause_reading text ≡ bounded (entries_left line_as_pause (lines_from 1 text))
by_lines [] short some = absurd (some refl)
by_lines (byte ∷ text) short some =
    let test : nat_lt 2147483648 (length (byte ∷ text)) ≡ false = grind (arith, nat_tests) in
    ap (λ b. if b then BadLine 0 else bounded (entries_left line_as_pause (lines_from 1 (byte ∷ text)))) test

-- Cases ------------------------------------------------------------------------------------------

pub blank_is : (line : PauseLine) → ((unit : Unit) (count : ℕ) → line ≡ Run unit count → ⊥) → line ≡ Blank
blank_is Blank no_run = refl
blank_is (Run unit count) no_run = absurd (no_run unit count refl)

pub not_short : (short : Bool) (n : ℕ) → IsTrue short ↔ (n < LIFE) → short ≡ false → LIFE ≤ n
not_short short n is none = by (nat_lt n LIFE) refl where
  by : (b : Bool) → nat_lt n LIFE ≡ b → LIFE ≤ n
  by true test = let less : n < LIFE = grind (arith, nat_tests) in absurd (false≢true (sym none ∙ is.1 less))
  by false test = grind (arith, nat_tests)

-- a line that is added to a trace, by what it is
pub blank_added : (kept : Traced) (line : PauseLine) → ((unit : Unit) (count : ℕ) → line ≡ Run unit count → ⊥) → (lines : List PauseLine) → IsTraceOf lines kept → IsTraceOf (lines ++ line ∷ []) kept
blank_added kept line no_run lines is = rw (blank_is line no_run) (blank_more kept.is_short lines kept.trace.trace is)

pub none_added : (kept : Traced) (line : PauseLine) → kept.is_short ≡ false → (lines : List PauseLine) → IsTraceOf lines kept → IsTraceOf (lines ++ line ∷ []) kept
none_added kept line long lines is = rw long (long_more lines line (rw long at is))

pub too_many_added : (kept : Traced) (line : PauseLine) (unit : Unit) (count : ℕ) → line ≡ Run unit count → kept.is_short ≡ true → LIFE ≤ length kept.trace.trace.letters + count → (lines : List PauseLine) → IsTraceOf lines kept
    → LIFE ≤ length (letters_of_lines (lines ++ line ∷ []))
too_many_added kept line unit count run short long lines is = rw run (long_with lines unit count kept.trace.trace (rw short at is) long)

pub run_added : (kept : Traced) (line : PauseLine) (unit : Unit) (count : ℕ) (new : TraceState) → line ≡ Run unit count → kept.is_short ≡ true → new.letters ≡ kept.trace.trace.letters ++ replicate count (letter_of unit) → (lines : List PauseLine) → IsTraceOf lines kept
    → IsTraceIf kept.is_short (lines ++ line ∷ []) new
run_added kept line unit count new run short added lines is = rw (run, short) (run_more lines unit count kept.trace.trace new added (rw short at is))
