-- The trace of the entries of a history, as they are read.
use Rattle.std.proofs.Common.{◌≡◌, ◌∙◌, ℕ, ◌+◌, max, Bool, true, false, nat_lt, if◌then◌else◌, inr, List, [], ◌∷◌, ◌++◌, length, replicate, ap, sym, subst, refl, append-nil, arith}
use Rattle.std.proofs.{lemmas.Bool.Decides.nat_tests, lemmas.Grind.flat_map-append}
use Rattle.std.proofs.lemmas.List.{length-append, length-replicate}
use Rattle.std.specs.Prelude.{Result, Ok, Err, OnErr}
use Rattle.mh_model.specs.{declared.birth.TheConstants.LIFE, declared.config.Config.Config}
use Rattle.mh_model.specs.{declared.history.Measured.Measured, Bytes.Text, HistoryTexts.{Recorded, recorded_reading}}
use Rattle.mh_model.specs.{Script.{Reading, BadLine, Means}, Trace.{Letter, M, C, TraceState}}
use Rattle.mh_text.specs.Pieces.{Lines}
use Rattle.mh_history.specs.Beginnings.{TakesEntry, line_as_measured, after_header}
use Rattle.mh_history.proofs.LineLemmas.{Walked, walked_more}
use Rattle.mh_window_curve.specs.{declared.tally.Tally.Tally, Drawings.{IsJudgedText, TakesToDraw}, Promises.IsJudged}
use Rattle.mh_window_curve.specs.declared.kind.TextKind.TheVariants.{History}
use Rattle.mh_window_curve.specs.declared.promises.PromiseJudgement.{PromiseJudgement}
use Rattle.mh_window_curve.specs.Histories.{Extends, IsShortTrace, IsLongHistory, history_curve, recorded_curve, short_reading, traced_curve, greatest_spent, letters_of_entries, letters_of_entry}
use Rattle.mh_window_curve.specs.Auxiliary.{IsTallyOf, IsTraceIf, IsTraceOf}
use Rattle.mh_orders.specs.declared.{curve.CurveForm.CurveForm, promises.Promises.Promises}

pub letters_of-more : (entries : List Measured) (measured : Measured) → letters_of_entries (entries ++ measured ∷ []) ≡ letters_of_entries entries ++ letters_of_entry measured
letters_of-more entries measured = flat_map-append letters_of_entry entries (measured ∷ []) ∙ ap (λ (ls : List Letter). letters_of_entries entries ++ ls) (append-nil (letters_of_entry measured))

pub greatest_of-more : (entries : List Measured) (measured : Measured) → greatest_spent (entries ++ measured ∷ []) ≡ max (greatest_spent entries) measured.collector
greatest_of-more [] measured = omega arith
greatest_of-more (entry ∷ entries) measured = omega (arith, greatest_of-more entries measured)

pub units_of-length : (measured : Measured) → length (letters_of_entry measured) ≡ measured.mutator + measured.collector
units_of-length measured = omega (arith, length-append (replicate measured.mutator M) (replicate measured.collector C), length-replicate measured.mutator M, length-replicate measured.collector C)

-- the trace with the units of one entry more
pub trace_more : (entries : List Measured) (measured : Measured) (old new : TraceState) → IsTraceOf entries old → Extends old measured.mutator measured.collector new → IsTraceOf (entries ++ measured ∷ []) new
trace_more entries measured old new is extends = record {
  letters = extends.letters ∙ (ap (λ (ls : List Letter). ls ++ letters_of_entry measured) is.letters ∙ sym (letters_of-more entries measured));
  greatest = extends.greatest ∙ (ap (λ g. max g measured.collector) is.greatest ∙ sym (greatest_of-more entries measured));
}

pub tally_more : (entries : List Measured) (measured : Measured) (is_short : Bool) (old new : TraceState) → is_short ≡ true → Extends old measured.mutator measured.collector new → IsTraceIf is_short entries old
    → IsTraceIf is_short (entries ++ measured ∷ []) new
tally_more entries measured is_short old new short extends is = rw short (trace_more entries measured old new (rw short at is) extends)

-- entries were read, and this is their tally
pub record HasTallied (old now : Lines) (kept : Tally) : Type 0 where
  pub seen : List Measured
  pub walked : Walked line_as_measured old now seen
  pub tally : IsTallyOf seen kept
  pub bounded : IsShortTrace kept.trace.trace

pub tallied_more : (old mid new : Lines) (before after : Tally) (measured : Measured) → HasTallied old mid before → TakesEntry line_as_measured mid new measured
    → ((entries : List Measured) → IsTallyOf entries before → IsTallyOf (entries ++ measured ∷ []) after) → IsShortTrace after.trace.trace → HasTallied old new after
tallied_more old mid new before after measured has took tallies bounded = record {
  seen = has.seen ++ measured ∷ [];
  walked = walked_more line_as_measured old mid new has.seen (has.seen ++ measured ∷ []) measured has.walked took refl;
  tally = tallies has.seen has.tally;
  bounded = bounded;
}

-- What is drawn of entries that were read, and of their trace
pub record HasRead (config : Config) (text : Text) (kept : Tally) : Type 0 where
  pub entries : List Measured
  pub reads : recorded_reading text ≡ Means (record { config = config; entries = entries })
  pub tally : IsTallyOf entries kept

pub has_read : (config : Config) (text : Text) (r : Reading (List Measured)) (kept : Tally) → recorded_reading text ≡ after_header config r → (entries : List Measured) × (r ≡ Means entries) × IsTallyOf entries kept
    → HasRead config text kept
has_read config text r kept is (entries, means, tally) = record { entries = entries; reads = is ∙ ap (after_header config) means; tally = tally }

module _ {config : Config} {text : Text} {kept : Tally} (read : HasRead config text kept) where
  pub takes_read : TakesToDraw History text
  takes_read = inr (record { config = config; entries = read.entries }, read.reads)

  pub long_read : kept.is_short ≡ false → IsLongHistory text
  long_read long = (record { config = config; entries = read.entries }, read.reads, rw long at read.tally)

  module _ (short : kept.is_short ≡ true) (bounded : IsShortTrace kept.trace.trace) where
    trace_is : IsTraceOf read.entries kept.trace.trace
    trace_is = rw short at read.tally

    is_read : short_reading (recorded_reading text) ≡ Means (record { config = config; entries = read.entries })
    is_read =
        let few : nat_lt (length (letters_of_entries read.entries)) LIFE ≡ true = grind (arith, nat_tests, ap length (trace_is.letters), bounded.short) in
        let recorded : Recorded = record { config = config; entries = read.entries } in
        ap short_reading read.reads ∙ ap (λ (b : Bool). if b then Means recorded else BadLine 0) few

    pub judged_read : (promises : Promises) (judgement : PromiseJudgement) (trace : TraceState) → trace ≡ kept.trace.trace → IsJudged promises trace.letters judgement → IsJudgedText History promises text judgement
    judged_read promises judgement trace same judged =
        let letters : trace.letters ≡ letters_of_entries read.entries = ap (λ (t : TraceState). t.letters) same ∙ trace_is.letters in
        (letters_of_entries read.entries, (record { config = config; entries = read.entries }, is_read, refl), subst (λ ls. IsJudged promises ls judgement) letters judged)

    pub curve_read : (form : CurveForm) (bytes : Text) → bytes ≡ traced_curve form config kept.trace.trace → bytes ≡ history_curve form text
    curve_read form bytes is =
        let curve : List Letter → ℕ → Text = λ letters greatest. traced_curve form config (record { letters = letters; quanta = 0; greatest = greatest }) in
        is ∙ (ap (λ (letters : List Letter). curve letters kept.trace.trace.greatest) trace_is.letters
        ∙ (ap (curve (letters_of_entries read.entries)) trace_is.greatest
        ∙ sym (ap (recorded_curve form) is_read)))

-- what holds anyway holds of an error
pub on_err : {T E P : Type 0} (r : Result T E) → P → OnErr r P
on_err (Ok value) h = tt
on_err (Err error) h = h
