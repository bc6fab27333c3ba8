-- The lines of an order, each of which takes a command.
use Rattle.std.proofs.Common.{◌≡◌, ◌≢◌, ◌∙◌, ℕ, suc, Option, Some, None, List, [], ◌∷◌, ◌++◌, ap, sym, refl, append_assoc}
use Rattle.mh_model.specs.{Bytes.Text, HistoryTexts.session_of, Script.{Reading, BadLine, Means}}
use Rattle.mh_text.specs.{Pieces.{Lines, TakesLine}, TextErrors.Refuses, declared.text_error.TextError.TextError}
use Rattle.mh_text.specs.declared.text_error.TextError.TheVariants.{Line, NoMemory}
use Rattle.mh_history.proofs.LineLemmas.{with_entries}
use Rattle.mh_judge_log.specs.{declared.timed.Timed.Timed, Auxiliary.{command_before, order_left}}
use Rattle.mh_judge_log.specs.Logs.{Taken, order_end, order_from, taken_by}

-- One line ---------------------------------------------------------------------------------------

pub none_of_none : (line : Text) → taken_by line [] ≡ None
none_of_none line = by (session_of line) refl where
  by : (who : Option ℕ) → session_of line ≡ who → taken_by line [] ≡ None
  by None is = rw is refl
  by (Some who) is = rw is refl

pub took_some : (line : Text) (left : List Timed) (taken : Taken) → taken_by line left ≡ Some taken → left ≢ []
took_some line left taken is none = let nothing : taken_by line [] ≡ Some taken = rw none at is in let other = none_of_none line in cc

taken_line : (left : List Timed) (n : ℕ) (line : Text) (lines : List Text) (rest : Text) (timed : Timed) (others : List Timed) → taken_by line left ≡ Some (record { command = timed; others = others })
    → order_from left n (line ∷ lines) rest ≡ command_before timed (order_from others (suc n) lines rest)
taken_line left n line lines rest timed others is = rw (is, order_from) refl

pub line_takes : (left others : List Timed) (old new : Lines) (n : ℕ) (line : Text) (timed : Timed) → TakesLine old new n line → taken_by line left ≡ Some (record { command = timed; others = others })
    → order_left left old ≡ command_before timed (order_left others new)
line_takes left others old new n line timed takes is =
    ap (λ (lines : List Text). order_from left old.number lines old.rest) takes.taken
    ∙ (taken_line left old.number line new.lines old.rest timed others is ∙ rw (takes.counted, takes.after) refl)

bad_line : (left : List Timed) (n : ℕ) (line : Text) (lines : List Text) (rest : Text) → taken_by line left ≡ None → order_from left n (line ∷ lines) rest ≡ BadLine n
bad_line left n line lines rest is = rw (is, order_from) refl

pub line_bad : (left : List Timed) (old new : Lines) (n : ℕ) (line : Text) → TakesLine old new n line → taken_by line left ≡ None → order_left left old ≡ BadLine n
line_bad left old new n line takes is =
    ap (λ (lines : List Text). order_from left old.number lines old.rest) takes.taken ∙ (bad_line left old.number line new.lines old.rest is ∙ ap BadLine (sym takes.numbered))

pub order_ended : (left : List Timed) (old : Lines) → old.lines ≡ [] → old.rest ≡ [] → left ≡ [] → order_left left old ≡ Means []
order_ended left old no_lines no_rest none = rw (no_lines, no_rest, none) refl

bad_end : (left : List Timed) (n : ℕ) (rest : Text) → (rest ≡ [] → left ≡ [] → ⊥) → order_end left n rest ≡ BadLine n
bad_end [] n [] some = absurd (some refl refl)
bad_end [] n (byte ∷ rest) some = refl
bad_end (timed ∷ left) n rest some = refl

pub order_unended : (left : List Timed) (old : Lines) → old.lines ≡ [] → (old.rest ≡ [] → left ≡ [] → ⊥) → order_left left old ≡ BadLine old.number
order_unended left old no_lines some = rw no_lines (bad_end left old.number old.rest some)

-- Orders -----------------------------------------------------------------------------------------

-- lines have taken these commands
pub record HasTaken (all : List Timed) (old : Lines) (left : List Timed) (new : Lines) (taken : List Timed) : Type 0 where
  pub reads : order_left all old ≡ with_entries taken (order_left left new)
  pub some : left ≢ [] → all ≢ []
  pub begun : taken ≢ [] → all ≢ []

same_reading : (r : Reading (List Timed)) → r ≡ with_entries [] r
same_reading (BadLine n) = refl
same_reading (Means order) = refl

one_more : (taken : List Timed) (timed : Timed) (r : Reading (List Timed)) → with_entries taken (command_before timed r) ≡ with_entries (taken ++ timed ∷ []) r
one_more taken timed (BadLine n) = refl
one_more taken timed (Means more) = ap Means (sym (append_assoc taken (timed ∷ []) more))

module _ {all left : List Timed} {old mid : Lines} {taken : List Timed} (has : HasTaken all old left mid taken) where
  pub taken_refused : (error : TextError) → Refuses (order_left left mid) error → Refuses (order_left all old) error
  taken_refused (Line line) bad = has.reads ∙ ap (with_entries taken) bad
  taken_refused NoMemory bad = tt
