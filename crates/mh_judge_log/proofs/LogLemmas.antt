-- Whole texts by their first line, and the lines of a log.
use Rattle.std.proofs.Common.{◌≡◌, ◌≢◌, ◌∙◌, ◌⊎◌, inl, inr, ℕ, suc, ◌<◌, ◌≤◌, nat_lt, Bool, true, false, if◌then◌else◌, Option, Some, None, IsSome, List, [], ◌∷◌, ◌++◌, length, ap, refl, subst, sym, arith}
use Rattle.std.proofs.lemmas.Bool.Decides.{nat_tests}
use Rattle.std.specs.Prelude.{codes}
use Rattle.mh_model.specs.{Bytes.{Text, cut_after, is_text, words}, Script.BadLine}
use Rattle.mh_model.proofs.TextLemmas.{text_is}
use Rattle.mh_text.specs.{Pieces.{Lines, TakesLine, lines_from}, TextErrors.Refuses}
use Rattle.mh_text.specs.declared.text_error.TextError.{TextError}
use Rattle.mh_text.specs.declared.text_error.TextError.TheVariants.{Line, NoMemory}
use Rattle.mh_judge_log.specs.{declared.timed.Timed.Timed, Beginnings.BeginsWithCommand}
use Rattle.mh_judge_log.specs.Auxiliary.{HasCommand, left_in, log_left, order_left}
use Rattle.mh_judge_log.specs.Logs.{log_from, ordered_of, ordered_reading, timed_of}
use Rattle.mh_judge_log.proofs.PendingLemmas.{left_push}

-- Texts ------------------------------------------------------------------------------------------

pub read_by : (is : Bool) (text : Text) → nat_lt 2147483648 (length text) ≡ is → ordered_reading text ≡ (if is then BadLine 0 else ordered_of (cut_after 10 text))
unfolding ordered_reading
read_by is text same = rw same refl

pub log_long : (text : Text) → 2147483648 < length text → ordered_reading text ≡ BadLine 0
log_long text long = read_by true text (grind (arith, nat_tests))

log_short : (text : Text) → length text ≤ 2147483648 → ordered_reading text ≡ ordered_of (cut_after 10 text)
log_short text short = read_by false text (grind (arith, nat_tests))

-- the pieces of a cut that is one line and what a reader of lines has left
cut_taken : (text : Text) (new : Lines) (n : ℕ) (line : Text) → TakesLine (lines_from 1 text) new n line → cut_after 10 text ≡ record { pieces = line ∷ new.lines; rest = new.rest }
cut_taken text new n line takes =
    let lines : (cut_after 10 text).pieces ≡ line ∷ new.lines = takes.taken in
    let rest : new.rest ≡ (cut_after 10 text).rest = takes.after in
    ap (λ (pieces : List Text). record { pieces = pieces; rest = (cut_after 10 text).rest }) lines ∙ ap (λ (rest : Text). record { pieces = line ∷ new.lines; rest = rest }) (sym rest)

no_pieces : (pieces : List Text) (rest : Text) → pieces ≡ [] → ordered_of (record { pieces = pieces; rest = rest }) ≡ BadLine 1
no_pieces pieces rest none = ap (λ (pieces : List Text). ordered_of (record { pieces = pieces; rest = rest })) none

pub log_empty : (text : Text) → length text ≤ 2147483648 → (lines_from 1 text).lines ≡ [] → ordered_reading text ≡ BadLine 1
log_empty text short none = log_short text short ∙ no_pieces (cut_after 10 text).pieces (cut_after 10 text).rest none

first_line : (line : Text) (lines : List Text) (rest : Text) (is : Bool) → is_text line (codes "log 1") ≡ is → ordered_of (record { pieces = line ∷ lines; rest = rest }) ≡ (if is then log_from [] 2 lines rest else BadLine 1)
first_line line lines rest is same = rw same refl

pub log_wrong : (text : Text) (new : Lines) (n : ℕ) (line : Text) → length text ≤ 2147483648 → TakesLine (lines_from 1 text) new n line → is_text line (codes "log 1") ≡ false → ordered_reading text ≡ BadLine 1
log_wrong text new n line short takes other = log_short text short ∙ (ap ordered_of (cut_taken text new n line takes) ∙ first_line line new.lines new.rest false other)

counted : (text : Text) (new : Lines) (n : ℕ) (line : Text) → TakesLine (lines_from 1 text) new n line → 2 ≡ new.number
counted text new n line takes = sym takes.counted

pub log_first : (text : Text) (new : Lines) (n : ℕ) (line : Text) → length text ≤ 2147483648 → TakesLine (lines_from 1 text) new n line → is_text line (codes "log 1") ≡ true → ordered_reading text ≡ log_left [] new
log_first text new n line short takes is =
    log_short text short
    ∙ (ap ordered_of (cut_taken text new n line takes) ∙ (first_line line new.lines new.rest true is ∙ ap (λ (n : ℕ). log_from [] n new.lines new.rest) (counted text new n line takes)))

pub begins_with_command : (text : Text) (new : Lines) (n : ℕ) (line : Text) → length text ≤ 2147483648 → TakesLine (lines_from 1 text) new n line → is_text line (codes "log 1") ≡ true → HasCommand new → BeginsWithCommand text
begins_with_command text new n line short takes is has = record {
  short = short;
  line = has.line;
  more = has.more;
  lines = takes.taken ∙ (ap (λ (first : Text). first ∷ new.lines) (text_is line (codes "log 1") is) ∙ ap (λ (lines : List Text). codes "log 1" ∷ lines) has.first);
  command = has.command;
}

-- Lines ------------------------------------------------------------------------------------------

ended_at : (log : List Timed) (n : ℕ) (lines : List Text) (rest : Text) → lines ≡ [] → log_from log n lines rest ≡ BadLine n
ended_at log n lines rest none = rw none refl

pub log_ended : (log : List Timed) (lines : Lines) → lines.lines ≡ [] → log_left log lines ≡ BadLine lines.number
log_ended log lines none = ended_at log lines.number lines.lines lines.rest none

order_line : (log : List Timed) (n : ℕ) (line : Text) (lines : List Text) (rest : Text) → is_text line (codes "order 1") ≡ true → log_from log n (line ∷ lines) rest ≡ order_left log (record { number = suc n; lines = lines; rest = rest })
order_line log n line lines rest is = rw is refl

pub order_begun : (log : List Timed) (old new : Lines) (n : ℕ) (line : Text) → TakesLine old new n line → is_text line (codes "order 1") ≡ true → log_left log old ≡ order_left log new
order_begun log old new n line takes is =
    ap (λ (lines : List Text). log_from log old.number lines old.rest) takes.taken
    ∙ (order_line log old.number line new.lines old.rest is ∙ rw (takes.counted, takes.after) refl)

command_line : (log : List Timed) (n : ℕ) (line : Text) (lines : List Text) (rest : Text) (timed : Timed) → is_text line (codes "order 1") ≡ false → timed_of (words line) ≡ Some timed
    → log_from log n (line ∷ lines) rest ≡ log_from (log ++ timed ∷ []) (suc n) lines rest
command_line log n line lines rest timed other is = rw (other, is) refl

pub command_taken : (log : List Timed) (old new : Lines) (n : ℕ) (line : Text) (timed : Timed) → TakesLine old new n line → is_text line (codes "order 1") ≡ false → timed_of (words line) ≡ Some timed → log_left log old ≡ log_left (log ++ timed ∷ []) new
command_taken log old new n line timed takes other is =
    ap (λ (lines : List Text). log_from log old.number lines old.rest) takes.taken
    ∙ (command_line log old.number line new.lines old.rest timed other is ∙ rw (takes.counted, takes.after) refl)

bad_line : (log : List Timed) (n : ℕ) (line : Text) (lines : List Text) (rest : Text) → is_text line (codes "order 1") ≡ false → timed_of (words line) ≡ None → log_from log n (line ∷ lines) rest ≡ BadLine n
bad_line log n line lines rest other is = rw (other, is) refl

pub command_bad : (log : List Timed) (old new : Lines) (n : ℕ) (line : Text) → TakesLine old new n line → is_text line (codes "order 1") ≡ false → timed_of (words line) ≡ None → log_left log old ≡ BadLine n
command_bad log old new n line takes other is =
    ap (λ (lines : List Text). log_from log old.number lines old.rest) takes.taken ∙ (bad_line log old.number line new.lines old.rest other is ∙ ap BadLine (sym takes.numbered))

pub line_command : (old new : Lines) (n : ℕ) (line : Text) → TakesLine old new n line → IsSome (timed_of (words line)) → HasCommand old
line_command old new n line takes is = record { line = line; more = new.lines; first = takes.taken; command = is }

-- Commands ---------------------------------------------------------------------------------------

-- the commands of lines were read, if there are any, and have a slot each
pub record HasLogged (old new : Lines) (slots : List (Option Timed)) : Type 0 where
  pub reads : log_left [] old ≡ log_left (left_in slots) new
  pub begins : ((new ≡ old) × (slots ≡ [])) ⊎ HasCommand old

pub logged_begins : (old new : Lines) (slots : List (Option Timed)) → HasLogged old new slots → HasCommand new → HasCommand old
logged_begins old new slots logged has = by logged.begins where
  by : ((new ≡ old) × (slots ≡ [])) ⊎ HasCommand old → HasCommand old
  by (inl none) = subst HasCommand none.0 has
  by (inr begins) = begins

pub logged_more : (old mid new : Lines) (slots : List (Option Timed)) (timed : Timed) → HasLogged old mid slots → HasCommand mid → ((log : List Timed) → log_left log mid ≡ log_left (log ++ timed ∷ []) new)
    → HasLogged old new (slots ++ Some timed ∷ [])
logged_more old mid new slots timed logged has reads = record {
  reads = logged.reads ∙ (reads (left_in slots) ∙ ap (λ (log : List Timed). log_left log new) (sym (left_push slots timed)));
  begins = inr (logged_begins old mid slots logged has);
}

pub logged_command : (old new : Lines) (slots : List (Option Timed)) → HasLogged old new slots → left_in slots ≢ [] → HasCommand old
logged_command old new slots logged some = by logged.begins where
  by : ((new ≡ old) × (slots ≡ [])) ⊎ HasCommand old → HasCommand old
  by (inl none) = absurd (some (ap left_in none.1))
  by (inr begins) = begins

pub logged_refused : (old mid : Lines) (slots : List (Option Timed)) (error : TextError) → HasLogged old mid slots → ((log : List Timed) → Refuses (log_left log mid) error) → Refuses (log_left [] old) error
logged_refused old mid slots (Line line) logged bad = logged.reads ∙ bad (left_in slots)
logged_refused old mid slots NoMemory logged bad = tt
