-- Reading a history up to its first bad line.
use Rattle.std.proofs.Common.{◌≡◌, ℕ, suc, ◌<◌, ◌≤◌, nat_lt, Bool, true, Option, Some, None, List, [], ◌∷◌, ◌++◌, length, inl, ◌⊎◌, refl, sym, ap, ◌∙◌, append_assoc, length-append, arith}
use Rattle.std.proofs.lemmas.Bool.Decides.{nat_tests}
use Rattle.std.specs.Prelude.{if◌then◌else◌, codes}
use Rattle.mh_model.specs.{declared.history.Version.Version, declared.history.Version.TheVariants.{One, Two}}
use Rattle.mh_model.specs.{Bytes.{Text, words, is_text, cut_after}, Script.{Reading, BadLine, reading_map}}
use Rattle.mh_model.specs.HistoryTexts.{entry_of, measured_of, entries_from, history_of, history_reading, recorded_of, recorded_reading}
use Rattle.mh_model.proofs.ScriptLemmas.{history_reading-short, recorded_reading-short}
use Rattle.mh_text.specs.Pieces.{Lines, TakesLine, lines_from}
use Rattle.mh_text.proofs.PieceLemmas.{empty_left}
use Rattle.mh_reasons.specs.declared.history_reason.HistoryLineReason.{HistoryLineReason}
use Rattle.mh_reasons.specs.HistoryReasons.{IsFirstWrong, IsFirstLineReason, IsEntryWrong, IsEntryReason, IsRefusedAt, most_bytes, IsHistoryReason}
use Rattle.mh_reasons.specs.declared.history_reason.HistoryReason.{HistoryReason}

-- Entries ----------------------------------------------------------------------------------------

abbrev entry_before : {X : Type 0} → Option X → ℕ → Reading (List X) → Reading (List X)
entry_before o k more = elim o [ Some entry ↦ reading_map (λ entries. entry ∷ entries) more | None ↦ BadLine k ]

entry_next : {X : Type 0} (o : Option X) (k n : ℕ) (more : Reading (List X)) → entry_before o k more ≡ BadLine n → ((o ≡ None) × (k ≡ n)) ⊎ (more ≡ BadLine n)
entry_next o k n more bad = grind arith

entries_next : {X : Type 0} (read : Text → Option X) (k n : ℕ) (line : Text) (lines : List Text) (rest : Text) → entries_from read k (line ∷ lines) rest ≡ BadLine n
    → ((read line ≡ None) × (k ≡ n)) ⊎ (entries_from read (suc k) lines rest ≡ BadLine n)
entries_next read k n line lines rest bad = entry_next (read line) k n (entries_from read (suc k) lines rest) bad

later_by : {X : Type 0} (o : Option X) (k n : ℕ) (more : Reading (List X)) → ((o ≡ None) × (k ≡ n)) ⊎ (more ≡ BadLine n) → (more ≡ BadLine n → suc k ≤ n) → k ≤ n
later_by o k n more is after = grind arith

entries_later : {X : Type 0} (read : Text → Option X) (k n : ℕ) (lines : List Text) (rest : Text) → entries_from read k lines rest ≡ BadLine n → k ≤ n
entries_later {X} read k n [] rest bad = grind arith
entries_later read k n (line ∷ lines) rest bad = grind (arith, later_by, entries_next, entries_later read (suc k) n lines rest)

-- of these lines, from line k on, line n is the first that is no entry
abbrev pub IsBadEntry : Version → ℕ → List Text → Text → ℕ → Type 0
IsBadEntry One k lines rest n = entries_from (λ line. entry_of One (words line)) k lines rest ≡ BadLine n
IsBadEntry Two k lines rest n = entries_from (λ line. measured_of (words line)) k lines rest ≡ BadLine n

bad_later : (version : Version) (k n : ℕ) (lines : List Text) (rest : Text) → IsBadEntry version k lines rest n → k ≤ n
bad_later version k n lines rest bad = grind (arith, entries_later)

bad_next : (version : Version) (k n : ℕ) (line : Text) (lines : List Text) (rest : Text) → IsBadEntry version k (line ∷ lines) rest n → (IsEntryWrong version line × (k ≡ n)) ⊎ IsBadEntry version (suc k) lines rest n
bad_next version k n line lines rest bad = search (arith, entries_next)

bad_here : (version : Version) (k n : ℕ) (line : Text) (lines : List Text) (rest : Text) → (IsEntryWrong version line × (k ≡ n)) ⊎ IsBadEntry version (suc k) lines rest n → k ≡ n → IsEntryWrong version line
bad_here version k n line lines rest is here = grind (arith, bad_later)

bad_on : (version : Version) (k n : ℕ) (line : Text) (lines : List Text) (rest : Text) → (IsEntryWrong version line × (k ≡ n)) ⊎ IsBadEntry version (suc k) lines rest n → (k ≡ n → ⊥) → IsBadEntry version (suc k) lines rest n
bad_on version k n line lines rest is other = grind arith

-- The first line ---------------------------------------------------------------------------------

history_by : (is : Bool) (text : Text) → nat_lt 1073741824 (length text) ≡ is → history_reading text ≡ (if is then BadLine 0 else history_of (cut_after 10 text))
unfolding history_reading
history_by is text same = rw same refl

record_by : (is : Bool) (text : Text) → nat_lt 2147483648 (length text) ≡ is → recorded_reading text ≡ (if is then BadLine 0 else recorded_of (cut_after 10 text))
unfolding recorded_reading
record_by is text same = rw same refl

same_line : {X : Type 0} (r : Reading X) (m n : ℕ) → r ≡ BadLine m → r ≡ BadLine n → m ≡ n
same_line r m n one other = cc

pub long_bad : (version : Version) (text : Text) (n : ℕ) → most_bytes version < length text → IsRefusedAt version text n → n ≡ 0
long_bad One text n long bad = same_line (history_reading text) n 0 bad (history_by true text (grind (arith, nat_tests)))
long_bad Two text n long bad = same_line (recorded_reading text) n 0 bad (record_by true text (grind (arith, nat_tests)))

-- a history cut into its lines is refused at line n
abbrev IsCutRefused : Version → List Text → Text → ℕ → Type 0
IsCutRefused One pieces rest n = history_of (record { pieces = pieces; rest = rest }) ≡ BadLine n
IsCutRefused Two pieces rest n = recorded_of (record { pieces = pieces; rest = rest }) ≡ BadLine n

cut_refused : (version : Version) (text : Text) (n : ℕ) → length text ≤ most_bytes version → IsRefusedAt version text n → IsCutRefused version (cut_after 10 text).pieces (cut_after 10 text).rest n
cut_refused version text n short bad = grind (arith, history_reading-short, recorded_reading-short)

none_refused : (version : Version) (rest : Text) (n : ℕ) → IsCutRefused version [] rest n → n ≡ 1
none_refused version rest n bad = grind arith

first_by : (is : Bool) (n : ℕ) (line : Text) (lines : List Text) (rest : Text) → is_text line (codes "history 1") ≡ is → IsCutRefused One (line ∷ lines) rest n → (IsFirstWrong One line × (n ≡ 1)) ⊎ IsBadEntry One 2 lines rest n
first_by is n line lines rest e bad = grind arith

first_next : (version : Version) (n : ℕ) (line : Text) (lines : List Text) (rest : Text) → IsCutRefused version (line ∷ lines) rest n → (IsFirstWrong version line × (n ≡ 1)) ⊎ IsBadEntry version 2 lines rest n
first_next version n line lines rest bad = grind arith

first_here : (version : Version) (n : ℕ) (line : Text) (lines : List Text) (rest : Text) → (IsFirstWrong version line × (n ≡ 1)) ⊎ IsBadEntry version 2 lines rest n → n ≡ 1 → IsFirstWrong version line
first_here version n line lines rest is one = grind (arith, bad_later)

first_on : (version : Version) (n : ℕ) (line : Text) (lines : List Text) (rest : Text) → (IsFirstWrong version line × (n ≡ 1)) ⊎ IsBadEntry version 2 lines rest n → (n ≡ 1 → ⊥) → IsBadEntry version 2 lines rest n
first_on version n line lines rest is other = grind arith

-- A text -----------------------------------------------------------------------------------------

taken_refused : (version : Version) (text : Text) (bad : ℕ) (new : Lines) (n : ℕ) (line : Text) → length text ≤ most_bytes version → IsRefusedAt version text bad → TakesLine (lines_from 1 text) new n line
    → IsCutRefused version (line ∷ new.lines) (cut_after 10 text).rest bad
taken_refused version text bad new n line short is takes = grind (arith, cut_refused)

pub wrong_first : (version : Version) (text : Text) (bad : ℕ) (new : Lines) (n : ℕ) (line : Text) → length text ≤ most_bytes version → IsRefusedAt version text bad → TakesLine (lines_from 1 text) new n line → bad ≡ 1 → IsFirstWrong version line
wrong_first version text bad new n line short is takes one =
    first_here version bad line new.lines (cut_after 10 text).rest (first_next version bad line new.lines (cut_after 10 text).rest (taken_refused version text bad new n line short is takes)) one

pub told_first : (version : Version) (text : Text) (bad : ℕ) (new : Lines) (n : ℕ) (line : Text) (r : HistoryLineReason) → TakesLine (lines_from 1 text) new n line → bad ≡ 1 → IsFirstLineReason version line r → IsHistoryReason version text bad (HistoryReason.Line r)
told_first version text bad new n line r takes one is = (line, inl ((one, (new.lines, takes.taken)), is))

-- entries were read up to here, and the bad one is still to come
pub record Entered (version : Version) (text : Text) (bad : ℕ) (left : Lines) : Type 0 where
  pub first : Text
  pub before : List Text
  pub lines : (cut_after 10 text).pieces ≡ first ∷ (before ++ left.lines)
  pub after : left.rest ≡ (cut_after 10 text).rest
  pub numbered : left.number ≡ suc (suc (length before))
  pub coming : IsBadEntry version left.number left.lines left.rest bad

pub entered_none : (version : Version) (text : Text) (bad : ℕ) (new : Lines) (n : ℕ) (line : Text) → length text ≤ most_bytes version → IsRefusedAt version text bad → TakesLine (lines_from 1 text) new n line → (bad ≡ 1 → ⊥)
    → Entered version text bad new
entered_none version text bad new n line short is takes other =
    let coming = first_on version bad line new.lines (cut_after 10 text).rest (first_next version bad line new.lines (cut_after 10 text).rest (taken_refused version text bad new n line short is takes)) other in
    record {
      first = line;
      before = [];
      lines = takes.taken;
      after = takes.after;
      numbered = takes.counted;
      coming = rw (takes.counted, takes.after) coming;
    }

pub entered_more : (version : Version) (text : Text) (bad : ℕ) (mid new : Lines) (n : ℕ) (line : Text) → Entered version text bad mid → TakesLine mid new n line → (n ≡ bad → ⊥) → Entered version text bad new
entered_more version text bad mid new n line done takes other =
    let coming : IsBadEntry version mid.number (line ∷ new.lines) mid.rest bad = rw takes.taken at done.coming in
    record {
      first = done.first;
      before = done.before ++ line ∷ [];
      lines = done.lines ∙ rw takes.taken (ap (λ (l : List Text). done.first ∷ l) (sym (append_assoc done.before (line ∷ []) new.lines)));
      after = takes.after ∙ done.after;
      numbered = rw (takes.counted, done.numbered) (rw length-append (omega arith));
      coming = rw (takes.counted, takes.after) (bad_on version mid.number bad line new.lines mid.rest (bad_next version mid.number bad line new.lines mid.rest coming) (λ same. other (takes.numbered ∙ same)));
    }

pub entered_wrong : (version : Version) (text : Text) (bad : ℕ) (mid new : Lines) (n : ℕ) (line : Text) → Entered version text bad mid → TakesLine mid new n line → n ≡ bad → IsEntryWrong version line
entered_wrong version text bad mid new n line done takes here = grind (arith, bad_here, bad_next)

pub entered_line : (version : Version) (text : Text) (bad : ℕ) (mid new : Lines) (n : ℕ) (line : Text) (r : HistoryLineReason) → Entered version text bad mid → TakesLine mid new n line → n ≡ bad
    → IsEntryReason version line r → IsHistoryReason version text bad (HistoryReason.Line r)
entered_line version text bad mid new n line r done takes here is = grind arith

pub no_line : (version : Version) (text : Text) (bad : ℕ) → length text ≤ most_bytes version → IsRefusedAt version text bad → (lines_from 1 text).lines ≡ [] → (text ≡ [] → ⊥) → IsHistoryReason version text bad HistoryReason.NoNewline
no_line version [] bad short is none some = absurd (some refl)
no_line version (byte ∷ bytes) bad short is none some = grind (arith, cut_refused version (byte ∷ bytes) bad short is, empty_left 1 (byte ∷ bytes))

pub empty_bad : (version : Version) (text : Text) (bad : ℕ) → length text ≤ most_bytes version → IsRefusedAt version text bad → text ≡ [] → bad ≡ 1
empty_bad version text bad short is none = grind (arith, cut_refused, none_refused)
