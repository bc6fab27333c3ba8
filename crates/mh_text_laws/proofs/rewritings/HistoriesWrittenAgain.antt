-- Texts that are histories, of both versions, are what is written of these, with their entries in range.
use Rattle.std.proofs.Common.{◌≡◌, ◌∙◌, ℕ, suc, ◌≤◌, nat_lt, cond, Bool, true, false, Option, Some, None, List, [], ◌∷◌, ◌++◌, length, map, ap, sym, refl, codes, append-nil, arith}
use Rattle.std.proofs.lemmas.Bool.{and_from, ltb-false}
use Rattle.std.specs.List.{list_all}
use Rattle.mh_model.specs.{declared.config.Config.Config, declared.history.Entry.Entry}
use Rattle.mh_model.specs.Bytes.{Text, cut_after, words, joined, lines_text, is_text}
use Rattle.mh_model.specs.declared.history.Version.TheVariants.{One}
use Rattle.mh_model.specs.Script.{Reading, BadLine, Means, reading_map, at_end}
use Rattle.mh_model.specs.HistoryTexts.{Recorded, is_entry, entry_of, is_measured, measured_of, header_words, header_of, entries_from, history_text, history_of, history_reading, recorded_text, recorded_by, recorded_of, recorded_reading, measured_line}
use Rattle.mh_text_laws.proofs.{round_trips.HistoryRoundTrips.entry_line, beginnings.WholeLines.text_is_lines}
use Rattle.mh_text_laws.proofs.rewritings.EntriesWrittenAgain.{entry_line_is, measured_line_is}
use Rattle.mh_text_laws.proofs.rewritings.HeadersWrittenAgain.{header_line_is}
use Rattle.mh_model.proofs.TextLemmas.{text_is}

-- what a reading is made of
record IsRead {X Y : Type 0} (made : X → Y) (found : Reading X) (y : Y) : Type 0 where
  from : X
  is : found ≡ Means from
  same : made from ≡ y

read_as : {X Y : Type 0} (made : X → Y) (found : Reading X) (y : Y) → reading_map made found ≡ Means y → IsRead made found y
read_as made found y h = grind arith

-- Lines that are entries are what is written of these, which are in range, and nothing follows them
record AreRead {X : Type 0} (line : X → Text) (passes : X → Bool) (lines : List Text) (rest : Text) (xs : List X) : Type 0 where
  same : map line xs ≡ lines
  end : rest ≡ []
  passed : list_all passes xs ≡ true

no_lines : {X : Type 0} (line : X → Text) (passes : X → Bool) (n : ℕ) (rest : Text) (xs : List X) → at_end [] n rest ≡ Means xs → AreRead line passes [] rest xs
no_lines {X} line passes n [] xs h = grind arith
no_lines line passes n (byte ∷ bytes) xs h = cc

entries_are : {X : Type 0} (read : Text → Option X) (line : X → Text) (passes : X → Bool) → ((l : Text) (x : X) → read l ≡ Some x → (line x ≡ l) × (passes x ≡ true))
    → (n : ℕ) (lines : List Text) (rest : Text) (xs : List X) → entries_from read n lines rest ≡ Means xs → AreRead line passes lines rest xs
entries_are read line passes is n [] rest xs h = no_lines line passes n rest xs h
entries_are {X} read line passes is n (l ∷ lines) rest xs h = by (read l) refl (entries_are read line passes is (suc n) lines rest) h where
  by : (found : Option X) → read l ≡ found → ((ys : List X) → entries_from read (suc n) lines rest ≡ Means ys → AreRead line passes lines rest ys)
      → elim found as (λ _. Reading (List X)) [ Some entry ↦ reading_map (λ entries. entry ∷ entries) (entries_from read (suc n) lines rest) | None ↦ BadLine n ] ≡ Means xs
      → AreRead line passes (l ∷ lines) rest xs
  by None was later k = cc
  by (Some x) was later k =
      let found = read_as (λ entries. x ∷ entries) (entries_from read (suc n) lines rest) xs k in
      let one = is l x was in
      let more = later found.from found.is in
      record {
        same = ap (map line) (sym found.same) ∙ rw (one.0, more.same) refl;
        end = more.end;
        passed = ap (list_all passes) (sym found.same) ∙ and_from _ _ one.1 more.passed;
      }

-- a text after whose lines nothing follows is these
text_of_lines : (text : Text) (lines : List Text) → (cut_after 10 text).pieces ≡ lines → (cut_after 10 text).rest ≡ [] → text ≡ lines_text lines
text_of_lines text lines same end =
    let joined_again : lines_text lines ++ [] ≡ text = rw (← same, ← end) (text_is_lines text) in
    sym joined_again ∙ append-nil (lines_text lines)

not_long : {X : Type 0} (limit n : ℕ) (found : Reading X) (x : X) → cond (nat_lt limit n) (BadLine 0) found ≡ Means x → (n ≤ limit) × (found ≡ Means x)
not_long {X} limit n found x h = by (nat_lt limit n) refl h where
  by : (long : Bool) → nat_lt limit n ≡ long → cond long (BadLine 0) found ≡ Means x → (n ≤ limit) × (found ≡ Means x)
  by true is k = cc
  by false is k = (ltb-false limit n is, k)

-- whole lines are a first line and those of entries, which are in range, and nothing follows them
record AreWritten (lines : List Text) (rest first : Text) (more : List Text) (in_range : Bool) : Type 0 where
  same : lines ≡ first ∷ more
  end : rest ≡ []
  passed : in_range ≡ true

-- Version 1 --------------------------------------------------------------------------------------

history_is : (lines : List Text) (rest : Text) (entries : List Entry) → history_of (record { pieces = lines; rest = rest }) ≡ Means entries
    → AreWritten lines rest (codes "history 1") (map entry_line entries) (list_all (is_entry One) entries)
history_is [] rest entries h = cc
history_is (first ∷ lines) rest entries h = by (is_text first (codes "history 1")) refl h where
  by : (is : Bool) → is_text first (codes "history 1") ≡ is → cond is (entries_from (λ line. entry_of One (words line)) 2 lines rest) (BadLine 1) ≡ Means entries
      → AreWritten (first ∷ lines) rest (codes "history 1") (map entry_line entries) (list_all (is_entry One) entries)
  by false is k = cc
  by true is k =
      let found = entries_are (λ line. entry_of One (words line)) entry_line (is_entry One) (entry_line_is One) 2 lines rest entries k in
      let here : first ≡ codes "history 1" = text_is first (codes "history 1") is in
      let same : first ∷ lines ≡ codes "history 1" ∷ map entry_line entries = rw (here, found.same) refl in
      record { same = same; end = found.end; passed = found.passed }

-- what a text of version 1 is, that is read
pub record IsHistory (text : Text) (entries : List Entry) : Type 0 where
  pub short : length text ≤ 1073741824
  pub same : text ≡ history_text entries
  pub passed : list_all (is_entry One) entries ≡ true

pub history_reading_is : (text : Text) (entries : List Entry) → history_reading text ≡ Means entries → IsHistory text entries
unfolding history_reading
history_reading_is text entries h =
    let read = not_long 1073741824 (length text) (history_of (cut_after 10 text)) entries h in
    let found = history_is (cut_after 10 text).pieces (cut_after 10 text).rest entries read.1 in
    record { short = read.0; same = text_of_lines text (codes "history 1" ∷ map entry_line entries) found.same found.end; passed = found.passed }

pub histories-again : (text : Text) (entries : List Entry) → history_reading text ≡ Means entries → (text ≡ history_text entries) × (list_all (is_entry One) entries ≡ true)
histories-again text entries h = let found = history_reading_is text entries h in (found.same, found.passed)

-- Version 2 --------------------------------------------------------------------------------------

record_is : (first : Text) (lines : List Text) (rest : Text) (r : Recorded) (found : Option Config) → header_of (words first) ≡ found → recorded_by found lines rest ≡ Means r
    → AreWritten (first ∷ lines) rest (joined (header_words r.config)) (map measured_line r.entries) (list_all is_measured r.entries)
record_is first lines rest r None is h = cc
record_is first lines rest r (Some config) is h =
    let one = read_as (λ entries. let made : Recorded = record { config = config; entries = entries } in made) (entries_from (λ line. measured_of (words line)) 2 lines rest) r h in
    let found = entries_are (λ line. measured_of (words line)) measured_line is_measured measured_line_is 2 lines rest one.from one.is in
    let here : joined (header_words config) ≡ first = header_line_is first config is in
    let same : first ∷ lines ≡ joined (header_words config) ∷ map measured_line one.from = rw (here, found.same) refl in
    grind arith

recorded_is : (lines : List Text) (rest : Text) (r : Recorded) → recorded_of (record { pieces = lines; rest = rest }) ≡ Means r
    → AreWritten lines rest (joined (header_words r.config)) (map measured_line r.entries) (list_all is_measured r.entries)
recorded_is [] rest r h = cc
recorded_is (first ∷ lines) rest r h = record_is first lines rest r (header_of (words first)) refl h

pub records-again : (text : Text) (r : Recorded) → recorded_reading text ≡ Means r → (text ≡ recorded_text r) × (list_all is_measured r.entries ≡ true)
unfolding recorded_reading
records-again text r h =
    let read = not_long 2147483648 (length text) (recorded_of (cut_after 10 text)) r h in
    let found = recorded_is (cut_after 10 text).pieces (cut_after 10 text).rest r read.1 in
    (text_of_lines text (joined (header_words r.config) ∷ map measured_line r.entries) found.same found.end, found.passed)
