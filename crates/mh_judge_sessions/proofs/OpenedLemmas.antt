-- Texts by their first line: their lines after it, and what is found of the entries that these are.
use Rattle.std.proofs.Common.{◌≡◌, ◌∙◌, ℕ, suc, ◌<◌, ◌≤◌, Bool, true, false, Option, Some, None, List, [], ◌∷◌, map, length, take, codes, ap, refl, sym, subst, length-append, inl, inr, arith}
use Rattle.mh_model.specs.{declared.config.Config.Config, declared.history.Entry.Entry}
use Rattle.mh_model.specs.{declared.history.Measured.Measured, declared.history.Version.Version}
use Rattle.mh_model.specs.declared.history.Version.TheVariants.{One, Two}
use Rattle.mh_model.specs.{Bytes.{Text, Cut, cut_after, is_text, words}, HistoryTexts.{entries_from, header_of}}
use Rattle.mh_model.specs.Script.{Reading, BadLine, Means, reading_map}
use Rattle.mh_model.specs.Sessions.{Whole, CutOff, cut_off_at, entries_reading, entries_recorded, is_of_version_one, rules_named, rules_or, seen_text, whole_lines}
use Rattle.mh_model.specs.{declared.config.Rules.Rules, declared.history.Verdict.TheVariants.Refused}
use Rattle.mh_model.specs.History.{IsFirstBadOf}
use Rattle.mh_text.specs.Pieces.{Lines, TakesLine, lines_from}
use Rattle.mh_history.specs.Beginnings.{HasEntry, after_header, entries_left, line_as_measured}
use Rattle.mh_history.proofs.HistoryLemmas.{begins_with_entry, begins_with_measured, history_first, history_long, record_empty, record_first, record_wrong}
use Rattle.mh_judge.proofs.FollowingLemmas.{bad_line, left_cut, left_whole}
use Rattle.mh_judge.specs.{declared.bad_entry.BadEntry.BadEntry, Faults.HasFault}
use Rattle.mh_judge.specs.{Following.{AreRead, IsBadEntry, IsFound, whole}, Judgements.{HistoryJudgement, verdict_of}}
use Rattle.mh_judge.specs.declared.judgement.Judgement.{Judgement}
use Rattle.mh_text_laws.proofs.beginnings.WholeLines.{pieces_free, text_is_lines}
use Rattle.mh_text_laws.proofs.round_trips.HistoryRoundTrips.{cut-text}
use Rattle.mh_judge_sessions.specs.{Full.{lawful_by, tally_of, wrong_by}, Auxiliary.{IsRefusedWith, IsOpened}}
use Rattle.mh_judge_sessions.specs.{Texts.{IsSeenExplained, IsSessionsFound}, Watching.{HasWatched, Watched, seen_line}}
use Rattle.mh_judge_sessions.specs.WatchRules.{watched_legal}
use Rattle.mh_judge_sessions.proofs.TextLemmas.{reading_one, reading_two, seen_long, text_bad, text_cut, text_whole}

-- Lines ------------------------------------------------------------------------------------------

-- lines without their units are read as those with them
alone : (n : ℕ) (lines : List Text) (rest : Text) → entries_from (seen_line Two) n lines rest ≡ reading_map (map (λ (measured : Measured). measured.entry)) (entries_from line_as_measured n lines rest)
alone n [] [] = refl
alone n [] (byte ∷ rest) = refl
alone n (line ∷ lines) rest = by (line_as_measured line) refl (alone (suc n) lines rest) where
  with : (measured : Measured) (r : Reading (List Measured)) → reading_map (λ (entries : List Entry). measured.entry ∷ entries) (reading_map (map (λ (m : Measured). m.entry)) r) ≡ reading_map (map (λ (m : Measured). m.entry)) (reading_map (λ (ms : List Measured). measured ∷ ms) r)
  with measured (BadLine m) = refl
  with measured (Means ms) = refl

  by : (found : Option Measured) → line_as_measured line ≡ found → entries_from (seen_line Two) (suc n) lines rest ≡ reading_map (map (λ (m : Measured). m.entry)) (entries_from line_as_measured (suc n) lines rest)
      → entries_from (seen_line Two) n (line ∷ lines) rest ≡ reading_map (map (λ (m : Measured). m.entry)) (entries_from line_as_measured n (line ∷ lines) rest)
  by None none again = rw (none, entries_from) refl
  by (Some measured) some again = rw (some, entries_from) (ap (reading_map (λ (entries : List Entry). measured.entry ∷ entries)) again ∙ with measured (entries_from line_as_measured (suc n) lines rest))

some_alone : (ms : List Measured) → 0 < length (map (λ (m : Measured). m.entry) ms) → 0 < length ms
some_alone [] less = less
some_alone (m ∷ ms) less = omega arith

alone_entry : (left : Lines) → HasEntry (seen_line Two) left → HasEntry line_as_measured left
alone_entry left has = by (entries_from line_as_measured left.number (take has.count left.lines) []) refl where
  by : (r : Reading (List Measured)) → entries_from line_as_measured left.number (take has.count left.lines) [] ≡ r → HasEntry line_as_measured left
  by (BadLine n) is = let bad : BadLine n ≡ Means has.entries = ap (reading_map (map (λ (m : Measured). m.entry))) (sym is) ∙ sym (alone left.number (take has.count left.lines) []) ∙ has.reads in cc
  by (Means ms) is =
      let same : Means (map (λ (m : Measured). m.entry) ms) ≡ Means has.entries = ap (reading_map (map (λ (m : Measured). m.entry))) (sym is) ∙ sym (alone left.number (take has.count left.lines) []) ∙ has.reads in
      let long : map (λ (m : Measured). m.entry) ms ≡ has.entries = cc in
      record { count = has.count; entries = ms; reads = is; some = some_alone ms (subst (λ es. 0 < length es) (sym long) has.some) }

-- a bad line among so many is one of them
bad_later : {X : Type 0} (read : Text → Option X) (n : ℕ) (lines : List Text) (rest : Text) (m : ℕ) → entries_from read n lines rest ≡ BadLine m → n ≤ m
bad_later read n [] [] m is = cc
bad_later read n [] (byte ∷ rest) m is = let same : n ≡ m = cc in omega (arith, same)
bad_later {X} read n (line ∷ lines) rest m is = by (read line) refl (bad_later read (suc n) lines rest m) where
  after : (r : Reading (List X)) (entry : X) → reading_map (λ es. entry ∷ es) r ≡ BadLine m → r ≡ BadLine m
  after (BadLine k) entry same = cc
  after (Means es) entry same = cc

  by : (found : Option X) → read line ≡ found → (entries_from read (suc n) lines rest ≡ BadLine m → suc n ≤ m) → n ≤ m
  by None none again = let bad : BadLine n ≡ BadLine m = rw (none, entries_from) at is in let same : n ≡ m = cc in omega (arith, same)
  by (Some entry) some again =
      let later : suc n ≤ m = again (after (entries_from read (suc n) lines rest) entry (rw (some, entries_from) at is)) in
      omega (arith, later)

-- First lines ------------------------------------------------------------------------------------

-- the whole lines of a text have its pieces, and are no longer
cut_whole : (text : Text) → cut_after 10 (whole_lines text) ≡ record { pieces = (cut_after 10 text).pieces; rest = [] }
cut_whole text = cut-text (cut_after 10 text).pieces (pieces_free 10 text)

whole_short : (text : Text) (most : ℕ) → length text ≤ most → length (whole_lines text) ≤ most
whole_short text most short = omega (arith, short, ap length (text_is_lines text), length-append (whole_lines text) (cut_after 10 text).rest)

taken_whole : (text : Text) (new : Lines) (n : ℕ) (line : Text) → TakesLine (lines_from 1 text) new n line → TakesLine (lines_from 1 (whole_lines text)) (whole new) n line
taken_whole text new n line takes = record {
  numbered = takes.numbered;
  taken = ap (λ (c : Cut). c.pieces) (cut_whole text) ∙ takes.taken;
  after = sym (ap (λ (c : Cut). c.rest) (cut_whole text));
  counted = takes.counted;
}

one_is : (text : Text) (new : Lines) (n : ℕ) (line : Text) (one : Bool) → TakesLine (lines_from 1 text) new n line → is_text line (codes "history 1") ≡ one → is_of_version_one (cut_after 10 text) ≡ one
one_is text new n line one takes is = ap (λ (pieces : List Text). is_of_version_one (record { pieces = pieces; rest = (cut_after 10 text).rest })) takes.taken ∙ is

opens_one : (text : Text) (new : Lines) (n : ℕ) (line : Text) → length text ≤ 1073741824 → TakesLine (lines_from 1 text) new n line → is_text line (codes "history 1") ≡ true → entries_reading text ≡ entries_left (seen_line One) new
opens_one text new n line short takes is = reading_one text (one_is text new n line true takes is) ∙ history_first text new n line short takes is

pub opened_one : (text : Text) (new : Lines) (n : ℕ) (line : Text) → length text ≤ 1073741824 → TakesLine (lines_from 1 text) new n line → is_text line (codes "history 1") ≡ true → IsOpened text One new
opened_one text new n line short takes is = record {
  reading = opens_one text new n line short takes is;
  whole = opens_one (whole_lines text) (whole new) n line (whole_short text 1073741824 short) (taken_whole text new n line takes) is;
  begins = λ has. inl (begins_with_entry text new n line short takes is has);
  second = takes.counted;
}

opens_two : (text : Text) (new : Lines) (n : ℕ) (line : Text) (config : Config) → length text ≤ 2147483648 → TakesLine (lines_from 1 text) new n line → is_text line (codes "history 1") ≡ false → header_of (words line) ≡ Some config
    → entries_reading text ≡ entries_left (seen_line Two) new
opens_two text new n line config short takes other is =
    reading_two text (one_is text new n line false takes other) ∙ ap (reading_map entries_recorded) (record_first text new n line config short takes is)
    ∙ same (entries_left line_as_measured new) ∙ sym (alone new.number new.lines new.rest)
  where
    same : (r : Reading (List Measured)) → reading_map entries_recorded (after_header config r) ≡ reading_map (map (λ (m : Measured). m.entry)) r
    same (BadLine m) = refl
    same (Means ms) = refl

pub opened_two : (text : Text) (new : Lines) (n : ℕ) (line : Text) (config : Config) → length text ≤ 2147483648 → TakesLine (lines_from 1 text) new n line → is_text line (codes "history 1") ≡ false → header_of (words line) ≡ Some config
    → IsOpened text Two new
opened_two text new n line config short takes other is = record {
  reading = opens_two text new n line config short takes other is;
  whole = opens_two (whole_lines text) (whole new) n line config (whole_short text 2147483648 short) (taken_whole text new n line takes) other is;
  begins = λ has. inr (begins_with_measured text new n line config short takes is (alone_entry new has));
  second = takes.counted;
}

pub refused_zero : (text : Text) → entries_reading text ≡ BadLine 0 → IsRefusedWith text 0
refused_zero text bad = record { reading = bad; seen = text_bad text bad }

refused_both : (text : Text) → entries_reading text ≡ BadLine 1 → entries_reading (whole_lines text) ≡ BadLine 1 → IsRefusedWith text 1
refused_both text bad whole_bad = record { reading = bad; seen = text_cut text 1 (omega arith) bad ∙ ap (cut_off_at (rules_named text) 1) whole_bad }

pub refused_long : (text : Text) → 2147483648 < length text → IsRefusedWith text 0
refused_long text long = refused_zero text (seen_long text long)

pub refused_one_long : (text : Text) (new : Lines) (n : ℕ) (line : Text) → 1073741824 < length text → TakesLine (lines_from 1 text) new n line → is_text line (codes "history 1") ≡ true → IsRefusedWith text 0
refused_one_long text new n line long takes is = refused_zero text (reading_one text (one_is text new n line true takes is) ∙ history_long text long)

no_first : (text : Text) → length text ≤ 2147483648 → (lines_from 1 text).lines ≡ [] → entries_reading text ≡ BadLine 1
no_first text short none =
    reading_two text (ap (λ (pieces : List Text). is_of_version_one (record { pieces = pieces; rest = (cut_after 10 text).rest })) none) ∙ ap (reading_map entries_recorded) (record_empty text short none)

pub refused_empty : (text : Text) → length text ≤ 2147483648 → (lines_from 1 text).lines ≡ [] → IsRefusedWith text 1
refused_empty text short none = refused_both text (no_first text short none) (no_first (whole_lines text) (whole_short text 2147483648 short) (ap (λ (c : Cut). c.pieces) (cut_whole text) ∙ none))

wrong_first : (text : Text) (new : Lines) (n : ℕ) (line : Text) → length text ≤ 2147483648 → TakesLine (lines_from 1 text) new n line → is_text line (codes "history 1") ≡ false → header_of (words line) ≡ None → entries_reading text ≡ BadLine 1
wrong_first text new n line short takes other none = reading_two text (one_is text new n line false takes other) ∙ ap (reading_map entries_recorded) (record_wrong text new n line short takes none)

pub refused_wrong : (text : Text) (new : Lines) (n : ℕ) (line : Text) → length text ≤ 2147483648 → TakesLine (lines_from 1 text) new n line → is_text line (codes "history 1") ≡ false → header_of (words line) ≡ None → IsRefusedWith text 1
refused_wrong text new n line short takes other none =
    refused_both text (wrong_first text new n line short takes other none)
    (wrong_first (whole_lines text) (whole new) n line (whole_short text 2147483648 short) (taken_whole text new n line takes) other none)

-- Lines that were read ---------------------------------------------------------------------------

-- a text that is refused with a line, and wasn't cut off
pub found_refused : (may_be_full : Bool) (asked : Option Rules) (text : Text) (line : ℕ) (found : HistoryJudgement) → IsRefusedWith text line → verdict_of found ≡ Refused line → IsSeenExplained may_be_full asked text found
    → IsSessionsFound may_be_full asked text (record { judgement = found; tally = None })
found_refused may_be_full asked text line found refused same explained = (rw refused.seen same, record { explained = explained; tally = rw refused.seen refl })

module _ (text : Text) (version : Version) (lines : Lines) (opened : IsOpened text version lines) where
  positive : (m : ℕ) → entries_reading text ≡ BadLine m → 0 < m
  positive m is =
      let later : lines.number ≤ m = bad_later (seen_line version) lines.number lines.lines lines.rest m (sym opened.reading ∙ is) in
      omega (arith, later, opened.second)

  -- a bad line before the end
  pub opened_bad : (m : ℕ) → entries_left (seen_line version) (whole lines) ≡ BadLine m → IsRefusedWith text m
  opened_bad m bad =
      let is : entries_reading text ≡ BadLine m = opened.reading ∙ bad_line (seen_line version) lines m bad in
      record { reading = is; seen = text_cut text m (positive m is) is ∙ ap (cut_off_at (rules_named text) m) (opened.whole ∙ bad) }

  module _ (last : Lines) (entries : List Entry) (read : AreRead (seen_line version) lines last entries) where
    -- a whole text
    opened_whole : last.rest ≡ [] → seen_text text ≡ Whole (rules_named text) entries
    opened_whole none = text_whole text entries (opened.reading ∙ left_whole (seen_line version) lines last entries read none)

    -- one that was cut off
    pub opened_left : (last.rest ≡ [] → ⊥) → entries_reading text ≡ BadLine last.number
    opened_left some = opened.reading ∙ left_cut (seen_line version) lines last entries read some

    opened_cut : (last.rest ≡ [] → ⊥) → seen_text text ≡ CutOff (rules_named text) last.number entries
    opened_cut some =
        let is = opened_left some in
        text_cut text last.number (positive last.number is) is ∙ ap (cut_off_at (rules_named text) last.number) (opened.whole ∙ read.whole)

    some_bytes : (byte : ℕ) (rest : Text) → last.rest ≡ byte ∷ rest → last.rest ≡ [] → ⊥
    some_bytes byte rest is none = let same : byte ∷ rest ≡ [] = sym is ∙ none in cc

    module _ (may_be_full : Bool) (asked : Option Rules) (first : Watched) (mode : first.may_be_full ≡ may_be_full) (under : first.rules ≡ rules_or asked (rules_named text)) (now : Watched) where
      -- with a bad entry, whether it was cut off or not
      pub found_first_bad : (bad : BadEntry) → IsBadEntry (lawful_by first.may_be_full first.rules) (wrong_by first.may_be_full first.rules) entries bad → now.tally ≡ tally_of (take bad.number entries)
          → IsSessionsFound may_be_full asked text (record { judgement = Judgement.FirstBad bad.number bad.fault; tally = Some now.tally })
      found_first_bad bad wrong tally = by last.rest refl where
        is_first : IsFirstBadOf (lawful_by may_be_full (rules_or asked (rules_named text))) entries bad.number
        is_first = rw (mode, under) at wrong.first

        has : HasFault (wrong_by may_be_full (rules_or asked (rules_named text))) entries bad.number bad.fault
        has = rw (mode, under) at wrong.fault

        by : (rest : Text) → last.rest ≡ rest → IsSessionsFound may_be_full asked text (record { judgement = Judgement.FirstBad bad.number bad.fault; tally = Some now.tally })
        by [] is = (rw (opened_whole is) is_first, record { explained = rw (opened_whole is) has; tally = rw (opened_whole is) (ap Some tally) })
        by (byte ∷ rest) is =
            let cut = opened_cut (some_bytes byte rest is) in
            (rw cut is_first, record { explained = rw cut has; tally = rw cut (ap Some tally) })

      lawful : HasWatched first entries now → lawful_by may_be_full (rules_or asked (rules_named text)) entries
      lawful has = rw (mode, under) at (watched_legal first entries now has)

      -- a legal one
      pub found_legal : last.rest ≡ [] → HasWatched first entries now → (count : ℕ) → count ≡ length entries → IsSessionsFound may_be_full asked text (record { judgement = Judgement.Legal count; tally = Some now.tally })
      found_legal none has count long = (rw (opened_whole none) (lawful has, long), record { explained = tt; tally = rw (opened_whole none) (ap Some has.tally) })

      -- and one that was cut off after legal entries
      pub found_cut : (last.rest ≡ [] → ⊥) → HasWatched first entries now → (found : HistoryJudgement) → verdict_of found ≡ Refused last.number → IsSeenExplained may_be_full asked text found
          → IsSessionsFound may_be_full asked text (record { judgement = found; tally = Some now.tally })
      found_cut some has found same explained = (rw (opened_cut some, same) (refl, lawful has), record { explained = explained; tally = rw (opened_cut some, same) (ap Some has.tally) })

-- what is found of the lines of a text that were read
abbrev pub IsFoundOf : Bool → Option Rules → Text → Watched → Watched → Lines → Option BadEntry → Type 0
IsFoundOf may_be_full asked text first now last (Some bad) = IsSessionsFound may_be_full asked text (record { judgement = Judgement.FirstBad bad.number bad.fault; tally = Some now.tally })
IsFoundOf may_be_full asked text first now last None =
    (last.rest ≡ [] → (count : ℕ) → ((entries : List Entry) → HasWatched first entries now → count ≡ length entries) → IsSessionsFound may_be_full asked text (record { judgement = Judgement.Legal count; tally = Some now.tally }))
    × (((last.rest ≡ []) × (last.lines ≡ []) → ⊥)
    → (found : HistoryJudgement) → verdict_of found ≡ Refused last.number → IsSeenExplained may_be_full asked text found → IsSessionsFound may_be_full asked text (record { judgement = found; tally = Some now.tally }))

pub sessions_found : (text : Text) (version : Version) (lines : Lines) → IsOpened text version lines → (may_be_full : Bool) (asked : Option Rules) (first : Watched) → first.version ≡ version → first.may_be_full ≡ may_be_full
    → first.rules ≡ rules_or asked (rules_named text) → (now : Watched) (last : Lines) (found : Option BadEntry)
    → (entries : List Entry) × AreRead (seen_line first.version) lines last entries
    × IsFound (HasWatched first) (λ es watch. watch.tally ≡ tally_of es) (lawful_by first.may_be_full first.rules) (wrong_by first.may_be_full first.rules) entries now found → IsFoundOf may_be_full asked text first now last found
sessions_found text version lines opened may_be_full asked first same mode under now last (Some bad) is =
    found_first_bad text version lines opened last is.0 (subst (λ v. AreRead (seen_line v) lines last is.0) same is.1) may_be_full asked first mode under now bad is.2.0 is.2.1
sessions_found text version lines opened may_be_full asked first same mode under now last None is =
    let read : AreRead (seen_line version) lines last is.0 = subst (λ v. AreRead (seen_line v) lines last is.0) same is.1 in (
      λ none count counts. found_legal text version lines opened last is.0 read may_be_full asked first mode under now none is.2 count (counts is.0 is.2),
      λ some found refused explained. found_cut text version lines opened last is.0 read may_be_full asked first mode under now (λ none. some (none, read.all)) is.2 found refused explained,
    )
