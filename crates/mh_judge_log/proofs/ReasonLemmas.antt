-- The first bad line of a log with an order, and the lines that are passed before it.
use Rattle.std.proofs.Common.{◌≡◌, ◌≢◌, ◌∙◌, ℕ, suc, ◌<◌, ◌≤◌, Bool, true, false, ◌||◌, Option, Some, None, if◌then◌else◌, List, [], ◌∷◌, ◌++◌, length, drop, ap, sym, refl, subst, append_assoc, append-nil, arith}
use Rattle.std.proofs.{lemmas.Bool.Decides.nat_tests, lemmas.List.{length-append, nil_from_length}}
use Rattle.std.specs.{Prelude.codes, List.list_any}
use Rattle.mh_model.specs.{declared.history.Entry.Entry, declared.history.Version.TheVariants.One}
use Rattle.mh_model.specs.{Bytes.{Text, cut_after, is_text, number, words}, HistoryTexts.entry_of}
use Rattle.mh_model.specs.Script.{Reading, BadLine, Means, reading_map}
use Rattle.mh_text.specs.Pieces.{Lines, TakesLine, lines_from}
use Rattle.mh_text.proofs.PieceLemmas.{empty_left}
use Rattle.mh_judge_log.specs.{declared.timed.Timed.Timed, Beginnings.{HasTimes, begins_with_star}}
use Rattle.mh_judge_log.specs.Auxiliary.{log_left, order_left}
use Rattle.mh_judge_log.specs.Logs.{Taken, log_from, order_end, order_from, ordered_reading, taken_by, timed_of}
use Rattle.mh_judge_log.specs.{declared.reason.FirstReason.FirstReason, declared.reason.LogLineReason.LogLineReason}
use Rattle.mh_judge_log.specs.declared.reason.LogReason.{LogReason}
use Rattle.mh_judge_log.specs.Reasons.{IsFirstReason, IsLaterLine, IsLineReason, IsLogReason, begins_order}
use Rattle.mh_judge_log.proofs.LogLemmas.{command_bad, command_taken, log_empty, log_ended, log_first, log_long, log_wrong, order_begun}
use Rattle.mh_judge_log.proofs.{OrderLemmas.{line_bad, line_takes}, TimedLemmas.some_entry}

pub has_times : {line : List Text} {begin end : ℕ} {rest : List Text} {first second : Text} → line ≡ first ∷ second ∷ rest → Some begin ≡ number first → Some end ≡ number second → HasTimes line begin end rest
has_times is begins ends = record { first = _; second = _; is = is; begins = sym begins; ends = sym ends }

-- what isn't a command, has times in order and is no control's, has no entry after the times
pub lacks_entry : (line rest : List Text) (begin end : ℕ) → HasTimes line begin end rest → begin ≤ end → begins_with_star rest ≡ false → timed_of line ≡ None → entry_of One rest ≡ None
lacks_entry line rest begin end has ordered star none = by (entry_of One rest) refl where
  by : (read : Option Entry) → entry_of One rest ≡ read → entry_of One rest ≡ None
  by None is = is
  by (Some entry) is = let both : ◌≡◌ {A = Option Timed} None (Some (record { begin = begin; end = end; entry = entry })) = sym none ∙ some_entry line rest begin end entry has ordered star is in cc

-- Bad lines --------------------------------------------------------------------------------------

end_bound : (left : List Timed) (n m : ℕ) (rest : Text) → order_end left n rest ≡ BadLine m → n ≡ m
end_bound [] n m [] is = cc
end_bound [] n m (byte ∷ rest) is = cc
end_bound (timed ∷ left) n m rest is = cc

map_bad : (timed : Timed) (r : Reading (List Timed)) (m : ℕ) → reading_map (λ order. timed ∷ order) r ≡ BadLine m → r ≡ BadLine m
map_bad timed (BadLine n) m is = cc
map_bad timed (Means order) m is = cc

order_bound : (left : List Timed) (n m : ℕ) (lines : List Text) (rest : Text) → order_from left n lines rest ≡ BadLine m → n ≤ m
order_bound left n m [] rest is = let same : n ≡ m = end_bound left n m rest is in omega (arith, same)
order_bound left n m (line ∷ lines) rest is = by (λ others later. order_bound others (suc n) m lines rest later) (taken_by line left) is where
  by : ((others : List Timed) → order_from others (suc n) lines rest ≡ BadLine m → suc n ≤ m) → (found : Option Taken)
      → ◌≡◌ {A = Reading (List Timed)} (elim found [ Some taken ↦ reading_map (λ order. taken.command ∷ order) (order_from taken.others (suc n) lines rest) | None ↦ BadLine n ]) (BadLine m) → n ≤ m
  by again None same = let here : n ≡ m = cc in omega (arith, here)
  by again (Some taken) same = let later : suc n ≤ m = again taken.others (map_bad taken.command (order_from taken.others (suc n) lines rest) m same) in omega (arith, later)

log_bound : (log : List Timed) (n m : ℕ) (lines : List Text) (rest : Text) → log_from log n lines rest ≡ BadLine m → n ≤ m
log_bound log n m [] rest is = let here : n ≡ m = cc in omega (arith, here)
log_bound log n m (line ∷ lines) rest is = by (λ timed later. log_bound (log ++ timed ∷ []) (suc n) m lines rest later) (is_text line (codes "order 1")) (timed_of (words line)) is where
  by : ((timed : Timed) → log_from (log ++ timed ∷ []) (suc n) lines rest ≡ BadLine m → suc n ≤ m) → (ends : Bool) (read : Option Timed)
      → ◌≡◌ {A = Reading (List Timed)} (if ends then order_from log (suc n) lines rest else elim read [ Some timed ↦ log_from (log ++ timed ∷ []) (suc n) lines rest | None ↦ BadLine n ]) (BadLine m) → n ≤ m
  by again true read same = let later : suc n ≤ m = order_bound log (suc n) m lines rest same in omega (arith, later)
  by again false None same = let here : n ≡ m = cc in omega (arith, here)
  by again false (Some timed) same = let later : suc n ≤ m = again timed same in omega (arith, later)

-- Passed lines -----------------------------------------------------------------------------------

-- line n is the first bad one of those that are left, before an order or in it
abbrev pub IsBadFrom : Bool → Lines → ℕ → Type 0
IsBadFrom false left n = (log : List Timed) × (log_left log left ≡ BadLine n)
IsBadFrom true left n = (commands : List Timed) × (order_left commands left ≡ BadLine n)

-- lines after the first were passed, and line n is the first bad one
pub record HasPassed (text : Text) (n : ℕ) (in_order : Bool) (left : Lines) : Type 0 where
  pub first : Text
  pub passed : List Text
  pub lines : (cut_after 10 text).pieces ≡ first ∷ (passed ++ left.lines)
  pub numbered : left.number ≡ suc (suc (length passed))
  pub rest : left.rest ≡ (cut_after 10 text).rest
  pub order : begins_order passed ≡ in_order
  pub bad : IsBadFrom in_order left n

pub passed_first : (text : Text) (n : ℕ) (new : Lines) (number : ℕ) (line : Text) → length text ≤ 2147483648 → TakesLine (lines_from 1 text) new number line → is_text line (codes "log 1") ≡ true → ordered_reading text ≡ BadLine n
    → HasPassed text n false new
passed_first text n new number line short takes is bad = record {
  first = line;
  passed = [];
  lines = takes.taken;
  numbered = takes.counted;
  rest = takes.after;
  order = refl;
  bad = ([], sym (log_first text new number line short takes is) ∙ bad);
}

any_push : (test : Text → Bool) (lines : List Text) (line : Text) → list_any test (lines ++ line ∷ []) ≡ (list_any test lines || test line)
any_push test [] line = by (test line) where
  by : (b : Bool) → (b || false) ≡ b
  by true = refl
  by false = refl
any_push test (first ∷ lines) line = by (test first) (any_push test lines line) where
  by : (b : Bool) → list_any test (lines ++ line ∷ []) ≡ (list_any test lines || test line) → (b || list_any test (lines ++ line ∷ [])) ≡ ((b || list_any test lines) || test line)
  by true later = refl
  by false later = later

-- the next line isn't the bad one, and the bad one is after it
module _ (n : ℕ) (mid new : Lines) (number : ℕ) (line : Text) (takes : TakesLine mid new number line) where
  module _ (other : number ≢ n) where
    bad_in_log : (log : List Timed) → log_left log mid ≡ BadLine n → IsBadFrom (is_text line (codes "order 1")) new n
    bad_in_log log bad = by (is_text line (codes "order 1")) (timed_of (words line)) refl refl where
      by : (ends : Bool) (read : Option Timed) → is_text line (codes "order 1") ≡ ends → timed_of (words line) ≡ read → IsBadFrom ends new n
      by true read ends reads = (log, sym (order_begun log mid new number line takes ends) ∙ bad)
      by false None ends reads = let same : BadLine number ≡ BadLine n = sym (command_bad log mid new number line takes ends reads) ∙ bad in absurd (other cc)
      by false (Some timed) ends reads = (log ++ timed ∷ [], sym (command_taken log mid new number line timed takes ends reads) ∙ bad)

    bad_in_order : (left : List Timed) → order_left left mid ≡ BadLine n → IsBadFrom true new n
    bad_in_order left bad = by (taken_by line left) refl where
      by : (found : Option Taken) → taken_by line left ≡ found → IsBadFrom true new n
      by None found = let same : BadLine number ≡ BadLine n = sym (line_bad left mid new number line takes found) ∙ bad in absurd (other cc)
      by (Some taken) found = (taken.others, map_bad taken.command (order_left taken.others new) n (sym (line_takes left taken.others mid new number line taken.command takes found) ∙ bad))

    bad_later : (in_order : Bool) → IsBadFrom in_order mid n → IsBadFrom (in_order || is_text line (codes "order 1")) new n
    bad_later false bad = bad_in_log bad.0 bad.1
    bad_later true bad = bad_in_order bad.0 bad.1

    pub passed_more : (text : Text) (in_order : Bool) → HasPassed text n in_order mid → HasPassed text n (in_order || is_text line (codes "order 1")) new
    passed_more text in_order has = record {
      first = has.first;
      passed = has.passed ++ line ∷ [];
      lines = has.lines ∙ ap (λ (ls : List Text). has.first ∷ ls) (ap (λ (ls : List Text). has.passed ++ ls) takes.taken ∙ sym (append_assoc has.passed (line ∷ []) new.lines));
      numbered = omega (arith, takes.counted, has.numbered, length-append has.passed (line ∷ []));
      rest = takes.after ∙ has.rest;
      order = any_push (λ l. is_text l (codes "order 1")) has.passed line ∙ ap (λ (b : Bool). b || is_text line (codes "order 1")) has.order;
      bad = bad_later in_order has.bad;
    }

  -- it is the bad one
  module _ (reached : number ≡ n) where
    after : new.number ≡ suc n
    after = omega (arith, takes.counted, takes.numbered, reached)

    no_command : (log : List Timed) → log_left log mid ≡ BadLine n → timed_of (words line) ≡ None
    no_command log bad = by (is_text line (codes "order 1")) (timed_of (words line)) refl refl where
      by : (ends : Bool) (read : Option Timed) → is_text line (codes "order 1") ≡ ends → timed_of (words line) ≡ read → timed_of (words line) ≡ None
      by true read ends reads = absurd (omega (arith, after, order_bound log new.number n new.lines new.rest (sym (order_begun log mid new number line takes ends) ∙ bad)))
      by false None ends reads = reads
      by false (Some timed) ends reads =
          absurd (omega (arith, after, log_bound (log ++ timed ∷ []) new.number n new.lines new.rest (sym (command_taken log mid new number line timed takes ends reads) ∙ bad)))

    pub bad_command : (text : Text) (in_order : Bool) → HasPassed text n in_order mid → in_order ≡ false → timed_of (words line) ≡ None
    bad_command text true has is = cc
    bad_command text false has is = no_command has.bad.0 has.bad.1

    later_line : (text : Text) (in_order : Bool) → (has : HasPassed text n in_order mid) → IsLaterLine text n has.passed line
    later_line text in_order has = record {
      first = has.first;
      after = new.lines;
      lines = has.lines ∙ ap (λ (ls : List Text). has.first ∷ (has.passed ++ ls)) takes.taken;
      numbered = omega (arith, reached, takes.numbered, has.numbered);
    }

-- what is said of a line is said of the text
pub told_line : (text : Text) (n : ℕ) (in_order : Bool) (mid new : Lines) (number : ℕ) (line : Text) (r : LogLineReason) → TakesLine mid new number line → number ≡ n → HasPassed text n in_order mid → IsLineReason in_order line r → IsLogReason text n (LogReason.Line r)
told_line text n in_order mid new number line r takes reached has is =
    (has.passed, line, later_line n mid new number line takes reached text in_order has, subst (λ b. IsLineReason b line r) (sym has.order) is)

-- First lines ------------------------------------------------------------------------------------

module _ (text : Text) (n : ℕ) (bad : ordered_reading text ≡ BadLine n) where
  pub long_reason : 2147483648 < length text → IsLogReason text n LogReason.TooLong
  long_reason long = let same : BadLine n ≡ BadLine 0 = sym bad ∙ log_long text long in (cc, long)

  module _ (short : length text ≤ 2147483648) where
    one_bad : (lines_from 1 text).lines ≡ [] → n ≡ 1
    one_bad none = let same : BadLine n ≡ BadLine 1 = sym bad ∙ log_empty text short none in cc

    pub empty_reason : text ≡ [] → IsLogReason text n LogReason.Empty
    empty_reason none = (one_bad (ap (λ (t : Text). (cut_after 10 t).pieces) none), none)

    pub cut_reason : (lines_from 1 text).lines ≡ [] → text ≢ [] → IsLogReason text n LogReason.NoNewline
    cut_reason none some =
        (one_bad none ∙ ap (λ (ls : List Text). suc (length ls)) (sym none), λ nothing. some (nil_from_length text (grind (arith, nat_tests, (empty_left 1 text).1 (nothing, none)))))

    pub told_first : (new : Lines) (number : ℕ) (line : Text) (r : FirstReason) → TakesLine (lines_from 1 text) new number line → is_text line (codes "log 1") ≡ false → IsFirstReason line r → IsLogReason text n (LogReason.First r)
    told_first new number line r takes other is =
        let same : BadLine n ≡ BadLine 1 = sym bad ∙ log_wrong text new number line short takes other in
        (line, (cc, (new.lines, takes.taken)), is)

-- The end ----------------------------------------------------------------------------------------

module _ (text : Text) (n : ℕ) (in_order : Bool) (left : Lines) (has : HasPassed text n in_order left) (none : left.lines ≡ []) where
  end_bad : (in_order : Bool) → IsBadFrom in_order left n → left.number ≡ n
  end_bad false bad = let same : BadLine left.number ≡ BadLine n = sym (log_ended bad.0 left none) ∙ bad.1 in cc
  end_bad true bad = end_bound bad.0 left.number n left.rest (subst (λ ls. order_from bad.0 left.number ls left.rest ≡ BadLine n) none bad.1)

  whole : (cut_after 10 text).pieces ≡ has.first ∷ has.passed
  whole = has.lines ∙ ap (λ (ls : List Text). has.first ∷ (has.passed ++ ls)) none ∙ ap (λ (ls : List Text). has.first ∷ ls) (append-nil has.passed)

  end_number : n ≡ suc (length (cut_after 10 text).pieces)
  end_number = omega (arith, end_bad in_order has.bad, has.numbered, ap length whole)

  end_order : begins_order (drop 1 (cut_after 10 text).pieces) ≡ in_order
  end_order = ap (λ (ls : List Text). begins_order (drop 1 ls)) whole ∙ has.order

  pub order_reason : left.rest ≡ [] → in_order ≡ true → IsLogReason text n LogReason.CommandsLeft
  order_reason nothing is = (record { numbered = end_number; whole = sym has.rest ∙ nothing }, end_order ∙ is)

  pub log_reason : left.rest ≡ [] → in_order ≡ false → IsLogReason text n LogReason.NoOrder
  log_reason nothing is = (record { numbered = end_number; whole = sym has.rest ∙ nothing }, end_order ∙ is)
