-- Orders have the commands of their log just once, and those that keep the times are linearizations.
use Rattle.std.proofs.Common.{◌≡◌, ◌∙◌, ℕ, suc, ◌+◌, ◌<◌, nat_lt, Bool, true, false, if◌then◌else◌, cond, Option, Some, None, option_map, List, [], ◌∷◌, ◌++◌, length, map, get_or, ap, sym, refl, subst, append_assoc, append-nil, arith}
use Rattle.std.proofs.{lemmas.Bool.false≢true, lemmas.Bool.Decides.nat_tests, lemmas.List.length-append}
use Rattle.std.proofs.lemmas.List.Sorted.{IsPermutation-cons, IsPermutation-middle, IsPermutation-refl, IsPermutation-trans}
use Rattle.std.specs.{Prelude.{codes, filter}, List.Sorted.IsPermutation}
use Rattle.mh_model.specs.{declared.command.Event.Event, Bytes.{Text, cut_after, is_text, words}}
use Rattle.mh_model.specs.{HistoryTexts.session_of, Script.{Reading, BadLine, Means, reading_map}}
use Rattle.mh_model.proofs.TextLemmas.{text_is}
use Rattle.mh_judge_log.specs.{declared.timed.Timed.Timed, Linearizations.{ComesBefore, HasLog, IsOrderOf}}
use Rattle.mh_judge_log.specs.Logs.{Taken, is_asked_by, is_of, log_from, order_end, order_from, ordered_of, ordered_reading, take_first, taken_by, timed_of}
use Rattle.mh_judge_log.specs.Times.{KeepsTime}
use Rattle.mh_judge_log.proofs.LogLemmas.{read_by}

-- One command ------------------------------------------------------------------------------------

-- what holds of a command that was taken of others
pub record IsTakenOf (who : ℕ) (left : List Timed) (command : Timed) (others : List Timed) : Type 0 where
  pub own : is_of who command ≡ true
  pub each_once : IsPermutation left (command ∷ others)
  pub sessions : (other : ℕ) → filter (is_of other) left ≡ filter (is_of other) (command ∷ others)

asked_once : (a b : ℕ) (asked : Event) → is_asked_by a asked ≡ true → is_asked_by b asked ≡ true → a ≡ b
asked_once a b (Event.Session who command) first second = grind (arith, nat_tests)
asked_once a b (Event.Control control) first second = absurd (false≢true first)

-- two commands that aren't both of a session may change places
filter_swap : (p : Timed → Bool) (x y : Timed) (more : List Timed) → (p x ≡ true → p y ≡ true → ⊥) → filter p (x ∷ y ∷ more) ≡ filter p (y ∷ x ∷ more)
filter_swap p x y more apart = by (p x) (p y) refl refl where
  by : (a b : Bool) → p x ≡ a → p y ≡ b → cond (p x) (x ∷ cond (p y) (y ∷ filter p more) (filter p more)) (cond (p y) (y ∷ filter p more) (filter p more)) ≡ cond (p y) (y ∷ cond (p x) (x ∷ filter p more) (filter p more)) (cond (p x) (x ∷ filter p more) (filter p more))
  by true true first second = absurd (apart first second)
  by true false first second = rw (first, second) refl
  by false true first second = rw (first, second) refl
  by false false first second = rw (first, second) refl

filter_behind : (p : Timed → Bool) (x : Timed) (xs ys : List Timed) → filter p xs ≡ filter p ys → filter p (x ∷ xs) ≡ filter p (x ∷ ys)
filter_behind p x xs ys same = ap (λ (kept : List Timed). cond (p x) (x ∷ kept) kept) same

taken_here : (who : ℕ) (timed : Timed) (left : List Timed) → is_of who timed ≡ true → IsTakenOf who (timed ∷ left) timed left
taken_here who timed left own = record { own = own; each_once = IsPermutation-refl (timed ∷ left); sessions = λ other. refl }

taken_later : (who : ℕ) (timed command : Timed) (left others : List Timed) → is_of who timed ≡ false → IsTakenOf who left command others → IsTakenOf who (timed ∷ left) command (timed ∷ others)
taken_later who timed command left others other taken = record {
  own = taken.own;
  each_once = IsPermutation-trans _ _ _ (IsPermutation-cons timed left (command ∷ others) taken.each_once) (IsPermutation-middle (timed ∷ []) command others);
  sessions = λ session.
      filter_behind (is_of session) timed left (command ∷ others) (taken.sessions session)
      ∙ filter_swap (is_of session) timed command others (apart session);
} where
  apart : (session : ℕ) → is_of session timed ≡ true → is_of session command ≡ true → ⊥
  apart session first second =
      let same : session ≡ who = asked_once session who command.entry.event second taken.own in
      false≢true (sym other ∙ subst (λ s. is_of s timed ≡ true) same first)

taken_of : (who : ℕ) (left : List Timed) (taken : Taken) → take_first who left ≡ Some taken → IsTakenOf who left taken.command taken.others
taken_of who [] taken is = cc
taken_of who (timed ∷ left) taken is = by (λ next found. taken_of who left next found) (is_of who timed) (take_first who left) refl refl is where
  by : ((next : Taken) → take_first who left ≡ Some next → IsTakenOf who left next.command next.others) → (own : Bool) (later : Option Taken) → is_of who timed ≡ own → take_first who left ≡ later
      → (if own then Some (record { command = timed; others = left }) else option_map (λ (taken : Taken). record { command = taken.command; others = timed ∷ taken.others }) later) ≡ Some taken
      → IsTakenOf who (timed ∷ left) taken.command taken.others
  by again true later own found same = let here : record { command = timed; others = left } ≡ taken = cc in subst (λ (t : Taken). IsTakenOf who (timed ∷ left) t.command t.others) here (taken_here who timed left own)
  by again false None own found same = cc
  by again false (Some next) own found same =
      let there : record { command = next.command; others = timed ∷ next.others } ≡ taken = cc in
      subst (λ (t : Taken). IsTakenOf who (timed ∷ left) t.command t.others) there (taken_later who timed next.command left next.others own (again next found))

-- the command that a line takes is the first of some session
line_taken : (line : Text) (left : List Timed) (taken : Taken) → taken_by line left ≡ Some taken → (who : ℕ) × IsTakenOf who left taken.command taken.others
line_taken line left taken is = by (session_of line) refl where
  by : (who : Option ℕ) → session_of line ≡ who → (who : ℕ) × IsTakenOf who left taken.command taken.others
  by None none = let nothing : None ≡ Some taken = rw none at is in cc
  by (Some who) some = (who, taken_of who left taken (rw some at is))

-- Orders -----------------------------------------------------------------------------------------

order_more : (who : ℕ) (left others order : List Timed) (command : Timed) → IsTakenOf who left command others → IsOrderOf others order → IsOrderOf left (command ∷ order)
order_more who left others order command taken of = record {
  each_once = IsPermutation-trans _ _ _ taken.each_once (IsPermutation-cons command others order of.each_once);
  sessions = λ session. filter_behind (is_of session) command order others (of.sessions session) ∙ sym (taken.sessions session);
}

order_none : (left : List Timed) (n : ℕ) (rest : Text) (order : List Timed) → order_end left n rest ≡ Means order → IsOrderOf left order
order_none [] n [] order is = let same : [] ≡ order = cc in subst (IsOrderOf []) same (record { each_once = IsPermutation-refl []; sessions = λ who. refl })
order_none [] n (byte ∷ rest) order is = cc
order_none (timed ∷ left) n rest order is = cc

order_is : (left : List Timed) (n : ℕ) (lines : List Text) (rest : Text) (order : List Timed) → order_from left n lines rest ≡ Means order → IsOrderOf left order
order_is left n [] rest order is = order_none left n rest order is
order_is left n (line ∷ lines) rest order is = by (λ others more reads. order_is others (suc n) lines rest more reads) (taken_by line left) refl is where
  behind : ((others more : List Timed) → order_from others (suc n) lines rest ≡ Means more → IsOrderOf others more) → (taken : Taken) → taken_by line left ≡ Some taken → (r : Reading (List Timed)) → order_from taken.others (suc n) lines rest ≡ r → reading_map (λ order. taken.command ∷ order) r ≡ Means order → IsOrderOf left order
  behind again taken found (BadLine bad) reads same = cc
  behind again taken found (Means more) reads same =
      let whole : taken.command ∷ more ≡ order = cc in
      let first = line_taken line left taken found in
      subst (IsOrderOf left) whole (order_more first.0 left taken.others more taken.command first.1 (again taken.others more reads))

  by : ((others more : List Timed) → order_from others (suc n) lines rest ≡ Means more → IsOrderOf others more) → (found : Option Taken) → taken_by line left ≡ found
      → elim found [ Some taken ↦ reading_map (λ order. taken.command ∷ order) (order_from taken.others (suc n) lines rest) | None ↦ BadLine n ] ≡ Means order → IsOrderOf left order
  by again None found same = cc
  by again (Some taken) found same = behind again taken found (order_from taken.others (suc n) lines rest) refl same

-- Logs -------------------------------------------------------------------------------------------

-- lines have commands, the line `order 1`, and an order of these commands and those before
record HasMore (log : List Timed) (lines : List Text) (order : List Timed) : Type 0 where
  more : List Timed
  commands : List Text
  names : List Text
  lines_are : lines ≡ commands ++ codes "order 1" ∷ names
  are : map (λ line. timed_of (words line)) commands ≡ map Some more
  order_of : IsOrderOf (log ++ more) order

log_is : (log : List Timed) (n : ℕ) (lines : List Text) (rest : Text) (order : List Timed) → log_from log n lines rest ≡ Means order → HasMore log lines order
log_is log n [] rest order is = cc
log_is log n (line ∷ lines) rest order is = by (λ timed same. log_is (log ++ timed ∷ []) (suc n) lines rest order same) (is_text line (codes "order 1")) (timed_of (words line)) refl refl is where
  by : ((timed : Timed) → log_from (log ++ timed ∷ []) (suc n) lines rest ≡ Means order → HasMore (log ++ timed ∷ []) lines order) → (ends : Bool) (read : Option Timed) → is_text line (codes "order 1") ≡ ends → timed_of (words line) ≡ read
      → (if ends then order_from log (suc n) lines rest else elim read [ Some timed ↦ log_from (log ++ timed ∷ []) (suc n) lines rest | None ↦ BadLine n ]) ≡ Means order → HasMore log (line ∷ lines) order
  by again true read ends reads same = record {
    more = [];
    commands = [];
    names = lines;
    lines_are = ap (λ (first : Text). first ∷ lines) (text_is line (codes "order 1") ends);
    are = refl;
    order_of = subst (λ l. IsOrderOf l order) (sym (append-nil log)) (order_is log (suc n) lines rest order same);
  }
  by again false None ends reads same = cc
  by again false (Some timed) ends reads same =
      let later = again timed same in
      record {
        more = timed ∷ later.more;
        commands = line ∷ later.commands;
        names = later.names;
        lines_are = ap (λ (ls : List Text). line ∷ ls) later.lines_are;
        are = rw reads (ap (λ (ts : List (Option Timed)). Some timed ∷ ts) later.are);
        order_of = subst (λ l. IsOrderOf l order) (append_assoc log (timed ∷ []) later.more) later.order_of;
      }

-- Texts ------------------------------------------------------------------------------------------

-- lines are `log 1`, commands, `order 1`, and an order of these
record HasLogLines (lines : List Text) (order : List Timed) : Type 0 where
  log : List Timed
  commands : List Text
  names : List Text
  lines_are : lines ≡ codes "log 1" ∷ (commands ++ codes "order 1" ∷ names)
  are : map (λ line. timed_of (words line)) commands ≡ map Some log
  order_of : IsOrderOf log order

lines_are : (lines : List Text) (rest : Text) (order : List Timed) → ordered_of (record { pieces = lines; rest = rest }) ≡ Means order → HasLogLines lines order
lines_are [] rest order is = cc
lines_are (line ∷ lines) rest order is = by (is_text line (codes "log 1")) refl is where
  by : (first : Bool) → is_text line (codes "log 1") ≡ first → (if first then log_from [] 2 lines rest else BadLine 1) ≡ Means order → HasLogLines (line ∷ lines) order
  by true first same =
      let has = log_is [] 2 lines rest order same in
      record {
        log = has.more;
        commands = has.commands;
        names = has.names;
        lines_are = ap (λ (l : Text). l ∷ lines) (text_is line (codes "log 1") first) ∙ ap (λ (ls : List Text). codes "log 1" ∷ ls) has.lines_are;
        are = has.are;
        order_of = has.order_of;
      }
  by false first same = cc

pub of_their_log : (text : Text) (order : List Timed) → ordered_reading text ≡ Means order → (log : List Timed) × HasLog text log × IsOrderOf log order
of_their_log text order is = by (nat_lt 2147483648 (length text)) refl where
  by : (long : Bool) → nat_lt 2147483648 (length text) ≡ long → (log : List Timed) × HasLog text log × IsOrderOf log order
  by true long = let bad : BadLine 0 ≡ Means order = sym (read_by true text long) ∙ is in cc
  by false short =
      let has = lines_are (cut_after 10 text).pieces (cut_after 10 text).rest order (sym (read_by false text short) ∙ is) in
      (has.log, record { commands = has.commands; names = has.names; lines = has.lines_are; are = has.are }, has.order_of)

-- Times ------------------------------------------------------------------------------------------

stands_at : (before : List Timed) (timed : Timed) (after : List Timed) (d : Timed) → get_or (before ++ timed ∷ after) (length before) d ≡ timed
stands_at [] timed after d = refl
stands_at (first ∷ before) timed after d = stands_at before timed after d

pub keeps_order : (order : List Timed) → KeepsTime order → (first second : Timed) → first.end < second.begin → ComesBefore order second first → ⊥
keeps_order order keeps first second ended comes =
    let i = length comes.before in
    let front : List Timed = comes.before ++ second ∷ comes.between in
    let whole : order ≡ front ++ first ∷ comes.after = comes.split ∙ sym (append_assoc comes.before (second ∷ comes.between) (first ∷ comes.after)) in
    let left : get_or order i first ≡ second = rw comes.split (stands_at comes.before second (comes.between ++ first ∷ comes.after) first) in
    let right : get_or order (length front) first ≡ first = rw whole (stands_at front first comes.after first) in
    let counted : length front ≡ i + suc (length comes.between) = length-append comes.before (second ∷ comes.between) in
    let all : length order ≡ length front + suc (length comes.after) = ap length whole ∙ length-append front (first ∷ comes.after) in
    let kept = keeps i (length front) first (omega (arith, counted)) (omega (arith, all)) in
    omega (arith, kept, ended, ap (λ (t : Timed). t.begin) left, ap (λ (t : Timed). t.end) right)
